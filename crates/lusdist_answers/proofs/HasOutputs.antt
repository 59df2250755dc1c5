-- A program that a text spells has an output in each node, so its flat program has one.
use Rattle.std.proofs.Common.{◌≡◌, ℕ, ◌<◌, List, [], ◌∷◌, ◌++◌, length, map, filter, flat_map, Bool, true, false, cond, Option, Some, refl, sym, ap, ◌∙◌, subst, arith}
use Rattle.std.specs.Str.{bytes_eq}
use Rattle.std.proofs.lemmas.List.{length-append, length-map}
use Rattle.std.proofs.lemmas.List.Elements.{filter-append}
use Rattle.lutree.specs.Tree.{DeclarationTree, NodeTree, TypeTree, ProgramTree}
use Rattle.luflow.specs.declared.variable.Variable.{Variable}
use Rattle.luflow.specs.declared.variable.Role.TheVariants as role
use Rattle.luflow.specs.Program.{FlatView}
use Rattle.luflow.specs.Variables.{is_output, outputs_of}
use Rattle.lustat_rules.specs.Scope.{first_named, node_called}
use Rattle.lusyn_grammar.specs.Grammar.{WrittenDeclaration, WrittenNode, Each, IsNonempty, IsProperDeclaration, IsProperNode, declaration_tree, node_tree, program_tree}
use Rattle.lucore_laws.specs.Layout.{variables_as, main_variables}
use Rattle.lusyn_parser.specs.Resolved.{resolved, resolved_node, resolved_declaration}
use Rattle.lusyn.specs.Texts.{SpellsText}
use Rattle.lucore.specs.Result.{IsFlatOf}

some_declared : (ds : List WrittenDeclaration) → IsNonempty ds → Each IsProperDeclaration ds → 0 < length (flat_map declaration_tree ds)
some_declared [] some proper = absurd some
some_declared (d ∷ ds) some proper = go d.names proper.0.0
  where
    go : (names : List (List ℕ)) → IsNonempty names → 0 < length (map (Rattle.lusyn_grammar.specs.Grammar.declared d.kind d.clock) names ++ flat_map declaration_tree ds)
    go [] none = absurd none
    go (x ∷ xs) more = omega arith

abbrev HasSome : NodeTree → Type 0
HasSome node = 0 < length node.outputs

in_node : (types : List TypeTree) (n : WrittenNode) → IsProperNode n → HasSome (resolved_node types (node_tree n))
in_node types n proper =
    let some = some_declared n.outputs proper.1 proper.2 in
    let same = length-map (flat_map declaration_tree n.outputs) (resolved_declaration types) in
    omega (arith, some, same)

pick : (n : NodeTree) (b : Bool) (rest : Option NodeTree) (node : NodeTree) → HasSome n → (rest ≡ Some node → HasSome node) → cond b (Some n) rest ≡ Some node → HasSome node
pick n true rest node some more e = let same : n ≡ node = cc in subst HasSome same some
pick n false rest node some more e = more e

in_program : (types : List TypeTree) (ns : List WrittenNode) → Each IsProperNode ns → (f : List ℕ) (node : NodeTree) → first_named (map (resolved_node types) (map node_tree ns)) f ≡ Some node → HasSome node
in_program types [] proper f node e = cc
in_program types (n ∷ ns) proper f node e =
    pick (resolved_node types (node_tree n)) (bytes_eq n.name f) (first_named (map (resolved_node types) (map node_tree ns)) f) node (in_node types n proper.0) (in_program types ns proper.1 f node) e

all_outputs : (ds : List DeclarationTree) → outputs_of (variables_as role.Output ds) ≡ variables_as role.Output ds
all_outputs [] = refl
all_outputs (d ∷ ds) = ap (λ xs. record { name = d.name; role = role.Output; kind = d.kind } ∷ xs) (all_outputs ds)

variables_have : (node : NodeTree) → HasSome node → 0 < length (outputs_of (main_variables node))
variables_have node some =
    let p : Variable → Bool = λ x. is_output x.role in
    let is = variables_as role.Input node.inputs in
    let os = variables_as role.Output node.outputs in
    let ls = variables_as role.Local node.locals in
    let one = ap length (filter-append p is (os ++ ls)) in
    let two = length-append (filter p is) (filter p (os ++ ls)) in
    let three = ap length (filter-append p os ls) in
    let four = length-append (filter p os) (filter p ls) in
    let five = ap length (all_outputs node.outputs) in
    let six : length os ≡ length node.outputs = length-map node.outputs (λ (d : DeclarationTree). record { name = d.name; role = role.Output; kind = d.kind }) in
    omega (arith, one, two, three, four, five, six, some)

pub some_output : (text main : List ℕ) (tree : ProgramTree) (flat : FlatView) → SpellsText text tree → IsFlatOf tree main flat → 0 < length (outputs_of flat.variables)
some_output text main tree flat spelled is =
    let written = spelled.1.2 in
    let laid = is.laid_out in
    let same : resolved (program_tree written.0) ≡ tree = ap resolved written.3 ∙ spelled.3 in
    let here : node_called (resolved (program_tree written.0)) main ≡ Some laid.node = ap (λ t. node_called t main) same ∙ laid.is_main in
    subst (λ xs. 0 < length (outputs_of xs)) (sym laid.variables) (variables_have laid.node (in_program written.0.types written.0.nodes written.1.1 main laid.node here))
