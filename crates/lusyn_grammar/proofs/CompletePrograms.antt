-- Equations, nodes and programs that are spelled so are read.
use Rattle.std.proofs.Common.{◌≡◌, ◌<◌, ◌≤◌, ◌+◌, ℕ, suc, Ok, Err, List, ◌∷◌, [], ◌++◌, refl, ap, sym, ◌∙◌, Bool, true, false, map, length, arith}
use Rattle.std.proofs.lemmas.List.Concat.{flat_map_single}
use Rattle.lutree.specs.Tree.{Tree, Trees, trees_of, TypeTree, DeclarationTree, EquationTree, NodeTree, ProgramTree}
use Rattle.lutree.specs.Tree as t
use Rattle.lusyn_grammar.specs.declared.token.Fixed.TheVariants as f
use Rattle.lusyn_grammar.specs.Tokens.{Tok, identifier, fixed}
use Rattle.lusyn_grammar.specs.Grammar as w
use Rattle.lusyn_grammar.specs.Grammar.{Written, WrittenDeclaration, WrittenEquation, WrittenNode, WrittenProgram, tree, tokens, repeated, led, separated, optional, left_tokens, Each, IsNonempty, IsProper, IsCall, IsDefinedBy, IsProperDeclaration, IsProperEquation, IsProperNode, IsProperType, IsProperProgram, equation_tree, node_tree, program_tree, Spells}
use Rattle.lusyn_grammar.specs.Reading.{Read, ◌>>=◌, next, after, begins, past, many, expr, operands, further_name, names, declarations, inputs, ended, locals, single, call, tuple_names, tuple, equation, ended_equation, begins_equation, equations, heading, body, node, further_node, nodes, type_declaration, types, program, to_the_end, all_of}
use Rattle.lusyn_grammar.proofs.SoundExpressions.{between, between-tokens}
use Rattle.lusyn_grammar.proofs.SoundDeclarations.{Any, alone, flat_map-alone, declarations_tree}
use Rattle.lusyn_grammar.proofs.SoundDeclarations as declarations_of
use Rattle.lusyn_grammar.proofs.SoundPrograms.{ended_tokens, equation_trees, node_trees, enumeration, whole}
use Rattle.lusyn_grammar.proofs.CompletePieces.{goes_on, past-optional, Complete, may, many_complete, repeated-few, repeated-small, separated-few, separated-small}
use Rattle.lusyn_grammar.proofs.CompleteExpressions.{IsQuiet, size, operand_trees, trees_of-operand_trees, operands_taken, expr_complete, size-tokens, tokens-more}
use Rattle.lusyn_grammar.proofs.CompleteDeclarations.{names_taken, names_complete, IsSmallDeclaration, declarations_complete, inputs_complete, locals_complete, name-more, declaration-more, declaration-small, ended-more, ended-small}

abbrev defined : List (List ℕ) → Tree → EquationTree
defined left right = record { left = left; right = right }

single_complete : (n : ℕ) (x : List ℕ) (c : Written) (rest : List Tok) → IsProper c → size c ≤ n → IsQuiet 0 (next rest)
    → single n (identifier x ∷ fixed f.Equal ∷ tokens c rest) ≡ Ok (defined (x ∷ []) (tree c), rest)
unfolding single
single_complete n x c rest proper small q =
    goes_on (expr n 0 (tokens c rest)) (tree c, rest) (λ e. Ok (defined (x ∷ []) e.0, e.1)) (expr_complete n c 0 rest small proper (omega arith) (omega arith) q)

call_complete : (n : ℕ) (c : Written) (rest : List Tok) → IsCall c → IsProper c → size c ≤ n → call n (tokens c rest) ≡ Ok (tree c, rest)
unfolding call
call_complete n (w.call g cs) rest called proper small =
    ap (call n) (between-tokens g cs rest)
    ∙ goes_on (operands (expr n) n (between cs rest)) (operand_trees cs, rest) (λ xs. Ok (t.call g (trees_of xs.0), xs.1)) (operands_taken (expr n) n (expr_complete n) cs rest (omega arith) proper)
    ∙ ap (λ (xs : Trees). Ok (t.call g xs, rest)) (trees_of-operand_trees cs)
call_complete n (w.number k) rest called proper small = absurd called
call_complete n _ rest called proper small = absurd called

tuple_names_complete : (n : ℕ) (x y : List ℕ) (zs : List (List ℕ)) (rest : List Tok) → length zs < n
    → tuple_names n (separated f.Comma w.name (x ∷ y ∷ zs) (fixed f.Close ∷ rest)) ≡ Ok (x ∷ y ∷ zs, rest)
unfolding tuple_names
tuple_names_complete n x y zs rest few =
    goes_on (many (begins f.Comma) further_name n (x ∷ y ∷ []) (repeated (led f.Comma w.name) zs (fixed f.Close ∷ rest))) (x ∷ y ∷ zs, fixed f.Close ∷ rest)
    (λ xs. after f.Close xs.1 >>= λ last. Ok (xs.0, last)) (names_taken n zs (x ∷ y ∷ []) (fixed f.Close ∷ rest) refl few)

tuple_complete : (n : ℕ) (x y : List ℕ) (zs : List (List ℕ)) (c : Written) (rest : List Tok) → length zs < n → IsCall c → IsProper c → size c ≤ n
    → tuple n (separated f.Comma w.name (x ∷ y ∷ zs) (fixed f.Close ∷ fixed f.Equal ∷ tokens c rest)) ≡ Ok (defined (x ∷ y ∷ zs) (tree c), rest)
unfolding tuple
tuple_complete n x y zs c rest few called proper small =
    let right : List Tok = fixed f.Equal ∷ tokens c rest in
    goes_on (tuple_names n (separated f.Comma w.name (x ∷ y ∷ zs) (fixed f.Close ∷ right))) (x ∷ y ∷ zs, right)
    (λ xs. after f.Equal xs.1 >>= λ a. call n a >>= λ e. Ok (defined xs.0 e.0, e.1)) (tuple_names_complete n x y zs right few)
    ∙ goes_on (call n (tokens c rest)) (tree c, rest) (λ e. Ok (defined (x ∷ y ∷ zs) e.0, e.1)) (call_complete n c rest called proper small)

abbrev IsSmallEquation : ℕ → WrittenEquation → Type 0
IsSmallEquation n e = IsProperEquation e × (length e.left ≤ n) × (size e.right ≤ n)

equation_of : (n : ℕ) (xs : List (List ℕ)) (c : Written) (rest : List Tok) → IsDefinedBy xs (IsCall c) → IsProper c → length xs ≤ n → size c ≤ n → IsQuiet 0 (next rest)
    → equation n (left_tokens xs (fixed f.Equal ∷ tokens c rest)) ≡ Ok (defined xs (tree c), rest)
unfolding equation
equation_of n [] c rest by proper few small q = absurd by
equation_of n (x ∷ []) c rest by proper few small q = single_complete n x c rest proper small q
equation_of n (x ∷ y ∷ zs) c rest by proper few small q = tuple_complete n x y zs c rest (omega arith) by proper small

ended_equation_complete : (n : ℕ) → Complete ended_tokens equation_trees (IsSmallEquation n) Any (ended_equation n)
ended_equation_complete n e found rest small ends =
    ap (λ (r : Read EquationTree). ended r >>= λ x. Ok (found ++ x.0 ∷ [], x.1))
    (equation_of n e.left e.right (fixed f.Semicolon ∷ rest) small.0.0 small.0.1 small.1 small.2 tt)

begins_left : (xs : List (List ℕ)) (rest : List Tok) → begins_equation (left_tokens xs rest) ≡ true
begins_left [] rest = refl
begins_left (x ∷ []) rest = refl
begins_left (x ∷ y ∷ zs) rest = refl

equations_complete : (n : ℕ) (es : List WrittenEquation) (rest : List Tok) → Each (IsSmallEquation n) es → length es < n → begins_equation rest ≡ false
    → equations n (repeated ended_tokens es rest) ≡ Ok (map equation_tree es, rest)
unfolding equations
equations_complete n es rest small few over =
    many_complete begins_equation (ended_equation n) ended_tokens equation_trees (IsSmallEquation n) Any (λ e r p. begins_left e.left (fixed f.Equal ∷ tokens e.right (fixed f.Semicolon ∷ r)))
    (λ e r. tt) (ended_equation_complete n) n es [] rest small tt over few
    ∙ ap (λ (xs : List EquationTree). Ok (xs, rest)) (flat_map_single equation_tree es)

-- NODES

record IsSmallNode (n : ℕ) (p : WrittenNode) : Type 0 where
  some : IsNonempty p.outputs
  inputs : Each (IsSmallDeclaration n) p.inputs
  outputs : Each (IsSmallDeclaration n) p.outputs
  locals : Each (IsSmallDeclaration n) p.locals
  equations : Each (IsSmallEquation n) p.equations
  few_inputs : length p.inputs ≤ n
  few_outputs : length p.outputs ≤ n
  few_locals : length p.locals ≤ n
  few_equations : length p.equations < n

abbrev headed : List ℕ → List DeclarationTree → List DeclarationTree → NodeTree
headed v ins outs = record { name = v; inputs = ins; outputs = outs; locals = []; equations = [] }

abbrev decls : List WrittenDeclaration → List Tok → List Tok
decls = separated f.Semicolon w.declaration

abbrev outputs_tokens : WrittenNode → List Tok → List Tok
outputs_tokens p rest = decls p.outputs (fixed f.Close ∷ optional p.is_heading_ended rest)

heading_complete : (n : ℕ) (p : WrittenNode) (rest : List Tok) → IsSmallNode n p → after f.Semicolon rest ≡ Err rest
    → heading n (w.heading p rest) ≡ Ok (headed p.name (declarations_tree p.inputs) (declarations_tree p.outputs), rest)
unfolding heading
heading_complete n p rest small none =
    let last : List Tok = optional p.is_heading_ended rest in
    let after_inputs : List Tok = fixed f.Close ∷ fixed f.Returns ∷ fixed f.Open ∷ outputs_tokens p rest in
    goes_on (inputs n (decls p.inputs after_inputs)) (declarations_tree p.inputs, after_inputs) _
    (inputs_complete n p.inputs (fixed f.Returns ∷ fixed f.Open ∷ outputs_tokens p rest) small.inputs small.few_inputs)
    ∙ goes_on (declarations n (decls p.outputs (fixed f.Close ∷ last))) (declarations_tree p.outputs, fixed f.Close ∷ last)
    (λ outs. after f.Close outs.1 >>= λ us. Ok (headed p.name (declarations_tree p.inputs) outs.0, past f.Semicolon us))
    (declarations_complete n p.outputs (fixed f.Close ∷ last) small.some small.outputs small.few_outputs refl (refl, refl))
    ∙ ap (λ (us : List Tok). Ok (headed p.name (declarations_tree p.inputs) (declarations_tree p.outputs), us)) (past-optional p.is_heading_ended rest none)

body_complete : (n : ℕ) (p : WrittenNode) (rest : List Tok) → IsSmallNode n p → after f.Semicolon rest ≡ Err rest → body n (w.body p rest) ≡ Ok (map equation_tree p.equations, rest)
unfolding body
body_complete n p rest small none =
    let last : List Tok = fixed f.Tel ∷ optional p.is_ended rest in
    goes_on (equations n (repeated ended_tokens p.equations last)) (map equation_tree p.equations, last) (λ es. after f.Tel es.1 >>= λ us. Ok (es.0, past f.Semicolon us))
    (equations_complete n p.equations last small.equations small.few_equations refl)
    ∙ ap (λ (us : List Tok). Ok (map equation_tree p.equations, us)) (past-optional p.is_ended rest none)

locals_no_semicolon : (ds : List WrittenDeclaration) (p : WrittenNode) (rest : List Tok) → after f.Semicolon (w.locals ds (w.body p rest)) ≡ Err (w.locals ds (w.body p rest))
locals_no_semicolon [] p rest = refl
locals_no_semicolon (d ∷ ds) p rest = refl

abbrev completed : NodeTree → List DeclarationTree → List EquationTree → NodeTree
completed h ls es = record { name = h.name; inputs = h.inputs; outputs = h.outputs; locals = ls; equations = es }

node_complete : (n : ℕ) (p : WrittenNode) (rest : List Tok) → IsSmallNode n p → after f.Semicolon rest ≡ Err rest → node n (w.node p rest) ≡ Ok (node_tree p, rest)
unfolding node
node_complete n p rest small none =
    let after_locals : List Tok = w.body p rest in
    let after_heading : List Tok = w.locals p.locals after_locals in
    let h : NodeTree = headed p.name (declarations_tree p.inputs) (declarations_tree p.outputs) in
    goes_on (heading n (w.heading p after_heading)) (h, after_heading) (λ x. locals n x.1 >>= λ ls. body n ls.1 >>= λ es. Ok (completed x.0 ls.0 es.0, es.1))
    (heading_complete n p after_heading small (locals_no_semicolon p.locals p rest))
    ∙ goes_on (locals n after_heading) (declarations_tree p.locals, after_locals) (λ ls. body n ls.1 >>= λ es. Ok (completed h ls.0 es.0, es.1))
    (locals_complete n p.locals after_locals small.locals small.few_locals refl refl)
    ∙ goes_on (body n after_locals) (map equation_tree p.equations, rest) (λ es. Ok (completed h (declarations_tree p.locals) es.0, es.1)) (body_complete n p rest small none)

-- what may follow a node
abbrev EndsNode : List Tok → Type 0
EndsNode rest = after f.Semicolon rest ≡ Err rest

further_node_complete : (n : ℕ) → Complete w.node node_trees (IsSmallNode n) EndsNode (further_node n)
further_node_complete n p found rest small none = goes_on (node n (w.node p rest)) (node_tree p, rest) (λ x. Ok (found ++ x.0 ∷ [], x.1)) (node_complete n p rest small none)

nodes_complete : (n : ℕ) (ps : List WrittenNode) → IsNonempty ps → Each (IsSmallNode n) ps → length ps ≤ n → nodes n (repeated w.node ps []) ≡ Ok (map node_tree ps, [])
unfolding nodes
nodes_complete n [] some small few = absurd some
nodes_complete n (p ∷ ps) some small few =
    let P : WrittenNode → Type 0 = IsSmallNode n in
    let May : List Tok → Type 0 = EndsNode in
    let ends : May (repeated w.node ps []) = may (begins f.Node) (further_node n) w.node node_trees P May (λ v r h. refl) (λ v r. refl) (further_node_complete n) ps [] refl in
    goes_on (further_node n [] (w.node p (repeated w.node ps []))) (node_trees p, repeated w.node ps []) (λ x. many (begins f.Node) (further_node n) n x.0 x.1)
    (further_node_complete n p [] (repeated w.node ps []) small.0 ends)
    ∙ many_complete (begins f.Node) (further_node n) w.node node_trees P May (λ v r h. refl) (λ v r. refl) (further_node_complete n) n ps (node_trees p) [] small.1 refl refl (omega arith)
    ∙ ap (λ (xs : List NodeTree). Ok (node_tree p ∷ xs, [])) (flat_map_single node_tree ps)

-- PROGRAMS

abbrev IsSmallType : ℕ → TypeTree → Type 0
IsSmallType n x = IsProperType x × (length x.names ≤ n)

type_declaration_complete : (n : ℕ) → Complete w.type_declaration alone (IsSmallType n) Any (type_declaration n)
unfolding type_declaration
type_declaration_complete n x found rest small ends =
    let last : List Tok = fixed f.CloseBrace ∷ fixed f.Semicolon ∷ rest in
    goes_on (names n (separated f.Comma w.name x.names last)) (x.names, last) (λ xs. after f.CloseBrace xs.1 >>= λ us. after f.Semicolon us >>= λ vs. Ok (found ++ enumeration x.name xs.0 ∷ [], vs))
    (names_complete n x.names last small.0 refl small.1)

types_complete : (n : ℕ) (xs : List TypeTree) (rest : List Tok) → Each (IsSmallType n) xs → length xs < n → begins f.Type rest ≡ false → types n (repeated w.type_declaration xs rest) ≡ Ok (xs, rest)
unfolding types
types_complete n xs rest small few over =
    many_complete (begins f.Type) (type_declaration n) w.type_declaration alone (IsSmallType n) Any (λ x r p. refl) (λ x r. tt) (type_declaration_complete n) n xs [] rest small tt over few
    ∙ ap (λ (ys : List TypeTree). Ok (ys, rest)) (flat_map-alone xs)

-- a node begins with no type
no_type : (ps : List WrittenNode) → begins f.Type (repeated w.node ps []) ≡ false
no_type [] = refl
no_type (p ∷ ps) = refl

program_complete : (n : ℕ) (p : WrittenProgram) → IsNonempty p.nodes → Each (IsSmallNode n) p.nodes → Each (IsSmallType n) p.types → length p.nodes ≤ n → length p.types < n
    → program n (w.program p []) ≡ Ok (program_tree p, [])
unfolding program
program_complete n p some small small_types few few_types =
    let after_types : List Tok = repeated w.node p.nodes [] in
    goes_on (types n (repeated w.type_declaration p.types after_types)) (p.types, after_types) (λ xs. nodes n xs.1 >>= λ ns. Ok (whole xs.0 ns.0, ns.1))
    (types_complete n p.types after_types small_types few_types (no_type p.nodes))
    ∙ goes_on (nodes n after_types) (map node_tree p.nodes, []) (λ ns. Ok (whole p.types ns.0, ns.1)) (nodes_complete n p.nodes some small few)

-- SIZES

left-few : (xs : List (List ℕ)) (rest : List Tok) → length xs + length rest ≤ length (left_tokens xs rest)
left-few [] rest = omega arith
left-few (x ∷ []) rest = omega arith
left-few (x ∷ y ∷ zs) rest = omega (arith, separated-few f.Comma w.name name-more (x ∷ y ∷ zs) (fixed f.Close ∷ rest))

equation-more : (e : WrittenEquation) (rest : List Tok) → length rest < length (ended_tokens e rest)
equation-more e rest =
    omega (arith, left-few e.left (fixed f.Equal ∷ tokens e.right (fixed f.Semicolon ∷ rest)), tokens-more e.right (fixed f.Semicolon ∷ rest))

equation-small : (most : ℕ) (e : WrittenEquation) (rest : List Tok) → IsProperEquation e → length (ended_tokens e rest) ≤ most → IsSmallEquation most e
equation-small most e rest proper h =
    let few = left-few e.left (fixed f.Equal ∷ tokens e.right (fixed f.Semicolon ∷ rest)) in
    (proper, omega arith, omega (arith, size-tokens e.right (fixed f.Semicolon ∷ rest)))

optional-more : (b : Bool) (rest : List Tok) → length rest ≤ length (optional b rest)
optional-more true rest = omega arith
optional-more false rest = omega arith

locals-more : (ds : List WrittenDeclaration) (rest : List Tok) → length ds + length rest ≤ length (w.locals ds rest)
locals-more [] rest = omega arith
locals-more (d ∷ ds) rest = omega (arith, repeated-few declarations_of.ended_tokens ended-more (d ∷ ds) rest)

locals-small : (most : ℕ) (ds : List WrittenDeclaration) (rest : List Tok) → Each IsProperDeclaration ds → length (w.locals ds rest) ≤ most → Each (IsSmallDeclaration most) ds
locals-small most [] rest proper h = tt
locals-small most (d ∷ ds) rest proper h =
    repeated-small declarations_of.ended_tokens ended-more IsProperDeclaration (IsSmallDeclaration most) most (ended-small most) (d ∷ ds) rest proper (omega arith)

body-more : (p : WrittenNode) (rest : List Tok) → length p.equations + length rest < length (w.body p rest)
body-more p rest = omega (arith, repeated-few ended_tokens equation-more p.equations (fixed f.Tel ∷ optional p.is_ended rest), optional-more p.is_ended rest)

body-small : (most : ℕ) (p : WrittenNode) (rest : List Tok) → Each IsProperEquation p.equations → length (w.body p rest) ≤ most → Each (IsSmallEquation most) p.equations
body-small most p rest proper h =
    repeated-small ended_tokens equation-more IsProperEquation (IsSmallEquation most) most (equation-small most) p.equations (fixed f.Tel ∷ optional p.is_ended rest) proper (omega arith)

outputs-more : (p : WrittenNode) (rest : List Tok) → length p.outputs + length rest ≤ length (outputs_tokens p rest)
outputs-more p rest = omega (arith, separated-few f.Semicolon w.declaration declaration-more p.outputs (fixed f.Close ∷ optional p.is_heading_ended rest), optional-more p.is_heading_ended rest)

abbrev inputs_tokens : WrittenNode → List Tok → List Tok
inputs_tokens p rest = decls p.inputs (fixed f.Close ∷ fixed f.Returns ∷ fixed f.Open ∷ outputs_tokens p rest)

inputs-more : (p : WrittenNode) (rest : List Tok) → length p.inputs + length (outputs_tokens p rest) ≤ length (inputs_tokens p rest)
inputs-more p rest = omega (arith, separated-few f.Semicolon w.declaration declaration-more p.inputs (fixed f.Close ∷ fixed f.Returns ∷ fixed f.Open ∷ outputs_tokens p rest))

node-more : (p : WrittenNode) (rest : List Tok) → length rest < length (w.node p rest)
node-more p rest =
    omega (arith, inputs-more p (w.locals p.locals (w.body p rest)), outputs-more p (w.locals p.locals (w.body p rest)), locals-more p.locals (w.body p rest), body-more p rest)

node-small : (most : ℕ) (p : WrittenNode) (rest : List Tok) → IsProperNode p → length (w.node p rest) ≤ most → IsSmallNode most p
node-small most p rest proper h =
    let after_locals : List Tok = w.body p rest in
    let after_heading : List Tok = w.locals p.locals after_locals in
    let h1 = inputs-more p after_heading in
    let h2 = outputs-more p after_heading in
    let h3 = locals-more p.locals after_locals in
    let h4 = body-more p rest in
    record {
      some = proper.1;
      inputs = separated-small f.Semicolon w.declaration declaration-more IsProperDeclaration (IsSmallDeclaration most) most (declaration-small most) p.inputs
          (fixed f.Close ∷ fixed f.Returns ∷ fixed f.Open ∷ outputs_tokens p after_heading) proper.0 (omega arith);
      outputs = separated-small f.Semicolon w.declaration declaration-more IsProperDeclaration (IsSmallDeclaration most) most (declaration-small most) p.outputs
          (fixed f.Close ∷ optional p.is_heading_ended after_heading) proper.2 (omega arith);
      locals = locals-small most p.locals after_locals proper.3 (omega arith);
      equations = body-small most p rest proper.4 (omega arith);
      few_inputs = omega arith;
      few_outputs = omega arith;
      few_locals = omega arith;
      few_equations = omega arith;
    }

type-few : (x : TypeTree) (rest : List Tok) → length x.names + length rest < length (w.type_declaration x rest)
type-few x rest = omega (arith, separated-few f.Comma w.name name-more x.names (fixed f.CloseBrace ∷ fixed f.Semicolon ∷ rest))

type-more : (x : TypeTree) (rest : List Tok) → length rest < length (w.type_declaration x rest)
type-more x rest = omega (arith, type-few x rest)

type-small : (most : ℕ) (x : TypeTree) (rest : List Tok) → IsProperType x → length (w.type_declaration x rest) ≤ most → IsSmallType most x
type-small most x rest proper h = (proper, omega (arith, type-few x rest))

-- what is spelled so is read, by as many steps or more
pub program-again : (most : ℕ) (ts : List Tok) (found : ProgramTree) → suc (length ts) ≤ most → Spells ts found → program most ts ≡ Ok (found, [])
program-again most ts found enough (p, proper, spelled, tree_is) =
    let h : length (w.program p []) < most = omega (arith, ap length spelled) in
    let after_types : List Tok = repeated w.node p.nodes [] in
    let few = repeated-few w.type_declaration type-more p.types after_types in
    ap (program most) (sym spelled)
    ∙ program_complete most p proper.0 (repeated-small w.node node-more IsProperNode (IsSmallNode most) most (node-small most) p.nodes [] proper.1 (omega (arith, few, h)))
    (repeated-small w.type_declaration type-more IsProperType (IsSmallType most) most (type-small most) p.types after_types proper.2 (omega (arith, h)))
    (omega (arith, few, h, repeated-few w.node node-more p.nodes [])) (omega (arith, few, h))
    ∙ ap (λ (read : ProgramTree). Ok (read, [])) tree_is

pub all_of-again : (ts : List Tok) (found : ProgramTree) → Spells ts found → all_of ts ≡ Ok found
unfolding all_of
all_of-again ts found s = goes_on (program (suc (length ts)) ts) (found, []) to_the_end (program-again (suc (length ts)) ts found (omega arith) s)
