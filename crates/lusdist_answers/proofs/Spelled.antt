-- The names by which a replay's text spells data are those that the source declares.
use Rattle.std.proofs.Common.{◌≡◌, ℕ, ◌<◌, List, [], map, length, Option, Some, None, refl, sym, ap, ◌∙◌, subst}
use Rattle.std.specs.Prelude.{slice_get, unwrap_or}
use Rattle.std.specs.Option.{option_map, option_and_then}
use Rattle.std.proofs.lemmas.Option.{slice_get-map}
use Rattle.lutree.specs.declared.program.Kind.{Kind}
use Rattle.lutree.specs.declared.program.Kind.TheVariants as kinds
use Rattle.lutree.specs.Tree.{DeclarationTree, NodeTree, TypeTree, ProgramTree}
use Rattle.luflow.specs.declared.variable.Enum.{Enum}
use Rattle.luflow.specs.declared.variable.Variable.{Variable}
use Rattle.luflow.specs.Program.{FlatView}
use Rattle.luflow.specs.Types as flat_types
use Rattle.luflow.specs.Variables.{variable_name}
use Rattle.luflow.proofs.Solutions.{some_at}
use Rattle.lusource.specs.Names.{variables_of, AreDistinct}
use Rattle.lustat_rules.specs.Scope.{declarations_of, kind_of}
use Rattle.lustat_rules.specs.Scope as rules
use Rattle.lustat_rules.specs.Accepted as accepted
use Rattle.lucore_laws.specs.Layout.{enum_of}
use Rattle.lucore_laws.proofs.Names.{distinct, get-names, mapped_some, place_at, placed}
use Rattle.lucore_laws.proofs.NodeStatic.{first_is}
use Rattle.lucore_laws.proofs.Roles.{main_declared}
use Rattle.lucore.specs.Result.{IsFlatOf}
use Rattle.lusource.specs.RunReports.{names_of, names_reported}

-- the names of a type, of the source and of its flat program
same_names : (types : List TypeTree) (kind : Kind) → flat_types.names_of (map enum_of types) kind ≡ names_of types (Some kind)
same_names types kinds.Int = refl
same_names types kinds.Bool = refl
same_names types (kinds.Enum place size) = ap (λ o. unwrap_or (option_map (λ (t : Enum). t.names) o) []) (slice_get-map enum_of types place) ∙ go (slice_get types place)
  where
    go : (o : Option TypeTree) → unwrap_or (option_map (λ (t : Enum). t.names) (option_map enum_of o)) [] ≡ unwrap_or (option_map (λ (t : TypeTree). t.names) o) []
    go None = refl
    go (Some t) = refl

module _ (program : ProgramTree) (main : List ℕ) (flat : FlatView) (is : IsFlatOf program main flat) where
  abbrev node : NodeTree
  node = is.laid_out.node

  apart : AreDistinct (variables_of node)
  apart =
      let here = placed program main node is.laid_out.is_main in
      distinct (variables_of node) (λ j x e.
      let d = mapped_some (λ (d : DeclarationTree). d.name) (slice_get (declarations_of node) j) x (sym (get-names (declarations_of node) j) ∙ e) in
      subst (rules.IsNew (variables_of node) j) d.2 (((is.accepted accepted.duplicate_name).declarations here.place j node d.0 here.node d.1).first))

  -- a main variable has the type that its name has in the source
  kind_is : (v : ℕ) (x : Variable) → slice_get flat.variables v ≡ Some x → kind_of node x.name ≡ Some x.kind
  kind_is v x e =
      let d = main_declared node v x (ap (λ l. slice_get l v) (sym is.laid_out.variables) ∙ e) in
      let named : slice_get (variables_of node) v ≡ Some d.0.name = get-names (declarations_of node) v ∙ ap (option_map (λ (d : DeclarationTree). d.name)) d.1 in
      let at = place_at (variables_of node) d.0.name v apart named in
      let means : rules.meaning node d.0.name ≡ Some d.0 = first_is (declarations_of node) d.0.name ∙ ap (slice_get (declarations_of node)) at ∙ d.1 in
      ap (kind_of node) (sym d.3) ∙ ap (option_map (λ (d : DeclarationTree). d.kind)) means ∙ ap Some d.2

  pub names_are : (v : ℕ) → v < length flat.variables → flat_types.variable_names flat v ≡ names_reported program main (variable_name flat v)
  names_are v lt =
      let x = some_at flat.variables v lt in
      let named : variable_name flat v ≡ x.0.name = ap (λ o. unwrap_or (option_map (λ (y : Variable). y.name) o) []) x.1 in
      let kind : option_and_then (λ (n : NodeTree). kind_of n x.0.name) (rules.node_called program main) ≡ Some x.0.kind =
      ap (option_and_then (λ (n : NodeTree). kind_of n x.0.name)) is.laid_out.is_main ∙ kind_is v x.0 x.1 in
      ap (λ o. unwrap_or (option_map (λ (y : Variable). flat_types.names_of flat.types y.kind) o) []) x.1
      ∙ ap (λ ts. flat_types.names_of ts x.0.kind) is.laid_out.types
      ∙ same_names program.types x.0.kind
      ∙ ap (names_of program.types) (sym kind)
      ∙ ap (names_reported program main) (sym named)
