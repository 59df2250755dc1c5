-- Names that stand first.
use Rattle.std.proofs.Common.{◌≡◌, ◌∙◌, ◌↔◌, ℕ, map, Option, Some, Bool, true, false, not, IsTrue, refl, sym, ap, true≢false}
use Rattle.std.specs.Prelude.{slice_get, Contains}
use Rattle.std.specs.Option.{option_map}
use Rattle.std.proofs.lemmas.Option.{slice_get-map}
use Rattle.lutree.specs.declared.program.TypeDeclaration.{TypeDeclaration}
use Rattle.lutree.specs.declared.program.Declaration.{Declaration}
use Rattle.lutree.specs.declared.program.Node.{Node}
use Rattle.lutree.specs.declared.program.Program.{Program}
use Rattle.lutree.specs.Tree.{TypeTree, NodeTree, type_view, node_view, program_view, declaration_view}
use Rattle.lustat_rules.specs.Scope.{declarations_of, names_of, labels_of, IsNew}
use Rattle.lustat_rules.specs.Naming.{IsNewType, IsNewNode, IsNewVariable, node_place}
use Rattle.lustat_rules.specs.Faults.{declared_in}
use Rattle.lubase.specs.Places.{first_place}
use Rattle.lubase.proofs.Finding.{stands_first}
use Rattle.lustat_rules.proofs.Declared.{names_of_nodes, place_of_node, names_in_view}

pub node_is_new : (p : Program) (place : ℕ) (n : Node) (found : Option ℕ) (b : Bool) → slice_get p.nodes place ≡ Some n → found ≡ node_place (program_view p) n.name
    → (IsTrue b ↔ (found ≡ Some place)) → IsTrue b ↔ IsNewNode (program_view p) place (node_view n)
node_is_new p place n found b at is same =
    let nodes = map node_view p.nodes in
    let names = names_of_nodes nodes in
    let there : slice_get names place ≡ Some n.name =
    slice_get-map (λ (m : NodeTree). m.name) nodes place ∙ ap (option_map (λ (m : NodeTree). m.name)) (slice_get-map node_view p.nodes place ∙ ap (option_map node_view) at) in
    let law = stands_first names n.name place there in
    let where_first : found ≡ first_place names n.name = is ∙ sym (place_of_node nodes n.name) in
    (λ h. law.0 (sym where_first ∙ same.0 h), λ h. same.1 (where_first ∙ law.1 h))

pub type_is_new : (p : Program) (place : ℕ) (t : TypeDeclaration) (found : Option ℕ) (b : Bool) → slice_get p.types place ≡ Some t
    → found ≡ first_place (map (λ (u : TypeTree). u.name) (program_view p).types) t.name
    → (IsTrue b ↔ (found ≡ Some place)) → IsTrue b ↔ IsNewType (program_view p) place (type_view t)
type_is_new p place t found b at is same =
    let types = map type_view p.types in
    let names = map (λ (u : TypeTree). u.name) types in
    let there : slice_get names place ≡ Some t.name =
    slice_get-map (λ (u : TypeTree). u.name) types place ∙ ap (option_map (λ (u : TypeTree). u.name)) (slice_get-map type_view p.types place ∙ ap (option_map type_view) at) in
    let law = stands_first names t.name place there in
    (λ h. law.0 (sym is ∙ same.0 h), λ h. same.1 (is ∙ law.1 h))

first_of : (n : Node) (place : ℕ) (d : Declaration) (found : Option ℕ) (b : Bool) → slice_get (declared_in n) place ≡ Some d
    → found ≡ first_place (names_of (declarations_of (node_view n))) d.name
    → (IsTrue b ↔ (found ≡ Some place)) → IsTrue b ↔ IsNew (names_of (declarations_of (node_view n))) place d.name
first_of n place d found b at is same =
    let names = names_of (declarations_of (node_view n)) in
    let there : slice_get names place ≡ Some d.name =
    ap (λ l. slice_get l place) (names_in_view n) ∙ slice_get-map (λ (m : Declaration). m.name) (declared_in n) place ∙ ap (option_map (λ (m : Declaration). m.name)) at in
    let law = stands_first names d.name place there in
    (λ h. law.0 (sym is ∙ same.0 h), λ h. same.1 (is ∙ law.1 h))

-- a variable that stands first, where that says whether a name of an enumeration is spelled so
pub variable_is_new : (p : Program) (n : Node) (place : ℕ) (d : Declaration) (found : Option ℕ) (b label : Bool) → slice_get (declared_in n) place ≡ Some d
    → found ≡ first_place (names_of (declarations_of (node_view n))) d.name → (IsTrue b ↔ (found ≡ Some place)) → (IsTrue label ↔ Contains (labels_of (program_view p).types) d.name)
    → b ≡ true → IsTrue (not label) ↔ IsNewVariable (program_view p) (node_view n) place (declaration_view d)
variable_is_new p n place d found b true at is same has first =
    (λ h. absurd (true≢false (sym h)), λ k. absurd (k.no_label (has.0 refl)))
variable_is_new p n place d found b false at is same has first = (
  λ h. record { first = (first_of n place d found b at is same).0 first; no_label = λ found. true≢false (sym (has.1 found)) },
  λ k. refl,
)

-- and one that doesn't
pub variable_is_old : (p : Program) (n : Node) (place : ℕ) (d : Declaration) (found : Option ℕ) (b : Bool) → slice_get (declared_in n) place ≡ Some d
    → found ≡ first_place (names_of (declarations_of (node_view n))) d.name → (IsTrue b ↔ (found ≡ Some place)) → b ≡ false
    → IsTrue b ↔ IsNewVariable (program_view p) (node_view n) place (declaration_view d)
variable_is_old p n place d found b at is same later =
    (λ h. absurd (true≢false (sym h ∙ later)), λ k. (first_of n place d found b at is same).1 k.first)
