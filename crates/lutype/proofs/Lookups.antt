-- Types that agree.
use Rattle.std.proofs.Common.{◌≡◌, ◌∙◌, ◌↔◌, ◌&&◌, Bool, true, false, List, [], ◌∷◌, map, Option, Some, None, IsTrue, refl, ap, sym, if◌then◌else◌, true≢false, ℕ}
use Rattle.std.specs.Prelude.{option_map}
use Rattle.lutree.specs.declared.program.Kind.{Kind}
use Rattle.lutree.specs.Tree.{Tree, Trees, DeclarationTree, NodeTree, ProgramTree}
use Rattle.lutree.specs.Tree as tree
use Rattle.lustat_rules.specs.Typing.{arguments_fit, call_kinds, has_kind, right_types, type_of, types_of}
use Rattle.lustat_rules.specs.Scope.{node_called}
use Rattle.lustat_rules.proofs.Agreeing.{has_kind_is}

abbrev pub kinds_of : List DeclarationTree → List Kind
kinds_of = map (λ (d : DeclarationTree). d.kind)

pub call_kinds_fit : (o : Option NodeTree) (n : NodeTree) (ks : List (Option Kind)) → o ≡ Some n → arguments_fit ks n.inputs ≡ true → call_kinds o ks ≡ Some (kinds_of n.outputs)
call_kinds_fit o n ks e h = ap (λ o. call_kinds o ks) e ∙ ap (λ b. if b then Some (kinds_of n.outputs) else None) h

pub call_kinds_unfit : (o : Option NodeTree) (n : NodeTree) (ks : List (Option Kind)) → o ≡ Some n → arguments_fit ks n.inputs ≡ false → call_kinds o ks ≡ None
call_kinds_unfit o n ks e h = ap (λ o. call_kinds o ks) e ∙ ap (λ b. if b then Some (kinds_of n.outputs) else None) h

both_true : (a b : Bool) → (a && b) ≡ true → (a ≡ true) × (b ≡ true)
both_true true true h = (refl, refl)
both_true true false h = absurd (true≢false (sym h))
both_true false b h = absurd (true≢false (sym h))

fit_to : (ks : List (Option Kind)) (ds : List DeclarationTree) → arguments_fit ks ds ≡ true → ks ≡ map Some (kinds_of ds)
fit_to [] [] h = refl
fit_to [] (d ∷ ds) h = absurd (true≢false (sym h))
fit_to (k ∷ ks) [] h = absurd (true≢false (sym h))
fit_to (k ∷ ks) (d ∷ ds) h =
    let b = both_true (has_kind k d.kind) (arguments_fit ks ds) h in
    ap (λ j. j ∷ ks) ((has_kind_is k d.kind).0 b.0) ∙ ap (λ l. Some d.kind ∷ l) (fit_to ks ds b.1)

fit_itself : (ds : List DeclarationTree) → arguments_fit (map Some (kinds_of ds)) ds ≡ true
fit_itself [] = refl
fit_itself (d ∷ ds) = ap (λ b. b && arguments_fit (map Some (kinds_of ds)) ds) ((has_kind_is (Some d.kind) d.kind).1 refl) ∙ fit_itself ds

pub fit_is : (ks : List (Option Kind)) (ds : List DeclarationTree) → IsTrue (arguments_fit ks ds) ↔ (ks ≡ map Some (kinds_of ds))
fit_is ks ds = (fit_to ks ds, λ e. ap (λ l. arguments_fit l ds) e ∙ fit_itself ds)

-- the types of a right side, and those of the variables on the left
abbrev pub TypesMeet : Option (List Kind) → List (Option Kind) → Type 0
TypesMeet right left = (kinds : List Kind) × (right ≡ Some kinds) × (left ≡ map Some kinds)

some_kinds : (a b : List Kind) → Some a ≡ Some b → a ≡ b
some_kinds a b e = cc

pub meet_some : (right : Option (List Kind)) (left : List (Option Kind)) (ks : List Kind) (b : Bool) → right ≡ Some ks → (IsTrue b ↔ (left ≡ map Some ks)) → IsTrue b ↔ TypesMeet right left
meet_some right left ks b e h = (
  λ t. (ks, e, h.0 t),
  λ m. h.1 (m.2 ∙ ap (map Some) (some_kinds m.0 ks (sym m.1 ∙ e))),
)

none_kinds : (a : List Kind) → None ≡ Some a → ⊥
none_kinds a e = absurd (cc)

pub meet_none : (right : Option (List Kind)) (left : List (Option Kind)) (b : Bool) → right ≡ None → b ≡ false → IsTrue b ↔ TypesMeet right left
meet_none right left b e f = (
  λ t. absurd (true≢false (sym t ∙ f)),
  λ m. absurd (none_kinds m.0 (sym e ∙ m.1)),
)

one_kind : (k : Option Kind) (j : Kind) → k ∷ [] ≡ Some j ∷ [] → k ≡ Some j
one_kind k j e = cc

pub meet_one : (k : Option Kind) (j : Kind) (right : Option (List Kind)) (left : List (Option Kind)) (b : Bool) → b ≡ has_kind k j → right ≡ Some (j ∷ []) → left ≡ k ∷ [] → IsTrue b ↔ TypesMeet right left
meet_one k j right left b is e l =
    meet_some right left (j ∷ []) b e
    (λ t. l ∙ ap (λ o. o ∷ []) ((has_kind_is k j).0 (sym is ∙ t)), λ h. is ∙ (has_kind_is k j).1 (one_kind k j (sym l ∙ h)))

pub meet_call : (o : Option NodeTree) (n : NodeTree) (ks left : List (Option Kind)) (b : Bool) → o ≡ Some n → arguments_fit ks n.inputs ≡ true → b ≡ arguments_fit left n.outputs → IsTrue b ↔ TypesMeet (call_kinds o ks) left
meet_call o n ks left b e fit is =
    meet_some (call_kinds o ks) left (kinds_of n.outputs) b (call_kinds_fit o n ks e fit)
    (λ t. (fit_is left n.outputs).0 (sym is ∙ t), λ h. is ∙ (fit_is left n.outputs).1 h)

-- a right side that is a call, and one that isn't
pub right_of_call : (p : ProgramTree) (n : NodeTree) (e : Tree) (f : List ℕ) (all : Trees) → e ≡ tree.call f all → right_types p n e ≡ call_kinds (node_called p f) (types_of p n all)
right_of_call p n e f all is = ap (right_types p n) is

pub right_of_other : (p : ProgramTree) (n : NodeTree) (e : Tree) → ((f : List ℕ) (all : Trees) → e ≡ tree.call f all → ⊥) → right_types p n e ≡ option_map (λ k. k ∷ []) (type_of p n e)
right_of_other p n (tree.call f all) no_call = absurd (no_call f all refl)
right_of_other p n e no_call = refl
