-- Equations of class 1 by themselves.
use Rattle.std.proofs.Common.{◌≡◌, ◌∙◌, ◌+◌, inl, inr, ℕ, Bool, false, ◌||◌, List, [], ◌∷◌, ◌++◌, Option, Some, None, IsTrue, refl, sym, ap, subst, arith, true≢false, Contains}
use Rattle.std.specs.Prelude.{slice_get}
use Rattle.std.proofs.lemmas.List.Elements.{Contains-push, Contains-push_cases, Contains-append_left}
use Rattle.lutree.specs.declared.expr.Prefix.TheVariants.{Data as Data1, Pre}
use Rattle.lutree.specs.declared.expr.Infix.TheVariants.{Data as Data2, Arrow, FollowedBy}
use Rattle.lutree.specs.Tree.{Tree, EquationTree, NodeTree}
use Rattle.lutree.specs.Tree as tree
use Rattle.lustat_rules.specs.Classes.{Classes, is_one}
use Rattle.lubase.proofs.Marks.{same_or_not}
use Rattle.lustat_init.specs.Assigned.{assigned, class_at, place_of}
use Rattle.lustat_init.specs.Sources.{zero_classes}
use Rattle.lustat_init.specs.Linked.{AreStarts}
use Rattle.lustat_rules.proofs.Lent.{same_some}

same_or : (p q r s : Bool) → p ≡ q → r ≡ s → (p || r) ≡ (q || s)
same_or p q r s e f = ap (λ x. x || r) e ∙ ap (λ x. q || x) f

module _ (a b : Classes) (same : (x : List ℕ) → a x ≡ b x) where
  pub same_one : (e : Tree) → is_one a e ≡ is_one b e
  same_one (tree.number n) = refl
  same_one (tree.truth t) = refl
  same_one (tree.label l) = refl
  same_one (tree.variable x) = same x
  same_one (tree.unary (Data1 op) e) = same_one e
  same_one (tree.unary Pre e) = refl
  same_one (tree.binary (Data2 op) d e) = same_or (is_one a d) (is_one b d) (is_one a e) (is_one b e) (same_one d) (same_one e)
  same_one (tree.binary Arrow d e) = same_one d
  same_one (tree.binary FollowedBy d e) = same_one d
  same_one (tree.choice c d e) =
      same_or (is_one a c) (is_one b c) (is_one a d || is_one a e) (is_one b d || is_one b e) (same_one c)
      (same_or (is_one a d) (is_one b d) (is_one a e) (is_one b e) (same_one d) (same_one e))
  same_one (tree.when e c) = same_one e
  same_one (tree.current x) = refl
  same_one (tree.merge c ps all) = refl
  same_one (tree.call f all) = refl

no_mark : (o : Option ℕ) → class_at [] o ≡ false
no_mark None = refl
no_mark (Some i) = refl

pub unmarked_one : (n : NodeTree) (e : Tree) → is_one (assigned n []) e ≡ is_one zero_classes e
unmarked_one n e = same_one (assigned n []) zero_classes (λ x. no_mark (place_of n x)) e

module _ (qs : List EquationTree) (first k : ℕ) (q : EquationTree) (here : slice_get qs k ≡ Some q) (starts : List ℕ) (a : AreStarts qs first k starts) where
  pub starts_push : IsTrue (is_one zero_classes q.right) → AreStarts qs first (k + 1) (starts ++ (first + k) ∷ [])
  starts_push one w = (
    λ h. elim (Contains-push_cases starts (first + k) w h) [
      | inl x ↦ let old = (a w).0 x in (old.0, old.1, old.2, omega (arith, old.3), old.4, old.5)
      | inr e ↦ (k, q, sym e, omega arith, here, one)
    ],
    λ h. elim (same_or_not h.0 k) [
      | inl e ↦ subst (Contains (starts ++ (first + k) ∷ [])) (sym (h.2 ∙ ap (λ j. first + j) e)) (Contains-push starts (first + k))
      | inr ne ↦ Contains-append_left starts ((first + k) ∷ []) w ((a w).1 (h.0, h.1, h.2, omega (arith, h.3, ne), h.4, h.5))
    ],
  )

  pub starts_skip : is_one zero_classes q.right ≡ false → AreStarts qs first (k + 1) starts
  starts_skip zero w = (
    λ h. let old = (a w).0 h in (old.0, old.1, old.2, omega (arith, old.3), old.4, old.5),
    λ h. elim (same_or_not h.0 k) [
      | inl e ↦
          let same : q ≡ h.1 = same_some q h.1 (sym here ∙ ap (slice_get qs) (sym e) ∙ h.4) in
          absurd (true≢false (sym (subst (λ (p : EquationTree). IsTrue (is_one zero_classes p.right)) (sym same) h.5) ∙ zero))
      | inr ne ↦ (a w).1 (h.0, h.1, h.2, omega (arith, h.3, ne), h.4, h.5)
    ],
  )

pub no_starts : (qs : List EquationTree) (first : ℕ) → AreStarts qs first 0 []
no_starts qs first w = (λ h. absurd (omega (arith, h.1)), λ h. absurd (omega (arith, h.3)))
