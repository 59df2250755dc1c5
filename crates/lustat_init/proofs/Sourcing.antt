-- Where the class of an expression comes from.
use Rattle.std.proofs.Common.{◌⊎◌, inl, inr, ℕ, Bool, false, ◌||◌, List, [], ◌++◌, IsTrue, refl, sym, subst, true≢false, arith, Contains}
use Rattle.std.proofs.lemmas.Bool.{or_cases, or_left, or_right}
use Rattle.std.proofs.lemmas.List.Elements.{Contains-append_left, Contains-append_right, Contains-append_cases, Contains-push, Contains-push_cases}
use Rattle.lutree.specs.declared.expr.Prefix.TheVariants.{Data as Data1, Pre}
use Rattle.lutree.specs.declared.expr.Infix.TheVariants.{Data as Data2, Arrow, FollowedBy}
use Rattle.lutree.specs.Tree.{Tree}
use Rattle.lutree.specs.Tree as tree
use Rattle.lustat_rules.specs.Classes.{Classes, is_one}
use Rattle.lustat_init.specs.Sources.{class_sources, zero_classes}

module _ (a : Classes) where
  abbrev pub By : Bool → List (List ℕ) → Type 0
  By z xs = IsTrue z ⊎ ((x : List ℕ) × Contains xs x × IsTrue (a x))

  widen_left : (z w : Bool) (xs ys : List (List ℕ)) → By z xs → By (z || w) (xs ++ ys)
  widen_left z w xs ys (inl h) = inl (or_left z w h)
  widen_left z w xs ys (inr h) = inr (h.0, Contains-append_left xs ys h.0 h.1, h.2)

  widen_right : (z w : Bool) (xs ys : List (List ℕ)) → By w ys → By (z || w) (xs ++ ys)
  widen_right z w xs ys (inl h) = inl (or_right z w h)
  widen_right z w xs ys (inr h) = inr (h.0, Contains-append_right xs ys h.0 h.1, h.2)

  parts : (z w : Bool) (xs ys : List (List ℕ)) → By (z || w) (xs ++ ys) → By z xs ⊎ By w ys
  parts z w xs ys (inl h) = elim (or_cases z w h) [ inl x ↦ inl (inl x) | inr x ↦ inr (inl x) ]
  parts z w xs ys (inr h) = elim (Contains-append_cases xs ys h.0 h.1) [ inl x ↦ inl (inr (h.0, x, h.2)) | inr x ↦ inr (inr (h.0, x, h.2)) ]

  no_source : By false [] → ⊥
  no_source (inl h) = true≢false (sym h)
  no_source (inr h) = omega (arith, h.1.1)

  abbrev own : Tree → Bool
  own e = is_one zero_classes e

  -- two operands
  both_there : (p q z w : Bool) (xs ys : List (List ℕ)) → (IsTrue p → By z xs) → (IsTrue q → By w ys) → IsTrue (p || q) → By (z || w) (xs ++ ys)
  both_there p q z w xs ys f g h = elim (or_cases p q h) [ inl x ↦ widen_left z w xs ys (f x) | inr x ↦ widen_right z w xs ys (g x) ]

  both_back : (p q z w : Bool) (xs ys : List (List ℕ)) → (By z xs → IsTrue p) → (By w ys → IsTrue q) → By (z || w) (xs ++ ys) → IsTrue (p || q)
  both_back p q z w xs ys f g h = elim (parts z w xs ys h) [ inl x ↦ or_left p q (f x) | inr x ↦ or_right p q (g x) ]

  pub there : (e : Tree) → IsTrue (is_one a e) → By (own e) (class_sources e)
  there (tree.number n) h = inl h
  there (tree.truth b) h = inl h
  there (tree.label l) h = inl h
  there (tree.variable x) h = inr (x, Contains-push [] x, h)
  there (tree.unary (Data1 op) e) h = there e h
  there (tree.unary Pre e) h = inl h
  there (tree.binary (Data2 op) d e) h = both_there (is_one a d) (is_one a e) (own d) (own e) (class_sources d) (class_sources e) (there d) (there e) h
  there (tree.binary Arrow d e) h = there d h
  there (tree.binary FollowedBy d e) h = there d h
  there (tree.choice c d e) h =
      both_there (is_one a c) (is_one a d || is_one a e) (own c) (own d || own e) (class_sources c) (class_sources d ++ class_sources e) (there c)
      (both_there (is_one a d) (is_one a e) (own d) (own e) (class_sources d) (class_sources e) (there d) (there e)) h
  there (tree.when e c) h = there e h
  there (tree.current x) h = inl h
  there (tree.merge c ps all) h = inl h
  there (tree.call f all) h = inl h

  pub back : (e : Tree) → By (own e) (class_sources e) → IsTrue (is_one a e)
  back (tree.number n) h = absurd (no_source h)
  back (tree.truth b) h = absurd (no_source h)
  back (tree.label l) h = absurd (no_source h)
  back (tree.variable x) (inl h) = absurd (true≢false (sym h))
  back (tree.variable x) (inr h) = elim (Contains-push_cases [] x h.0 h.1) [ inl none ↦ absurd (omega (arith, none.1)) | inr e ↦ subst (λ y. IsTrue (a y)) (sym e) h.2 ]
  back (tree.unary (Data1 op) e) h = back e h
  back (tree.unary Pre e) h = refl
  back (tree.binary (Data2 op) d e) h = both_back (is_one a d) (is_one a e) (own d) (own e) (class_sources d) (class_sources e) (back d) (back e) h
  back (tree.binary Arrow d e) h = back d h
  back (tree.binary FollowedBy d e) h = back d h
  back (tree.choice c d e) h =
      both_back (is_one a c) (is_one a d || is_one a e) (own c) (own d || own e) (class_sources c) (class_sources d ++ class_sources e) (back c)
      (both_back (is_one a d) (is_one a e) (own d) (own e) (class_sources d) (class_sources e) (back d) (back e)) h
  back (tree.when e c) h = back e h
  back (tree.current x) h = absurd (no_source h)
  back (tree.merge c ps all) h = absurd (no_source h)
  back (tree.call f all) h = absurd (no_source h)
