-- An expression fits all clocks, or the one of its anchor alone.
use Rattle.std.proofs.Common.{◌≡◌, ◌⊎◌, inl, inr, ◌∙◌, ◌↔◌, Bool, IsTrue, Option, Some, None, refl, sym, ap, subst}
use Rattle.std.specs.Option.{unwrap_or}
use Rattle.lustat_rules.proofs.Fitting.{inside, outside}
use Rattle.lutree.specs.Tree.{Tree, Trees, NodeTree}
use Rattle.lutree.specs.Tree as tree
use Rattle.lustat_rules.specs.Scope.{Clock}
use Rattle.lustat_rules.specs.Clocks.{base, FitsClock, FitsClockInside, AllFitInside}
use Rattle.lustat_clocks.specs.Anchors.{or_else, clock_below, anchor, anchor_of_all}

-- a clock is the one of an anchor, or there is no anchor and what holds of it holds of all clocks
abbrev pub IsAnchored : Option Clock → Clock → (Clock → Type 0) → Type 0
IsAnchored o k P = (o ≡ Some k) ⊎ ((o ≡ None) × ((j : Clock) → P j))

pub both : (o p : Option Clock) (k : Clock) (P Q : Clock → Type 0) → IsAnchored o k P → IsAnchored p k Q → IsAnchored (or_else o p) k (λ j. P j × Q j)
both o p k P Q (inl e) g = inl (ap (λ x. or_else x p) e)
both o p k P Q (inr f) (inl e) = inl (ap (λ x. or_else x p) f.0 ∙ e)
both o p k P Q (inr f) (inr g) = inr (ap (λ x. or_else x p) f.0 ∙ g.0, λ j. (f.1 j, g.1 j))

weaker : (o : Option Clock) (k : Clock) (P Q : Clock → Type 0) → ((j : Clock) → P j → Q j) → IsAnchored o k P → IsAnchored o k Q
weaker o k P Q w (inl e) = inl e
weaker o k P Q w (inr f) = inr (f.0, λ j. w j (f.1 j))

mutual
  pub anchored : (n : NodeTree) (e : Tree) (k : Clock) → FitsClockInside n e k → IsAnchored (anchor n e) k (FitsClockInside n e)
  anchored n (tree.number a) k f = inr (refl, λ j. tt)
  anchored n (tree.truth b) k f = inr (refl, λ j. tt)
  anchored n (tree.label l) k f = inr (refl, λ j. tt)
  anchored n (tree.variable x) k f = inl f
  anchored n (tree.unary op a) k f = anchored n a k f
  anchored n (tree.binary op a b) k f = both (anchor n a) (anchor n b) k (FitsClockInside n a) (FitsClockInside n b) (anchored n a k f.0) (anchored n b k f.1)
  anchored n (tree.choice c a b) k f =
      weaker (or_else (anchor n c) (or_else (anchor n a) (anchor n b))) k (λ j. FitsClockInside n c j × (FitsClockInside n a j × FitsClockInside n b j)) (FitsClockInside n (tree.choice c a b)) (λ j h. (h.0, h.1.0, h.1.1))
      (both (anchor n c) (or_else (anchor n a) (anchor n b)) k (FitsClockInside n c) (λ j. FitsClockInside n a j × FitsClockInside n b j) (anchored n c k f.0)
      (both (anchor n a) (anchor n b) k (FitsClockInside n a) (FitsClockInside n b) (anchored n a k f.1) (anchored n b k f.2)))
  anchored n (tree.when a c) k f = inl (ap Some (sym f.0))
  anchored n (tree.current x) k f = inl (ap (clock_below n) f.1 ∙ f.2)
  anchored n (tree.merge c ps all) k f = inl f.0
  anchored n (tree.call g all) k f = all_anchored n all k f

  pub all_anchored : (n : NodeTree) (all : Trees) (k : Clock) → AllFitInside n all k → IsAnchored (anchor_of_all n all) k (AllFitInside n all)
  all_anchored n tree.none k f = inr (refl, λ j. tt)
  all_anchored n (tree.more a all) k f = both (anchor n a) (anchor_of_all n all) k (FitsClockInside n a) (AllFitInside n all) (anchored n a k f.0) (all_anchored n all k f.1)

-- what is fitted at all is fitted by the anchor, or by the base clock where there is none
pub only_anchor : (n : NodeTree) (e : Tree) (k : Clock) (b : Bool) → anchor n e ≡ Some k → (IsTrue b ↔ FitsClock n e k) → IsTrue b ↔ ((j : Clock) × FitsClock n e j)
only_anchor n e k b at same = (
  λ h. (k, same.0 h),
  λ h. same.1 (
      elim (anchored n e h.0 (inside h.1)) [
        | inl f ↦ let P : Option Clock → Type 0 = λ o. FitsClock n e (unwrap_or o base) in subst P (sym f ∙ at) h.1
        | inr f ↦ outside n e k (f.1 k)
      ]
      ),
)

pub only_base : (n : NodeTree) (e : Tree) (b : Bool) → anchor n e ≡ None → (IsTrue b ↔ FitsClock n e base) → IsTrue b ↔ ((j : Clock) × FitsClock n e j)
only_base n e b at same = (
  λ h. (base, same.0 h),
  λ h. same.1 (elim (anchored n e h.0 (inside h.1)) [ inl f ↦ absurd (no_some (sym at ∙ f)) | inr f ↦ outside n e base (f.1 base) ]),
) where
  no_some : {k : Clock} → None ≡ Some k → ⊥
  no_some h = cc
