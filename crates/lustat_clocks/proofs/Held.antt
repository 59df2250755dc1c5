-- What `current` asks of a clock.
use Rattle.std.proofs.Common.{◌≡◌, ◌∙◌, ◌↔◌, ℕ, Bool, List, [], Option, Some, None, IsTrue, sym, ap, subst}
use Rattle.lutree.specs.declared.expr.Condition.{Condition}
use Rattle.lutree.specs.Tree.{NodeTree}
use Rattle.lutree.specs.Tree as tree
use Rattle.lustat_rules.specs.Scope.{Clock, clock_of}
use Rattle.lustat_rules.specs.Clocks.{base, FitsClockInside}
use Rattle.lustat_rules.specs.ClockRefs.{clock_under}

abbrev variable_of : Option Clock → List ℕ
variable_of (Some (Some c)) = c.variable
variable_of o = []

pub held : (n : NodeTree) (x : List ℕ) (j k : Clock) (b : Bool) → clock_of n x ≡ Some j → (IsTrue b ↔ (clock_under n j ≡ Some k)) → IsTrue b ↔ FitsClockInside n (tree.current x) k
held n x None k b at same = (
  λ h. absurd (no_some (same.0 h)),
  λ h. absurd (no_base (sym at ∙ h.1)),
) where
  no_some : None ≡ Some k → ⊥
  no_some h = cc

  no_base : {c : Condition} → Some base ≡ Some (Some c) → ⊥
  no_base h = cc
held n x (Some c) k b at same = (
  λ h. (c, at, same.0 h),
  λ h. same.1 (subst (λ y. clock_of n y ≡ Some k) (ap variable_of (sym h.1 ∙ at)) h.2),
)
