-- The least classes of initialisation.
use Rattle.std.specs.Prelude.{◌≡◌, ◌<◌, ℕ, Bool, true, false, cond, ◌||◌, List, length, Option, Some, None}
use Rattle.std.specs.Prelude.{slice_index, slice_set}
use Rattle.luflow.specs.declared.form.Flow.{Flow}
use Rattle.luflow.specs.declared.form.Form.{Form}
use Rattle.luflow.specs.declared.form.Form.TheVariants.{Input, Constant, Copied, Unary, Binary, If, Pre}
use Rattle.luflow.specs.declared.form.Form.TheVariants.{Arrow, When, Current, Merge}
use Rattle.luflow.specs.Program.{FlatView, flow_at, flows_of}
use Rattle.luplace.specs.Classes.{AreClasses, class_in}

-- whether a flow of this form may be nil, if of what it reads then these may
abbrev pub nil_by : (ℕ → Bool) → Form → Bool
nil_by nils (Input c) = false
nil_by nils (Constant d) = false
nil_by nils (Copied a) = nils a
nil_by nils (Unary op a) = nils a
nil_by nils (Binary op a b) = nils a || nils b
nil_by nils (If c a b) = nils c || (nils a || nils b)
nil_by nils (Pre a) = true
nil_by nils (Arrow a b) = nils a
nil_by nils (When a) = nils a
nil_by nils (Current a) = false
nil_by nils (Merge c xs) = false

-- and whether the flow of a place may be
abbrev pub nil_at : (ℕ → Bool) → Option Flow → Bool
nil_at nils None = false
nil_at nils (Some flow) = nil_by nils flow.form

-- the flows that may be nil, once the flow of a rank was looked at
abbrev pub looked : FlatView → ℕ → List Bool → List Bool
looked flat p nils = cond (nil_at (class_in nils) (flow_at flat (slice_index flat.order p)))
    (slice_set nils (slice_index flat.order p) true) nils

-- These flows must have class true, and of those before a rank each one that its form makes nil is among
-- them.
pub record AreNilsTo (flat : FlatView) (p : ℕ) (nils : List Bool) : Type 0 where
  pub long : length nils ≡ flows_of flat
  pub must : (class : ℕ → Bool) → AreClasses flat class → (i : ℕ) → i < flows_of flat → class_in nils i ≡ true
      → class i ≡ true
  pub closed : (q : ℕ) (flow : Flow) → q < p → q < length flat.order
      → flow_at flat (slice_index flat.order q) ≡ Some flow → nil_by (class_in nils) flow.form ≡ true
      → class_in nils (slice_index flat.order q) ≡ true

-- The least classes that meet the rules.
pub record AreLeast (flat : FlatView) (nils : List Bool) : Type 0 where
  pub meet : AreClasses flat (class_in nils)
  pub must : (class : ℕ → Bool) → AreClasses flat class → (i : ℕ) → i < flows_of flat → class_in nils i ≡ true
      → class i ≡ true
