-- The columns of a site's own inputs.
use Rattle.std.specs.Prelude.{◌≡◌, ℕ, List, Option, Some, slice_get}
use Rattle.luflow.specs.declared.values.Values.{Values}
use Rattle.luflow.specs.declared.form.Flow.{Flow}
use Rattle.luflow.specs.declared.form.Form.TheVariants.{Input}
use Rattle.luflow.specs.Packed.{data_in}
use Rattle.luflow.specs.Program.{FlatView, InputsView, column_of, flow_at}

-- where a column is here, it is the table's
pub record AreGiven (table : InputsView) (given : List (Option Values)) : Type 0 where
  pub each : (c : ℕ) (values : Values) → slice_get given c ≡ Some (Some values)
      → data_in values ≡ column_of table c

-- a flow that is no input
pub record IsNoInput (flat : FlatView) (i : ℕ) : Type 0 where
  pub other : (flow : Flow) (c : ℕ) → flow_at flat i ≡ Some flow → flow.form ≡ Input c → ⊥
