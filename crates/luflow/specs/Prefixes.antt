-- What a flow has at an instant doesn't change with what the inputs have later.
use Rattle.std.specs.Prelude.{◌≡◌, ℕ, ◌<◌, ◌≤◌, slice_get}
use Rattle.luflow.specs.Program.{FlatView, InputsView, IsOrdered, column_of, flows_of}
use Rattle.luflow.specs.Streams.{Streams}
use Rattle.luflow.specs.Solution.{IsSolution}

-- both tables have the first n instants, and every input has the same values there
pub record AgreeTo (n : ℕ) (one other : InputsView) : Type 0 where
  pub one_long : n ≤ one.instants
  pub other_long : n ≤ other.instants
  pub same : (c t : ℕ) → t < n → slice_get (column_of one c) t ≡ slice_get (column_of other c) t

-- so what a flow has at the first n instants is settled by what the inputs have there
abbrev pub PrefixLaw : Type 0
PrefixLaw = (flat : FlatView) (one other : InputsView) (n : ℕ) → IsOrdered flat → AgreeTo n one other
    → (σ τ : Streams) → IsSolution flat one σ → IsSolution flat other τ
    → (i t : ℕ) → i < flows_of flat → t < n → σ i t ≡ τ i t
