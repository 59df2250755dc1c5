-- The synchronous solution of a flat program.
use Rattle.std.specs.Prelude.{◌≡◌, ℕ, zero, suc, ◌<◌, ◌*◌, Option, Some, None, length}
use Rattle.luflow.specs.declared.form.Flow.{Flow}
use Rattle.luflow.specs.Program.{FlatView, InputsView, flow_at, flows_of}
use Rattle.luflow.specs.Streams.{Mark, Broken, Streams, Ticks, clock_at}
use Rattle.luflow.specs.Values.{value_at, under}

-- the clock of a flow
abbrev pub clock_of_flow : InputsView → Streams → Option Flow → Ticks
clock_of_flow inputs σ None t = None
clock_of_flow inputs σ (Some flow) t = clock_at inputs σ flow.clock t

-- what a flow's equation says of its stream
abbrev pub says : InputsView → Streams → Option Flow → ℕ → Mark
says inputs σ None t = Broken
says inputs σ (Some flow) t = under (clock_at inputs σ flow.clock t)
    (value_at inputs σ flow.clock flow.form t)

-- Each flow's stream is that of its form on its operands' streams: a program is a system of equations between
-- flows.
abbrev pub IsSolution : FlatView → InputsView → Streams → Type 0
IsSolution flat inputs σ = (i t : ℕ) → i < flows_of flat → σ i t ≡ says inputs σ (flow_at flat i) t

-- one sweep over all equations, and several, from nothing known
abbrev pub sweep : FlatView → InputsView → Streams → Streams
sweep flat inputs σ i t = says inputs σ (flow_at flat i) t

abbrev pub sweeps : FlatView → InputsView → ℕ → Streams
sweeps flat inputs zero = λ i t. Broken
sweeps flat inputs (suc n) = sweep flat inputs (sweeps flat inputs n)

-- the solution: at each instant, what as many sweeps give as there are flows in the instants up to it
unfoldable pub solution : FlatView → InputsView → Streams
solution flat inputs i t = sweeps flat inputs (suc t * length flat.order) i t
