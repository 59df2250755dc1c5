use Rattle.std.proofs.Common.{◌≡◌, ℕ, ◌≤◌, length, Option, Some, slice_get}
use Rattle.std.specs.Prelude.{vec_capacity}
use Rattle.luworld.specs.Jobs.{outputs_of}
use Rattle.lusite_program.specs.Programs.{Reports}
use Rattle.lusite_program.proofs.projecting.all_reported.Given as goal

abbrev pub invariant-loop-k : goal.invariant-loop-k
invariant-loop-k l = record {
  len : length l.reported.items ≡ l.k;
  each : (j i : ℕ) (o : Option ℕ) → slice_get (outputs_of l.plan) j ≡ Some i → slice_get l.reported.items j ≡ Some o → Reports l.plan l.site i o;
  room : length l.outputs ≤ vec_capacity l.reported;
}
