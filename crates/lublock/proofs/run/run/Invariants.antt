use Rattle.std.proofs.Common.{◌≡◌, ◌≤◌, ◌-◌, length}
use Rattle.luflow.specs.Program.{flows_of}
use Rattle.lublock.specs.Shown.{StandsAt}
use Rattle.lublock.proofs.run.run.Given as goal

abbrev pub invariant-loop-t : goal.invariant-loop-t
invariant-loop-t l = record {
  whole : l.instants ≡ l.inputs.instants;
  within : l.t ≤ l.instants;
  flows : length l.board.spans.items ≡ flows_of l.flat;
  len : length l.columns.items ≡ length l.flat.variables;
  stands : StandsAt l.flat l.inputs l.t l.board l.columns.items;
}

abbrev pub decreases-loop-t : goal.decreases-loop-t
decreases-loop-t l = l.instants - l.t
