use Rattle.std.proofs.Common.{◌≡◌, ℕ, length}
use Rattle.luflow.specs.Program.{InputsView}
use Rattle.lublock.specs.Boards.{StandsStill}
use Rattle.lublock.proofs.board.Board.cycle.Given as goal

abbrev pub invariant-loop-cycle_clock : goal.invariant-loop-cycle_clock
invariant-loop-cycle_clock l = record {
  stands : (inputs : InputsView) (t : ℕ) → StandsStill l.flat inputs t l.len l.fn.self l.self;
  flows : length l.self.spans.items ≡ length l.fn.self.spans.items;
}
