use Rattle.std.proofs.Common.{◌≡◌, length}
use Rattle.lublock.specs.Boards.{StandsStill}
use Rattle.lublock.proofs.board.Board.steps.Given as goal

abbrev pub invariant-loop-step : goal.invariant-loop-step
invariant-loop-step l = record {
  stands : StandsStill l.flat l.inputs l.t l.len l.fn.self l.self;
  flows : length l.self.spans.items ≡ length l.fn.self.spans.items;
}
