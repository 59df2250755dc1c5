use Rattle.std.proofs.Common.{◌≡◌, ◌<◌, ℕ, length, Some}
use Rattle.std.specs.Prelude.{slice_get}
use Rattle.luflow.specs.Program.{InputsView}
use Rattle.lublock.specs.Boards.{IsSettled, StandsStill}
use Rattle.lublock_site.proofs.sure.settle_all.Given as goal

abbrev pub invariant-loop-k : goal.invariant-loop-k
invariant-loop-k l = record {
  stands : (inputs : InputsView) (t len : ℕ) → StandsStill l.flat inputs t len l.fn.board l.board;
  settled : (j i : ℕ) → j < l.k → slice_get l.flows j ≡ Some i → IsSettled l.board.spans.items i;
  flows : length l.board.spans.items ≡ length l.fn.board.spans.items;
}
