use Rattle.std.proofs.Common.{◌≡◌, length}
use Rattle.lulist.specs.Turns.{IsAgedTo}
use Rattle.lulist.proofs.turning.age.Given as goal

abbrev pub invariant-loop-j : goal.invariant-loop-j
invariant-loop-j l = record {
  aged : IsAgedTo l.kept l.shown l.fn.lasts l.lasts l.j;
  len : length l.lasts ≡ length l.fn.lasts;
}
