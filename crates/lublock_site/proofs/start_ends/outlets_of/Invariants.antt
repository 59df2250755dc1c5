use Rattle.std.proofs.Common.{◌≡◌, length}
use Rattle.lublock_site.specs.Starts.{AreFirstOutlets}
use Rattle.lublock_site.proofs.start_ends.outlets_of.Given as goal

abbrev pub invariant-loop-tx : goal.invariant-loop-tx
invariant-loop-tx l = record {
  first : AreFirstOutlets l.links l.yielded l.outlets.items;
  len : length l.outlets.items ≡ length l.yielded;
}
