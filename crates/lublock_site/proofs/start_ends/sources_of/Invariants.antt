use Rattle.std.proofs.Common.{◌≡◌, length}
use Rattle.lublock_site.specs.Starts.{AreFirstSources}
use Rattle.lublock_site.proofs.start_ends.sources_of.Given as goal

abbrev pub invariant-loop-rx : goal.invariant-loop-rx
invariant-loop-rx l = record {
  first : AreFirstSources l.links l.yielded l.sources.items;
  len : length l.sources.items ≡ length l.yielded;
}
