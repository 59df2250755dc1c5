use Rattle.std.proofs.Common.{◌≡◌, ℕ, ◌<◌, Some, slice_get}
use Rattle.lusite.specs.Sites.{SiteView}
use Rattle.luweave.specs.Worlds.{IsDone}
use Rattle.luweave.proofs.world.all_ended.Given as goal

abbrev pub invariant-loop-s : goal.invariant-loop-s
invariant-loop-s l = record {
  done : (k : ℕ) (v : SiteView) → k < l.s → slice_get l.sites.items k ≡ Some v → IsDone v;
}
