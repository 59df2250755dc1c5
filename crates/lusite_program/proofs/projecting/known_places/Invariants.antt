use Rattle.std.proofs.Common.{◌≡◌, ◌≤◌, map, take, length}
use Rattle.std.specs.Prelude.{slice_index, vec_capacity}
use Rattle.lusite_program.proofs.projecting.known_places.Given as goal

abbrev pub invariant-loop-rank : goal.invariant-loop-rank
invariant-loop-rank l = record {
  made : l.places.items ≡ map (slice_index l.plan.flat.order) (take l.rank-index l.ranks);
  room : length l.ranks ≤ vec_capacity l.places;
}
