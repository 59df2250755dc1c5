use Rattle.std.proofs.Common.{◌≡◌, ℕ, ◌<◌, ◌≤◌, map, take, length}
use Rattle.std.specs.Prelude.{slice_get, slice_index, vec_capacity}
use Rattle.std.specs.Option.{ForSome}
use Rattle.luworld.specs.Jobs.{sends}
use Rattle.lusite_program.specs.Programs.{part_of}
use Rattle.lusite_program.proofs.projecting.parts.Given as goal

abbrev pub invariant-loop-k : goal.invariant-loop-k
invariant-loop-k l = record {
  made : l.all.items ≡ map (part_of l.plan l.site) (take l.k l.places);
  room : length l.places ≤ vec_capacity l.all;
  rows_len : length l.carriers.rows.items ≡ length l.initial.carriers.rows.items;
  sources : l.carriers.sources.items ≡ l.initial.carriers.sources.items;
  left : (j : ℕ) → l.k ≤ j → j < length l.places → ForSome (slice_get l.carriers.rows.items (slice_index l.places j)) (λ x. x.items ≡ sends l.plan l.site (slice_index l.places j));
}
