-- How far the slowest site of a world has come.
use Rattle.std.specs.Prelude.{ℕ, zero, suc, ◌+◌, min, length, filter, Option, Some, None, nat_le, slice_get}
use Rattle.std.specs.List.{range_with_len}
use Rattle.luworld.specs.Systems.{Item, done}
use Rattle.luworld.specs.Jobs.{JobView, items_before, script, streams_of}
use Rattle.luworld.specs.WorldViews.{WorldView}

-- how many instants a site has behind it that has done so many items
abbrev pub instants_behind : JobView → ℕ → ℕ → ℕ
instants_behind job s n =
    length (filter (λ t. nat_le (items_before job (streams_of job) s (t + 1) 0 0) n)
    (range_with_len 0 job.inputs.instants))

-- of one that does this next; all instants where it does nothing more
abbrev pub instant_by : JobView → ℕ → ℕ → Option Item → ℕ
instant_by job s n None = job.inputs.instants
instant_by job s n (Some item) = instants_behind job s n

abbrev pub instant_at : JobView → ℕ → ℕ → ℕ
instant_at job s n = instant_by job s n (slice_get (script job (streams_of job) s) n)

-- the least of the first n sites
unfoldable pub slowest_of : WorldView → ℕ → ℕ
slowest_of w zero = w.job.inputs.instants
slowest_of w (suc n) = min (slowest_of w n) (instant_at w.job n (done w.dones n))

-- The instant at which the slowest site stands of those that go on; where none goes on, the number of
-- instants.
abbrev pub slowest : WorldView → ℕ
slowest w = slowest_of w (length w.dones)
