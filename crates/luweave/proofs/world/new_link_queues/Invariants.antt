use Rattle.std.proofs.Common.{◌≡◌, ℕ, ◌≤◌, length, Some, slice_get}
use Rattle.std.specs.Prelude.{vec_capacity}
use Rattle.luweave.specs.declared.link_queue.LinkQueue.{LinkQueue}
use Rattle.luweave.specs.Worlds.{IsNewLinkQueue}
use Rattle.luweave.proofs.world.new_link_queues.Given as goal

abbrev pub invariant-loop : goal.invariant-loop
invariant-loop l = record {
  len : length l.link_queues.items ≡ l.counter;
  each : (k : ℕ) (y : LinkQueue) → slice_get l.link_queues.items k ≡ Some y → IsNewLinkQueue l.room y;
  room : l.links ≤ vec_capacity l.link_queues;
}
