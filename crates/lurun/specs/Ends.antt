-- The ends of a site's links.
use Rattle.std.specs.Prelude.{◌≡◌, ℕ, nat_eq, List, length, map, filter, Some, slice_get, unwrap_or}
use Rattle.std.specs.List.{range_with_len}
use Rattle.std.specs.Option.{option_map}
use Rattle.atomic_table.specs.Seated.{TableId}
use Rattle.luworld.specs.declared.link.Link.{Link}
use Rattle.luworld.specs.Needs.{PlanView}
use Rattle.luworld.specs.Jobs.{JobView}
use Rattle.lulink.specs.Views.{SenderView, ReceiverView, IsUnusedSender, IsUnusedReceiver}

-- the sites at the two ends of a link
abbrev pub sender_at : PlanView → ℕ → ℕ
sender_at plan l = unwrap_or (option_map (λ (k : Link). k.from) (slice_get plan.links l)) 0

abbrev pub receiver_at : PlanView → ℕ → ℕ
receiver_at plan l = unwrap_or (option_map (λ (k : Link). k.to) (slice_get plan.links l)) 0

-- of the links below a number those that a site sends, and those that it takes, in order
abbrev pub sent_below : PlanView → ℕ → ℕ → List ℕ
sent_below plan s n = filter (λ l. nat_eq (sender_at plan l) s) (range_with_len 0 n)

abbrev pub taken_below : PlanView → ℕ → ℕ → List ℕ
taken_below plan s n = filter (λ l. nat_eq (receiver_at plan l) s) (range_with_len 0 n)

-- the links that a site sends, and those that it takes, in order
abbrev pub links_from : PlanView → ℕ → List ℕ
links_from plan s = sent_below plan s (length plan.links)

abbrev pub links_into : PlanView → ℕ → List ℕ
links_into plan s = taken_below plan s (length plan.links)

abbrev pub sent_links : List SenderView → List ℕ
sent_links txs = map (λ (t : SenderView). t.link) txs

abbrev pub taken_links : List ReceiverView → List ℕ
taken_links rxs = map (λ (t : ReceiverView). t.link) rxs

-- the unused ends of all links of a job that a site sends, and of all that it takes, in order
pub record AreUnusedEnds (job : JobView) (s : ℕ) (txs : List SenderView) (rxs : List ReceiverView) : Type 0 where
  pub sent : sent_links txs ≡ links_from job.plan s
  pub taken : taken_links rxs ≡ links_into job.plan s
  pub senders : (k : ℕ) (t : SenderView) → slice_get txs k ≡ Some t → IsUnusedSender job t
  pub receivers : (k : ℕ) (t : ReceiverView) → slice_get rxs k ≡ Some t → IsUnusedReceiver job t

-- the place of the end of a link
abbrev pub IsSenderAt : List SenderView → ℕ → ℕ → Type 0
IsSenderAt txs l i = (t : SenderView) × (slice_get txs i ≡ Some t) × (t.link ≡ l)

abbrev pub IsReceiverAt : List ReceiverView → ℕ → ℕ → Type 0
IsReceiverAt rxs l i = (t : ReceiverView) × (slice_get rxs i ≡ Some t) × (t.link ≡ l)

-- one of the rings, with this many slots, is the link's
abbrev pub IsLinkedBy : List TableId → ℕ → ℕ → TableId → ℕ → Type 0
IsLinkedBy rings capacity link ring slots = (slice_get rings link ≡ Some ring) × (slots ≡ capacity)

-- each end is of the ring of its link
pub record AreEndsOf (rings : List TableId) (capacity : ℕ) (txs : List SenderView)
    (rxs : List ReceiverView) : Type 0 where
  pub senders : (k : ℕ) (t : SenderView) → slice_get txs k ≡ Some t
      → IsLinkedBy rings capacity t.link t.ring t.capacity
  pub receivers : (k : ℕ) (t : ReceiverView) → slice_get rxs k ≡ Some t
      → IsLinkedBy rings capacity t.link t.ring t.capacity
