-- What the ends of a ring hold, and what contracts see of it.
use Rattle.std.specs.Prelude.{◌≡◌, ℕ, ◌+◌, ◌-◌, ◌%◌, ◌<◌, ◌≤◌, ◌^◌, Bool, true, false, List, [], ◌++◌}
use Rattle.std.specs.Prelude.{take, length, Option, Some, slice_get}
use Rattle.std.specs.Arc.{arc_value}
use Rattle.atomic_table.specs.Seated.{TableId}
use Rattle.atomic_table.specs.declared.shared.Seat.{Seat}
use Rattle.luflow.specs.declared.message.Msg.{Msg}
use Rattle.lulink.specs.declared.counts.Counts.{Counts}
use Rattle.lulink.specs.declared.put_side.PutSide.{PutSide}
use Rattle.lulink.specs.declared.take_side.TakeSide.{TakeSide}
use Rattle.lulink.specs.declared.sender.Tx.TheInside as tx
use Rattle.lulink.specs.declared.receiver.Rx.TheInside as rx
use Rattle.lulink.specs.declared.rule.Terms.{Terms}
use Rattle.lulink.specs.declared.rule.EndState.{EndState}
use Rattle.lulink.specs.declared.rule.Role.{Role}
use Rattle.lulink.specs.declared.rule.Role.TheVariants.{Producer, Consumer}
use Rattle.lulink.specs.Lists.{list_of}
use Rattle.lulink.specs.Words.{number, IsFinal, IsLastSeen, HasSeen, RestsOn, words_of}
use Rattle.lulink.specs.Counts.{AreCounts, WentWell, counted, showed}
use Rattle.lulink.specs.Rings.{IsEnd, full_slots, free_slots, fresh, seated}
use Rattle.lulink.specs.Views.{SenderView, ReceiverView}

-- a seat at a ring
abbrev pub RingSeat : Type 0
RingSeat = Seat (Option Msg) EndState

abbrev pub given_list : Terms → List Msg
given_list k = list_of k.job.value k.link

-- the messages stand in the list from the n-th on
abbrev pub AreGivenMessages : Terms → ℕ → List Msg → Type 0
AreGivenMessages k n ms = (i : ℕ) (m : Msg) → slice_get ms i ≡ Some m → slice_get (given_list k)
    (n + i) ≡ Some m

-- a table of such a ring
pub record IsRing (at : TableId) (k : Terms) : Type 0 where
  pub words : at.words ≡ length (words_of 0 0)
  pub slots : at.slots ≡ k.capacity
  pub room : 0 < k.capacity
  pub below : k.capacity < 2 ^ 16
  pub small : length (given_list k) < 2 ^ 62

-- a seat of the ring, before its first step
abbrev pub IsNewSeat : Role → TableId → Terms → RingSeat → Type 0
IsNewSeat role at k seat = (seat.table_id ≡ at)
    × (seat.me ≡ (seated role (fresh k.capacity (given_list k)), []))

-- the slots of the next messages are held, as many as are counted, and the word that was loaded last shows
-- room for them
pub record IsPutSide (at : TableId) (k : Terms) (t : PutSide) : Type 0 where
  pub ring : IsRing at k
  pub table : t.seat.table_id ≡ at
  pub ends : IsEnd Producer k.capacity (given_list k) t.seat.me.0
  pub here : t.seat.me.0.left ≡ false
  pub count : t.seat.me.0.count ≡ t.count
  pub slot : t.slot ≡ t.count % k.capacity
  pub word : t.seat.me.0.last ≡ t.word
  pub last : 0 < t.held → IsLastSeen t.seat.me.0.seen t.word
  pub final : IsFinal t.seat.me.0.seen t.word
  pub begins : t.count ≤ length (given_list k)
  pub held : t.seat.me.0.held ≡ t.held
  pub slots : t.seat.me.1 ≡ free_slots k.capacity t.count t.held
  pub room : t.count + t.held ≤ number t.word + k.capacity

-- the slots of the next messages are held, as many as are counted, and by the word that was loaded last they
-- were put
pub record IsTakeSide (at : TableId) (k : Terms) (t : TakeSide) : Type 0 where
  pub ring : IsRing at k
  pub table : t.seat.table_id ≡ at
  pub ends : IsEnd Consumer k.capacity (given_list k) t.seat.me.0
  pub here : t.seat.me.0.left ≡ false
  pub count : t.seat.me.0.count ≡ t.count
  pub slot : t.slot ≡ t.count % k.capacity
  pub word : t.seat.me.0.last ≡ t.word
  pub last : 0 < t.held → IsLastSeen t.seat.me.0.seen t.word
  pub final : IsFinal t.seat.me.0.seen t.word
  pub begins : t.count ≤ length (given_list k)
  pub held : t.seat.me.0.held ≡ t.held
  pub slots : t.seat.me.1 ≡ full_slots (given_list k) k.capacity t.count t.held
  pub put : t.count + t.held ≤ number t.word
  pub listed : number t.word ≤ length (given_list k)

-- the slot of the next message is held, or the word that was loaded now says that the ring is full
abbrev pub SoughtRoom : Terms → PutSide → Bool → PutSide → Type 0
SoughtRoom k s true t = (t.count ≡ s.count) × RestsOn s.seat.me.0.seen t.word t.seat.me.0.seen
    × (0 < t.held) × IsFinal s.seat.me.0.seen t.word
SoughtRoom k s false t = (t.count ≡ s.count) × HasSeen s.seat.me.0.seen t.word t.seat.me.0.seen
    × (s.count ≡ number t.word + k.capacity) × IsFinal s.seat.me.0.seen t.word

-- the slot of the next message is held, or the word that was loaded now says that the ring is empty
abbrev pub SoughtMessage : TakeSide → Bool → TakeSide → Type 0
SoughtMessage s true t = (t.count ≡ s.count) × RestsOn s.seat.me.0.seen t.word t.seat.me.0.seen
    × (0 < t.held) × IsFinal s.seat.me.0.seen t.word
SoughtMessage s false t = (t.count ≡ s.count) × HasSeen s.seat.me.0.seen t.word t.seat.me.0.seen
    × (s.count ≡ number t.word) × IsFinal s.seat.me.0.seen t.word

-- what a try of the next message counts, by how many were in the link as the word shows
abbrev pub CountedTry : Bool → ℕ → ℕ → List ℕ → ℕ → List ℕ → Counts → Counts → Type 0
CountedTry true n there before w after c d = WentWell there before w after c d
CountedTry false n there before w after c d = d ≡ counted n (showed there c)

-- the first so many slots that are held have what they are given back with, and stand behind the others
abbrev pub HasFilled : Terms → PutSide → ℕ → PutSide → Type 0
HasFilled k s n t = (t.seat.table_id ≡ s.seat.table_id) × (t.slot ≡ (s.count + n) % k.capacity)
    × (t.seat.me ≡ (
      s.seat.me.0,
      free_slots k.capacity (s.count + n) (s.held - n)
          ++ full_slots (given_list k) k.capacity s.count n,
    ))
    × (t.count ≡ s.count) × (t.word ≡ s.word) × (t.held ≡ s.held)

abbrev pub HasEmptied : Terms → TakeSide → ℕ → TakeSide → Type 0
HasEmptied k s n t = (t.seat.table_id ≡ s.seat.table_id) × (t.slot ≡ (s.count + n) % k.capacity)
    × (t.seat.me ≡ (
      s.seat.me.0,
      full_slots (given_list k) k.capacity (s.count + n) (s.held - n)
          ++ free_slots k.capacity s.count n,
    ))
    × (t.count ≡ s.count) × (t.word ≡ s.word) × (t.held ≡ s.held)

abbrev pub sender_view : tx.Inside → SenderView
sender_view t = let k = (arc_value t.ring).shared.key in record {
  job = k.job.value;
  link = k.link;
  capacity = k.capacity;
  ring = (arc_value t.ring).shared.table_id;
  put = take t.side.count (given_list k);
  seen = t.side.seat.me.0.seen;
  counts = t.counts;
}

abbrev pub receiver_view : rx.Inside → ReceiverView
receiver_view t = let k = (arc_value t.ring).shared.key in record {
  job = k.job.value;
  link = k.link;
  capacity = k.capacity;
  ring = (arc_value t.ring).shared.table_id;
  taken = take t.side.count (given_list k);
  seen = t.side.seat.me.0.seen;
  counts = t.counts;
}

pub record IsSender (t : tx.Inside) : Type 0 where
  pub number : t.link ≡ (arc_value t.ring).shared.key.link
  pub side : IsPutSide (arc_value t.ring).shared.table_id (arc_value t.ring).shared.key t.side
  pub counts : AreCounts t.side.count (arc_value t.ring).shared.key.capacity t.counts

pub record IsReceiver (t : rx.Inside) : Type 0 where
  pub number : t.link ≡ (arc_value t.ring).shared.key.link
  pub side : IsTakeSide (arc_value t.ring).shared.table_id (arc_value t.ring).shared.key t.side
  pub counts : AreCounts t.side.count (arc_value t.ring).shared.key.capacity t.counts
