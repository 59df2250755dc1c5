-- What a ring holds between any two steps once both its ends are there, as its users read it.
use Rattle.std.specs.Prelude.{◌≡◌, ℕ, ◌+◌, ◌%◌, ◌<◌, ◌≤◌, ◌⊎◌, List, [], ◌∷◌, ◌++◌, length, take}
use Rattle.std.specs.Prelude.{Option, Some, slice_get}
use mathlib.Core.Option.{some}
use lib.ListN.{get_elem?}
use Rattle.atomic_table.specs.Table.{State}
use Rattle.luflow.specs.declared.message.Msg.{Msg}
use Rattle.luworld.specs.WorldViews.{IsPrefixOf}
use Rattle.lulink.specs.declared.rule.EndState.{EndState}
use Rattle.lulink.specs.declared.sender.Tx.TheInside as tx
use Rattle.lulink.specs.declared.receiver.Rx.TheInside as rx
use Rattle.lulink.specs.Lists.{list_of}
use Rattle.lulink.specs.Words.{WereWords}
use Rattle.lulink.specs.Rings.{Linked}
use Rattle.lulink.specs.Insides.{sender_view, receiver_view, IsSender, IsReceiver}

-- what an end has put, or taken
abbrev pub passed : EndState → List Msg
passed v = take v.count v.list

-- the message lies in the slot of its number, or the receiver has that slot
abbrev pub StandsAt : ℕ → State (Option Msg) EndState → EndState → ℕ → Msg → Type 0
StandsAt room s receiver k m = (get_elem? s.homes (k % room) ≡ some (some (Some m)))
    ⊎ (k < receiver.count + receiver.held)

-- What was put is what was taken and then what stands in the ring, which is no more than the capacity. Both
-- are prefixes of the list. Each word that an end saw is, or was, the other end's.
pub record AreInStep (room : ℕ) (list : List Msg) (s : State (Option Msg) EndState)
    (sender receiver : EndState) : Type 0 where
  pub standing : List Msg
  pub order : passed sender ≡ passed receiver ++ standing
  pub few : length standing ≤ room
  pub places : (i : ℕ) (m : Msg) → slice_get standing i ≡ Some m
      → StandsAt room s receiver (length (passed receiver) + i) m
  pub put_begins : IsPrefixOf (passed sender) list
  pub taken_begins : IsPrefixOf (passed receiver) list
  pub sender_saw : WereWords sender.seen (length (passed receiver)) receiver.left
  pub receiver_saw : WereWords receiver.seen (length (passed sender)) sender.left

-- in every state that the rule allows, once both ends are there
abbrev pub RingLaw : Type 0
RingLaw = (room : ℕ) (list : List Msg) (s : State (Option Msg) EndState) (sender receiver : EndState)
    → Linked room list s → s.views ≡ sender ∷ receiver ∷ [] → AreInStep room list s sender receiver

-- What the rule knows of an end is what contracts see of it: the ring, the capacity, the list, what it has
-- put or taken, and the words that it saw.
abbrev pub SenderLaw : Type 0
SenderLaw = (t : tx.Inside) → IsSender t → let v = sender_view t in let seat = t.side.seat in
    (seat.table_id ≡ v.ring) × (seat.me.0.room ≡ v.capacity) × (seat.me.0.list ≡ list_of v.job v.link)
    × (passed seat.me.0 ≡ v.put) × (seat.me.0.seen ≡ v.seen)

abbrev pub ReceiverLaw : Type 0
ReceiverLaw = (t : rx.Inside) → IsReceiver t → let v = receiver_view t in let seat = t.side.seat in
    (seat.table_id ≡ v.ring) × (seat.me.0.room ≡ v.capacity) × (seat.me.0.list ≡ list_of v.job v.link)
    × (passed seat.me.0 ≡ v.taken) × (seat.me.0.seen ≡ v.seen)
