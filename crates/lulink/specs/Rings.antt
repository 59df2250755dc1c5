-- The rule of a ring with one producer and one consumer, whose messages are those of one fixed list.
use Rattle.std.specs.Prelude.{◌≡◌, ℕ, zero, suc, ◌+◌, ◌-◌, ◌%◌, ◌^◌, ◌<◌, ◌≤◌, ◌⊎◌, false, true, List, []}
use Rattle.std.specs.Prelude.{◌∷◌, ◌++◌, length, map, replicate, Option, None, slice_get}
use mathlib.Core.Option.{some}
use lib.ListN.{get_elem?}
use Rattle.atomic_table.specs.Table.{State, Me}
use Rattle.luflow.specs.declared.message.Msg.{Msg}
use Rattle.lulink.specs.declared.rule.EndState.{EndState}
use Rattle.lulink.specs.declared.rule.Role.{Role}
use Rattle.lulink.specs.declared.rule.Role.TheVariants.{Opener, Producer, Consumer}
use Rattle.lulink.specs.Words.{word, number, WasWord, WereWords, words_of}

-- the slots of n messages from the k-th on, each with what lies in it
abbrev pub slots_of : (ℕ → Option Msg) → ℕ → ℕ → ℕ → List (ℕ × Option Msg)
slots_of what room k zero = []
slots_of what room k (suc n) = (k % room, what k) ∷ slots_of what room (k + 1) n

-- slots in which the messages of the list lie, and slots that wait for theirs
abbrev pub full_slots : List Msg → ℕ → ℕ → ℕ → List (ℕ × Option Msg)
full_slots list room k n = slots_of (λ i. slice_get list i) room k n

abbrev pub free_slots : ℕ → ℕ → ℕ → List (ℕ × Option Msg)
free_slots room k n = slots_of (λ _. None) room k n

-- the seat of a new ring
abbrev pub fresh : ℕ → List Msg → EndState
fresh room list = record {
  role = Opener;
  room = room;
  list = list;
  count = 0;
  seen = [];
  last = 0;
  held = 0;
  left = false;
}

-- an end of a new ring
abbrev pub seated : Role → EndState → EndState
seated role v = record {
  role = role;
  room = v.room;
  list = v.list;
  count = 0;
  seen = [];
  last = 0;
  held = 0;
  left = false;
}

abbrev pub IsEnd : Role → ℕ → List Msg → EndState → Type 0
IsEnd role room list v = (v.role ≡ role) × (v.room ≡ room) × (v.list ≡ list)

-- The words are the two counts. Message k of the list lies in slot k mod room, from the head's count to the
-- tail's, but for the first ones, whose slots the consumer has. The other slots are at home too, and free,
-- but for the next ones, which the producer has. What was put is a prefix of the list, and what was taken one
-- of what was put.
pub record Running (room : ℕ) (list : List Msg) (s : State (Option Msg) EndState) : Type 0 where
  pub p : EndState
  pub c : EndState
  pub views : s.views ≡ p ∷ c ∷ []
  pub producer : IsEnd Producer room list p
  pub consumer : IsEnd Consumer room list c
  pub words : s.words ≡ words_of (word p.count p.left) (word c.count c.left)
  pub emptying : c.count + c.held ≤ p.count
  pub filling : p.count + p.held ≤ c.count + room
  pub begins : p.count ≤ length list
  pub p_saw : WereWords p.seen c.count c.left
  pub c_saw : WereWords c.seen p.count p.left
  pub p_last : WasWord p.last c.count c.left
  pub c_last : WasWord c.last p.count p.left
  pub stored : (k : ℕ) → c.count + c.held ≤ k → k < p.count
      → get_elem? s.homes (k % room) ≡ some (some (slice_get list k))
  pub free : (k : ℕ) → p.count + p.held ≤ k → k < c.count + room
      → get_elem? s.homes (k % room) ≡ some (some None)

pub record Unused (room : ℕ) (list : List Msg) (s : State (Option Msg) EndState) : Type 0 where
  pub words : s.words ≡ words_of 0 0
  pub homes : s.homes ≡ map some (replicate room None)
  pub views : s.views ≡ fresh room list ∷ []

-- there are few messages, and room for one at least
abbrev pub Linked : ℕ → List Msg → State (Option Msg) EndState → Type 0
Linked room list s = (0 < room) × (length list < 2 ^ 62) × (Unused room list s ⊎ Running room list s)

-- a load that found the word n, after which the end has the slots of the next messages, as many as this
abbrev pub readied : EndState → ℕ → ℕ → EndState
readied v n held = record {
  role = v.role;
  room = v.room;
  list = v.list;
  count = v.count;
  seen = v.seen ++ n ∷ [];
  last = n;
  held = held;
  left = v.left;
}

-- a load that found the word n and took no slot
abbrev pub looked : EndState → ℕ → EndState
looked v n = readied v n v.held

-- the next k messages were passed, and the end has the slots behind theirs still
abbrev pub moved : EndState → ℕ → EndState
moved v k = record {
  role = v.role;
  room = v.room;
  list = v.list;
  count = v.count + k;
  seen = v.seen;
  last = v.last;
  held = v.held - k;
  left = v.left;
}

abbrev pub departed : EndState → EndState
departed v = record {
  role = v.role;
  room = v.room;
  list = v.list;
  count = v.count;
  seen = v.seen;
  last = v.last;
  held = v.held;
  left = true;
}

-- a word that counts no fewer messages than the one that was loaded last, and of no more than there are
abbrev pub IsLater : EndState → ℕ → Type 0
IsLater v n = (number v.last ≤ number n) × (number n ≤ length v.list)

-- a look at the other end's word
abbrev pub Looked : Me (Option Msg) EndState → ℕ → Me (Option Msg) EndState → Type 0
Looked m n w = (w ≡ (looked m.0 n, m.1)) × IsLater m.0 n

-- The ring was full, or the producer has the slots of as many messages as there is room for. No more was
-- taken than was put.
abbrev pub SawHead : Me (Option Msg) EndState → ℕ → Me (Option Msg) EndState → Type 0
SawHead m n w = IsLater m.0 n × (((m.0.count ≡ number n + m.0.room) × (w ≡ (looked m.0 n, m.1)))
    ⊎ ((m.0.count < number n + m.0.room)
    × (w ≡ (
      readied m.0 n (number n + m.0.room - m.0.count),
      free_slots m.0.room m.0.count
          (number n + m.0.room - m.0.count),
    )))) × (number n ≤ m.0.count)

-- The ring was empty, or the consumer has the slots of all messages that were put, which are no more than
-- there is room for.
abbrev pub SawTail : Me (Option Msg) EndState → ℕ → Me (Option Msg) EndState → Type 0
SawTail m n w = IsLater m.0 n × (((m.0.count ≡ number n) × (w ≡ (looked m.0 n, m.1)))
    ⊎ ((m.0.count < number n)
    × (w ≡ (
      readied m.0 n (number n - m.0.count),
      full_slots m.0.list m.0.room m.0.count
          (number n - m.0.count),
    )))) × (number n ≤ m.0.count + m.0.room)

-- the slots of the next k messages went back and the producer's count went up; it has those behind them still
abbrev pub MovedTail : EndState → ℕ → Me (Option Msg) EndState → Type 0
MovedTail v k w = w ≡ (moved v k, free_slots v.room (v.count + k) (v.held - k))

-- the slots of the next k messages went back and the consumer's count went up; it has those behind them still
abbrev pub MovedHead : EndState → ℕ → Me (Option Msg) EndState → Type 0
MovedHead v k w = w ≡ (moved v k, full_slots v.list v.room (v.count + k) (v.held - k))

-- the end has left
abbrev pub Left : Me (Option Msg) EndState → Me (Option Msg) EndState → Type 0
Left m w = w ≡ (departed m.0, m.1)
