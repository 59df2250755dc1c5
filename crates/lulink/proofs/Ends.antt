-- What an end holds before and after its steps, and what contracts see of it.
use Rattle.std.proofs.Common.{◌≡◌, ◌<◌, ◌≤◌, ◌+◌, ◌-◌, ◌%◌, ℕ, List, [], ◌∷◌, ◌++◌, length, take, drop, take-add, length-drop, Option, Some, sym, refl, ap, ◌∙◌, subst, mod-eq_of_lt, arith}
use Rattle.std.specs.Prelude.{slice_get}
use Rattle.std.specs.Arc.{arc_value}
use Rattle.std.proofs.lemmas.Option.{slice_get_within}
use Rattle.std.proofs.lemmas.List.{length-take-le, take_all}
use Rattle.atomic_table.specs.Table.{Me}
use Rattle.atomic_table.specs.Seated.{TableId}
use Rattle.luflow.specs.declared.message.Msg.{Msg}
use Rattle.lulink.specs.declared.put_side.PutSide.{PutSide}
use Rattle.lulink.specs.declared.take_side.TakeSide.{TakeSide}
use Rattle.lulink.specs.declared.sender.Tx.TheInside as tx
use Rattle.lulink.specs.declared.receiver.Rx.TheInside as rx
use Rattle.lulink.specs.declared.rule.EndState.{EndState}
use Rattle.lulink.specs.declared.rule.Terms.{Terms}
use Rattle.lulink.specs.declared.rule.Role.TheVariants.{Producer, Consumer}
use Rattle.lulink.specs.declared.counts.Counts.{Counts}
use Rattle.lulink.specs.Counts.{counted, showed, WentWell, AreCounts}
use Rattle.lulink.specs.Words.{number, IsFinal, IsLastSeen, HasSeen, RestsOn}
use Rattle.lulink.specs.Rings.{full_slots, free_slots, readied, IsLater, MovedTail, MovedHead, Looked}
use Rattle.lulink.specs.Views.{SenderView, IsNextToPut, AreNextToPut, HasPutAll, IsRunTaken, IsWholeAtClose}
use Rattle.lulink.specs.Seen.{PutOne, TookOne, OfferedRun, PolledRun, put_ahead, put_behind, put_waits, take_waits}
use Rattle.lulink.specs.Insides.{RingSeat, given_list, sender_view, receiver_view, IsSender, IsReceiver, IsRing, IsNewSeat, IsPutSide, IsTakeSide}
use Rattle.lulink.proofs.Closing.{close_long}
use Rattle.lulink.proofs.Parts.{take_next, element, take_run, at_drop, at_take}
use Rattle.lulink.proofs.Steps.{final_again}

abbrev pub Holding : Type 0
Holding = Me (Option Msg) EndState

-- a message whose slot is held
pub next_there : {at : TableId} {k : Terms} {t : TakeSide} → IsTakeSide at k t → 0 < t.held → (t.count < number t.word) × ((x : Msg) × (slice_get (given_list k) t.count ≡ Some x))
next_there {at} {k} {t} is any =
    let put = is.put in
    let listed = is.listed in
    (omega arith, element (given_list k) t.count (omega arith))

-- the next message, by what contracts see
pub next_at : (t : tx.Inside) (s : SenderView) (x : Msg) → IsSender t → sender_view t ≡ s → IsNextToPut s x → slice_get (given_list (arc_value t.ring).shared.key) t.side.count ≡ Some x
next_at t s x is seen next =
    ap (λ n. slice_get (given_list (arc_value t.ring).shared.key) n) (sym (length-take-le t.side.count (given_list (arc_value t.ring).shared.key) is.side.begins))
    ∙ subst (λ (u : SenderView). IsNextToPut u x) (sym seen) next

pub all_next_at : (t : tx.Inside) (s : SenderView) (xs : List Msg) → IsSender t → sender_view t ≡ s → AreNextToPut s xs → (k : ℕ) (x : Msg) → slice_get xs k ≡ Some x → slice_get (given_list (arc_value t.ring).shared.key) (t.side.count + k) ≡ Some x
all_next_at t s xs is seen next k x at =
    let list = given_list (arc_value t.ring).shared.key in
    ap (λ n. slice_get list (n + k)) (sym (length-take-le t.side.count list is.side.begins)) ∙ subst (λ (u : SenderView). AreNextToPut u xs) (sym seen) next k x at

-- the same list with one word more, which is the last
final_with : (seen more : List ℕ) (w : ℕ) → more ≡ seen ++ w ∷ [] → IsFinal seen w → IsFinal more w
final_with seen more w is f = subst (λ l. IsFinal l w) (sym is) (final_again seen w w (λ _. refl) f)

module _ (at : TableId) (k : Terms) (s : PutSide) (is : IsPutSide at k s) where
  -- what the seat has, by the seat's own count
  pub put_slots : s.seat.me.1 ≡ free_slots s.seat.me.0.room s.seat.me.0.count s.seat.me.0.held
  put_slots = is.slots ∙ (λ i. free_slots (sym is.ends.1 i) (sym is.count i) (sym is.held i))

  -- after a load
  pub put_side_loaded : (seat : RingSeat) → seat.table_id ≡ s.seat.table_id → (n held : ℕ) → seat.me ≡ (readied s.seat.me.0 n held, free_slots k.capacity s.count held) → IsFinal s.seat.me.0.seen n → s.count + held ≤ number n + k.capacity
      → IsPutSide at k record { seat = seat; count = s.count; slot = s.slot; word = n; held = held }
  put_side_loaded seat table n held me final room = record {
    ring = is.ring;
    table = table ∙ is.table;
    ends = (ap (λ (m : Holding). m.0.role) me ∙ is.ends.0, ap (λ (m : Holding). m.0.room) me ∙ is.ends.1, ap (λ (m : Holding). m.0.list) me ∙ is.ends.2);
    here = ap (λ (m : Holding). m.0.left) me ∙ is.here;
    count = ap (λ (m : Holding). m.0.count) me ∙ is.count;
    slot = is.slot;
    word = ap (λ (m : Holding). m.0.last) me;
    last = λ any. (s.seat.me.0.seen, ap (λ (m : Holding). m.0.seen) me);
    final = final_with s.seat.me.0.seen seat.me.0.seen n (ap (λ (m : Holding). m.0.seen) me) final;
    begins = is.begins;
    held = ap (λ (m : Holding). m.0.held) me;
    slots = ap (λ (m : Holding). m.1) me;
    room = room;
  }

  -- after a look that took no slot
  pub put_side_looked : (seat : RingSeat) → seat.table_id ≡ s.seat.table_id → (n : ℕ) → Looked s.seat.me n seat.me → IsFinal s.seat.me.0.seen n → IsPutSide at k record { seat = seat; count = s.count; slot = s.slot; word = n; held = s.held }
  put_side_looked seat table n look final =
      let later = look.1.0 in
      let word = ap number is.word in
      let room = is.room in
      put_side_loaded seat table n s.held (look.0 ∙ (λ i. (readied s.seat.me.0 n (is.held i), is.slots i))) final (omega arith)

  -- after some messages were passed
  pub put_side_moved : (seat : RingSeat) → seat.table_id ≡ s.seat.table_id → (n slot : ℕ) → n ≤ s.held → s.count + n ≤ length (given_list k) → slot ≡ (s.count + n) % k.capacity → MovedTail s.seat.me.0 n seat.me
      → IsPutSide at k record { seat = seat; count = s.count + n; slot = slot; word = s.word; held = s.held - n }
  put_side_moved seat table n slot few within place me =
      let room = is.room in
      record {
        ring = is.ring;
        table = table ∙ is.table;
        ends = (ap (λ (m : Holding). m.0.role) me ∙ is.ends.0, ap (λ (m : Holding). m.0.room) me ∙ is.ends.1, ap (λ (m : Holding). m.0.list) me ∙ is.ends.2);
        here = ap (λ (m : Holding). m.0.left) me ∙ is.here;
        count = ap (λ (m : Holding). m.0.count) me ∙ ap (λ m. m + n) is.count;
        slot = place;
        word = ap (λ (m : Holding). m.0.last) me ∙ is.word;
        last = λ any. subst (λ l. IsLastSeen l s.word) (sym (ap (λ (m : Holding). m.0.seen) me)) (is.last (omega arith));
        final = subst (λ l. IsFinal l s.word) (sym (ap (λ (m : Holding). m.0.seen) me)) is.final;
        begins = within;
        held = ap (λ (m : Holding). m.0.held) me ∙ ap (λ m. m - n) is.held;
        slots = ap (λ (m : Holding). m.1) me ∙ (λ i. free_slots (is.ends.1 i) (is.count i + n) (is.held i - n));
        room = omega arith;
      }

module _ (at : TableId) (k : Terms) (s : TakeSide) (is : IsTakeSide at k s) where
  -- what the seat has, by the seat's own count
  pub take_slots : s.seat.me.1 ≡ full_slots s.seat.me.0.list s.seat.me.0.room s.seat.me.0.count s.seat.me.0.held
  take_slots = is.slots ∙ (λ i. full_slots (sym is.ends.2 i) (sym is.ends.1 i) (sym is.count i) (sym is.held i))

  -- after a load
  pub take_side_loaded : (seat : RingSeat) → seat.table_id ≡ s.seat.table_id → (n held : ℕ) → seat.me ≡ (readied s.seat.me.0 n held, full_slots (given_list k) k.capacity s.count held) → IsLater s.seat.me.0 n → IsFinal s.seat.me.0.seen n → s.count + held ≤ number n
      → IsTakeSide at k record { seat = seat; count = s.count; slot = s.slot; word = n; held = held }
  take_side_loaded seat table n held me later final put =
      let most = later.1 in
      let lists = ap length is.ends.2 in
      record {
        ring = is.ring;
        table = table ∙ is.table;
        ends = (ap (λ (m : Holding). m.0.role) me ∙ is.ends.0, ap (λ (m : Holding). m.0.room) me ∙ is.ends.1, ap (λ (m : Holding). m.0.list) me ∙ is.ends.2);
        here = ap (λ (m : Holding). m.0.left) me ∙ is.here;
        count = ap (λ (m : Holding). m.0.count) me ∙ is.count;
        slot = is.slot;
        word = ap (λ (m : Holding). m.0.last) me;
        last = λ any. (s.seat.me.0.seen, ap (λ (m : Holding). m.0.seen) me);
        final = final_with s.seat.me.0.seen seat.me.0.seen n (ap (λ (m : Holding). m.0.seen) me) final;
        begins = is.begins;
        held = ap (λ (m : Holding). m.0.held) me;
        slots = ap (λ (m : Holding). m.1) me;
        put = put;
        listed = omega arith;
      }

  -- after a look that took no slot
  pub take_side_looked : (seat : RingSeat) → seat.table_id ≡ s.seat.table_id → (n : ℕ) → Looked s.seat.me n seat.me → IsFinal s.seat.me.0.seen n → IsTakeSide at k record { seat = seat; count = s.count; slot = s.slot; word = n; held = s.held }
  take_side_looked seat table n look final =
      let later = look.1.0 in
      let word = ap number is.word in
      let put = is.put in
      take_side_loaded seat table n s.held (look.0 ∙ (λ i. (readied s.seat.me.0 n (is.held i), is.slots i))) look.1 final (omega arith)

  -- after some messages were passed
  pub take_side_moved : (seat : RingSeat) → seat.table_id ≡ s.seat.table_id → (n slot : ℕ) → n ≤ s.held → slot ≡ (s.count + n) % k.capacity → MovedHead s.seat.me.0 n seat.me
      → IsTakeSide at k record { seat = seat; count = s.count + n; slot = slot; word = s.word; held = s.held - n }
  take_side_moved seat table n slot few place me =
      let put = is.put in
      let listed = is.listed in
      record {
        ring = is.ring;
        table = table ∙ is.table;
        ends = (ap (λ (m : Holding). m.0.role) me ∙ is.ends.0, ap (λ (m : Holding). m.0.room) me ∙ is.ends.1, ap (λ (m : Holding). m.0.list) me ∙ is.ends.2);
        here = ap (λ (m : Holding). m.0.left) me ∙ is.here;
        count = ap (λ (m : Holding). m.0.count) me ∙ ap (λ m. m + n) is.count;
        slot = place;
        word = ap (λ (m : Holding). m.0.last) me ∙ is.word;
        last = λ any. subst (λ l. IsLastSeen l s.word) (sym (ap (λ (m : Holding). m.0.seen) me)) (is.last (omega arith));
        final = subst (λ l. IsFinal l s.word) (sym (ap (λ (m : Holding). m.0.seen) me)) is.final;
        begins = omega arith;
        held = ap (λ (m : Holding). m.0.held) me ∙ ap (λ m. m - n) is.held;
        slots = ap (λ (m : Holding). m.1) me ∙ (λ i. full_slots (is.ends.2 i) (is.ends.1 i) (is.count i + n) (is.held i - n));
        put = omega arith;
        listed = is.listed;
      }

-- how many messages contracts see
pub put_length : (t : tx.Inside) → IsSender t → length (sender_view t).put ≡ t.side.count
put_length t is = length-take-le t.side.count (given_list (arc_value t.ring).shared.key) is.side.begins

pub taken_length : (t : rx.Inside) → IsReceiver t → length (receiver_view t).taken ≡ t.side.count
taken_length t is = length-take-le t.side.count (given_list (arc_value t.ring).shared.key) is.side.begins

-- what a try counts, by what contracts see
sender_well : (t : tx.Inside) (w : ℕ) (after : List ℕ) (counts : Counts) → IsSender t → WentWell (t.side.count - number w) t.side.seat.me.0.seen w after t.counts counts → WentWell (put_ahead (sender_view t) w) t.side.seat.me.0.seen w after t.counts counts
sender_well t w after counts is well = subst (λ n. WentWell (n - number w) t.side.seat.me.0.seen w after t.counts counts) (sym (put_length t is)) well

receiver_well : (t : rx.Inside) (w : ℕ) (after : List ℕ) (counts : Counts) → IsReceiver t → WentWell (number w - t.side.count) t.side.seat.me.0.seen w after t.counts counts → WentWell (put_behind (receiver_view t) w) t.side.seat.me.0.seen w after t.counts counts
receiver_well t w after counts is well = subst (λ n. WentWell (number w - n) t.side.seat.me.0.seen w after t.counts counts) (sym (taken_length t is)) well

pub sender_waits : (t : tx.Inside) (w : ℕ) (counts : Counts) → IsSender t → counts ≡ counted t.side.count (showed (t.side.count - number w) t.counts) → counts ≡ (put_waits (sender_view t) w).counts
sender_waits t w counts is e = e ∙ ap (λ n. counted n (showed (n - number w) t.counts)) (sym (put_length t is))

pub receiver_waits : (t : rx.Inside) (w : ℕ) (counts : Counts) → IsReceiver t → counts ≡ counted t.side.count (showed (number w - t.side.count) t.counts) → counts ≡ (take_waits (receiver_view t) w).counts
receiver_waits t w counts is e = e ∙ ap (λ n. counted n (showed (number w - n) t.counts)) (sym (taken_length t is))

pub sender_moved : (t : tx.Inside) (side : PutSide) (counts : Counts) (w : ℕ) (x : Msg) → IsSender t → side.count ≡ t.side.count + 1 → RestsOn t.side.seat.me.0.seen w side.seat.me.0.seen → slice_get (given_list (arc_value t.ring).shared.key) t.side.count ≡ Some x
    → WentWell (t.side.count - number w) t.side.seat.me.0.seen w side.seat.me.0.seen t.counts counts → PutOne x (sender_view t) w (sender_view record { ring = t.ring; side = side; link = t.link; counts = counts })
sender_moved t side counts w x is more rests next well =
    let list = given_list (arc_value t.ring).shared.key in
    ((refl, refl, ap (λ n. take n list) more ∙ take_next list t.side.count x next, refl), refl, rests, sender_well t w side.seat.me.0.seen counts is well)

pub receiver_moved : (t : rx.Inside) (side : TakeSide) (counts : Counts) (w : ℕ) (x : Msg) → IsReceiver t → side.count ≡ t.side.count + 1 → RestsOn t.side.seat.me.0.seen w side.seat.me.0.seen → slice_get (given_list (arc_value t.ring).shared.key) t.side.count ≡ Some x
    → WentWell (number w - t.side.count) t.side.seat.me.0.seen w side.seat.me.0.seen t.counts counts → TookOne x (receiver_view t) w (receiver_view record { ring = t.ring; side = side; link = t.link; counts = counts })
receiver_moved t side counts w x is more rests next well =
    let list = given_list (arc_value t.ring).shared.key in
    ((refl, refl, ap (λ n. take n list) more ∙ take_next list t.side.count x next, refl), refl, rests, receiver_well t w side.seat.me.0.seen counts is well)

-- after a run
pub sender_ran : (t : tx.Inside) (side : PutSide) (counts : Counts) (n : ℕ) (xs : List Msg) → side.count ≡ t.side.count + n → n ≤ length xs → ((k : ℕ) (x : Msg) → slice_get xs k ≡ Some x → slice_get (given_list (arc_value t.ring).shared.key) (t.side.count + k) ≡ Some x)
    → HasPutAll (take n xs) (sender_view t) (sender_view record { ring = t.ring; side = side; link = t.link; counts = counts })
sender_ran t side counts n xs more few next = let list = given_list (arc_value t.ring).shared.key in (refl, refl, ap (λ m. take m list) more ∙ take_run t.side.count n list xs few next, refl)

-- the sides of a new ring
pub new_put_side : (at : TableId) (k : Terms) (seat : RingSeat) → IsRing at k → IsNewSeat Producer at k seat → IsPutSide at k record { seat = seat; count = 0; slot = 0; word = 0; held = 0 }
new_put_side at k seat ring new =
    let me = new.1 in
    let room = ring.room in
    record {
      ring = ring;
      table = new.0;
      ends = (ap (λ (m : Holding). m.0.role) me, ap (λ (m : Holding). m.0.room) me, ap (λ (m : Holding). m.0.list) me);
      here = ap (λ (m : Holding). m.0.left) me;
      count = ap (λ (m : Holding). m.0.count) me;
      slot = sym (mod-eq_of_lt room);
      word = ap (λ (m : Holding). m.0.last) me;
      last = λ any. absurd (omega arith);
      final = subst (λ l. IsFinal l 0) (sym (ap (λ (m : Holding). m.0.seen) me)) (λ n d h on. absurd (omega arith));
      begins = omega arith;
      held = ap (λ (m : Holding). m.0.held) me;
      slots = ap (λ (m : Holding). m.1) me;
      room = omega arith;
    }

pub new_take_side : (at : TableId) (k : Terms) (seat : RingSeat) → IsRing at k → IsNewSeat Consumer at k seat → IsTakeSide at k record { seat = seat; count = 0; slot = 0; word = 0; held = 0 }
new_take_side at k seat ring new =
    let me = new.1 in
    let room = ring.room in
    record {
      ring = ring;
      table = new.0;
      ends = (ap (λ (m : Holding). m.0.role) me, ap (λ (m : Holding). m.0.room) me, ap (λ (m : Holding). m.0.list) me);
      here = ap (λ (m : Holding). m.0.left) me;
      count = ap (λ (m : Holding). m.0.count) me;
      slot = sym (mod-eq_of_lt room);
      word = ap (λ (m : Holding). m.0.last) me;
      last = λ any. absurd (omega arith);
      final = subst (λ l. IsFinal l 0) (sym (ap (λ (m : Holding). m.0.seen) me)) (λ n d h on. absurd (omega arith));
      begins = omega arith;
      held = ap (λ (m : Holding). m.0.held) me;
      slots = ap (λ (m : Holding). m.1) me;
      put = omega arith;
      listed = omega arith;
    }

-- what a run learns by the word
pub sender_learned : (t : tx.Inside) (side : PutSide) (counts : Counts) (all n : ℕ) → IsSender t → IsPutSide (arc_value t.ring).shared.table_id (arc_value t.ring).shared.key side → side.count ≡ t.side.count + n → RestsOn t.side.seat.me.0.seen side.word side.seat.me.0.seen
    → (n < all → HasSeen t.side.seat.me.0.seen side.word side.seat.me.0.seen × (side.count ≡ number side.word + (arc_value t.ring).shared.key.capacity)) → (all ≡ 0 → HasSeen t.side.seat.me.0.seen side.word side.seat.me.0.seen)
    → (all ≡ 0 → counts ≡ t.counts) → (0 < n → WentWell (t.side.count - number side.word) t.side.seat.me.0.seen side.word side.seat.me.0.seen t.counts counts) → (0 < all → n ≡ 0 → counts ≡ counted t.side.count (showed (t.side.count - number side.word) t.counts))
    → OfferedRun all n (sender_view t) side.word (sender_view record { ring = t.ring; side = side; link = t.link; counts = counts })
sender_learned t side counts all n is now more rests full look idle well waits =
    let before = put_length t is in
    let room = now.room in
    record {
      capacity = refl;
      rests = rests;
      room = omega arith;
      full = λ lt. let f = full lt in (f.0, length-take-le side.count (given_list (arc_value t.ring).shared.key) now.begins ∙ f.1);
      look = look;
      idle = idle;
      well = λ any. sender_well t side.word side.seat.me.0.seen counts is (well any);
      waits = λ any none. sender_waits t side.word counts is (waits any none);
    }

pub receiver_learned : (t : rx.Inside) (side : TakeSide) (counts : Counts) (most n : ℕ) → IsReceiver t → IsTakeSide (arc_value t.ring).shared.table_id (arc_value t.ring).shared.key side → side.count ≡ t.side.count + n → RestsOn t.side.seat.me.0.seen side.word side.seat.me.0.seen
    → (n < most → HasSeen t.side.seat.me.0.seen side.word side.seat.me.0.seen × (side.count ≡ number side.word)) → (most ≡ 0 → HasSeen t.side.seat.me.0.seen side.word side.seat.me.0.seen)
    → (most ≡ 0 → counts ≡ t.counts) → (0 < n → WentWell (number side.word - t.side.count) t.side.seat.me.0.seen side.word side.seat.me.0.seen t.counts counts) → (0 < most → n ≡ 0 → counts ≡ counted t.side.count (showed (number side.word - t.side.count) t.counts))
    → PolledRun most n (receiver_view t) side.word (receiver_view record { ring = t.ring; side = side; link = t.link; counts = counts })
receiver_learned t side counts most n is now more rests empty look idle well waits =
    let before = taken_length t is in
    let put = now.put in
    record {
      capacity = refl;
      rests = rests;
      there = omega arith;
      empty = λ lt. let e = empty lt in (e.0, length-take-le side.count (given_list (arc_value t.ring).shared.key) now.begins ∙ e.1);
      look = look;
      idle = idle;
      well = λ any. receiver_well t side.word side.seat.me.0.seen counts is (well any);
      waits = λ any none. receiver_waits t side.word counts is (waits any none);
    }

-- what a run takes
pub receiver_ran : (t : rx.Inside) (side : TakeSide) (counts : Counts) (n : ℕ) (before after : List Msg) → IsReceiver t → IsTakeSide (arc_value t.ring).shared.table_id (arc_value t.ring).shared.key side → side.count ≡ t.side.count + n
    → after ≡ before ++ take n (drop t.side.count (given_list (arc_value t.ring).shared.key)) → IsRunTaken n before after (receiver_view t) (receiver_view record { ring = t.ring; side = side; link = t.link; counts = counts })
receiver_ran t side counts n before after is now more into =
    let list = given_list (arc_value t.ring).shared.key in
    let begins = now.begins in
    let left : length (drop t.side.count list) ≡ length list - t.side.count = length-drop t.side.count list in (
      take n (drop t.side.count list),
      length-take-le n (drop t.side.count list) (omega arith),
      into,
      (refl, refl, ap (λ m. take m list) more ∙ take-add t.side.count n list, refl),
      λ k x at. ap (λ m. slice_get list (m + k)) (taken_length t is) ∙ sym (at_drop t.side.count list k) ∙ at_take n (drop t.side.count list) k x at,
    )

-- nothing follows the close among what was taken
pub receiver_whole : (t : rx.Inside) → IsReceiver t → IsWholeAtClose (receiver_view t)
receiver_whole t is k x at closes =
    let key = (arc_value t.ring).shared.key in
    let list = given_list key in
    let there = at_take t.side.count list k x at in
    let long = close_long key.job.value key.link k x there closes in
    let within : k < length (take t.side.count list) = slice_get_within (take t.side.count list) k x at in
    let taken = taken_length t is in
    take_all t.side.count list (omega arith)

-- what an end counts stays right as it goes on, and as a try of the next message counts
pub counts_on : (passed n room : ℕ) (c : Counts) → AreCounts passed room c → AreCounts (passed + n) room c
counts_on passed n room c is = let marked = is.marked in record { waited = is.waited; marked = omega arith; most = is.most }
