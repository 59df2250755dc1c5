-- The slots of a run, filled or emptied one by one.
use Rattle.std.proofs.Common.{◌≡◌, ◌<◌, ◌≤◌, ◌+◌, ◌-◌, ◌%◌, ℕ, suc, List, [], ◌∷◌, ◌++◌, length, append-nil, Option, Some, None, refl, sym, ap, ◌∙◌, subst, arith}
use Rattle.std.specs.Prelude.{slice_get}
use Rattle.std.proofs.lemmas.Option.{slice_get_within}
use native.Mathlib.Nat.{mod-add-mod}
use Rattle.atomic_table.specs.Table.{Allows, rest, turned}
use Rattle.atomic_table.specs.Seated.{TableId}
use Rattle.luflow.specs.declared.message.Msg.{Msg}
use Rattle.lulink.specs.declared.put_side.PutSide.{PutSide}
use Rattle.lulink.specs.declared.take_side.TakeSide.{TakeSide}
use Rattle.lulink.specs.declared.rule.EndState.{EndState}
use Rattle.lulink.specs.declared.rule.Terms.{Terms}
use Rattle.lulink.specs.Words.{tail_at, head_at}
use Rattle.lulink.specs.Rings.{Linked, MovedTail, MovedHead, full_slots, free_slots}
use Rattle.lulink.specs.Insides.{RingSeat, given_list, IsPutSide, IsTakeSide, HasFilled, HasEmptied}
use Rattle.lulink.proofs.Slots.{Slots, next_of_run, run_more}
use Rattle.lulink.proofs.Steps.{moves_tail, moves_head}
use Rattle.lulink.proofs.Ends.{Holding, put_side_moved, take_side_moved}

abbrev lies : Terms → ℕ → Option Msg
lies k i = slice_get (given_list k) i

abbrev none_lies : ℕ → Option Msg
none_lies i = None

-- messages that are the next of a list are within it
pub all_within : (list : List Msg) (n : ℕ) (xs : List Msg) → n ≤ length list → ((k : ℕ) (x : Msg) → slice_get xs k ≡ Some x → slice_get list (n + k) ≡ Some x) → n + length xs ≤ length list
all_within list n [] begins next = omega arith
all_within list n (x ∷ xs) begins next =
    let here : slice_get list n ≡ Some x = ap (slice_get list) (omega arith) ∙ next 0 x refl in
    let within = slice_get_within list n x here in
    let rest : n + 1 + length xs ≤ length list = all_within list (n + 1) xs (omega arith) (λ k y at. ap (slice_get list) (omega arith) ∙ next (suc k) y at) in
    omega arith

-- after the exchange and the turn
pub turned_to : (l e t : Holding) (slot : ℕ) (z : Option Msg) → e ≡ (l.0, (slot, z) ∷ rest l.1) → t ≡ (e.0, turned e.1) → t ≡ (l.0, rest l.1 ++ (slot, z) ∷ [])
turned_to l e t slot z after turn = turn ∙ ap (λ (m : Holding). (m.0, turned m.1)) after

module _ (at : TableId) (k : Terms) (s : PutSide) (is : IsPutSide at k s) where
  pub filled_none : HasFilled k s 0 s
  filled_none = (
    refl,
    is.slot ∙ ap (λ n. n % k.capacity) (omega arith),
    (λ i. (s.seat.me.0, (is.slots ∙ (λ j. free_slots k.capacity (plus j) (less j)) ∙ sym (append-nil (free_slots k.capacity (s.count + 0) (s.held - 0)))) i)),
    refl,
    refl,
    refl,
  )
    where
      plus : s.count ≡ s.count + 0
      plus = omega arith

      less : s.held ≡ s.held - 0
      less = omega arith

  module _ (n : ℕ) (t : PutSide) (has : HasFilled k s n t) (lt : n < s.held) where
    -- the slot at hand
    pub free_at_hand : t.seat.me.1 ≡ (t.slot, None) ∷ rest t.seat.me.1
    free_at_hand = next_of_run none_lies (lies k) k.capacity s.count s.held n t.seat.me.1 lt (ap (λ (m : Holding). m.1) has.2) ∙ (λ i. (sym has.1 i, None) ∷ rest t.seat.me.1)

    pub filled_more : (u : PutSide) (x : Msg) → slice_get (given_list k) (s.count + n) ≡ Some x → u.seat.table_id ≡ t.seat.table_id → u.seat.me ≡ (t.seat.me.0, rest t.seat.me.1 ++ (t.slot, Some x) ∷ []) → u.slot ≡ (t.slot + 1) % k.capacity
        → u.count ≡ t.count → u.word ≡ t.word → u.held ≡ t.held → HasFilled k s (n + 1) u
    filled_more u x next table me slot count word held = (
      table ∙ has.0,
      slot ∙ ap (λ m. (m + 1) % k.capacity) has.1 ∙ mod-add-mod (s.count + n) k.capacity 1 ∙ ap (λ m. m % k.capacity) further,
      me ∙ (λ i. ((has.2 i).0, rest t.seat.me.1 ++ (has.1 i, Some x) ∷ []))
          ∙ ap (λ (l : Slots). (s.seat.me.0, l)) (run_more none_lies (lies k) k.capacity s.count s.held n t.seat.me.1 (Some x) lt (ap (λ (m : Holding). m.1) has.2) (sym next)),
      count ∙ has.3,
      word ∙ has.4,
      held ∙ has.5,
    )
      where
        further : s.count + n + 1 ≡ s.count + (n + 1)
        further = omega arith

  pub filled_one : (seat : RingSeat) (x : Msg) → 0 < s.held → slice_get (given_list k) s.count ≡ Some x → seat.table_id ≡ s.seat.table_id → seat.me ≡ (s.seat.me.0, rest s.seat.me.1 ++ (s.slot, Some x) ∷ [])
      → HasFilled k s 1 record { seat = seat; count = s.count; slot = (s.slot + 1) % k.capacity; word = s.word; held = s.held }
  filled_one seat x any next table me =
      let first : s.count + 0 ≡ s.count = omega arith in
      filled_more 0 s filled_none any record { seat = seat; count = s.count; slot = (s.slot + 1) % k.capacity; word = s.word; held = s.held } x (ap (slice_get (given_list k)) first ∙ next) table me refl refl refl refl

  -- the filled slots may be given back
  pub stores_tail : (n new : ℕ) (t : PutSide) → HasFilled k s n t → new ≡ s.count + n → n ≤ s.held → s.count + n ≤ length (given_list k) → Allows (Linked k.capacity (given_list k)) at.slots t.seat.id t.seat.me tail_at (λ _. new) (λ _ w. MovedTail t.seat.me.0 (new - t.seat.me.0.count) w)
  stores_tail n new t has up few within =
      let me : t.seat.me.0 ≡ s.seat.me.0 = ap (λ (m : Holding). m.0) has.2 in
      let count : t.seat.me.0.count ≡ s.count = ap (λ v. v.count) me ∙ is.count in
      let held : t.seat.me.0.held ≡ s.held = ap (λ v. v.held) me ∙ is.held in
      moves_tail k.capacity (given_list k) at.slots t.seat.id new n t.seat.me
      (ap (λ (m : Holding). m.1) has.2 ∙ (λ i. free_slots k.capacity (sym count i + n) (sym held i - n) ++ full_slots (given_list k) k.capacity (sym count i) n))
      (omega arith) (omega arith) (omega arith) is.ring.slots (ap (λ v. v.role) me ∙ is.ends.0) (ap (λ v. v.left) me ∙ is.here)

  -- and they were
  pub stored_tail : (n new : ℕ) (t u : PutSide) → HasFilled k s n t → new ≡ s.count + n → n ≤ s.held → s.count + n ≤ length (given_list k) → u.seat.table_id ≡ t.seat.table_id → MovedTail t.seat.me.0 (new - t.seat.me.0.count) u.seat.me
      → u.count ≡ s.count + n → u.slot ≡ (s.count + n) % k.capacity → u.word ≡ s.word → u.held ≡ s.held - n → IsPutSide at k u × (u.seat.me.0.seen ≡ s.seat.me.0.seen)
  stored_tail n new t u has up few within table stored count_is place word_is held_is =
      let me : t.seat.me.0 ≡ s.seat.me.0 = ap (λ (m : Holding). m.0) has.2 in
      let count : t.seat.me.0.count ≡ s.count = ap (λ v. v.count) me ∙ is.count in
      let passed : new - t.seat.me.0.count ≡ n = omega arith in
      let moves : MovedTail s.seat.me.0 n u.seat.me = subst (λ (y : EndState × ℕ). MovedTail y.0 y.1 u.seat.me) (λ i. (me i, passed i)) stored in (
        subst (λ (y : ℕ × (ℕ × ℕ)). IsPutSide at k record { seat = u.seat; count = y.0; slot = u.slot; word = y.1.0; held = y.1.1 }) (λ i. (sym count_is i, (sym word_is i, sym held_is i)))
            (put_side_moved at k s is u.seat (table ∙ has.0) n u.slot few within place moves),
        ap (λ (m : Holding). m.0.seen) moves,
      )

module _ (at : TableId) (k : Terms) (s : TakeSide) (is : IsTakeSide at k s) where
  pub emptied_none : HasEmptied k s 0 s
  emptied_none = (
    refl,
    is.slot ∙ ap (λ n. n % k.capacity) (omega arith),
    (λ i. (s.seat.me.0, (is.slots ∙ (λ j. full_slots (given_list k) k.capacity (plus j) (less j)) ∙ sym (append-nil (full_slots (given_list k) k.capacity (s.count + 0) (s.held - 0)))) i)),
    refl,
    refl,
    refl,
  )
    where
      plus : s.count ≡ s.count + 0
      plus = omega arith

      less : s.held ≡ s.held - 0
      less = omega arith

  module _ (n : ℕ) (t : TakeSide) (has : HasEmptied k s n t) (lt : n < s.held) where
    -- the slot at hand
    pub full_at_hand : t.seat.me.1 ≡ (t.slot, slice_get (given_list k) (s.count + n)) ∷ rest t.seat.me.1
    full_at_hand = next_of_run (lies k) none_lies k.capacity s.count s.held n t.seat.me.1 lt (ap (λ (m : Holding). m.1) has.2) ∙ (λ i. (sym has.1 i, slice_get (given_list k) (s.count + n)) ∷ rest t.seat.me.1)

    pub emptied_more : (u : TakeSide) → u.seat.table_id ≡ t.seat.table_id → u.seat.me ≡ (t.seat.me.0, rest t.seat.me.1 ++ (t.slot, None) ∷ []) → u.slot ≡ (t.slot + 1) % k.capacity
        → u.count ≡ t.count → u.word ≡ t.word → u.held ≡ t.held → HasEmptied k s (n + 1) u
    emptied_more u table me slot count word held = (
      table ∙ has.0,
      slot ∙ ap (λ m. (m + 1) % k.capacity) has.1 ∙ mod-add-mod (s.count + n) k.capacity 1 ∙ ap (λ m. m % k.capacity) further,
      me ∙ (λ i. ((has.2 i).0, rest t.seat.me.1 ++ (has.1 i, None) ∷ []))
          ∙ ap (λ (l : Slots). (s.seat.me.0, l)) (run_more (lies k) none_lies k.capacity s.count s.held n t.seat.me.1 None lt (ap (λ (m : Holding). m.1) has.2) refl),
      count ∙ has.3,
      word ∙ has.4,
      held ∙ has.5,
    )
      where
        further : s.count + n + 1 ≡ s.count + (n + 1)
        further = omega arith

  pub emptied_one : (seat : RingSeat) → 0 < s.held → seat.table_id ≡ s.seat.table_id → seat.me ≡ (s.seat.me.0, rest s.seat.me.1 ++ (s.slot, None) ∷ [])
      → HasEmptied k s 1 record { seat = seat; count = s.count; slot = (s.slot + 1) % k.capacity; word = s.word; held = s.held }
  emptied_one seat any table me = emptied_more 0 s emptied_none any record { seat = seat; count = s.count; slot = (s.slot + 1) % k.capacity; word = s.word; held = s.held } table me refl refl refl refl

  -- the emptied slots may be given back
  pub stores_head : (n new : ℕ) (t : TakeSide) → HasEmptied k s n t → new ≡ s.count + n → n ≤ s.held → Allows (Linked k.capacity (given_list k)) at.slots t.seat.id t.seat.me head_at (λ _. new) (λ _ w. MovedHead t.seat.me.0 (new - t.seat.me.0.count) w)
  stores_head n new t has up few =
      let me : t.seat.me.0 ≡ s.seat.me.0 = ap (λ (m : Holding). m.0) has.2 in
      let count : t.seat.me.0.count ≡ s.count = ap (λ v. v.count) me ∙ is.count in
      let held : t.seat.me.0.held ≡ s.held = ap (λ v. v.held) me ∙ is.held in
      moves_head k.capacity (given_list k) at.slots t.seat.id new n t.seat.me
      (ap (λ (m : Holding). m.1) has.2 ∙ (λ i. full_slots (given_list k) k.capacity (sym count i + n) (sym held i - n) ++ free_slots k.capacity (sym count i) n))
      (omega arith) (omega arith) is.ring.slots (ap (λ v. v.role) me ∙ is.ends.0) (ap (λ v. v.left) me ∙ is.here)

  -- and they were
  pub stored_head : (n new : ℕ) (t u : TakeSide) → HasEmptied k s n t → new ≡ s.count + n → n ≤ s.held → u.seat.table_id ≡ t.seat.table_id → MovedHead t.seat.me.0 (new - t.seat.me.0.count) u.seat.me
      → u.count ≡ s.count + n → u.slot ≡ (s.count + n) % k.capacity → u.word ≡ s.word → u.held ≡ s.held - n → IsTakeSide at k u × (u.seat.me.0.seen ≡ s.seat.me.0.seen)
  stored_head n new t u has up few table stored count_is place word_is held_is =
      let me : t.seat.me.0 ≡ s.seat.me.0 = ap (λ (m : Holding). m.0) has.2 in
      let count : t.seat.me.0.count ≡ s.count = ap (λ v. v.count) me ∙ is.count in
      let passed : new - t.seat.me.0.count ≡ n = omega arith in
      let moves : MovedHead s.seat.me.0 n u.seat.me = subst (λ (y : EndState × ℕ). MovedHead y.0 y.1 u.seat.me) (λ i. (me i, passed i)) stored in (
        subst (λ (y : ℕ × (ℕ × ℕ)). IsTakeSide at k record { seat = u.seat; count = y.0; slot = u.slot; word = y.1.0; held = y.1.1 }) (λ i. (sym count_is i, (sym word_is i, sym held_is i)))
            (take_side_moved at k s is u.seat (table ∙ has.0) n u.slot few place moves),
        ap (λ (m : Holding). m.0.seen) moves,
      )
