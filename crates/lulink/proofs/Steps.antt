-- Each step keeps the rule of a ring.
use Rattle.std.proofs.Common.{◌≡◌, ◌<◌, ◌≤◌, ◌⊎◌, ◌+◌, ◌-◌, ◌%◌, ◌^◌, ℕ, zero, suc, Bool, true, false, true≢false, [], ◌∷◌, ◌++◌, List, map, length, Option, None, sym, refl, ap, ◌∙◌, subst, ⊎_elim, inl, inr, arith}
use Rattle.std.specs.Prelude.{slice_get, slice_set, slice_index, slice_index_or, replicate}
use Rattle.std.proofs.Math.Nat.{mod-lt, add-mod_right}
use Rattle.std.proofs.lemmas.Bool.Decides.{nat_tests}
use mathlib.Core.Option.{some, some-injective, some-ne-none}
use native.Mathlib.Decide.{ℕ_discrete, dec_lt}
use lib.ListN.{get_elem?}
use Rattle.atomic_table.specs.Table.{State, Me, Act, keeps, Allows, Splits, stepped, carried_after, Valid}
use Rattle.std.proofs.lemmas.List.Elements.{All-push}
use Rattle.luflow.specs.declared.message.Msg.{Msg}
use Rattle.lulink.specs.declared.rule.EndState.{EndState}
use Rattle.lulink.specs.declared.rule.Role.TheVariants.{Opener, Producer, Consumer}
use Rattle.lulink.specs.Words.{top, word, number, has_left, IsFinal, WasWord, WereWords, tail_at, head_at, words_of}
use Rattle.lulink.specs.Rings.{full_slots, free_slots, fresh, seated, Running, Unused, Linked, looked, readied, moved, departed, IsLater, SawHead, SawTail, MovedTail, MovedHead, Looked, Left}
use Rattle.lulink.proofs.Slots.{Slots, passing, may_pass, passed_slots, passed_homes, with_back, with_back_append, with_back_length, later_slot, earlier_slot, back_else, back_here, taken_else, are_home, either_way}

abbrev pub RingState : Type 0
RingState = State (Option Msg) EndState

abbrev vacancy : Option Msg
vacancy = None

pub number_word : (n : ℕ) (b : Bool) → n < 2 ^ 63 → number (word n b) ≡ n
number_word n false h = grind (arith, nat_tests)
number_word n true h = grind (arith, nat_tests)

pub has_left_word : (n : ℕ) (b : Bool) → n < 2 ^ 63 → has_left (word n b) ≡ b
has_left_word n false h = grind (arith, nat_tests)
has_left_word n true h = grind (arith, nat_tests)

-- one more look at a word
pub final_again : (seen : List ℕ) (w u : ℕ) → (has_left u ≡ true → u ≡ w) → IsFinal seen w → IsFinal (seen ++ u ∷ []) w
final_again seen w u same f = All-push (λ x. has_left x ≡ true → x ≡ w) seen u f same

-- the word of an end as it is now, after some messages more, and after the end has left
was_now : (u n : ℕ) (b : Bool) → n < 2 ^ 63 → u ≡ word n b → WasWord u n b
was_now u n b h e = let same : number u ≡ n = ap number e ∙ number_word n b h in (omega arith, λ _. e)

was_moved : (u n k : ℕ) (b : Bool) → n < 2 ^ 63 → b ≡ false → WasWord u n b → WasWord u (n + k) b
was_moved u n k b h here w = let most = w.0 in (omega arith, λ on. absurd (true≢false (sym on ∙ ap has_left (w.1 on) ∙ has_left_word n b h ∙ here)))

was_left : (u n : ℕ) (b : Bool) → n < 2 ^ 63 → b ≡ false → WasWord u n b → WasWord u n true
was_left u n b h here w = (w.0, λ on. absurd (true≢false (sym on ∙ ap has_left (w.1 on) ∙ has_left_word n b h ∙ here)))

-- the same of all words that were seen
saw_again : (seen : List ℕ) (u n : ℕ) (b : Bool) → n < 2 ^ 63 → u ≡ word n b → WereWords seen n b → WereWords (seen ++ u ∷ []) n b
saw_again seen u n b h e f = All-push (λ x. WasWord x n b) seen u f (was_now u n b h e)

saw_moved : (seen : List ℕ) (n k : ℕ) (b : Bool) → n < 2 ^ 63 → b ≡ false → WereWords seen n b → WereWords seen (n + k) b
saw_moved seen n k b h here f i d lt = was_moved (slice_index_or seen i d) n k b h here (f i d lt)

saw_left : (seen : List ℕ) (n : ℕ) (b : Bool) → n < 2 ^ 63 → b ≡ false → WereWords seen n b → WereWords seen n true
saw_left seen n b h here f i d lt = was_left (slice_index_or seen i d) n b h here (f i d lt)

saw_final : (seen : List ℕ) (w n : ℕ) (b : Bool) → w ≡ word n b → WereWords seen n b → IsFinal seen w
saw_final seen w n b e f i d lt on = (f i d lt).1 on ∙ sym e

only : (a v : EndState) (k : ℕ) → get_elem? (a ∷ []) k ≡ some v → (k ≡ 0) × (a ≡ v)
only a v zero e = (refl, some-injective a v e)
only a v (suc k) e = absurd (some-ne-none v (sym e))

either_of : (a b v : EndState) (k : ℕ) → get_elem? (a ∷ b ∷ []) k ≡ some v → ((k ≡ 0) × (a ≡ v)) ⊎ ((k ≡ 1) × (b ≡ v))
either_of a b v zero e = inl (refl, some-injective a v e)
either_of a b v (suc zero) e = inr (refl, some-injective b v e)
either_of a b v (suc (suc k)) e = absurd (some-ne-none v (sym e))

at_replicate : (n k : ℕ) → k < n → get_elem? (map some (replicate n vacancy)) k ≡ some (some None)
at_replicate zero k h = absurd (omega arith)
at_replicate (suc n) zero h = refl
at_replicate (suc n) (suc k) h = at_replicate n k (omega arith)

-- whose seat it is
producers : (room : ℕ) (list : List Msg) (s : RingState) (id : ℕ) (v : EndState) → v.role ≡ Producer → Unused room list s ⊎ Running room list s → get_elem? s.views id ≡ some v → (r : Running room list s) × (id ≡ 0) × (r.p ≡ v)
producers room list s id v is (inl f) at = let o = only (fresh room list) v id (ap (λ l. get_elem? l id) (sym f.views) ∙ at) in let e : Opener ≡ Producer = ap (λ (u : EndState). u.role) o.1 ∙ is in absurd cc
producers room list s id v is (inr r) at =
    ⊎_elim
    (λ (e : (id ≡ 0) × (r.p ≡ v)). (r, e.0, e.1))
    (λ (e : (id ≡ 1) × (r.c ≡ v)). let q : Consumer ≡ Producer = sym r.consumer.0 ∙ ap (λ (u : EndState). u.role) e.1 ∙ is in absurd cc)
    (either_of r.p r.c v id (ap (λ l. get_elem? l id) (sym r.views) ∙ at))

consumers : (room : ℕ) (list : List Msg) (s : RingState) (id : ℕ) (v : EndState) → v.role ≡ Consumer → Unused room list s ⊎ Running room list s → get_elem? s.views id ≡ some v → (r : Running room list s) × (id ≡ 1) × (r.c ≡ v)
consumers room list s id v is (inl f) at = let o = only (fresh room list) v id (ap (λ l. get_elem? l id) (sym f.views) ∙ at) in let e : Opener ≡ Consumer = ap (λ (u : EndState). u.role) o.1 ∙ is in absurd cc
consumers room list s id v is (inr r) at =
    ⊎_elim
    (λ (e : (id ≡ 0) × (r.p ≡ v)). let q : Producer ≡ Consumer = sym r.producer.0 ∙ ap (λ (u : EndState). u.role) e.1 ∙ is in absurd cc)
    (λ (e : (id ≡ 1) × (r.c ≡ v)). (r, e.0, e.1))
    (either_of r.p r.c v id (ap (λ l. get_elem? l id) (sym r.views) ∙ at))

-- what a step has to give
abbrev Goes : (room : ℕ) (list : List Msg) (s : RingState) (me : Me (Option Msg) EndState) (i : ℕ) (n : ℕ) → (Me (Option Msg) EndState → Type 0) → ℕ → Type 0
Goes room list s me i n then id = (w : EndState) × (a : Act (Option Msg)) × Valid s.homes me.1 a × Linked room list (stepped s i n id me.1 w a) × then (w, carried_after me.1 a)

module _ (room : ℕ) (list : List Msg) (some_room : 0 < room) (small : length list < 2 ^ 62) (s : RingState) where
  abbrev lies : ℕ → Option Msg
  lies k = slice_get list k

  abbrev none_lies : ℕ → Option Msg
  none_lies k = None

  -- the producer looks, and takes no slot
  head_seen : (n : ℕ) (cs : Slots) (r : Running room list s) → n ≡ slice_index s.words head_at → n ≡ word r.c.count r.c.left → Linked room list (stepped s head_at n 0 cs (looked r.p n) keeps)
  head_seen n cs r at reported =
      let begins = r.begins in
      let emptying = r.emptying in (
        some_room,
        small,
        inr record {
          p = looked r.p n;
          c = r.c;
          views = ap (λ vs. slice_set vs 0 (looked r.p n)) r.views;
          producer = r.producer;
          consumer = r.consumer;
          words = ap (λ k. slice_set s.words head_at k) at ∙ ap (λ ws. slice_set ws head_at (slice_index ws head_at)) r.words;
          emptying = r.emptying;
          filling = r.filling;
          begins = r.begins;
          p_saw = saw_again r.p.seen n r.c.count r.c.left (omega arith) reported r.p_saw;
          c_saw = r.c_saw;
          p_last = was_now n r.c.count r.c.left (omega arith) reported;
          c_last = r.c_last;
          stored = r.stored;
          free = r.free;
        },
      )

  -- the head counts no fewer messages than before
  head_later : (n : ℕ) (r : Running room list s) → n ≡ word r.c.count r.c.left → IsLater r.p n
  head_later n r reported =
      let begins = r.begins in
      let emptying = r.emptying in
      let heard = r.p_last.0 in
      let lists = ap length r.producer.2 in
      let num : number n ≡ r.c.count = ap number reported ∙ number_word r.c.count r.c.left (omega arith) in
      (omega arith, omega arith)

  -- no more was taken than was put
  head_put : (n : ℕ) (r : Running room list s) → n ≡ word r.c.count r.c.left → number n ≤ r.p.count
  head_put n r reported =
      let begins = r.begins in
      let emptying = r.emptying in
      let num : number n ≡ r.c.count = ap number reported ∙ number_word r.c.count r.c.left (omega arith) in
      omega arith

  head_looks : (n : ℕ) (cs : Slots) (r : Running room list s) → n ≡ slice_index s.words head_at → n ≡ word r.c.count r.c.left → Goes room list s (r.p, cs) head_at n (λ m. Looked (r.p, cs) n m × IsFinal r.p.seen n) 0
  head_looks n cs r at reported = (looked r.p n, keeps, tt, head_seen n cs r at reported, ((refl, head_later n r reported), saw_final r.p.seen n r.c.count r.c.left reported r.p_saw))

  -- the producer found the ring full
  head_full : (n : ℕ) (cs : Slots) (r : Running room list s) → n ≡ slice_index s.words head_at → n ≡ word r.c.count r.c.left → r.p.count ≡ number n + r.p.room → Goes room list s (r.p, cs) head_at n (λ m. SawHead (r.p, cs) n m × IsFinal r.p.seen n) 0
  head_full n cs r at reported full = (looked r.p n, keeps, tt, head_seen n cs r at reported, ((head_later n r reported, inl (full, refl), head_put n r reported), saw_final r.p.seen n r.c.count r.c.left reported r.p_saw))

  -- the slots of all messages for which there is room, where the producer's own came back
  all_free : (r : Running room list s) → length s.homes ≡ room → (k : ℕ) → r.p.count ≤ k → k < r.c.count + room → get_elem? (with_back s.homes (free_slots room r.p.count r.p.held)) (k % room) ≡ some (some None)
  all_free r len k lo hi = by_place (dec_lt k (r.p.count + r.p.held))
    where
      by_place : Dec (k < r.p.count + r.p.held) → get_elem? (with_back s.homes (free_slots room r.p.count r.p.held)) (k % room) ≡ some (some None)
      by_place (yes own) =
          let emptying = r.emptying in
          let filling = r.filling in
          let bound : k % room < room = mod-lt k some_room in
          back_here none_lies room s.homes r.p.count r.p.held k (omega arith) lo own (omega arith)
      by_place (no other) =
          let emptying = r.emptying in
          back_else none_lies room s.homes r.p.count r.p.held (k % room) (λ i from to. later_slot room i k (omega (arith, other)) (omega arith)) ∙ r.free k (omega (arith, other)) hi

  -- the producer found room, and has all slots that are free
  head_room : (n : ℕ) (r : Running room list s) → length s.homes ≡ room → n ≡ slice_index s.words head_at → n ≡ word r.c.count r.c.left → number n ≡ r.c.count → r.p.count < number n + r.p.room
      → Goes room list s (r.p, free_slots room r.p.count r.p.held) head_at n (λ m. SawHead (r.p, free_slots room r.p.count r.p.held) n m × IsFinal r.p.seen n) 0
  head_room n r len at reported num ne =
      let more = number n + r.p.room - r.p.count in
      let w = readied r.p n more in
      let xs = free_slots room r.p.count r.p.held in
      let ys = free_slots room r.p.count more in
      let emptying = r.emptying in
      let filling = r.filling in
      let begins = r.begins in
      let room_is = r.producer.1 in (
        w,
        passing xs ys,
        may_pass s.homes xs ys (are_home none_lies room (with_back s.homes xs) r.p.count more (omega arith) (λ i lo hi. all_free r len i lo (omega arith))),
        (
          some_room,
          small,
          inr record {
            p = w;
            c = r.c;
            views = ap (λ vs. slice_set vs 0 w) r.views;
            producer = r.producer;
            consumer = r.consumer;
            words = ap (λ k. slice_set s.words head_at k) at ∙ ap (λ ws. slice_set ws head_at (slice_index ws head_at)) r.words;
            emptying = r.emptying;
            filling = omega arith;
            begins = r.begins;
            p_saw = saw_again r.p.seen n r.c.count r.c.left (omega arith) reported r.p_saw;
            c_saw = r.c_saw;
            p_last = was_now n r.c.count r.c.left (omega arith) reported;
            c_last = r.c_last;
            stored = λ k lo hi.
                ap (λ hs. get_elem? hs (k % room)) (passed_homes s.homes xs ys)
                ∙ taken_else none_lies room (with_back s.homes xs) r.p.count more (k % room) (λ i from to. earlier_slot room k i (omega arith) (omega arith))
                ∙ back_else none_lies room s.homes r.p.count r.p.held (k % room) (λ i from to. earlier_slot room k i (omega arith) (omega arith))
                ∙ r.stored k lo hi;
            free = λ k lo hi. absurd (omega arith);
          },
        ),
        ((head_later n r reported, inr (ne, λ i. (w, (passed_slots xs ys ∙ ap (λ m. free_slots m r.p.count more) (sym room_is)) i)), head_put n r reported), saw_final r.p.seen n r.c.count r.c.left reported r.p_saw),
      )

  -- the slots after the producer gave back its own, k of them with messages
  abbrev filled : (r : Running room list s) → ℕ → Slots
  filled r k = free_slots room (r.p.count + k) (r.p.held - k) ++ full_slots list room r.p.count k

  filled_before : (r : Running room list s) (k : ℕ) → k ≤ r.p.held → (j : ℕ) → r.c.count + r.c.held ≤ j → j < r.p.count → get_elem? (with_back s.homes (filled r k)) (j % room) ≡ some (some (slice_get list j))
  filled_before r k few j lo hi =
      let filling = r.filling in
      let rest = free_slots room (r.p.count + k) (r.p.held - k) in
      ap (λ hs. get_elem? hs (j % room)) (with_back_append s.homes rest (full_slots list room r.p.count k))
      ∙ back_else lies room (with_back s.homes rest) r.p.count k (j % room) (λ i from to. earlier_slot room j i (omega arith) (omega arith))
      ∙ back_else none_lies room s.homes (r.p.count + k) (r.p.held - k) (j % room) (λ i from to. earlier_slot room j i (omega arith) (omega arith))
      ∙ r.stored j lo hi

  filled_here : (r : Running room list s) (k : ℕ) → length s.homes ≡ room → k ≤ r.p.held → (j : ℕ) → r.p.count ≤ j → j < r.p.count + k → get_elem? (with_back s.homes (filled r k)) (j % room) ≡ some (some (slice_get list j))
  filled_here r k len few j lo hi =
      let filling = r.filling in
      let emptying = r.emptying in
      let rest = free_slots room (r.p.count + k) (r.p.held - k) in
      let bound : j % room < room = mod-lt j some_room in
      let long = with_back_length s.homes rest in
      ap (λ hs. get_elem? hs (j % room)) (with_back_append s.homes rest (full_slots list room r.p.count k))
      ∙ back_here lies room (with_back s.homes rest) r.p.count k j (omega arith) lo hi (omega arith)

  filled_behind : (r : Running room list s) (k : ℕ) → length s.homes ≡ room → k ≤ r.p.held → (j : ℕ) → r.p.count + k ≤ j → j < r.c.count + room → get_elem? (with_back s.homes (filled r k)) (j % room) ≡ some (some None)
  filled_behind r k len few j lo hi =
      let emptying = r.emptying in
      let rest = free_slots room (r.p.count + k) (r.p.held - k) in
      ap (λ hs. get_elem? hs (j % room)) (with_back_append s.homes rest (full_slots list room r.p.count k))
      ∙ back_else lies room (with_back s.homes rest) r.p.count k (j % room) (λ i from to. later_slot room i j (omega arith) (omega arith))
      ∙ by_place (dec_lt j (r.p.count + r.p.held))
    where
      by_place : Dec (j < r.p.count + r.p.held) → get_elem? (with_back s.homes (free_slots room (r.p.count + k) (r.p.held - k))) (j % room) ≡ some (some None)
      by_place (yes own) =
          let emptying = r.emptying in
          let filling = r.filling in
          let bound : j % room < room = mod-lt j some_room in
          back_here none_lies room s.homes (r.p.count + k) (r.p.held - k) j (omega arith) lo (omega arith) (omega arith)
      by_place (no other) =
          let emptying = r.emptying in
          back_else none_lies room s.homes (r.p.count + k) (r.p.held - k) (j % room) (λ i from to. later_slot room i j (omega (arith, other)) (omega arith)) ∙ r.free j (omega (arith, other)) hi

  -- the producer gave k slots back with messages, and has those behind them still
  tail_moves : (k : ℕ) (r : Running room list s) → length s.homes ≡ room → k ≤ r.p.held → r.p.left ≡ false → r.p.count + k ≤ length list → Goes room list s (r.p, filled r k) tail_at (r.p.count + k) (MovedTail r.p k) 0
  tail_moves k r len few here_yet within =
      let w = moved r.p k in
      let xs = filled r k in
      let ys = free_slots room (r.p.count + k) (r.p.held - k) in
      let emptying = r.emptying in
      let filling = r.filling in
      let begins = r.begins in
      let room_is = r.producer.1 in (
        w,
        passing xs ys,
        may_pass s.homes xs ys (are_home none_lies room (with_back s.homes xs) (r.p.count + k) (r.p.held - k) (omega arith) (λ i lo hi. filled_behind r k len few i lo (omega arith))),
        (
          some_room,
          small,
          inr record {
            p = w;
            c = r.c;
            views = ap (λ vs. slice_set vs 0 w) r.views;
            producer = r.producer;
            consumer = r.consumer;
            words = ap (λ ws. slice_set ws tail_at (r.p.count + k)) r.words ∙ ap (λ b. words_of (word (r.p.count + k) b) (word r.c.count r.c.left)) (sym here_yet);
            emptying = omega arith;
            filling = omega arith;
            begins = within;
            p_saw = r.p_saw;
            c_saw = saw_moved r.c.seen r.p.count k r.p.left (omega arith) here_yet r.c_saw;
            p_last = r.p_last;
            c_last = was_moved r.c.last r.p.count k r.p.left (omega arith) here_yet r.c_last;
            stored = λ j lo hi.
                ap (λ hs. get_elem? hs (j % room)) (passed_homes s.homes xs ys)
                ∙ taken_else none_lies room (with_back s.homes xs) (r.p.count + k) (r.p.held - k) (j % room) (λ i from to. earlier_slot room j i (omega arith) (omega arith))
                ∙ either_way (dec_lt j r.p.count) (λ before. filled_before r k few j lo before) (λ behind. filled_here r k len few j (omega (arith, behind)) hi);
            free = λ j lo hi.
                ap (λ hs. get_elem? hs (j % room)) (passed_homes s.homes xs ys)
                ∙ taken_else none_lies room (with_back s.homes xs) (r.p.count + k) (r.p.held - k) (j % room) (λ i from to. later_slot room i j (omega arith) (omega arith))
                ∙ filled_behind r k len few j (omega arith) hi;
          },
        ),
        λ i. (w, (passed_slots xs ys ∙ ap (λ m. free_slots m (r.p.count + k) (r.p.held - k)) (sym room_is)) i),
      )

  -- the consumer looks, and takes no slot
  tail_seen : (n : ℕ) (cs : Slots) (r : Running room list s) → n ≡ slice_index s.words tail_at → n ≡ word r.p.count r.p.left → Linked room list (stepped s tail_at n 1 cs (looked r.c n) keeps)
  tail_seen n cs r at reported =
      let begins = r.begins in (
        some_room,
        small,
        inr record {
          p = r.p;
          c = looked r.c n;
          views = ap (λ vs. slice_set vs 1 (looked r.c n)) r.views;
          producer = r.producer;
          consumer = r.consumer;
          words = ap (λ k. slice_set s.words tail_at k) at ∙ ap (λ ws. slice_set ws tail_at (slice_index ws tail_at)) r.words;
          emptying = r.emptying;
          filling = r.filling;
          begins = r.begins;
          p_saw = r.p_saw;
          c_saw = saw_again r.c.seen n r.p.count r.p.left (omega arith) reported r.c_saw;
          p_last = r.p_last;
          c_last = was_now n r.p.count r.p.left (omega arith) reported;
          stored = r.stored;
          free = r.free;
        },
      )

  -- the tail counts no fewer messages than before
  tail_later : (n : ℕ) (r : Running room list s) → n ≡ word r.p.count r.p.left → IsLater r.c n
  tail_later n r reported =
      let begins = r.begins in
      let heard = r.c_last.0 in
      let lists = ap length r.consumer.2 in
      let num : number n ≡ r.p.count = ap number reported ∙ number_word r.p.count r.p.left (omega arith) in
      (omega arith, omega arith)

  -- no more stands in the ring than there is room for
  tail_room : (n : ℕ) (r : Running room list s) → n ≡ word r.p.count r.p.left → number n ≤ r.c.count + r.c.room
  tail_room n r reported =
      let begins = r.begins in
      let filling = r.filling in
      let cap = r.consumer.1 in
      let num : number n ≡ r.p.count = ap number reported ∙ number_word r.p.count r.p.left (omega arith) in
      omega arith

  tail_looks : (n : ℕ) (cs : Slots) (r : Running room list s) → n ≡ slice_index s.words tail_at → n ≡ word r.p.count r.p.left → Goes room list s (r.c, cs) tail_at n (λ m. Looked (r.c, cs) n m × IsFinal r.c.seen n) 1
  tail_looks n cs r at reported = (looked r.c n, keeps, tt, tail_seen n cs r at reported, ((refl, tail_later n r reported), saw_final r.c.seen n r.p.count r.p.left reported r.c_saw))

  -- the consumer found the ring empty
  tail_empty : (n : ℕ) (cs : Slots) (r : Running room list s) → n ≡ slice_index s.words tail_at → n ≡ word r.p.count r.p.left → r.c.count ≡ number n → Goes room list s (r.c, cs) tail_at n (λ m. SawTail (r.c, cs) n m × IsFinal r.c.seen n) 1
  tail_empty n cs r at reported none = (looked r.c n, keeps, tt, tail_seen n cs r at reported, ((tail_later n r reported, inl (none, refl), tail_room n r reported), saw_final r.c.seen n r.p.count r.p.left reported r.c_saw))

  -- the slots of all messages that were put, where the consumer's own came back
  all_stored : (r : Running room list s) → length s.homes ≡ room → (k : ℕ) → r.c.count ≤ k → k < r.p.count → get_elem? (with_back s.homes (full_slots list room r.c.count r.c.held)) (k % room) ≡ some (some (slice_get list k))
  all_stored r len k lo hi = by_place (dec_lt k (r.c.count + r.c.held))
    where
      by_place : Dec (k < r.c.count + r.c.held) → get_elem? (with_back s.homes (full_slots list room r.c.count r.c.held)) (k % room) ≡ some (some (slice_get list k))
      by_place (yes own) =
          let emptying = r.emptying in
          let filling = r.filling in
          let bound : k % room < room = mod-lt k some_room in
          back_here lies room s.homes r.c.count r.c.held k (omega arith) lo own (omega arith)
      by_place (no other) =
          let filling = r.filling in
          back_else lies room s.homes r.c.count r.c.held (k % room) (λ i from to. later_slot room i k (omega (arith, other)) (omega arith)) ∙ r.stored k (omega (arith, other)) hi

  -- the consumer found messages, and has the slots of all that were put
  tail_ready : (n : ℕ) (r : Running room list s) → length s.homes ≡ room → n ≡ slice_index s.words tail_at → n ≡ word r.p.count r.p.left → number n ≡ r.p.count → r.c.count < number n
      → Goes room list s (r.c, full_slots list room r.c.count r.c.held) tail_at n (λ m. SawTail (r.c, full_slots list room r.c.count r.c.held) n m × IsFinal r.c.seen n) 1
  tail_ready n r len at reported num ne =
      let more = number n - r.c.count in
      let w = readied r.c n more in
      let xs = full_slots list room r.c.count r.c.held in
      let ys = full_slots list room r.c.count more in
      let emptying = r.emptying in
      let filling = r.filling in
      let begins = r.begins in (
        w,
        passing xs ys,
        may_pass s.homes xs ys (are_home lies room (with_back s.homes xs) r.c.count more (omega arith) (λ i lo hi. all_stored r len i lo (omega arith))),
        (
          some_room,
          small,
          inr record {
            p = r.p;
            c = w;
            views = ap (λ vs. slice_set vs 1 w) r.views;
            producer = r.producer;
            consumer = r.consumer;
            words = ap (λ k. slice_set s.words tail_at k) at ∙ ap (λ ws. slice_set ws tail_at (slice_index ws tail_at)) r.words;
            emptying = omega arith;
            filling = r.filling;
            begins = r.begins;
            p_saw = r.p_saw;
            c_saw = saw_again r.c.seen n r.p.count r.p.left (omega arith) reported r.c_saw;
            p_last = r.p_last;
            c_last = was_now n r.p.count r.p.left (omega arith) reported;
            stored = λ k lo hi. absurd (omega arith);
            free = λ k lo hi.
                ap (λ hs. get_elem? hs (k % room)) (passed_homes s.homes xs ys)
                ∙ taken_else lies room (with_back s.homes xs) r.c.count more (k % room) (λ i from to. later_slot room i k (omega arith) (omega arith))
                ∙ back_else lies room s.homes r.c.count r.c.held (k % room) (λ i from to. later_slot room i k (omega arith) (omega arith))
                ∙ r.free k lo hi;
          },
        ),
        ((tail_later n r reported, inr (ne, λ i. (w, (passed_slots xs ys ∙ (λ j. full_slots (sym r.consumer.2 j) (sym r.consumer.1 j) r.c.count more)) i)), tail_room n r reported), saw_final r.c.seen n r.p.count r.p.left reported r.c_saw),
      )

  -- the slots after the consumer gave back its own, k of them free
  abbrev emptied : (r : Running room list s) → ℕ → Slots
  emptied r k = full_slots list room (r.c.count + k) (r.c.held - k) ++ free_slots room r.c.count k

  emptied_behind : (r : Running room list s) (k : ℕ) → length s.homes ≡ room → k ≤ r.c.held → (j : ℕ) → r.c.count + k ≤ j → j < r.p.count → get_elem? (with_back s.homes (emptied r k)) (j % room) ≡ some (some (slice_get list j))
  emptied_behind r k len few j lo hi =
      let filling = r.filling in
      let rest = full_slots list room (r.c.count + k) (r.c.held - k) in
      ap (λ hs. get_elem? hs (j % room)) (with_back_append s.homes rest (free_slots room r.c.count k))
      ∙ back_else none_lies room (with_back s.homes rest) r.c.count k (j % room) (λ i from to. later_slot room i j (omega arith) (omega arith))
      ∙ by_place (dec_lt j (r.c.count + r.c.held))
    where
      by_place : Dec (j < r.c.count + r.c.held) → get_elem? (with_back s.homes (full_slots list room (r.c.count + k) (r.c.held - k))) (j % room) ≡ some (some (slice_get list j))
      by_place (yes own) =
          let emptying = r.emptying in
          let filling = r.filling in
          let bound : j % room < room = mod-lt j some_room in
          back_here lies room s.homes (r.c.count + k) (r.c.held - k) j (omega arith) lo (omega arith) (omega arith)
      by_place (no other) =
          let filling = r.filling in
          back_else lies room s.homes (r.c.count + k) (r.c.held - k) (j % room) (λ i from to. later_slot room i j (omega (arith, other)) (omega arith)) ∙ r.stored j (omega (arith, other)) hi

  emptied_free : (r : Running room list s) (k : ℕ) → length s.homes ≡ room → k ≤ r.c.held → (j : ℕ) → r.p.count + r.p.held ≤ j → j < r.c.count + k + room → get_elem? (with_back s.homes (emptied r k)) (j % room) ≡ some (some None)
  emptied_free r k len few j lo hi =
      ap (λ hs. get_elem? hs (j % room)) (with_back_append s.homes rest (free_slots room r.c.count k)) ∙ by_place (dec_lt j (r.c.count + room))
    where
      rest : Slots
      rest = full_slots list room (r.c.count + k) (r.c.held - k)

      by_place : Dec (j < r.c.count + room) → get_elem? (with_back (with_back s.homes rest) (free_slots room r.c.count k)) (j % room) ≡ some (some None)
      by_place (yes before) =
          let emptying = r.emptying in
          let filling = r.filling in
          back_else none_lies room (with_back s.homes rest) r.c.count k (j % room) (λ i from to. later_slot room i j (omega arith) (omega arith))
          ∙ back_else lies room s.homes (r.c.count + k) (r.c.held - k) (j % room) (λ i from to. later_slot room i j (omega arith) (omega arith))
          ∙ r.free j lo before
      by_place (no behind) =
          let emptying = r.emptying in
          let filling = r.filling in
          let turn : j ≡ j - room + room = omega (arith, behind) in
          let there : j % room ≡ (j - room) % room = ap (λ m. m % room) turn ∙ add-mod_right (j - room) room in
          let bound : (j - room) % room < room = mod-lt (j - room) some_room in
          let long = with_back_length s.homes rest in
          ap (λ m. get_elem? (with_back (with_back s.homes rest) (free_slots room r.c.count k)) m) there
          ∙ back_here none_lies room (with_back s.homes rest) r.c.count k (j - room) (omega arith) (omega (arith, behind)) (omega arith) (omega arith)

  -- the consumer gave k slots back, and has those behind them still
  head_moves : (k : ℕ) (r : Running room list s) → length s.homes ≡ room → k ≤ r.c.held → r.c.left ≡ false → Goes room list s (r.c, emptied r k) head_at (r.c.count + k) (MovedHead r.c k) 1
  head_moves k r len few here_yet =
      let w = moved r.c k in
      let xs = emptied r k in
      let ys = full_slots list room (r.c.count + k) (r.c.held - k) in
      let emptying = r.emptying in
      let filling = r.filling in
      let begins = r.begins in (
        w,
        passing xs ys,
        may_pass s.homes xs ys (are_home lies room (with_back s.homes xs) (r.c.count + k) (r.c.held - k) (omega arith) (λ i lo hi. emptied_behind r k len few i lo (omega arith))),
        (
          some_room,
          small,
          inr record {
            p = r.p;
            c = w;
            views = ap (λ vs. slice_set vs 1 w) r.views;
            producer = r.producer;
            consumer = r.consumer;
            words = ap (λ ws. slice_set ws head_at (r.c.count + k)) r.words ∙ ap (λ b. words_of (word r.p.count r.p.left) (word (r.c.count + k) b)) (sym here_yet);
            emptying = omega arith;
            filling = omega arith;
            begins = r.begins;
            p_saw = saw_moved r.p.seen r.c.count k r.c.left (omega arith) here_yet r.p_saw;
            c_saw = r.c_saw;
            p_last = was_moved r.p.last r.c.count k r.c.left (omega arith) here_yet r.p_last;
            c_last = r.c_last;
            stored = λ j lo hi.
                ap (λ hs. get_elem? hs (j % room)) (passed_homes s.homes xs ys)
                ∙ taken_else lies room (with_back s.homes xs) (r.c.count + k) (r.c.held - k) (j % room) (λ i from to. later_slot room i j (omega arith) (omega arith))
                ∙ emptied_behind r k len few j (omega arith) hi;
            free = λ j lo hi.
                ap (λ hs. get_elem? hs (j % room)) (passed_homes s.homes xs ys)
                ∙ taken_else lies room (with_back s.homes xs) (r.c.count + k) (r.c.held - k) (j % room) (λ i from to. later_slot room i j (omega arith) (omega arith))
                ∙ emptied_free r k len few j lo hi;
          },
        ),
        λ i. (w, (passed_slots xs ys ∙ (λ j. full_slots (sym r.consumer.2 j) (sym r.consumer.1 j) (r.c.count + k) (r.c.held - k))) i),
      )

  tail_leaves : (cs : Slots) (r : Running room list s) → r.p.left ≡ false → Goes room list s (r.p, cs) tail_at (r.p.count + top) (Left (r.p, cs)) 0
  tail_leaves cs r here_yet =
      let w = departed r.p in
      let begins = r.begins in (
        w,
        keeps,
        tt,
        (
          some_room,
          small,
          inr record {
            p = w;
            c = r.c;
            views = ap (λ vs. slice_set vs 0 w) r.views;
            producer = r.producer;
            consumer = r.consumer;
            words = ap (λ ws. slice_set ws tail_at (r.p.count + top)) r.words;
            emptying = r.emptying;
            filling = r.filling;
            begins = r.begins;
            p_saw = r.p_saw;
            c_saw = saw_left r.c.seen r.p.count r.p.left (omega arith) here_yet r.c_saw;
            p_last = r.p_last;
            c_last = was_left r.c.last r.p.count r.p.left (omega arith) here_yet r.c_last;
            stored = r.stored;
            free = r.free;
          },
        ),
        refl,
      )

  head_leaves : (cs : Slots) (r : Running room list s) → r.c.left ≡ false → Goes room list s (r.c, cs) head_at (r.c.count + top) (Left (r.c, cs)) 1
  head_leaves cs r here_yet =
      let w = departed r.c in
      let begins = r.begins in
      let emptying = r.emptying in (
        w,
        keeps,
        tt,
        (
          some_room,
          small,
          inr record {
            p = r.p;
            c = w;
            views = ap (λ vs. slice_set vs 1 w) r.views;
            producer = r.producer;
            consumer = r.consumer;
            words = ap (λ ws. slice_set ws head_at (r.c.count + top)) r.words;
            emptying = r.emptying;
            filling = r.filling;
            begins = r.begins;
            p_saw = saw_left r.p.seen r.c.count r.c.left (omega arith) here_yet r.p_saw;
            c_saw = r.c_saw;
            p_last = was_left r.p.last r.c.count r.c.left (omega arith) here_yet r.p_last;
            c_last = r.c_last;
            stored = r.stored;
            free = r.free;
          },
        ),
        refl,
      )

module _ {room : ℕ} {list : List Msg} where
  head_final : (s : RingState) (r : Running room list s) → slice_index s.words head_at ≡ word r.c.count r.c.left
  head_final s r = ap (λ ws. slice_index ws head_at) r.words

  tail_final : (s : RingState) (r : Running room list s) → slice_index s.words tail_at ≡ word r.p.count r.p.left
  tail_final s r = ap (λ ws. slice_index ws tail_at) r.words

-- Each step, at any moment:

pub sees_head : (room : ℕ) (list : List Msg) (slots id : ℕ) (me : Me (Option Msg) EndState) → me.1 ≡ free_slots me.0.room me.0.count me.0.held → slots ≡ room → me.0.role ≡ Producer → Allows (Linked room list) slots id me head_at (λ n. n) (λ n w. SawHead me n w × IsFinal me.0.seen n)
sees_head room list slots id me has all is s h len at fits =
    let who = producers room list s id me.0 is h.2 at in
    let n = slice_index s.words head_at in
    let mine : (who.0.p, free_slots room who.0.p.count who.0.p.held) ≡ me = λ i. (who.2 i, ((λ j. free_slots (sym who.0.producer.1 j) who.0.p.count who.0.p.held) ∙ ap (λ (u : EndState). free_slots u.room u.count u.held) who.2 ∙ sym has) i) in
    subst (λ (y : ℕ × Me (Option Msg) EndState). Goes room list s y.1 head_at n (λ m. SawHead y.1 n m × IsFinal y.1.0.seen n) y.0) (λ i. (sym who.1 i, mine i))
    (by_cases s who.0 h.0 h.1 (len ∙ all) (ℕ_discrete who.0.p.count (number n + who.0.p.room)))
  where
    by_cases : (s : RingState) (r : Running room list s) → 0 < room → length list < 2 ^ 62 → length s.homes ≡ room → Dec (r.p.count ≡ number (slice_index s.words head_at) + r.p.room)
        → Goes room list s (r.p, free_slots room r.p.count r.p.held) head_at (slice_index s.words head_at) (λ m. SawHead (r.p, free_slots room r.p.count r.p.held) (slice_index s.words head_at) m × IsFinal r.p.seen (slice_index s.words head_at)) 0
    by_cases s r some_room small long (yes full) = head_full room list some_room small s _ _ r refl (head_final s r) full
    by_cases s r some_room small long (no ne) =
        let emptying = r.emptying in
        let filling = r.filling in
        let begins = r.begins in
        let cap = r.producer.1 in
        let num : number (slice_index s.words head_at) ≡ r.c.count = ap (λ ws. number (slice_index ws head_at)) r.words ∙ number_word r.c.count r.c.left (omega arith) in
        head_room room list some_room small s _ r long refl (head_final s r) num (omega (arith, ne))

pub sees_tail : (room : ℕ) (list : List Msg) (slots id : ℕ) (me : Me (Option Msg) EndState) → me.1 ≡ full_slots me.0.list me.0.room me.0.count me.0.held → slots ≡ room → me.0.role ≡ Consumer → Allows (Linked room list) slots id me tail_at (λ n. n) (λ n w. SawTail me n w × IsFinal me.0.seen n)
sees_tail room list slots id me has all is s h len at fits =
    let who = consumers room list s id me.0 is h.2 at in
    let n = slice_index s.words tail_at in
    let mine : (who.0.c, full_slots list room who.0.c.count who.0.c.held) ≡ me = λ i. (who.2 i, ((λ j. full_slots (sym who.0.consumer.2 j) (sym who.0.consumer.1 j) who.0.c.count who.0.c.held) ∙ ap (λ (u : EndState). full_slots u.list u.room u.count u.held) who.2 ∙ sym has) i) in
    subst (λ (y : ℕ × Me (Option Msg) EndState). Goes room list s y.1 tail_at n (λ m. SawTail y.1 n m × IsFinal y.1.0.seen n) y.0) (λ i. (sym who.1 i, mine i))
    (by_cases s who.0 h.0 h.1 (len ∙ all) (ℕ_discrete who.0.c.count (number n)))
  where
    by_cases : (s : RingState) (r : Running room list s) → 0 < room → length list < 2 ^ 62 → length s.homes ≡ room → Dec (r.c.count ≡ number (slice_index s.words tail_at))
        → Goes room list s (r.c, full_slots list room r.c.count r.c.held) tail_at (slice_index s.words tail_at) (λ m. SawTail (r.c, full_slots list room r.c.count r.c.held) (slice_index s.words tail_at) m × IsFinal r.c.seen (slice_index s.words tail_at)) 1
    by_cases s r some_room small long (yes none) = tail_empty room list some_room small s _ _ r refl (tail_final s r) none
    by_cases s r some_room small long (no ne) =
        let emptying = r.emptying in
        let begins = r.begins in
        let num : number (slice_index s.words tail_at) ≡ r.p.count = ap (λ ws. number (slice_index ws tail_at)) r.words ∙ number_word r.p.count r.p.left (omega arith) in
        tail_ready room list some_room small s _ r long refl (tail_final s r) num (omega (arith, ne))

pub moves_tail : (room : ℕ) (list : List Msg) (slots id new k : ℕ) (me : Me (Option Msg) EndState) → me.1 ≡ free_slots room (me.0.count + k) (me.0.held - k) ++ full_slots list room me.0.count k → new ≡ me.0.count + k → k ≤ me.0.held → me.0.count + k ≤ length list → slots ≡ room → me.0.role ≡ Producer → me.0.left ≡ false
    → Allows (Linked room list) slots id me tail_at (λ _. new) (λ _ w. MovedTail me.0 (new - me.0.count) w)
moves_tail room list slots id new k me has up few within all is here s h len at fits =
    let who = producers room list s id me.0 is h.2 at in
    let p = who.0.p in
    let count : p.count ≡ me.0.count = ap (λ (u : EndState). u.count) who.2 in
    let held : p.held ≡ me.0.held = ap (λ (u : EndState). u.held) who.2 in
    let slots_are : free_slots room (p.count + k) (p.held - k) ++ full_slots list room p.count k ≡ me.1 = ap (λ (u : EndState). free_slots room (u.count + k) (u.held - k) ++ full_slots list room u.count k) who.2 ∙ sym has in
    let passed : k ≡ new - me.0.count = omega arith in
    subst (λ (y : ℕ × (Me (Option Msg) EndState × (ℕ × ℕ))). Goes room list s y.1.0 tail_at y.1.1.0 (MovedTail y.1.0.0 y.1.1.1) y.0)
    (λ i. (sym who.1 i, ((who.2 i, slots_are i), ((ap (λ (u : EndState). u.count + k) who.2 ∙ sym up) i, passed i))))
    (tail_moves room list h.0 h.1 s k who.0 (len ∙ all) (omega arith) (ap (λ (u : EndState). u.left) who.2 ∙ here) (omega arith))

pub moves_head : (room : ℕ) (list : List Msg) (slots id new k : ℕ) (me : Me (Option Msg) EndState) → me.1 ≡ full_slots list room (me.0.count + k) (me.0.held - k) ++ free_slots room me.0.count k → new ≡ me.0.count + k → k ≤ me.0.held → slots ≡ room → me.0.role ≡ Consumer → me.0.left ≡ false
    → Allows (Linked room list) slots id me head_at (λ _. new) (λ _ w. MovedHead me.0 (new - me.0.count) w)
moves_head room list slots id new k me has up few all is here s h len at fits =
    let who = consumers room list s id me.0 is h.2 at in
    let c = who.0.c in
    let held : c.held ≡ me.0.held = ap (λ (u : EndState). u.held) who.2 in
    let slots_are : full_slots list room (c.count + k) (c.held - k) ++ free_slots room c.count k ≡ me.1 = ap (λ (u : EndState). full_slots list room (u.count + k) (u.held - k) ++ free_slots room u.count k) who.2 ∙ sym has in
    let passed : k ≡ new - me.0.count = omega arith in
    subst (λ (y : ℕ × (Me (Option Msg) EndState × (ℕ × ℕ))). Goes room list s y.1.0 head_at y.1.1.0 (MovedHead y.1.0.0 y.1.1.1) y.0)
    (λ i. (sym who.1 i, ((who.2 i, slots_are i), ((ap (λ (u : EndState). u.count + k) who.2 ∙ sym up) i, passed i))))
    (head_moves room list h.0 h.1 s k who.0 (len ∙ all) (omega arith) (ap (λ (u : EndState). u.left) who.2 ∙ here))

pub looks_head : (room : ℕ) (list : List Msg) (slots id : ℕ) (me : Me (Option Msg) EndState) → me.0.role ≡ Producer → Allows (Linked room list) slots id me head_at (λ n. n) (λ n w. Looked me n w × IsFinal me.0.seen n)
looks_head room list slots id me is s h len at fits =
    let who = producers room list s id me.0 is h.2 at in
    let n = slice_index s.words head_at in
    subst (λ (y : ℕ × EndState). Goes room list s (y.1, me.1) head_at n (λ m. Looked (y.1, me.1) n m × IsFinal y.1.seen n) y.0) (λ i. (sym who.1 i, who.2 i))
    (head_looks room list h.0 h.1 s n me.1 who.0 refl (head_final s who.0))

pub looks_tail : (room : ℕ) (list : List Msg) (slots id : ℕ) (me : Me (Option Msg) EndState) → me.0.role ≡ Consumer → Allows (Linked room list) slots id me tail_at (λ n. n) (λ n w. Looked me n w × IsFinal me.0.seen n)
looks_tail room list slots id me is s h len at fits =
    let who = consumers room list s id me.0 is h.2 at in
    let n = slice_index s.words tail_at in
    subst (λ (y : ℕ × EndState). Goes room list s (y.1, me.1) tail_at n (λ m. Looked (y.1, me.1) n m × IsFinal y.1.seen n) y.0) (λ i. (sym who.1 i, who.2 i))
    (tail_looks room list h.0 h.1 s n me.1 who.0 refl (tail_final s who.0))

pub leaves_tail : (room : ℕ) (list : List Msg) (slots id new : ℕ) (me : Me (Option Msg) EndState) → me.0.role ≡ Producer → me.0.left ≡ false → new ≡ me.0.count + top → Allows (Linked room list) slots id me tail_at (λ _. new) (λ _ w. Left me w)
leaves_tail room list slots id new me is here up s h len at fits =
    let who = producers room list s id me.0 is h.2 at in
    subst (λ (y : ℕ × (EndState × ℕ)). Goes room list s (y.1.0, me.1) tail_at y.1.1 (Left (y.1.0, me.1)) y.0) (λ i. (sym who.1 i, (who.2 i, (ap (λ (u : EndState). u.count + top) who.2 ∙ sym up) i)))
    (tail_leaves room list h.0 h.1 s me.1 who.0 (ap (λ (u : EndState). u.left) who.2 ∙ here))

pub leaves_head : (room : ℕ) (list : List Msg) (slots id new : ℕ) (me : Me (Option Msg) EndState) → me.0.role ≡ Consumer → me.0.left ≡ false → new ≡ me.0.count + top → Allows (Linked room list) slots id me head_at (λ _. new) (λ _ w. Left me w)
leaves_head room list slots id new me is here up s h len at fits =
    let who = consumers room list s id me.0 is h.2 at in
    subst (λ (y : ℕ × (EndState × ℕ)). Goes room list s (y.1.0, me.1) head_at y.1.1 (Left (y.1.0, me.1)) y.0) (λ i. (sym who.1 i, (who.2 i, (ap (λ (u : EndState). u.count + top) who.2 ∙ sym up) i)))
    (head_leaves room list h.0 h.1 s me.1 who.0 (ap (λ (u : EndState). u.left) who.2 ∙ here))

-- the first seat is cut in two
pub parts : (room : ℕ) (list : List Msg) (id : ℕ) (v : EndState) → v ≡ fresh room list → Splits (Linked room list) id v (seated Producer v) (seated Consumer v)
parts room list id v is s h at = (
  h.0,
  h.1,
  inr (⊎_elim
      (λ (f : Unused room list s).
      let o = only (fresh room list) v id (ap (λ l. get_elem? l id) (sym f.views) ∙ at) in
      record {
        p = seated Producer v;
        c = seated Consumer v;
        views = ap (λ k. slice_set s.views k (seated Producer v) ++ seated Consumer v ∷ []) o.0 ∙ ap (λ vs. slice_set vs 0 (seated Producer v) ++ seated Consumer v ∷ []) f.views;
        producer = (refl, ap (λ (u : EndState). u.room) is, ap (λ (u : EndState). u.list) is);
        consumer = (refl, ap (λ (u : EndState). u.room) is, ap (λ (u : EndState). u.list) is);
        words = f.words;
        emptying = omega arith;
        filling = omega arith;
        begins = omega arith;
        p_saw = λ k d h. absurd (omega arith);
        c_saw = λ k d h. absurd (omega arith);
        p_last = was_now 0 0 false (omega arith) refl;
        c_last = was_now 0 0 false (omega arith) refl;
        stored = λ k lo hi. absurd (omega arith);
        free = λ k lo hi. ap (λ l. get_elem? l (k % room)) f.homes ∙ at_replicate room (k % room) (mod-lt k h.0);
      })
      (λ (r : Running room list s).
      let none : v.role ≡ Opener = ap (λ (u : EndState). u.role) is in
      let one = r.producer.0 in
      let two = r.consumer.0 in
      ⊎_elim
      (λ (e : (id ≡ 0) × (r.p ≡ v)). let q : Producer ≡ Opener = sym one ∙ ap (λ (u : EndState). u.role) e.1 ∙ none in absurd cc)
      (λ (e : (id ≡ 1) × (r.c ≡ v)). let q : Consumer ≡ Opener = sym two ∙ ap (λ (u : EndState). u.role) e.1 ∙ none in absurd cc)
      (either_of r.p r.c v id (ap (λ l. get_elem? l id) (sym r.views) ∙ at)))
      h.2),
)
