-- Flows that are sure, and some more.
use Rattle.std.proofs.Common.{◌≡◌, ℕ, ◌+◌, ◌<◌, inl, inr, Bool, true, false, List, [], Some, get_or, refl, sym, subst, ◌∙◌, ap, arith}
use Rattle.std.specs.Prelude.{All, slice_get, ◌||◌, ◌&&◌}
use Rattle.std.proofs.lemmas.Bool.{cases_lt}
use Rattle.std.proofs.lemmas.Option.{get_or_from_slice_get}
use Rattle.luflow.specs.declared.form.Flow.{Flow}
use Rattle.luflow.specs.Program.{FlatView, flow_at, places, clock_reads}
use Rattle.lublock_kernels.specs.declared.span.Span.{Span}
use Rattle.lublock_kernels.specs.Parts.{IsPart, knows}
use Rattle.lublock.specs.Boards.{IsSettled, KeepsSettled}
use Rattle.lublock_site.specs.Marks.{marked, marked_part}
use Rattle.lublock_site.specs.Sure.{sure_part, AreSure, IsMarkedMore, ReadsSure}
use Rattle.lublock_site.proofs.Marked.{places_known, clock_known}

pub and_left : (x y : Bool) → x && y ≡ true → x ≡ true
and_left true y h = refl
and_left false y h = h

pub and_right : (x y : Bool) → x && y ≡ true → y ≡ true
and_right true y h = h
and_right false y h = absurd (let e : false ≡ true = h in cc)

pub and_both : (x y : Bool) → x ≡ true → y ≡ true → x && y ≡ true
and_both true y h g = g
and_both false y h g = h

or_none : (x : Bool) → x || false ≡ true → x ≡ true
or_none true h = refl
or_none false h = h

-- a place that is marked, or known by marks alone
pub marked_alone : (sure : List Bool) (r : ℕ) → knows (marked_part sure []) r ≡ true → marked sure r ≡ true
marked_alone sure r h = or_none (marked sure r) h

-- known and sure
both_known : (x y s : Bool) → x || y ≡ true → s ≡ true → (x && s) || (y && s) ≡ true
both_known true y s h g = ap (λ (b : Bool). b || (y && s)) g
both_known false true s h g = g
both_known false false s h g = h

sure_known : (x y s : Bool) → (x && s) || (y && s) ≡ true → s ≡ true
sure_known true true true h = refl
sure_known true true false h = h
sure_known true false s h = (by s h) where
  by : (s : Bool) → s || false ≡ true → s ≡ true
  by true h = refl
  by false h = h
sure_known false true s h = h
sure_known false false s h = absurd (let e : false ≡ true = h in cc)

part_known : (x y s : Bool) → (x && s) || (y && s) ≡ true → x || y ≡ true
part_known true y s h = refl
part_known false true s h = refl
part_known false false s h = h

module _ (own taken : List Bool) where
  pub knows_sure : (sure : List Bool) (r : ℕ) → knows (marked_part own taken) r ≡ true → marked sure r ≡ true → knows (sure_part own taken sure) r ≡ true
  knows_sure sure r known is = both_known (marked own r) (marked taken r) (marked sure r) known is

  pub sure_is : (sure : List Bool) (r : ℕ) → knows (sure_part own taken sure) r ≡ true → marked sure r ≡ true
  sure_is sure r h = sure_known (marked own r) (marked taken r) (marked sure r) h

  pub sure_knows : (sure : List Bool) (r : ℕ) → knows (sure_part own taken sure) r ≡ true → knows (marked_part own taken) r ≡ true
  sure_knows sure r h = part_known (marked own r) (marked taken r) (marked sure r) h

  module _ (flat : FlatView) (is_part : IsPart flat (marked_part own taken)) (old new : List Bool) (flows : List ℕ) (more : IsMarkedMore old new flows) (reads : (k i : ℕ) → slice_get flows k ≡ Some i → ReadsSure flat own new i) (closed : IsPart flat (sure_part own taken old)) where
    -- what these read is known and sure
    now_known : (rs : List ℕ) → All (λ (r : ℕ). knows (marked_part own taken) r ≡ true) rs → All (λ (r : ℕ). marked new r ≡ true) rs → All (λ (r : ℕ). knows (sure_part own taken new) r ≡ true) rs
    now_known rs known sure = λ k d l. knows_sure new (get_or rs k d) (known k d l) (sure k d l)

    still_sure : (rs : List ℕ) → All (λ (r : ℕ). knows (sure_part own taken old) r ≡ true) rs → All (λ (r : ℕ). marked new r ≡ true) rs
    still_sure rs h = λ k d l. more.kept (get_or rs k d) (sure_is old (get_or rs k d) (h k d l))

    alone : (rs : List ℕ) → All (λ (r : ℕ). knows (marked_part new []) r ≡ true) rs → All (λ (r : ℕ). marked new r ≡ true) rs
    alone rs h = λ k d l. marked_alone new (get_or rs k d) (h k d l)

    operands_sure : (i : ℕ) (flow : Flow) → flow_at flat i ≡ Some flow → marked own i ≡ true → marked new i ≡ true → All (λ (r : ℕ). marked new r ≡ true) (places flow.form)
    operands_sure i flow there own_is is = elim (more.added i is) [
      | inl was ↦ still_sure (places flow.form) (closed.operands i flow there (and_both (marked own i) (marked old i) own_is was))
      | inr now ↦ alone (places flow.form) (places_known (knows (marked_part new [])) flow.form ((reads now.0 i now.1).operands flow there own_is))
    ]

    clock_sure : (i : ℕ) (flow : Flow) → flow_at flat i ≡ Some flow → knows (marked_part own taken) i ≡ true → marked new i ≡ true → All (λ (r : ℕ). marked new r ≡ true) (clock_reads flow.clock)
    clock_sure i flow there known is = elim (more.added i is) [
      | inl was ↦ still_sure (clock_reads flow.clock) (closed.clocks i flow there (knows_sure old i known was))
      | inr now ↦ alone (clock_reads flow.clock) (clock_known (knows (marked_part new [])) flow.clock ((reads now.0 i now.1).clock flow there))
    ]

    pub closed_more : IsPart flat (sure_part own taken new)
    closed_more = record {
      operands = λ i flow there both.
          let own_is = and_left (marked own i) (marked new i) both in
          now_known (places flow.form) (is_part.operands i flow there own_is) (operands_sure i flow there own_is (and_right (marked own i) (marked new i) both));
      clocks = λ i flow there both.
          let known = sure_knows new i both in
          now_known (clock_reads flow.clock) (is_part.clocks i flow there known) (clock_sure i flow there known (sure_is new i both));
    }

pub settled_more : (old new : List Bool) (flows : List ℕ) (spans spans' : List Span) → IsMarkedMore old new flows → KeepsSettled spans spans' → ((k i : ℕ) → slice_get flows k ≡ Some i → IsSettled spans' i) → ((i : ℕ) → marked old i ≡ true → IsSettled spans i) → (i : ℕ) → marked new i ≡ true → IsSettled spans' i
settled_more old new flows spans spans' more kept now before i is = elim (more.added i is) [
  | inl was ↦ kept i (before i was)
  | inr there ↦ now there.0 i there.1
]

-- what is sure stays so where what was settled does
pub sure_still : (flat : FlatView) (own taken : List Bool) (spans spans' : List Span) (sure : List Bool) → KeepsSettled spans spans' → AreSure flat own taken spans sure → AreSure flat own taken spans' sure
sure_still flat own taken spans spans' sure kept are = record {
  closed = are.closed;
  settled = λ i is. kept i (are.settled i is);
}

-- no flow is sure yet
pub none_sure : (flat : FlatView) (own taken : List Bool) (spans : List Span) (sure : List Bool) → ((i : ℕ) → marked sure i ≡ false) → AreSure flat own taken spans sure
none_sure flat own taken spans sure none = record {
  closed = record {
    operands = λ i flow there both. absurd (let e : true ≡ false = sym (and_right (marked own i) (marked sure i) both) ∙ none i in cc);
    clocks = λ i flow there both. absurd (let e : true ≡ false = sym (sure_is own taken sure i both) ∙ none i in cc);
  };
  settled = λ i is. absurd (let e : true ≡ false = sym is ∙ none i in cc);
}

-- one flow more of a list is settled
pub settled_next : (spans spans' : List Span) (flows : List ℕ) (k i : ℕ) → slice_get flows k ≡ Some i → KeepsSettled spans spans' → ((j r : ℕ) → j < k → slice_get flows j ≡ Some r → IsSettled spans r) → IsSettled spans' i → (j r : ℕ) → j < k + 1 → slice_get flows j ≡ Some r → IsSettled spans' r
settled_next spans spans' flows k i there kept before here j r l is = elim (cases_lt j k) [
  | inl low ↦ kept r (before j r low is)
  | inr high ↦
      let e : k ≡ j = omega (arith, high, l) in
      let same : i ≡ r = sym (get_or_from_slice_get flows k i 0 there) ∙ ap (λ (m : ℕ). get_or flows m 0) e ∙ get_or_from_slice_get flows j r 0 is in
      subst (IsSettled spans') same here
]
