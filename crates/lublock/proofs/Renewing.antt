-- What a board is made ready with for the next block.
use Rattle.std.proofs.Common.{◌≡◌, ◌≢◌, ℕ, suc, ◌+◌, ◌<◌, ◌≤◌, inl, inr, Bool, true, false, cond, List, Some, None, length, set, get_or, ℤ, refl, sym, subst, ap, ap₂, ◌∙◌, arith}
use Rattle.std.specs.Prelude.{◌||◌, ◌&&◌, not, nat_lt, slice_get, Option, Vec}
use Rattle.std.specs.declared.alloc.Global.{Global}
use Rattle.std.proofs.lemmas.Bool.{cases_lt, cases_eq}
use Rattle.std.proofs.lemmas.Option.{slice_get-get_or, slice_get_past}
use Rattle.luflow.specs.declared.form.Flow.{Flow}
use Rattle.luflow.specs.Program.{FlatView, flow_at}
use Rattle.lublock_kernels.specs.Rows.{word_in}
use Rattle.lublock_kernels.specs.declared.span.Span.{Span}
use Rattle.lublock_kernels.specs.Machine.{IsConstant, ticks_there, upto_there, was_there, known_there, taken_there, ticks_of, upto_of, was_of, known_of, taken_of, row_of, row_there}
use Rattle.lublock_kernels.proofs.Steps.{get_other, get_same}

-- the span of a flow as it is when the next block begins
pub record Renewed (flat : FlatView) (old new : List Span) (r : ℕ) : Type 0 where
  pub was : was_of new r ≡ was_of old r || nat_lt 0 (ticks_of old r)
  pub upto : (n : ℕ) (flow : Flow) → flow_at flat r ≡ Some flow → n < upto_of new r → IsConstant flow.form × (n < ticks_of old r)
  pub known : known_of new r ≡ false
  pub taken : taken_of new r ≡ taken_of old r
  pub none : taken_of new r ≡ true → upto_of new r ≡ 0

pub kept_upto : (b taken : Bool) (ticks n : ℕ) → n < cond (b && not taken) ticks 0 → (b ≡ true) × (n < ticks)
kept_upto true false ticks n l = (refl, l)
kept_upto true true ticks n l = absurd (omega (arith, l))
kept_upto false taken ticks n l = absurd (omega (arith, l))

none_kept : (b taken : Bool) (ticks : ℕ) → taken ≡ true → cond (b && not taken) ticks 0 ≡ 0
none_kept true true ticks is = refl
none_kept true false ticks is = absurd cc
none_kept false taken ticks is = refl

module _ (flat : FlatView) (old : List Span) where
  -- the same span
  renewed_same : (spans new : List Span) (r : ℕ) → slice_get new r ≡ slice_get spans r → Renewed flat old spans r → Renewed flat old new r
  renewed_same spans new r e h = record {
    was = ap was_there e ∙ h.was;
    upto = λ n flow is l. h.upto n flow is (subst (λ (o : Option Span). n < upto_there o) e l);
    known = ap known_there e ∙ h.known;
    taken = ap taken_there e ∙ h.taken;
    none = λ is. ap upto_there e ∙ h.none (sym (ap taken_there e) ∙ is);
  }

  renewed_one : (new : List Span) (i : ℕ) (span next : Span) (stays : Bool) → slice_get new i ≡ Some next → slice_get old i ≡ Some span → next ≡ record { ticks = 0; upto = cond (stays && not span.taken) span.ticks 0; was = span.was || nat_lt 0 span.ticks; known = false; supposed = false; taken = span.taken } → (stays ≡ true → (flow : Flow) → flow_at flat i ≡ Some flow → IsConstant flow.form) → Renewed flat old new i
  renewed_one new i span next stays here there is constant = record {
    was = ap was_there here ∙ ap (λ (s : Span). s.was) is ∙ sym (ap₂ (λ (w : Bool) (t : ℕ). w || nat_lt 0 t) (ap was_there there) (ap ticks_there there));
    upto = λ n flow at l.
        let upto : upto_of new i ≡ cond (stays && not span.taken) span.ticks 0 = ap upto_there here ∙ ap (λ (s : Span). s.upto) is in
        let k = kept_upto stays span.taken span.ticks n (subst (λ (m : ℕ). n < m) upto l) in
        (constant k.0 flow at, subst (λ (m : ℕ). n < m) (sym (ap ticks_there there)) k.1);
    known = ap known_there here ∙ ap (λ (s : Span). s.known) is;
    taken = ap taken_there here ∙ ap (λ (s : Span). s.taken) is ∙ sym (ap taken_there there);
    none = λ on. ap upto_there here ∙ ap (λ (s : Span). s.upto) is ∙ none_kept stays span.taken span.ticks (sym (ap (λ (s : Span). s.taken) is) ∙ sym (ap taken_there here) ∙ on);
  }

  renewed_past : (new : List Span) (r : ℕ) → slice_get old r ≡ None → slice_get new r ≡ None → Renewed flat old new r
  renewed_past new r there here = record {
    was = ap was_there here ∙ sym (ap₂ (λ (w : Bool) (t : ℕ). w || nat_lt 0 t) (ap was_there there) (ap ticks_there there));
    upto = λ n flow at l. absurd (let none : upto_of new r ≡ 0 = ap upto_there here in omega (arith, none, l));
    known = ap known_there here;
    taken = ap taken_there here ∙ sym (ap taken_there there);
    none = λ on. ap upto_there here;
  }

  -- the spans below a number are renewed, and one more
  pub spans_renewed : (spans : List Span) (i : ℕ) (span next : Span) (stays : Bool) → i < length spans → slice_get spans i ≡ Some span → next ≡ record { ticks = 0; upto = cond (stays && not span.taken) span.ticks 0; was = span.was || nat_lt 0 span.ticks; known = false; supposed = false; taken = span.taken } → (stays ≡ true → (flow : Flow) → flow_at flat i ≡ Some flow → IsConstant flow.form) → ((r : ℕ) → r < i → Renewed flat old spans r) → ((r : ℕ) → i ≤ r → slice_get spans r ≡ slice_get old r) → (r : ℕ) → r < i + 1 → Renewed flat old (set spans i next) r
  spans_renewed spans i span next stays inside at is constant done left r l = elim (cases_lt r i) [
    | inl low ↦ renewed_same spans (set spans i next) r (get_other spans i r next (λ e. omega (arith, e, low))) (done r low)
    | inr high ↦
        let e : i ≡ r = omega (arith, high, l) in
        rw (sym e) (renewed_one (set spans i next) i span next stays (get_same spans i next inside) (sym (left i (omega arith)) ∙ at) is constant)
  ]

  pub spans_left : (spans : List Span) (i : ℕ) (next : Span) → ((r : ℕ) → i ≤ r → slice_get spans r ≡ slice_get old r) → (r : ℕ) → i + 1 ≤ r → slice_get (set spans i next) r ≡ slice_get old r
  spans_left spans i next left r l = get_other spans i r next (λ e. omega (arith, e, l)) ∙ left r (omega (arith, l))

  pub all_renewed : (spans : List Span) (i : ℕ) → length spans ≡ length old → length spans ≤ i → ((r : ℕ) → r < i → Renewed flat old spans r) → (r : ℕ) → Renewed flat old spans r
  all_renewed spans i len all done r = elim (cases_lt r i) [
    | inl low ↦ done r low
    | inr high ↦ renewed_past spans r (slice_get_past old r (omega (arith, len, all, high))) (slice_get_past spans r (omega (arith, all, high)))
  ]

-- the words of the last ticks stand first in the rows below a number, and in one row more
module _ (old rows : List (Vec ℤ Global)) (spans : List Span) (i ticks : ℕ) (was new : Vec ℤ Global) where
  pub rows_renewed : i < length rows → was ≡ get_or rows i was → word_in new.items 0 ≡ word_in was.items ticks → ticks ≡ ticks_of spans i → ((r : ℕ) → r < i → word_in (row_of rows r) 0 ≡ word_in (row_of old r) (ticks_of spans r)) → ((r : ℕ) → i ≤ r → row_of rows r ≡ row_of old r) → (r : ℕ) → r < i + 1 → word_in (row_of (set rows i new) r) 0 ≡ word_in (row_of old r) (ticks_of spans r)
  rows_renewed inside is word at done left r l = elim (cases_lt r i) [
    | inl low ↦
        let other : r ≢ i = λ e. omega (arith, e, low) in
        ap (λ (o : Option (Vec ℤ Global)). word_in (row_there o) 0) (get_other rows i r new other) ∙ done r low
    | inr high ↦
        let e : i ≡ r = omega (arith, high, l) in
        let there : row_of rows i ≡ was.items = ap row_there (slice_get-get_or rows i was inside) ∙ ap (λ (v : Vec ℤ Global). v.items) (sym is) in
        let own : word_in (row_of (set rows i new) i) 0 ≡ word_in (row_of old i) (ticks_of spans i) =
        ap (λ (o : Option (Vec ℤ Global)). word_in (row_there o) 0) (get_same rows i new inside)
        ∙ word
        ∙ ap₂ word_in (sym there ∙ left i (omega arith)) at in
        rw (sym e) own
  ]

  pub rows_left : ((r : ℕ) → i ≤ r → row_of rows r ≡ row_of old r) → (r : ℕ) → i + 1 ≤ r → row_of (set rows i new) r ≡ row_of old r
  rows_left left r l =
      let other : r ≢ i = λ e. omega (arith, e, l) in
      ap row_there (get_other rows i r new other) ∙ left r (omega (arith, l))

  pub rows_beside : i < length rows → was ≡ get_or rows i was → ((n : ℕ) → word_in new.items (suc n) ≡ word_in was.items (suc n)) → ((r n : ℕ) → word_in (row_of rows r) (suc n) ≡ word_in (row_of old r) (suc n)) → (r n : ℕ) → word_in (row_of (set rows i new) r) (suc n) ≡ word_in (row_of old r) (suc n)
  rows_beside inside is words beside r n = elim (cases_eq r i) [
    | inl e ↦
        let there : row_of rows i ≡ was.items = ap row_there (slice_get-get_or rows i was inside) ∙ ap (λ (v : Vec ℤ Global). v.items) (sym is) in
        let own : word_in (row_of (set rows i new) i) (suc n) ≡ word_in (row_of old i) (suc n) =
        ap (λ (o : Option (Vec ℤ Global)). word_in (row_there o) (suc n)) (get_same rows i new inside)
        ∙ words n
        ∙ ap (λ (row : List ℤ). word_in row (suc n)) (sym there)
        ∙ beside i n in
        rw e own
    | inr other ↦ ap (λ (o : Option (Vec ℤ Global)). word_in (row_there o) (suc n)) (get_other rows i r new other) ∙ beside r n
  ]
