-- Which flows stay settled, and where one is.
use Rattle.std.proofs.Common.{◌≡◌, ◌≢◌, ℕ, suc, ◌+◌, ◌<◌, ◌≤◌, Bool, true, false, List, length, set, Some, ℤ, refl, sym, subst, ◌∙◌, ap, arith}
use Rattle.std.specs.Prelude.{slice_get, Vec}
use Rattle.std.specs.declared.alloc.Global.{Global}
use Rattle.std.proofs.lemmas.Option.{slice_get_within}
use Rattle.lublock_kernels.specs.Rows.{word_in}
use Rattle.luflow.specs.declared.data.Datum.{Datum}
use Rattle.luflow.specs.declared.form.Form.{Form}
use Rattle.luflow.specs.declared.form.Form.TheVariants.{Input, Constant, Copied, Unary, Binary, If, Pre, Arrow, When, Current, Merge}
use Rattle.luflow.specs.declared.form.Flow.{Flow}
use Rattle.luflow.specs.Program.{FlatView, InputsView, flow_at, column_of}
use Rattle.luflow.specs.Streams.{Streams}
use Rattle.lublock_kernels.specs.declared.span.Span.{Span}
use Rattle.lublock_kernels.specs.Blocks.{Block, datum_at}
use Rattle.lublock_kernels.specs.Parts.{Part}
use Rattle.lublock_kernels.specs.Wholes.{IsWholeAt}
use Rattle.lublock_kernels.specs.Machine.{ticks_there, upto_there, was_there, known_there, supposed_there, ticks_of, upto_of, was_of, known_of, supposed_of, block_of, row_of, Stands, Grows, IsDone, IsClosed, Writes, WritesForm}
use Rattle.lublock_kernels.proofs.Steps.{get_other, get_same, same_place}
use Rattle.lublock_kernels.proofs.Frames.{stands_more}
use Rattle.lublock.specs.Boards.{IsSettled, IsGiven, KeepsSettled, ReadsSame}

-- a changed span, of a flow that is settled then if it was
pub record IsStillSettled (spans : List Span) (i : ℕ) (new : Span) : Type 0 where
  pub still : IsSettled spans i → (new.known ≡ true) × (new.ticks ≤ new.upto) × (new.supposed ≡ false)

module _ (spans : List Span) (i : ℕ) (span : Span) (there : slice_get spans i ≡ Some span) where
  inside : i < length spans
  inside = slice_get_within spans i span there

  pub settled_here : (new : Span) → new.known ≡ true → new.ticks ≤ new.upto → new.supposed ≡ false → IsSettled (set spans i new) i
  settled_here new known all found =
      let here = get_same spans i new inside in
      let a : ticks_of (set spans i new) i ≡ new.ticks = ap ticks_there here in
      let b : upto_of (set spans i new) i ≡ new.upto = ap upto_there here in
      record {
        whole = record { known = ap known_there here ∙ known; all = omega (arith, a, b, all) };
        found = ap supposed_there here ∙ found;
      }

  settled_other : (new : Span) (r : ℕ) → r ≢ i → IsSettled spans r → IsSettled (set spans i new) r
  settled_other new r ne was =
      let e = get_other spans i r new ne in
      let a : ticks_of (set spans i new) r ≡ ticks_of spans r = ap ticks_there e in
      let b : upto_of (set spans i new) r ≡ upto_of spans r = ap upto_there e in
      let all = was.whole.all in
      record {
        whole = record { known = ap known_there e ∙ was.whole.known; all = omega (arith, a, b, all) };
        found = ap supposed_there e ∙ was.found;
      }

  pub settled_set : (new : Span) → IsStillSettled spans i new → KeepsSettled spans (set spans i new)
  settled_set new now r = same_place (λ (r : ℕ). IsSettled spans r → IsSettled (set spans i new) r) i r
      (λ was. let n = now.still was in settled_here new n.0 n.1 n.2)
      (λ ne was. settled_other new r ne was)

  -- the span of a settled flow
  settled_span : IsSettled spans i → (span.known ≡ true) × (span.ticks ≤ span.upto) × (span.supposed ≡ false)
  settled_span was =
      let a : ticks_of spans i ≡ span.ticks = ap ticks_there there in
      let b : upto_of spans i ≡ span.upto = ap upto_there there in
      let all = was.whole.all in
      (sym (ap known_there there) ∙ was.whole.known, omega (arith, a, b, all), sym (ap supposed_there there) ∙ was.found)

  -- ticks are counted of a flow of which they weren't
  pub settled_counted : (new : Span) → span.known ≡ false → KeepsSettled spans (set spans i new)
  settled_counted new off = settled_set new (record { still = λ was. absurd (let e : true ≡ false = sym (settled_span was).0 ∙ off in cc) })

  -- words are supposed of a flow that has none, and isn't idle
  pub settled_supposed : (new : Span) → span.upto ≡ 0 → (span.known ≡ true → 0 < span.ticks) → KeepsSettled spans (set spans i new)
  settled_supposed new none busy = settled_set new (record { still = λ was. absurd (let w = settled_span was in let b = busy w.0 in let l = w.1 in omega (arith, b, l, none)) })

  -- a flow comes further
  pub settled_further : (to : ℕ) → span.upto ≤ to → KeepsSettled spans (set spans i (record { ticks = span.ticks; upto = to; was = span.was; known = span.known; supposed = span.supposed; taken = span.taken }))
  settled_further to more = settled_set (record { ticks = span.ticks; upto = to; was = span.was; known = span.known; supposed = span.supposed; taken = span.taken })
      (record { still = λ was. let w = settled_span was in (w.0, (let l = w.1 in omega (arith, l, more)), w.2) })

  -- what was supposed of a flow is found
  pub settled_found : KeepsSettled spans (set spans i (record { ticks = span.ticks; upto = span.upto; was = span.was; known = span.known; supposed = false; taken = span.taken }))
  settled_found = settled_set (record { ticks = span.ticks; upto = span.upto; was = span.was; known = span.known; supposed = false; taken = span.taken })
      (record { still = λ was. let w = settled_span was in (w.0, w.1, refl) })

-- what was supposed of flow i is what its form asks for
module _ (part : Part) (flat : FlatView) (inputs : InputsView) (σ : Streams) (t len : ℕ) (rows : List (Vec ℤ Global)) (spans : List Span) (i : ℕ) (span : Span) (there : slice_get spans i ≡ Some span) where
  abbrev found : Span
  found = record { ticks = span.ticks; upto = span.upto; was = span.was; known = span.known; supposed = false; taken = span.taken }

  abbrev pub found_spans : List Span
  found_spans = set spans i found

  found_here : slice_get found_spans i ≡ Some found
  found_here = get_same spans i found (slice_get_within spans i span there)

  found_other : (r : ℕ) → r ≢ i → slice_get found_spans r ≡ slice_get spans r
  found_other r ne = get_other spans i r found ne

  found_ticks : (r : ℕ) → ticks_of found_spans r ≡ ticks_of spans r
  found_ticks r = same_place (λ (r : ℕ). ticks_of found_spans r ≡ ticks_of spans r) i r (ap ticks_there found_here ∙ sym (ap ticks_there there)) (λ ne. ap ticks_there (found_other r ne))

  found_upto : (r : ℕ) → upto_of found_spans r ≡ upto_of spans r
  found_upto r = same_place (λ (r : ℕ). upto_of found_spans r ≡ upto_of spans r) i r (ap upto_there found_here ∙ sym (ap upto_there there)) (λ ne. ap upto_there (found_other r ne))

  found_was : (r : ℕ) → was_of found_spans r ≡ was_of spans r
  found_was r = same_place (λ (r : ℕ). was_of found_spans r ≡ was_of spans r) i r (ap was_there found_here ∙ sym (ap was_there there)) (λ ne. ap was_there (found_other r ne))

  found_known : (r : ℕ) → known_of found_spans r ≡ known_of spans r
  found_known r = same_place (λ (r : ℕ). known_of found_spans r ≡ known_of spans r) i r (ap known_there found_here ∙ sym (ap known_there there)) (λ ne. ap known_there (found_other r ne))

  found_grows : Grows (block_of rows spans) (block_of rows found_spans) (upto_of spans) (upto_of found_spans) (known_of spans) (known_of found_spans)
  found_grows = record {
    words = λ r n l. refl;
    ticks = λ r on. found_ticks r;
    was = found_was;
    more = λ r. let e = found_upto r in omega (arith, e);
    still = λ r on. found_known r ∙ on;
  }

  abbrev Found : (ℕ → Bool) → Type 0
  Found supposed = Stands part flat inputs σ t len (block_of rows found_spans) (upto_of found_spans) (known_of found_spans) supposed

  same_stands : Stands part flat inputs σ t len (block_of rows spans) (upto_of spans) (known_of spans) (supposed_of spans) → Found (supposed_of spans)
  same_stands stands =
      stands_more flat inputs t (block_of rows spans) (block_of rows found_spans) (upto_of spans) (upto_of found_spans) (known_of spans) (known_of found_spans) found_grows (supposed_of spans) (supposed_of spans) (λ r is. is) part σ len stands
      (λ j n flow here own now l l'. absurd (let e = found_upto j in omega (arith, e, l, l')))
      (λ j n flow here taken l l'. absurd (let e = found_upto j in omega (arith, e, l, l')))
      (λ j flow here none on. absurd (let f : true ≡ false = sym on ∙ found_known j ∙ none in cc))

  past : (flow : Flow) → IsClosed rows i span.ticks flow.form → ((a : ℕ) → flow.form ≡ Pre a → span.ticks ≤ upto_of spans a) → span.ticks ≡ span.upto → (n : ℕ) → n < upto_of found_spans i → IsDone flat inputs t (block_of rows found_spans) (upto_of found_spans) (known_of found_spans) i flow flow.form n
  past flow closed far all n l =
      let few : n < span.ticks = let e : upto_of found_spans i ≡ span.upto = ap upto_there found_here in omega (arith, e, l, all) in
      let reach : n ≤ upto_of found_spans closed.0 = let e = found_upto closed.0 in let g = far closed.0 closed.1 in omega (arith, e, g, few) in
      subst (λ (form : Form). IsDone flat inputs t (block_of rows found_spans) (upto_of found_spans) (known_of found_spans) i flow form n) (sym closed.1) (closed.2 n few, reach)

  pub found_stands : ((flow : Flow) → flow_at flat i ≡ Some flow → IsClosed rows i span.ticks flow.form) → ((flow : Flow) → flow_at flat i ≡ Some flow → (a : ℕ) → flow.form ≡ Pre a → span.ticks ≤ upto_of spans a) → span.ticks ≡ span.upto
      → Stands part flat inputs σ t len (block_of rows spans) (upto_of spans) (known_of spans) (supposed_of spans) → Found (supposed_of found_spans)
  found_stands closed far all stands =
      let now = same_stands stands in
      record {
        begins = now.begins;
        came = now.came;
        counts = now.counts;
        done = λ j n flow here own is l.
            same_place (λ (j : ℕ). flow_at flat j ≡ Some flow → part.own j ≡ true → supposed_of found_spans j ≡ false → n < upto_of found_spans j → IsDone flat inputs t (block_of rows found_spans) (upto_of found_spans) (known_of found_spans) j flow flow.form n) i j
            (λ here own is l. past flow (closed flow here) (far flow here) all n l)
            (λ ne here own is l. now.done j n flow here own (sym (ap supposed_there (found_other j ne)) ∙ is) l)
            here own is l;
      }

-- the words of a flow are those that its form asks for in each table in which it reads the same
module _ (flat : FlatView) (given table : InputsView) (t : ℕ) (b : Block) (upto : ℕ → ℕ) (known : ℕ → Bool) (i : ℕ) (flow : Flow) (n : ℕ) where
  done_form : (form : Form) → ((c : ℕ) → form ≡ Input c → column_of given c ≡ column_of table c) → IsDone flat given t b upto known i flow form n → IsDone flat table t b upto known i flow form n
  done_form (Input c) same h = (ap (λ (xs : List _). slice_get xs (t + n)) (sym (same c refl)) ∙ h.0, tt)
  done_form (Constant d) same h = h
  done_form (Copied a) same h = h
  done_form (Unary op a) same h = h
  done_form (Binary op x y) same h = h
  done_form (If c x y) same h = h
  done_form (Pre a) same h = h
  done_form (Arrow x y) same h = h
  done_form (When a) same h = h
  done_form (Current a) same h = h
  done_form (Merge c xs) same h = h

pub written_in : (flat : FlatView) (given table : InputsView) (t : ℕ) (rows : List (Vec ℤ Global)) (spans : List Span) (i : ℕ) (flow : Flow) (from to : ℕ) (row : List ℤ) → flow_at flat i ≡ Some flow → ReadsSame flat given table i → WritesForm flat given t rows spans i flow flow.form from to row → WritesForm flat table t rows spans i flow flow.form from to row
written_in flat given table t rows spans i flow from to row there same h b with' n l l' = done_form flat given table t b (upto_of spans) (known_of spans) i flow n flow.form (λ c is. same flow c there is) (h b with' n l l')

-- the words of an input are those of its column
pub given_writes : (flat : FlatView) (table : InputsView) (values : List Datum) (t : ℕ) (rows : List (Vec ℤ Global)) (spans : List Span) (i : ℕ) (flow : Flow) (from to : ℕ) (row : List ℤ) → flow_at flat i ≡ Some flow → IsGiven flat table values i → (c : ℕ) × (flow.form ≡ Input c)
    → ((n : ℕ) → from ≤ n → n < to → slice_get values (t + n) ≡ Some (datum_at flow.kind (word_in row (suc n)))) → WritesForm flat table t rows spans i flow flow.form from to row
given_writes flat table values t rows spans i flow from to row there given is words b with' n l l' =
    let here : slice_get (column_of table is.0) (t + n) ≡ Some (datum_at flow.kind (b.word i (suc n))) =
    ap (λ (xs : List Datum). slice_get xs (t + n)) (sym (given.column flow is.0 there is.1)) ∙ words n l l' ∙ ap (λ (z : ℤ). Some (datum_at flow.kind z)) (sym (with'.own (suc n))) in
    subst (λ (form : Form). IsDone flat table t b (upto_of spans) (known_of spans) i flow form n) (sym is.1) (here, tt)
