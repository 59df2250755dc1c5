-- Data of messages in a row, and the datum of a row's word.
use Rattle.std.proofs.Common.{◌≡◌, ℕ, zero, suc, ◌+◌, ◌<◌, ◌≤◌, false, List, length, set, Some, ℤ, refl, sym, subst, ◌∙◌, ap, arith}
use Rattle.std.specs.Prelude.{slice_get, Vec}
use Rattle.std.specs.Option.{option_map}
use Rattle.std.specs.declared.alloc.Global.{Global}
use Rattle.std.proofs.lemmas.Option.{same_Some, slice_get_within}
use Rattle.luflow.specs.declared.data.Datum.{Datum}
use Rattle.lutree.specs.declared.program.Kind.{Kind}
use Rattle.luflow.specs.declared.form.Flow.{Flow}
use Rattle.luflow.specs.Program.{FlatView, InputsView, flow_at}
use Rattle.luflow.specs.Streams.{Streams}
use Rattle.luflow.specs.Messages.{presents}
use Rattle.lublock_kernels.specs.declared.span.Span.{Span}
use Rattle.lublock_kernels.specs.Blocks.{Holds, datum_at, kind_at}
use Rattle.lublock_kernels.specs.Parts.{Part, message_at}
use Rattle.lublock_kernels.specs.Rows.{Keeps, word_in}
use Rattle.lublock_kernels.specs.Machine.{row_of, upto_there, upto_of, ticks_of, known_of, supposed_of, block_of, Stands, AreMarked}
use Rattle.lublock_kernels.proofs.Steps.{came_more, get_same, len_set, marked_set}
use Rattle.lublock.specs.declared.board.Board.{Board}
use Rattle.lublock.specs.Boards.{KeepsSettled}
use Rattle.lublock.proofs.Settling.{settled_further}
use Rattle.luflow.specs.declared.message.Msg.{Msg}
use Rattle.luflow.proofs.Solutions.{some_at}
use Rattle.lublock_site.specs.Steps.{AreComing, AreWordsOf, AreMessagesOf, HasTakenMessages, IsMessageOf}
use Rattle.lublock_site.specs.Stations.{AreMessagesOut}
use Rattle.lublock_site.specs.declared.outlets.Outlet.{Outlet}

abbrev pub with_words : Span → ℕ → Span
with_words span n = record { ticks = span.ticks; upto = span.upto + n; was = span.was; known = span.known; supposed = span.supposed; taken = span.taken }

kind_of : (flat : FlatView) (i : ℕ) (flow : Flow) (kind : Kind) → Some kind ≡ kind_at flat i → flow_at flat i ≡ Some flow → kind ≡ flow.kind
kind_of flat i flow kind is there = same_Some kind flow.kind (is ∙ ap (option_map (λ (f : Flow). f.kind)) there)

rest_of : (a b : ℕ) → a ≤ b → (k : ℕ) × (a + k ≡ b)
rest_of zero b l = (b, omega arith)
rest_of (suc a) zero l = absurd (omega (arith, l))
rest_of (suc a) (suc b) l = let r = rest_of a b (omega (arith, l)) in let e = r.1 in (r.0, omega (arith, e))

module _ (flat : FlatView) (i : ℕ) (msgs : List Msg) (old new : Board) (v : Vec ℤ Global) (span : Span) (kind : Kind) (inside : i < length old.rows.items) (in_spans : i < length old.spans.items) (there : slice_get old.spans.items i ≡ Some span) (kind_is : Some kind ≡ kind_at flat i) (keeps : Keeps span.upto (row_of old.rows.items i) v.items) (words : AreWordsOf kind msgs span.upto v.items (length msgs)) (rows_are : new.rows.items ≡ set old.rows.items i v) (spans_are : new.spans.items ≡ set old.spans.items i (with_words span (length msgs))) where
  upto_is : upto_of old.spans.items i ≡ span.upto
  upto_is = ap upto_there there

  abbrev StandsAs : (part : Part) (inputs : InputsView) (σ : Streams) (t len : ℕ) → List (Vec ℤ Global) → List Span → Type 0
  StandsAs part inputs σ t len rows spans = Stands part flat inputs σ t len (block_of rows spans) (upto_of spans) (known_of spans) (supposed_of spans)

  word_comes : (inputs : InputsView) (σ : Streams) (t : ℕ) → AreComing inputs σ i (presents (σ i) t + upto_of old.spans.items i) msgs → (n : ℕ) (flow : Flow) → flow_at flat i ≡ Some flow → span.upto ≤ n → n < span.upto + length msgs
      → (d : Datum) × (message_at inputs σ i (presents (σ i) t + n) ≡ Some d) × Holds flow.kind (word_in v.items (suc n)) d
  word_comes inputs σ t coming n flow here l l' =
      let (k, at) = rest_of span.upto n l in
      let few : k < length msgs = omega (arith, at, l') in
      let (m, m_is) = some_at msgs k few in
      let (d, body, holds) = words k few m m_is in
      let p : (presents (σ i) t + upto_of old.spans.items i) + k ≡ presents (σ i) t + n = let u = upto_is in omega (arith, u, at) in (
        d,
        subst (λ (q : ℕ). message_at inputs σ i q ≡ Some d) p (coming k m d m_is body),
        subst (λ (q : ℕ). Holds flow.kind (word_in v.items (suc q)) d) at (subst (λ (s : Kind). Holds s (word_in v.items (suc (span.upto + k))) d) (kind_of flat i flow kind kind_is here) holds),
      )

  words_stand : (part : Part) (inputs : InputsView) (σ : Streams) (t len : ℕ) → part.own i ≡ false → AreComing inputs σ i (presents (σ i) t + upto_of old.spans.items i) msgs
      → StandsAs part inputs σ t len old.rows.items old.spans.items → StandsAs part inputs σ t len (set old.rows.items i v) (set old.spans.items i (with_words span (length msgs)))
  words_stand part inputs σ t len free coming stands =
      came_more part flat inputs σ t len old.rows.items old.spans.items i v inside span (span.upto + length msgs) there (omega arith) keeps free (word_comes inputs σ t coming) stands

  pub all_taken : HasTakenMessages flat i msgs old new
  all_taken = record {
    count = ap (λ (spans : List Span). upto_of spans i) spans_are ∙ ap upto_there (get_same old.spans.items i (with_words span (length msgs)) in_spans) ∙ ap (λ (n : ℕ). n + length msgs) (sym upto_is);
    stands = λ part inputs σ t len free coming stands. record {
      stands = subst (λ (rows : List (Vec ℤ Global)). StandsAs part inputs σ t len rows new.spans.items) (sym rows_are) (subst (λ (spans : List Span). StandsAs part inputs σ t len (set old.rows.items i v) spans) (sym spans_are) (words_stand part inputs σ t len free coming stands.stands));
      marked = subst (λ (spans : List Span). AreMarked part spans) (sym spans_are) (marked_set part old.spans.items i span (with_words span (length msgs)) there refl stands.marked);
    };
    kept = subst (λ (spans : List Span). KeepsSettled old.spans.items spans) (sym spans_are) (settled_further old.spans.items i span there (span.upto + length msgs) (omega arith));
    flows = ap length spans_are ∙ len_set old.spans.items i (with_words span (length msgs));
  }

pub is_message : (flat : FlatView) (rows : List (Vec ℤ Global)) (spans : List Span) (i n : ℕ) (kind : Kind) (d : Datum) (row : List ℤ) → n < ticks_of spans i → Some kind ≡ kind_at flat i → row ≡ row_of rows i → d ≡ datum_at kind (word_in row (suc n)) → IsMessageOf flat rows spans i n d
is_message flat rows spans i n kind d row few kind_is row_is is inputs σ t len flow here goes why =
    goes.exact n few why
    ∙ ap (λ (k : Kind). Some (datum_at k (word_in (row_of rows i) (suc n)))) (sym (kind_of flat i flow kind kind_is here))
    ∙ ap (λ (r : List ℤ). Some (datum_at kind (word_in r (suc n)))) (sym row_is)
    ∙ ap (λ (x : Datum). Some x) (sym is)

-- a run of a row's messages is that of the end's next ticks
pub are_messages : (flat : FlatView) (rows : List (Vec ℤ Global)) (spans : List Span) (x : Outlet) (msgs : List Msg) (kind : Kind) (row : List ℤ) → x.sent + length msgs ≤ ticks_of spans x.flow → Some kind ≡ kind_at flat x.flow → row ≡ row_of rows x.flow → AreMessagesOf kind row x.sent x.number msgs → AreMessagesOut flat rows spans x msgs
are_messages flat rows spans x msgs kind row within kind_is row_is are k m m_is =
    let few = slice_get_within msgs k m m_is in
    let d = datum_at kind (word_in row (suc (x.sent + k))) in
    (d, are k m m_is, is_message flat rows spans x.flow (x.sent + k) kind d row (omega (arith, few, within)) kind_is row_is refl)
