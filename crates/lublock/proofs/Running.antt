-- A run from block to block.
use Rattle.std.proofs.Common.{◌≡◌, ◌≢◌, ℕ, zero, suc, ◌+◌, ◌-◌, ◌≤◌, inl, inr, Bool, true, false, List, [], length, replicate, Some, ℤ, refl, sym, subst, ◌∙◌, ap, arith}
use Rattle.std.specs.Prelude.{All}
use Rattle.std.proofs.lemmas.Bool.{cases_lt}
use Rattle.luflow.specs.declared.data.Datum.TheVariants.{Nil}
use Rattle.luflow.specs.Program.{FlatView, InputsView}
use Rattle.luflow.specs.Streams.{Streams, Broken}
use Rattle.luflow.proofs.Solutions.{some_at}
use Rattle.lublock_kernels.specs.declared.span.Span.{Span}
use Rattle.lublock.specs.declared.board.Board.{Board}
use Rattle.luflow.specs.declared.form.Form.{Form}
use Rattle.luflow.specs.Solution.{IsSolution}
use Rattle.luflow.specs.Sound.{IsFit}
use Rattle.lublock_kernels.specs.Blocks.{Holds, IsRight, IsSolved, SolvesAt, datum_at}
use Rattle.lublock.specs.Boards.{StandsOn, IsAfter}
use Rattle.lublock_kernels.specs.Parts.{whole}
use Rattle.lublock_kernels.specs.Machine.{block_of, upto_of, known_of, was_of, IsDone}
use Rattle.lublock.specs.Shown.{Column, AllNear, AreKept, IsReady, IsRightBlock, StandsAt, StaysNear}
use Rattle.lublock.proofs.Showing.{empty_near, kept_near}

-- a board that is ready stands, whatever the block's length
pub ready_stands : (flat : FlatView) (inputs : InputsView) (σ : Streams) (t len : ℕ) (board : Board) → IsReady flat inputs σ t board → StandsOn whole flat inputs σ t len board
ready_stands flat inputs σ t len board ready = record {
  marked = λ i taken. absurd (let e : false ≡ true = taken in cc);
  stands = record {
    begins = λ r flow there known. ready.begins r flow there;
    came = λ i n flow there taken l. absurd (let e : false ≡ true = taken in cc);
    done = λ i n flow there own now l.
        let k = ready.constants i n flow there l in
        subst (λ (f : Form). IsDone flat inputs t (block_of board.rows.items board.spans.items) (upto_of board.spans.items) (known_of board.spans.items) i flow f n) (sym k.1) (k.2, tt);
    counts = λ i flow there on. absurd (let e : true ≡ false = sym on ∙ ready.known i in cc);
  };
}

pub after_ready : (flat : FlatView) (inputs : InputsView) (σ : Streams) (t len : ℕ) (old new : Board) → IsRight flat inputs σ t len (block_of old.rows.items old.spans.items) → IsSolved flat inputs t len (block_of old.rows.items old.spans.items) → IsAfter flat old new → IsReady flat inputs σ (t + len) new
after_ready flat inputs σ t len old new right solved after = record {
  begins = λ r flow there.
      let e = right.ends r flow there in
      record {
        datum = e.datum;
        last = e.last;
        holds = subst (λ (z : ℤ). Holds flow.kind z e.datum) (sym (after.first r)) e.holds;
        ticks = e.ticks ∙ ap (λ (w : Bool). Some w) (sym (after.was r));
      };
  constants = λ r n flow there l.
      let a = after.upto r n flow there l in
      let is = subst (λ (f : Form). SolvesAt flat inputs t (block_of old.rows.items old.spans.items) r flow f n) a.0.1 (solved.forms r flow there n a.1) in
      (a.0.0, a.0.1, ap (datum_at flow.kind) (after.beside r n) ∙ is);
  known = after.known;
}

-- what is right in a block is put out, in each solution
pub all_near : (flat : FlatView) (inputs : InputsView) (t len : ℕ) (board : Board) (shown : ℕ → Type 0) (old new : List Column) → IsFit flat inputs → t + len ≤ inputs.instants → StaysNear flat t len board shown old new → IsRightBlock flat inputs t len board → AllNear flat inputs t old → AllNear flat inputs t new
all_near flat inputs t len board shown old new fit within stays right all = λ σ sol. stays.near inputs σ fit sol within (λ v is n flow there l. (right σ sol).at v n flow there l) (all σ sol)

-- one block more
pub stands_on : (flat : FlatView) (inputs : InputsView) (t len : ℕ) (before old new : Board) (columns columns' kept : List Column) → StandsAt flat inputs t before columns → IsRightBlock flat inputs t len old → ((σ : Streams) → IsSolution flat inputs σ → IsSolved flat inputs t len (block_of old.rows.items old.spans.items)) → IsAfter flat old new → AllNear flat inputs t columns' → AreKept flat columns' kept → StandsAt flat inputs (t + len) new kept
stands_on flat inputs t len before old new columns columns' kept stands right solved after near are = record {
  ready = λ σ sol. after_ready flat inputs σ t len old new (right σ sol) (solved σ sol) after;
  near = λ σ sol. kept_near flat σ t (t + len) columns' kept (near σ sol) are;
  sound = λ σ sol r u lr lu. elim (cases_lt u t) [
    | inl h ↦ stands.sound σ sol r u lr h
    | inr h ↦
        let f = some_at flat.flows r lr in
        let e : t + (u - t) ≡ u = omega arith in
        subst (λ (k : ℕ). σ r k ≢ Broken) e ((right σ sol).at r (u - t) f.0 f.1 (omega arith)).sound
  ];
}

abbrev fresh : Span
fresh = record { ticks = 0; upto = 0; was = false; known = false; supposed = false; taken = false }

fresh_upto : (n r : ℕ) → upto_of (replicate n fresh) r ≡ 0
fresh_upto zero r = refl
fresh_upto (suc n) zero = refl
fresh_upto (suc n) (suc r) = fresh_upto n r

fresh_known : (n r : ℕ) → known_of (replicate n fresh) r ≡ false
fresh_known zero r = refl
fresh_known (suc n) zero = refl
fresh_known (suc n) (suc r) = fresh_known n r

fresh_was : (n r : ℕ) → was_of (replicate n fresh) r ≡ false
fresh_was zero r = refl
fresh_was (suc n) zero = refl
fresh_was (suc n) (suc r) = fresh_was n r

fresh_len : (n : ℕ) → length (replicate n fresh) ≡ n
fresh_len zero = refl
fresh_len (suc n) = ap suc (fresh_len n)

pub board_len : (board : Board) (n : ℕ) → board.spans.items ≡ replicate n fresh → length board.spans.items ≡ n
board_len board n is = ap length is ∙ fresh_len n

-- before the first block
pub stands_first : (flat : FlatView) (inputs : InputsView) (n : ℕ) (board : Board) (columns : List Column) → board.spans.items ≡ replicate n fresh → All (λ (column : Column). column.items ≡ []) columns → StandsAt flat inputs 0 board columns
stands_first flat inputs n board columns is empty = record {
  ready = λ σ sol. record {
    begins = λ r flow there. record {
      datum = Nil;
      last = refl;
      holds = λ ne. absurd (ne refl);
      ticks = ap (λ (w : Bool). Some w) (sym (ap (λ (spans : List Span). was_of spans r) is ∙ fresh_was n r));
    };
    constants = λ r k flow there l. absurd (let none : upto_of board.spans.items r ≡ 0 = ap (λ (spans : List Span). upto_of spans r) is ∙ fresh_upto n r in omega (arith, none, l));
    known = λ r. ap (λ (spans : List Span). known_of spans r) is ∙ fresh_known n r;
  };
  near = λ σ sol. empty_near flat σ 0 columns empty;
  sound = λ σ sol r u lr lu. absurd (omega (arith, lu));
}
