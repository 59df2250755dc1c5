-- Rows of a part of which all is there.
use Rattle.std.specs.Prelude.{◌≡◌, ◌||◌, nat_lt, ℕ, ◌+◌, ◌≤◌, Bool, true, List, Vec, ℤ, Some}
use Rattle.std.specs.declared.alloc.Global.{Global}
use Rattle.luflow.specs.declared.form.Flow.{Flow}
use Rattle.luflow.specs.Program.{FlatView, InputsView, flow_at}
use Rattle.luflow.specs.Streams.{Streams}
use Rattle.luflow.specs.Solution.{IsSolution}
use Rattle.luflow.specs.Sound.{IsFit}
use Rattle.luflow.specs.Flats.{IsFlat}
use Rattle.lublock_kernels.specs.declared.span.Span.{Span}
use Rattle.lublock_kernels.specs.Blocks.{Block}
use Rattle.lublock_kernels.specs.Parts.{Part, knows, IsPart, BeginsIn, IsRightIn}
use Rattle.lublock_kernels.specs.Machine.{block_of, upto_of, known_of, supposed_of, ticks_of, Stands}
use Rattle.lublock_kernels.specs.Machine.{ClosesAt}

-- all ticks of a flow are counted, and have their words
pub record IsWholeAt (spans : List Span) (i : ℕ) : Type 0 where
  pub known : known_of spans i ≡ true
  pub all : ticks_of spans i ≤ upto_of spans i

-- Where the rows of a part stand, all known flows have all their words, and what was supposed is found, the
-- block is right.
abbrev pub WholeLaw : Type 0
WholeLaw =
    (part : Part) (flat : FlatView) (inputs : InputsView) (σ : Streams) (t len : ℕ)
    (rows : List (Vec ℤ Global)) (spans : List Span) → IsFlat flat → IsFit flat inputs
    → IsSolution flat inputs σ
    → t + len ≤ inputs.instants → IsPart flat part → ((i : ℕ) (flow : Flow) → flow_at flat i ≡ Some flow
    → knows part i ≡ true → IsWholeAt spans i) → ((i : ℕ) → part.own i ≡ true → ClosesAt flat rows spans i)
    → Stands part flat inputs σ t len (block_of rows spans) (upto_of spans) (known_of spans)
    (supposed_of spans)
    → IsRightIn part flat inputs σ t len (block_of rows spans)

-- the next block begins with the words of the last ticks of this one
pub record Follows (part : Part) (old new : Block) : Type 0 where
  pub first : (r : ℕ) → knows part r ≡ true → new.word r 0 ≡ old.word r (old.ticks r)
  pub was : (r : ℕ) → knows part r ≡ true → new.was r ≡ old.was r || nat_lt 0 (old.ticks r)

abbrev pub NextLaw : Type 0
NextLaw =
    (part : Part) (flat : FlatView) (inputs : InputsView) (σ : Streams) (t len : ℕ) (old new : Block)
    → IsRightIn part flat inputs σ t len old → Follows part old new
    → BeginsIn part flat inputs σ (t + len) new

-- fewer flows
pub record IsSubPart (sub part : Part) : Type 0 where
  pub own : (i : ℕ) → sub.own i ≡ true → part.own i ≡ true
  pub taken : (i : ℕ) → sub.taken i ≡ true → part.taken i ≡ true

-- Rows that stand for a part stand for fewer of its flows: so what is whole so far can be seen to be right,
-- and put to links, before the block is whole.
abbrev pub SubLaw : Type 0
SubLaw =
    (sub part : Part) → IsSubPart sub part → (flat : FlatView) (inputs : InputsView) (σ : Streams) (t len : ℕ)
    (b : Block) (upto : ℕ → ℕ) (known supposed : ℕ → Bool)
    → Stands part flat inputs σ t len b upto known supposed
    → Stands sub flat inputs σ t len b upto known supposed
