-- From messages into rows, and from rows into messages.
use Rattle.std.specs.Prelude.{◌≡◌, ◌⊎◌, ◌<◌, ℕ, suc, ◌+◌, ◌||◌, nat_lt, true, false, List, Vec, ℤ, length}
use Rattle.std.specs.Prelude.{Some, slice_get}
use Rattle.std.specs.declared.alloc.Global.{Global}
use Rattle.lutree.specs.declared.program.Kind.{Kind}
use Rattle.luflow.specs.declared.data.Datum.{Datum}
use Rattle.luflow.specs.declared.message.Msg.{Msg}
use Rattle.luflow.specs.declared.message.Body.TheVariants.{Value}
use Rattle.luflow.specs.declared.form.Flow.{Flow}
use Rattle.luflow.specs.Program.{FlatView, InputsView, flow_at}
use Rattle.luflow.specs.Streams.{Streams}
use Rattle.luflow.specs.Messages.{presents}
use Rattle.lublock_kernels.specs.declared.span.Span.{Span}
use Rattle.lublock_kernels.specs.Blocks.{Holds, datum_at}
use Rattle.lublock_kernels.specs.Rows.{word_in}
use Rattle.lublock_kernels.specs.Parts.{Part, IsNeverNil, GoesOut, message_at}
use Rattle.lublock_kernels.specs.Machine.{block_of, upto_of, was_of}
use Rattle.lublock.specs.declared.board.Board.{Board}
use Rattle.lublock.specs.Boards.{StandsOn, KeepsSettled}
use Rattle.lublock_site.specs.Sites.{value_message}

-- a word holds the datum of message k
abbrev pub HasWordOf : Kind → List Msg → ℕ → ℤ → Type 0
HasWordOf kind msgs k z = (m : Msg) → slice_get msgs k ≡ Some m → (d : Datum) × (m.body ≡ Value d)
    × Holds kind z d

-- the words of a row from a tick on hold the data of the first n of these messages
abbrev pub AreWordsOf : Kind → List Msg → ℕ → List ℤ → ℕ → Type 0
AreWordsOf kind msgs from row n = (k : ℕ) → k < n → HasWordOf kind msgs k (word_in row (suc (from + k)))

-- these messages have the data of the flow's messages from this one on, where they have data
abbrev pub AreComing : InputsView → Streams → ℕ → ℕ → List Msg → Type 0
AreComing inputs σ i from msgs = (k : ℕ) (m : Msg) (d : Datum) → slice_get msgs k ≡ Some m → m.body ≡ Value d
    → message_at inputs σ i (from + k) ≡ Some d

-- A flow has the data of these messages as its next words.
pub record HasTakenMessages (flat : FlatView) (i : ℕ) (msgs : List Msg) (old new : Board) : Type 0 where
  pub count : upto_of new.spans.items i ≡ upto_of old.spans.items i + length msgs
  pub stands : (part : Part) (inputs : InputsView) (σ : Streams) (t len : ℕ) → part.own i ≡ false
      → AreComing inputs σ i (presents (σ i) t + upto_of old.spans.items i) msgs
      → StandsOn part flat inputs σ t len old → StandsOn part flat inputs σ t len new
  pub kept : KeepsSettled old.spans.items new.spans.items
  pub flows : length new.spans.items ≡ length old.spans.items

-- the datum of a flow's n-th tick in a right block is that of its message after as many as it was present
-- before
abbrev pub IsMessageOf : FlatView → List (Vec ℤ Global) → List Span → ℕ → ℕ → Datum → Type 0
IsMessageOf flat rows spans i n datum =
    (inputs : InputsView) (σ : Streams) (t len : ℕ) (flow : Flow) → flow_at flat i ≡ Some flow
    → GoesOut flat inputs σ t len (block_of rows spans) i flow
    → IsNeverNil flat i ⊎ (was_of spans i || nat_lt 0 n ≡ true)
    → message_at inputs σ i (presents (σ i) t + n) ≡ Some datum

-- the k-th message from this number on, whose datum is that of the k-th tick of a row from this one on
abbrev pub HasMessage : Kind → List ℤ → ℕ → ℕ → ℕ → Msg → Type 0
HasMessage kind row tick number k m =
    m ≡ value_message (number + k) (datum_at kind (word_in row (suc (tick + k))))

-- the messages of a row's ticks from this one on, numbered from this number on
abbrev pub AreMessagesOf : Kind → List ℤ → ℕ → ℕ → List Msg → Type 0
AreMessagesOf kind row tick number msgs = (k : ℕ) (m : Msg) → slice_get msgs k ≡ Some m
    → HasMessage kind row tick number k m
