-- The ends of a site's links, and how many ticks of the block they have passed.
use Rattle.std.specs.Prelude.{◌≡◌, ℕ, ◌+◌, ◌<◌, false, List, length, Vec, ℤ, Some, slice_get}
use Rattle.std.specs.declared.alloc.Global.{Global}
use Rattle.luflow.specs.declared.form.Flow.{Flow}
use Rattle.luflow.specs.Program.{FlatView, flow_at}
use Rattle.luflow.specs.Messages.{presents}
use Rattle.luflow.specs.Streams.{before}
use Rattle.luflow.specs.declared.data.Datum.{Datum}
use Rattle.luflow.specs.declared.message.Msg.{Msg}
use Rattle.luworld.specs.Jobs.{JobView, carried, streams_of}
use Rattle.lulink.specs.Views.{SenderView, ReceiverView}
use Rattle.lublock_kernels.specs.declared.span.Span.{Span}
use Rattle.lublock_kernels.specs.Parts.{Part, IsNeverNil, GoesOut}
use Rattle.lublock_kernels.specs.Machine.{block_of, upto_of}
use Rattle.lublock.specs.declared.board.Board.{Board}
use Rattle.lublock.specs.Boards.{StandsOn, KeepsSettled}
use Rattle.lublock_site.specs.Sites.{value_message}
use Rattle.lublock_site.specs.Steps.{IsMessageOf}
use Rattle.lublock_site.specs.declared.sources.Source.{Source}
use Rattle.lublock_site.specs.declared.outlets.Outlet.{Outlet}

-- The end of a link that brings flow i, in a block from instant t on: it has taken a message for each instant
-- before t at which the flow was present, and one for each of its first n ticks.
pub record BringsTicks (job : JobView) (t i n : ℕ) (r : ReceiverView) : Type 0 where
  pub job_is : r.job ≡ job
  pub listed : r.link < length job.plan.links
  pub flow_is : carried job.plan r.link ≡ i
  pub count : length r.taken ≡ presents (streams_of job i) t + n

-- The end of a link that sends flow i: it has put a message for each instant before t at which the flow was
-- present, and one for each of its first n ticks.
pub record SendsTicks (job : JobView) (t i n : ℕ) (s : SenderView) : Type 0 where
  pub job_is : s.job ≡ job
  pub listed : s.link < length job.plan.links
  pub flow_is : carried job.plan s.link ≡ i
  pub count : length s.put ≡ presents (streams_of job i) t + n

-- a receiving end, and how many ticks it has brought, unless it has come to the close
pub record Brings (job : JobView) (t : ℕ) (x : Source) : Type 0 where
  pub ticks : x.closed ≡ false → BringsTicks job t x.flow x.got x.rx

-- a sending end, how many ticks it has sent and the number of its next message, unless the close was put
pub record Sends (flat : FlatView) (job : JobView) (t : ℕ) (x : Outlet) : Type 0 where
  pub never : IsNeverNil flat x.flow
  pub ticks : x.closed ≡ false → SendsTicks job t x.flow x.sent x.tx
  pub number : x.closed ≡ false → x.number ≡ length x.tx.put

-- Messages were taken into the row of flow i, which the end brings and which has as many words as the end has
-- brought ticks.
pub record HasBrought (flat : FlatView) (i : ℕ) (board : Board) (x : Source) (board' : Board)
    (x' : Source) : Type 0 where
  pub flow : x'.flow ≡ x.flow
  pub closed : x'.closed ≡ x.closed
  pub even : upto_of board.spans.items i ≡ x.got → upto_of board'.spans.items i ≡ x'.got
  pub brings : (job : JobView) (t : ℕ) → BringsTicks job t i x.got x.rx → BringsTicks job t i x'.got x'.rx
  pub stands : (job : JobView) (part : Part) (t len : ℕ) → part.own i ≡ false
      → upto_of board.spans.items i ≡ x.got → BringsTicks job t i x.got x.rx
      → StandsOn part flat job.inputs (streams_of job) t len board
      → StandsOn part flat job.inputs (streams_of job) t len board'
  pub kept : KeepsSettled board.spans.items board'.spans.items
  pub flows : length board'.spans.items ≡ length board.spans.items

-- a receiving end that has brought as much, or has come to the close
pub record IsLater (x x' : Source) : Type 0 where
  pub flow : x'.flow ≡ x.flow
  pub brings : (job : JobView) (t : ℕ) → Brings job t x → Brings job t x'

-- The block is right where it is looked at, and the end's flow is never nil: so the messages of its ticks may
-- be put.
pub record MaySend (flat : FlatView) (rows : List (Vec ℤ Global)) (spans : List Span)
    (x : Outlet) : Type 0 where
  pub job : JobView
  pub first : ℕ
  pub len : ℕ
  pub flow : Flow
  pub there : flow_at flat x.flow ≡ Some flow
  pub goes : GoesOut flat job.inputs (streams_of job) first len (block_of rows spans) x.flow flow
  pub sends : Sends flat job first x
  pub unclosed : x.closed ≡ false

-- All instants lie before t, at none of which the flow is broken: so the close may be put.
pub record MayClose (flat : FlatView) (x : Outlet) : Type 0 where
  pub job : JobView
  pub last : Datum
  pub known : before (streams_of job x.flow) job.inputs.instants ≡ Some last
  pub sends : Sends flat job job.inputs.instants x
  pub none : x.sent ≡ 0
  pub unclosed : x.closed ≡ false

-- messages were put, and nothing else of the end has changed
pub record HasSent (flat : FlatView) (x x' : Outlet) : Type 0 where
  pub flow : x'.flow ≡ x.flow
  pub sends : (job : JobView) (t : ℕ) → Sends flat job t x → Sends flat job t x'

-- the message of the k-th tick behind those that the end has sent
abbrev pub IsMessageOut : FlatView → List (Vec ℤ Global) → List Span → Outlet → ℕ → Msg → Type 0
IsMessageOut flat rows spans x k m = (d : Datum) × (m ≡ value_message (x.number + k) d)
    × IsMessageOf flat rows spans x.flow (x.sent + k) d

-- the messages of the next ticks behind those that the end has sent
abbrev pub AreMessagesOut : FlatView → List (Vec ℤ Global) → List Span → Outlet → List Msg → Type 0
AreMessagesOut flat rows spans x msgs = (k : ℕ) (m : Msg) → slice_get msgs k ≡ Some m
    → IsMessageOut flat rows spans x k m
