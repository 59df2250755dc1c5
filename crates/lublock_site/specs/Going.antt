-- Where a site in rows stands.
use Rattle.std.specs.Prelude.{◌≡◌, ◌≢◌, ℕ, ◌+◌, ◌<◌, ◌≤◌, Bool, true, List, Vec, ℤ, Some, slice_get}
use Rattle.std.specs.Prelude.{slice_set}
use Rattle.std.specs.Arc.{arc_value}
use Rattle.std.specs.declared.alloc.Global.{Global}
use Rattle.luflow.specs.Program.{flows_of}
use Rattle.luflow.specs.Program.{FlatView}
use Rattle.luflow.specs.Streams.{Broken}
use Rattle.luworld.specs.Jobs.{JobView, IsJobView, streams_of}
use Rattle.luplace.specs.SiteInputsViews.{columns_at, given_data}
use Rattle.lublock_kernels.specs.declared.span.Span.{Span}
use Rattle.lublock_kernels.specs.Parts.{Part, knows}
use Rattle.lublock_kernels.specs.Machine.{ticks_of}
use Rattle.lublock.specs.declared.board.Board.{Board}
use Rattle.lublock.specs.Boards.{StandsOn}
use Rattle.lublock.specs.Shown.{Column, AreNear}
use Rattle.lublock_site.specs.Marks.{marked_part}
use Rattle.lublock_site.specs.Codes.{IsCode}
use Rattle.lublock_site.specs.Sure.{AreSure}
use Rattle.lublock_site.specs.Stations.{Brings, Sends, HasBrought, HasSent, IsLater, MayClose, MaySend}
use Rattle.lublock_site.specs.Blocks.{AreAllSure, HaveBrought, HaveSent}
use Rattle.lublock_site.specs.declared.sources.Source.{Source}
use Rattle.lublock_site.specs.declared.outlets.Outlet.{Outlet}
use Rattle.lublock_site.specs.declared.site.Frame.{Frame}
use Rattle.lublock_site.specs.declared.site.RowSite.{RowSite}

-- the flows that a site computes and takes
abbrev pub part_in : Frame → Part
part_in frame = marked_part frame.code.marks.own.items frame.code.marks.taken.items

-- What stays is that of a site of a run: its code is of the site's part of the plan, and it has the columns
-- of its own inputs and no others.
pub record IsFrame (job : JobView) (site : ℕ) (frame : Frame) : Type 0 where
  pub run : IsJobView job
  pub code : IsCode job.plan site frame.code
  pub given : given_data frame.given.items ≡ columns_at job site
  pub instants : frame.instants ≡ job.inputs.instants

-- The rows stand in the block, and of some flows all is sure.
pub record IsSheet (job : JobView) (frame : Frame) (t len : ℕ) (board : Board)
    (marks : List Bool) : Type 0 where
  pub stands : StandsOn (part_in frame) job.plan.flat job.inputs (streams_of job) t len board
  pub sure : AreSure job.plan.flat frame.code.marks.own.items frame.code.marks.taken.items board.spans.items
      marks

-- a flow that is computed or taken here
pub record IsKnown (job : JobView) (frame : Frame) (i : ℕ) : Type 0 where
  pub there : i < flows_of job.plan.flat
  pub known : knows (part_in frame) i ≡ true

-- the ends of the site's links, in a block from instant t on
pub record AreEnds (job : JobView) (frame : Frame) (t : ℕ) (xs : List Source)
    (ys : List Outlet) : Type 0 where
  pub sources : (k : ℕ) (x : Source) → slice_get xs k ≡ Some x → Brings job t x
  pub outlets : (k : ℕ) (x : Outlet) → slice_get ys k ≡ Some x → Sends job.plan.flat job t x
  pub taken : (k : ℕ) (x : Source) → slice_get xs k ≡ Some x → IsKnown job frame x.flow
  pub sent : (k : ℕ) (x : Outlet) → slice_get ys k ≡ Some x → IsKnown job frame x.flow

-- what lies before instant t: the statuses of some variables, and no flow that is computed or taken here is
-- broken
pub record IsPast (job : JobView) (frame : Frame) (t : ℕ) (columns : List Column) : Type 0 where
  pub near : AreNear job.plan.flat (streams_of job) t columns
  pub sound : (i u : ℕ) → IsKnown job frame i → u < t → streams_of job i u ≢ Broken

-- a site in rows, in the middle of a block
pub record IsGoing (x : RowSite) : Type 0 where
  pub frame : IsFrame x.job.value x.site x.frame
  pub within : x.t + x.len ≤ x.frame.instants
  pub sheet : IsSheet x.job.value x.frame x.t x.len x.board x.sure.items
  pub ends : AreEnds x.job.value x.frame x.t x.sources.items x.outlets.items
  pub past : IsPast x.job.value x.frame x.t x.columns.items

-- the same site of the same run
abbrev pub IsSameRun : RowSite → RowSite → Type 0
IsSameRun x y = (y.job.value ≡ x.job.value) × (y.site ≡ x.site)

-- receiving end k has taken messages, and the other ends are as they were
abbrev pub HasBroughtAt : FlatView → ℕ → Board → List Source → Board → List Source → Type 0
HasBroughtAt flat k board sources board' sources' = (x : Source) → slice_get sources k ≡ Some x
    → (y : Source) × (sources' ≡ slice_set sources k y) × HasBrought flat x.flow board x board' y

-- the messages of sending end k may be put
abbrev pub MaySendAt : FlatView → List (Vec ℤ Global) → List Span → ℕ → List Outlet → ℕ → Type 0
MaySendAt flat rows spans k outlets to = (x : Outlet) → slice_get outlets k ≡ Some x
    → MaySend flat rows spans x × (to ≡ ticks_of spans x.flow)

-- receiving end k has taken the close, or nothing, and the other ends are as they were
abbrev pub IsLaterAt : ℕ → List Source → List Source → Type 0
IsLaterAt k sources sources' = (x : Source) → slice_get sources k ≡ Some x
    → (y : Source) × (sources' ≡ slice_set sources k y) × IsLater x y

-- the close of sending end k may be put
abbrev pub MayCloseAt : FlatView → ℕ → List Outlet → Type 0
MayCloseAt flat k outlets = (x : Outlet) → slice_get outlets k ≡ Some x → MayClose flat x

-- sending end k has put messages, and the other ends are as they were
abbrev pub HasSentAt : FlatView → ℕ → List Outlet → List Outlet → Type 0
HasSentAt flat k outlets outlets' = (x : Outlet) → slice_get outlets k ≡ Some x
    → (y : Outlet) × (outlets' ≡ slice_set outlets k y) × HasSent flat x y

-- all is found in the block, and all ticks of the links were passed
pub record IsWholeSite (x : RowSite) : Type 0 where
  pub sure : AreAllSure (flows_of (arc_value x.frame.code.flat)) x.frame.code.marks.own.items
      x.frame.code.marks.taken.items x.sure.items
  pub brought : HaveBrought x.board.spans.items x.sources.items
  pub sent : HaveSent x.board.spans.items x.outlets.items
