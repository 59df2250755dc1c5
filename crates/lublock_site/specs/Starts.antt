-- A site before its first block.
use Rattle.std.specs.Prelude.{◌≡◌, ℕ, Bool, false, List, map, Some, slice_get}
use Rattle.lulink.specs.Views.{ReceiverView, SenderView}
use Rattle.lublock_kernels.specs.declared.span.Span.{Span}
use Rattle.lublock.specs.declared.board.Board.{Board}
use Rattle.lublock_site.specs.declared.code_links.SiteLink.{SiteLink}
use Rattle.lublock_site.specs.declared.sources.Source.{Source}
use Rattle.lublock_site.specs.declared.outlets.Outlet.{Outlet}

-- this receiving end, of this link, before it has taken anything
pub record IsFirstSource (link : SiteLink) (rx : ReceiverView) (x : Source) : Type 0 where
  pub rx_is : x.rx ≡ rx
  pub link_is : rx.link ≡ link.link
  pub flow_is : x.flow ≡ link.flow
  pub none : x.got ≡ 0

-- this sending end, of this link, before it has put anything
pub record IsFirstOutlet (link : SiteLink) (tx : SenderView) (x : Outlet) : Type 0 where
  pub tx_is : x.tx ≡ tx
  pub link_is : tx.link ≡ link.link
  pub flow_is : x.flow ≡ link.flow
  pub none : x.sent ≡ 0
  pub first : x.number ≡ 0

-- each is the end at its place, of the link at its place
abbrev pub AreFirstSources : List SiteLink → List ReceiverView → List Source → Type 0
AreFirstSources links rxs sources = (k : ℕ) (x : Source) → slice_get sources k ≡ Some x
    → (link : SiteLink) × (slice_get links k ≡ Some link) × (rx : ReceiverView) × (slice_get rxs k ≡ Some rx)
    × IsFirstSource link rx x

abbrev pub AreFirstOutlets : List SiteLink → List SenderView → List Outlet → Type 0
AreFirstOutlets links txs outlets = (k : ℕ) (x : Outlet) → slice_get outlets k ≡ Some x
    → (link : SiteLink) × (slice_get links k ≡ Some link) × (tx : SenderView) × (slice_get txs k ≡ Some tx)
    × IsFirstOutlet link tx x

-- how far a flow is before the first block
abbrev pub first_span : Bool → Span
first_span mark = record { ticks = 0; upto = 0; was = false; known = false; supposed = false; taken = mark }

-- a board before the first block, which has these marks of taken flows
abbrev pub IsFirstBoard : List Bool → Board → Type 0
IsFirstBoard taken board = board.spans.items ≡ map first_span taken
