-- The end of a site's block: what is looked at, and what begins anew.
use Rattle.std.specs.Prelude.{◌≡◌, ℕ, ◌<◌, Bool, true, List, Some, slice_get}
use Rattle.lublock_kernels.specs.declared.span.Span.{Span}
use Rattle.lublock_kernels.specs.Parts.{knows}
use Rattle.lublock_kernels.specs.Machine.{ticks_of}
use Rattle.lublock_site.specs.Marks.{marked, marked_part}
use Rattle.lublock_site.specs.declared.sources.Source.{Source}
use Rattle.lublock_site.specs.declared.outlets.Outlet.{Outlet}

-- of so many flows all that are computed or taken are sure
abbrev pub AreAllSure : ℕ → List Bool → List Bool → List Bool → Type 0
AreAllSure count own taken sure = (i : ℕ) → i < count → knows (marked_part own taken) i ≡ true
    → marked sure i ≡ true

-- each receiving end has brought all ticks of its flow, and each sending end has sent them
abbrev pub HaveBrought : List Span → List Source → Type 0
HaveBrought spans sources = (k : ℕ) (x : Source) → slice_get sources k ≡ Some x
    → x.got ≡ ticks_of spans x.flow

abbrev pub HaveSent : List Span → List Outlet → Type 0
HaveSent spans outlets = (k : ℕ) (x : Outlet) → slice_get outlets k ≡ Some x → x.sent ≡ ticks_of spans x.flow

-- the ends as they were, with no tick yet
abbrev pub AreSourcesBegun : List Source → List Source → Type 0
AreSourcesBegun old new = (k : ℕ) (y : Source) → slice_get new k ≡ Some y
    → (x : Source) × (slice_get old k ≡ Some x) × (y ≡ record x { got = 0 })

abbrev pub AreOutletsBegun : List Outlet → List Outlet → Type 0
AreOutletsBegun old new = (k : ℕ) (y : Outlet) → slice_get new k ≡ Some y
    → (x : Outlet) × (slice_get old k ≡ Some x) × (y ≡ record x { sent = 0 })
