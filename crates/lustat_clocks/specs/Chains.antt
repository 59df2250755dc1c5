-- Chains of clocks, by place of declaration.
use Rattle.std.specs.Prelude.{◌≡◌, ◌↔◌, ◌<◌, ℕ, Bool, List, Some, None, slice_get, Contains}
use Rattle.lutree.specs.Tree.{DeclarationTree, NodeTree}
use Rattle.lustat_rules.specs.Scope.{declarations_of}
use Rattle.lustat_rules.specs.Clocks.{Ends}
use Rattle.lubase.specs.Search.{Has}
use Rattle.lustat_rules.specs.ClockRefs.{place_before}
use Rattle.lubase.specs.declared.link.Link.{Link}
use Rattle.lubase.specs.Reach.{link}

-- marks of those declarations whose clocks end at the base clock
abbrev pub MarksEnds : NodeTree → List Bool → Type 0
MarksEnds n marks = (i : ℕ) (d : DeclarationTree) → slice_get (declarations_of n) i ≡ Some d → Has marks i
    ↔ Ends n d.clock

-- the declaration at a place has no clock
abbrev pub IsBased : List DeclarationTree → ℕ → Type 0
IsBased ds i = (d : DeclarationTree) × (slice_get ds i ≡ Some d) × (d.clock ≡ None)

-- the declaration at a place has a clock, which names the variable at another
abbrev pub IsClockedBy : NodeTree → List DeclarationTree → ℕ → ℕ → Type 0
IsClockedBy n ds u v = (d : DeclarationTree) × (slice_get ds v ≡ Some d) × (place_before n d.clock ≡ Some u)

-- the places on the base clock, of those below a number
abbrev pub AreBased : List DeclarationTree → ℕ → List ℕ → Type 0
AreBased ds k starts = (i : ℕ) → Contains starts i ↔ ((i < k) × IsBased ds i)

-- the links to places below a number
abbrev pub AreClocked : NodeTree → List DeclarationTree → ℕ → List Link → Type 0
AreClocked n ds k links = (u v : ℕ) → Contains links (link u v) ↔ ((v < k) × IsClockedBy n ds u v)
