-- Cycles of the source and of the flat list.
use Rattle.std.specs.Prelude.{◌↔◌, ℕ, List}
use Rattle.lutree.specs.Tree.{ProgramTree}
use Rattle.luflow.specs.Program.{FlatView}
use Rattle.luflow.specs.Rank.{reads_of, Chain}
use Rattle.lustat_rules.specs.Accepted.{IsAccepted}
use Rattle.lucore_laws.specs.Layout.{IsLaidOut}
use Rattle.lucore_laws.specs.ListLaws.{DefineSomething}
use Rattle.lucore_laws.specs.Reads.{Occurrence, Leads}

-- an occurrence reads itself through a chain of reads at the same instant
abbrev pub HasCycle : ProgramTree → List ℕ → Type 0
HasCycle program main = (x : Occurrence) × Leads program main x x

-- some flow of a flat list reads itself through a chain
abbrev pub HasFlatCycle : FlatView → Type 0
HasFlatCycle flat = (x : ℕ) × Chain (reads_of flat) x x

-- some flow of the flat list lies on a cycle exactly where some occurrence of the source does
abbrev pub CauseLaw : Type 0
CauseLaw =
    (p : ProgramTree) (main : List ℕ) (flat : FlatView) → IsAccepted p main → DefineSomething p
    → IsLaidOut p main flat
    → HasFlatCycle flat ↔ HasCycle p main
