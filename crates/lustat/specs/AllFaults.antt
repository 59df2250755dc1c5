-- All faults of the first stage that has any.
use Rattle.std.specs.Prelude.{◌≡◌, ◌≢◌, ◌⊎◌, ℕ, List, []}
use Rattle.lutree.specs.declared.program.Program.{Program}
use Rattle.lutree.specs.Tree.{program_view}
use Rattle.lustat_rules.specs.Accepted.{Passes, IsAccepted}
use Rattle.lustat_rules.specs.declared.error.StatError.{StatError}
use Rattle.lustat_rules.specs.Faults.{IsFault}
use Rattle.lustat_rules.specs.AllFaults.{AreAllFaults}
use Rattle.lutype.specs.First.{IsNameFault}
use Rattle.lustat_clocks.specs.Asked.{is_asked as is_clock_rule}
use Rattle.lustat_init.specs.Faults.{IsFault as IsClassFault}

-- these are all faults of one stage, and the program keeps all rules of the stages before it
pub data AreOfFirstStage (p : Program) (main : List ℕ) (faults : List StatError) : Type 0 where
  names : AreAllFaults (IsNameFault p main) faults → AreOfFirstStage p main faults
  clocks : Passes (program_view p) main 1 → AreAllFaults (IsFault is_clock_rule p main) faults
      → AreOfFirstStage p main faults
  classes : Passes (program_view p) main 1 → Passes (program_view p) main 2 → AreAllFaults (IsClassFault p.nodes) faults
      → AreOfFirstStage p main faults

-- what is told of a program: nothing where it keeps all rules, else all faults of the first stage that has any
abbrev pub AreTold : Program → List ℕ → List StatError → Type 0
AreTold p main faults = ((faults ≡ []) × IsAccepted (program_view p) main) ⊎ ((faults ≢ [])
    × AreOfFirstStage p main faults)
