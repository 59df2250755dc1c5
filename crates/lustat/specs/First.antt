-- What is reported first.
use Rattle.std.specs.Prelude.{◌≡◌, ◌/◌, ℕ, List}
use Rattle.lutree.specs.declared.program.Program.{Program}
use Rattle.lustat_rules.specs.declared.error.StatError.{StatError}
use Rattle.lustat_rules.specs.declared.error.StatError.TheVariants.{OutOfMemory}
use Rattle.lustat_rules.specs.Reported.{number_of}
use Rattle.lustat_rules.specs.Faults.{IsFault}
use Rattle.lustat_rules.specs.Least.{IsLeastFault}
use Rattle.lutype.specs.First.{IsNameFault}
use Rattle.lustat_clocks.specs.Asked.{is_asked as is_clock_rule}
use Rattle.lustat_init.specs.Faults.{IsFault as IsClassFault}

-- the first digit of a refusal's number
abbrev pub stage_reported : StatError → ℕ
stage_reported e = number_of e / 10

-- A refusal is the least fault of its stage, at its place in the text, unless memory ran out.
pub data IsReportedFirst (p : Program) (main : List ℕ) (e : StatError) : Type 0 where
  memory : e ≡ OutOfMemory → IsReportedFirst p main e
  names : stage_reported e ≡ 1 → IsLeastFault (IsNameFault p main) e → IsReportedFirst p main e
  clocks : stage_reported e ≡ 2 → IsLeastFault (IsFault is_clock_rule p main) e → IsReportedFirst p main e
  classes : stage_reported e ≡ 3 → IsLeastFault (IsClassFault p.nodes) e → IsReportedFirst p main e
