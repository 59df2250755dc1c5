-- What the check of names and types reports first.
use Rattle.std.specs.Prelude.{◌≡◌, ◌⊎◌, ℕ, List, Some, slice_get}
use Rattle.lutree.specs.declared.program.Node.{Node}
use Rattle.lutree.specs.declared.program.Program.{Program}
use Rattle.lutree.specs.Tree.{program_view}
use Rattle.lustat_rules.specs.Naming.{Reaches}
use Rattle.lustat_rules.specs.declared.error.StatError.{StatError}
use Rattle.lustat_rules.specs.declared.error.StatError.TheVariants.{OutOfMemory, RecursiveNode}
use Rattle.lustat_rules.specs.Faults.{IsFault}
use Rattle.lustat_rules.specs.Least.{IsLeastFault}
use Rattle.lutype.specs.Asked.{is_asked}
use Rattle.lutype.specs.CallGraph.{NoneRecursiveBefore}

-- the first node of the text that reaches itself by calls is reported at its name
pub record IsRecursionFault (p : Program) (e : StatError) : Type 0 where
  pub place : ℕ
  pub node : Node
  pub there : slice_get p.nodes place ≡ Some node
  pub recursive : Reaches (program_view p) node.name node.name
  pub first : NoneRecursiveBefore (program_view p) place
  pub reported : e ≡ RecursiveNode node.byte

-- a fault by the rules of names and types
abbrev pub IsNameFault : Program → List ℕ → StatError → Type 0
IsNameFault p main e = IsFault is_asked p main e ⊎ IsRecursionFault p e

-- a refusal is the least of these, unless memory ran out
abbrev pub IsReportedFirst : Program → List ℕ → StatError → Type 0
IsReportedFirst p main e = (e ≡ OutOfMemory) ⊎ IsLeastFault (IsNameFault p main) e
