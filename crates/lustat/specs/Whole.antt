-- A program that keeps all rules.
use Rattle.std.specs.Prelude.{ℕ, Bool, List}
use Rattle.lutree.specs.declared.program.Program.{Program}
use Rattle.lutree.specs.Tree.{program_view}
use Rattle.lustat_rules.specs.Naming.{IsCallOrder}
use Rattle.lustat_rules.specs.Accepted.{IsAccepted}
use Rattle.lustat_init.specs.Rows.{AreClasses}

-- a program, the name of its main node, an order of its nodes by place, and for each node a row with the
-- classes of its variables
pub record Whole : Type 0 where
  pub program : Program
  pub main : List ℕ
  pub order : List ℕ
  pub classes : List (List Bool)

-- all rules are kept, in the order of nodes each stands after those that it calls, and with its classes each
-- node meets the rules of classes
pub record IsSound (whole : Whole) : Type 0 where
  pub accepted : IsAccepted (program_view whole.program) whole.main
  pub calls : IsCallOrder (program_view whole.program) whole.order
  pub classes : AreClasses (program_view whole.program) whole.classes
