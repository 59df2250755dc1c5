-- A program whose names are in order.
use Rattle.std.specs.Prelude.{ℕ, List}
use Rattle.lutree.specs.declared.program.Program.{Program}
use Rattle.lutree.specs.Tree.{program_view}
use Rattle.lustat_rules.specs.Naming.{IsCallOrder}
use Rattle.lustat_rules.specs.Accepted.{IsNamed}

-- a program, the name of its main node, and an order of its nodes by place
pub record Named : Type 0 where
  pub program : Program
  pub main : List ℕ
  pub order : List ℕ

-- all rules of names and types are kept, and in the order of nodes each stands after those that it calls
pub record AreInOrder (named : Named) : Type 0 where
  pub names : IsNamed (program_view named.program) named.main
  pub calls : IsCallOrder (program_view named.program) named.order
