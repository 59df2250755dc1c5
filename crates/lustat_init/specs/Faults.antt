-- The faults of initialisation, each reported at its equation.
use Rattle.std.specs.Prelude.{◌≡◌, ℕ, Bool, List, Some, nat_eq}
use Rattle.lutree.specs.declared.program.Equation.{Equation}
use Rattle.lutree.specs.declared.program.Node.{Node}
use Rattle.lutree.specs.Tree.{EquationTree, NodeTree, ProgramTree, equation_view, node_view}
use Rattle.lustat_rules.specs.Classes.{Classes, IsLeast, CurrentsStart}
use Rattle.lustat_rules.specs.Accepted.{Rule, maybe_nil, current_may_be_nil, stage, Breaks}
use Rattle.lustat_rules.specs.declared.error.StatError.{StatError}
use Rattle.lustat_rules.specs.Reported.{rule_of}
use Rattle.lustat_rules.specs.Faults.{FaultAt, AllKept, FaultAmong, KeptAmong}
use Rattle.lustat_init.specs.Judged.{KeepsClasses}

-- the rules that the search of the third stage asks for
abbrev pub is_asked : Rule → Bool
is_asked rule = nat_eq (stage rule) 3

-- with the least classes of its node, an equation keeps the rules of classes
abbrev pub KeepsLeast : NodeTree → EquationTree → Type 0
KeepsLeast n q = (a : Classes) → IsLeast a n → KeepsClasses a n q

-- what the rules of initialisation say of an equation
abbrev pub EquationSays : Node → Equation → Rule → Type 0
EquationSays n q maybe_nil = KeepsLeast (node_view n) (equation_view q)
EquationSays n q current_may_be_nil = CurrentsStart (node_view n) (equation_view q)
EquationSays n q rule = Unit {0}

abbrev pub EquationKept : Node → Equation → Type 0
EquationKept n q = AllKept is_asked (EquationSays n q)

abbrev pub EquationFault : Node → Equation → StatError → Type 0
EquationFault n q = FaultAt is_asked q.byte (EquationSays n q)

-- what is kept in a node, and a fault in it
abbrev pub InNodeKept : Node → Type 0
InNodeKept n = KeptAmong n.equations (λ _ q. EquationKept n q)

abbrev pub InNodeFault : Node → StatError → Type 0
InNodeFault n = FaultAmong n.equations (λ _ q. EquationFault n q)

-- what is kept in nodes, and a fault in them
abbrev pub AreKept : List Node → Type 0
AreKept nodes = KeptAmong nodes (λ _ n. InNodeKept n)

abbrev pub IsFault : List Node → StatError → Type 0
IsFault nodes = FaultAmong nodes (λ _ n. InNodeFault n)

-- a refusal reports a rule of initialisation that the program breaks
pub record ReportsBroken (p : ProgramTree) (main : List ℕ) (e : StatError) : Type 0 where
  pub rule : Rule
  pub reported : rule_of e ≡ Some rule
  pub third : stage rule ≡ 3
  pub broken : Breaks p main rule
