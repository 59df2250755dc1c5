-- From the stages to the whole check.
use Rattle.std.proofs.Common.{◌≡◌, ◌<◌, ℕ, List, Option, Some, None, IsTrue, refl, sym, subst, arith, true≢false}
use Rattle.lutree.specs.declared.program.Program.{Program}
use Rattle.lutree.specs.Tree.{ProgramTree, program_view}
use Rattle.lustat_rules.specs.Accepted.{Rule, duplicate_name, unknown_name, unknown_node, type_mismatch, wrong_arity, undefined, defined_twice, recursive_node, no_main, bad_merge, clock_mismatch, not_a_clock, clocked_parameter, hidden_clock, maybe_nil, current_may_be_nil, stage, Keeps, Passes, IsNamed, IsAccepted}
use Rattle.lustat_rules.specs.declared.error.StatError.{StatError}
use Rattle.lustat_rules.specs.Reported.{rule_of, RuleReported, ReportsRule}
use Rattle.lustat_rules.specs.Faults.{IsFault, AreKept}
use Rattle.lustat_rules.proofs.Keeping.{broken_somewhere}
use Rattle.lustat_clocks.specs.Asked.{is_asked}
use Rattle.lustat_init.specs.Faults.{ReportsBroken}

-- ALL STAGES

pub accepted_from : (p : Program) (main : List ℕ) → IsNamed (program_view p) main → AreKept is_asked p main → Passes (program_view p) main 3 → IsAccepted (program_view p) main
accepted_from p main named clocked begun duplicate_name = named duplicate_name refl
accepted_from p main named clocked begun unknown_name = named unknown_name refl
accepted_from p main named clocked begun unknown_node = named unknown_node refl
accepted_from p main named clocked begun type_mismatch = named type_mismatch refl
accepted_from p main named clocked begun wrong_arity = named wrong_arity refl
accepted_from p main named clocked begun undefined = named undefined refl
accepted_from p main named clocked begun defined_twice = named defined_twice refl
accepted_from p main named clocked begun recursive_node = named recursive_node refl
accepted_from p main named clocked begun no_main = named no_main refl
accepted_from p main named clocked begun bad_merge = named bad_merge refl
accepted_from p main named clocked begun clock_mismatch = clocked clock_mismatch refl
accepted_from p main named clocked begun not_a_clock = clocked not_a_clock refl
accepted_from p main named clocked begun clocked_parameter = clocked clocked_parameter refl
accepted_from p main named clocked begun hidden_clock = clocked hidden_clock refl
accepted_from p main named clocked begun maybe_nil = begun maybe_nil refl
accepted_from p main named clocked begun current_may_be_nil = begun current_may_be_nil refl

-- WHAT IS TOLD

-- what the first stage reports
later_reported : (p : ProgramTree) (main : List ℕ) (o : Option Rule) → RuleReported 1 p main o → RuleReported 3 p main o
later_reported p main None h = h
later_reported p main (Some rule) h = ((let le = h.0 in omega (arith, le)), h.1)

pub reported_by_names : (p : ProgramTree) (main : List ℕ) (e : StatError) → ReportsRule 1 p main e → ReportsRule 3 p main e
reported_by_names p main e h = later_reported p main (rule_of e) h

-- the rules before the second stage are those of names
before_clocks : (p : ProgramTree) (main : List ℕ) → IsNamed p main → (rule : Rule) → stage rule < 2 → Keeps p main rule
before_clocks p main named duplicate_name lt = named duplicate_name refl
before_clocks p main named unknown_name lt = named unknown_name refl
before_clocks p main named unknown_node lt = named unknown_node refl
before_clocks p main named type_mismatch lt = named type_mismatch refl
before_clocks p main named wrong_arity lt = named wrong_arity refl
before_clocks p main named undefined lt = named undefined refl
before_clocks p main named defined_twice lt = named defined_twice refl
before_clocks p main named recursive_node lt = named recursive_node refl
before_clocks p main named no_main lt = named no_main refl
before_clocks p main named bad_merge lt = named bad_merge refl
before_clocks p main named clock_mismatch lt = absurd (omega (arith, lt))
before_clocks p main named not_a_clock lt = absurd (omega (arith, lt))
before_clocks p main named clocked_parameter lt = absurd (omega (arith, lt))
before_clocks p main named hidden_clock lt = absurd (omega (arith, lt))
before_clocks p main named maybe_nil lt = absurd (omega (arith, lt))
before_clocks p main named current_may_be_nil lt = absurd (omega (arith, lt))

-- those before the third are those of names and of clocks
before_classes : (p : Program) (main : List ℕ) → IsNamed (program_view p) main → AreKept is_asked p main → (rule : Rule) → stage rule < 3 → Keeps (program_view p) main rule
before_classes p main named clocked duplicate_name lt = named duplicate_name refl
before_classes p main named clocked unknown_name lt = named unknown_name refl
before_classes p main named clocked unknown_node lt = named unknown_node refl
before_classes p main named clocked type_mismatch lt = named type_mismatch refl
before_classes p main named clocked wrong_arity lt = named wrong_arity refl
before_classes p main named clocked undefined lt = named undefined refl
before_classes p main named clocked defined_twice lt = named defined_twice refl
before_classes p main named clocked recursive_node lt = named recursive_node refl
before_classes p main named clocked no_main lt = named no_main refl
before_classes p main named clocked bad_merge lt = named bad_merge refl
before_classes p main named clocked clock_mismatch lt = clocked clock_mismatch refl
before_classes p main named clocked not_a_clock lt = clocked not_a_clock refl
before_classes p main named clocked clocked_parameter lt = clocked clocked_parameter refl
before_classes p main named clocked hidden_clock lt = clocked hidden_clock refl
before_classes p main named clocked maybe_nil lt = absurd (omega (arith, lt))
before_classes p main named clocked current_may_be_nil lt = absurd (omega (arith, lt))

-- the rules that the search of clocks asks for are those of the second stage
pub second : (rule : Rule) → IsTrue (is_asked rule) → stage rule ≡ 2
second duplicate_name one = absurd (true≢false (sym one))
second unknown_name one = absurd (true≢false (sym one))
second unknown_node one = absurd (true≢false (sym one))
second type_mismatch one = absurd (true≢false (sym one))
second wrong_arity one = absurd (true≢false (sym one))
second undefined one = absurd (true≢false (sym one))
second defined_twice one = absurd (true≢false (sym one))
second recursive_node one = absurd (true≢false (sym one))
second no_main one = absurd (true≢false (sym one))
second bad_merge one = absurd (true≢false (sym one))
second clock_mismatch one = refl
second not_a_clock one = refl
second clocked_parameter one = refl
second hidden_clock one = refl
second maybe_nil one = absurd (true≢false (sym one))
second current_may_be_nil one = absurd (true≢false (sym one))

pub reported_by_clocks : (p : Program) (main : List ℕ) (e : StatError) → IsNamed (program_view p) main → IsFault is_asked p main e → ReportsRule 3 (program_view p) main e
reported_by_clocks p main e named fault =
    let b = broken_somewhere is_asked p main e fault in
    let two : stage b.rule ≡ 2 = second b.rule b.one in
    subst (RuleReported 3 (program_view p) main) (sym b.reported) (
      (omega (arith, two)),
      record { broken = b.broken; before = λ other lt. before_clocks (program_view p) main named other (omega (arith, lt, two)) },
    )

pub reported_by_classes : (p : Program) (main : List ℕ) (e : StatError) → IsNamed (program_view p) main → AreKept is_asked p main → ReportsBroken (program_view p) main e → ReportsRule 3 (program_view p) main e
reported_by_classes p main e named clocked b =
    let three : stage b.rule ≡ 3 = b.third in
    subst (RuleReported 3 (program_view p) main) (sym b.reported) (
      (omega (arith, three)),
      record { broken = b.broken; before = λ other lt. before_classes p main named clocked other (omega (arith, lt, three)) },
    )
