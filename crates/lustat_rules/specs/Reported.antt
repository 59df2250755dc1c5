-- What a refusal reports: a rule, and a place in the text.
use Rattle.std.specs.Prelude.{◌≤◌, ℕ, List, Option, Some, None}
use Rattle.lutree.specs.Tree.{ProgramTree}
use Rattle.lustat_rules.specs.Accepted.{Rule, number, stage, IsRefused}
use Rattle.lustat_rules.specs.Accepted as accepted
use Rattle.lustat_rules.specs.declared.error.StatError.{StatError}
use Rattle.lustat_rules.specs.declared.error.StatError.TheVariants.{DuplicateName, UnknownName, UnknownNode}
use Rattle.lustat_rules.specs.declared.error.StatError.TheVariants.{TypeMismatch, WrongArity, Undefined}
use Rattle.lustat_rules.specs.declared.error.StatError.TheVariants.{DefinedTwice, RecursiveNode}
use Rattle.lustat_rules.specs.declared.error.StatError.TheVariants.{ClockMismatch, NotAClock}
use Rattle.lustat_rules.specs.declared.error.StatError.TheVariants.{ClockedParameter, HiddenClock, MaybeNil}
use Rattle.lustat_rules.specs.declared.error.StatError.TheVariants.{CurrentMayBeNil, NoMain, BadMerge}
use Rattle.lustat_rules.specs.declared.error.StatError.TheVariants.{OutOfMemory}

-- the rule that a refusal reports; none where memory ran out
abbrev pub rule_of : StatError → Option Rule
rule_of (DuplicateName byte) = Some accepted.duplicate_name
rule_of (UnknownName byte) = Some accepted.unknown_name
rule_of (UnknownNode byte) = Some accepted.unknown_node
rule_of (TypeMismatch byte) = Some accepted.type_mismatch
rule_of (WrongArity byte) = Some accepted.wrong_arity
rule_of (Undefined byte) = Some accepted.undefined
rule_of (DefinedTwice byte) = Some accepted.defined_twice
rule_of (RecursiveNode byte) = Some accepted.recursive_node
rule_of NoMain = Some accepted.no_main
rule_of (BadMerge byte) = Some accepted.bad_merge
rule_of (ClockMismatch byte) = Some accepted.clock_mismatch
rule_of (NotAClock byte) = Some accepted.not_a_clock
rule_of (ClockedParameter byte) = Some accepted.clocked_parameter
rule_of (HiddenClock byte) = Some accepted.hidden_clock
rule_of (MaybeNil byte) = Some accepted.maybe_nil
rule_of (CurrentMayBeNil byte) = Some accepted.current_may_be_nil
rule_of OutOfMemory = None

-- the byte that it reports; 0 where it reports none
abbrev pub byte_of : StatError → ℕ
byte_of (DuplicateName byte) = byte
byte_of (UnknownName byte) = byte
byte_of (UnknownNode byte) = byte
byte_of (TypeMismatch byte) = byte
byte_of (WrongArity byte) = byte
byte_of (Undefined byte) = byte
byte_of (DefinedTwice byte) = byte
byte_of (RecursiveNode byte) = byte
byte_of NoMain = 0
byte_of (BadMerge byte) = byte
byte_of (ClockMismatch byte) = byte
byte_of (NotAClock byte) = byte
byte_of (ClockedParameter byte) = byte
byte_of (HiddenClock byte) = byte
byte_of (MaybeNil byte) = byte
byte_of (CurrentMayBeNil byte) = byte
byte_of OutOfMemory = 0

abbrev pub number_reported : Option Rule → ℕ
number_reported None = 0
number_reported (Some rule) = number rule

-- the number of the rule that it reports; 0 where it reports none
abbrev pub number_of : StatError → ℕ
number_of e = number_reported (rule_of e)

-- a rule of the first stages is broken, and all rules of the stages before its own are kept
abbrev pub RuleReported : ℕ → ProgramTree → List ℕ → Option Rule → Type 0
RuleReported stages p main None = Unit {0}
RuleReported stages p main (Some rule) = (stage rule ≤ stages) × IsRefused p main rule

-- what a refusal says, where the first stages are checked; out of memory says nothing of the program
abbrev pub ReportsRule : ℕ → ProgramTree → List ℕ → StatError → Type 0
ReportsRule stages p main e = RuleReported stages p main (rule_of e)
