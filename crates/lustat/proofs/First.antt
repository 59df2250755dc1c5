-- What each stage reports is reported first.
use Rattle.std.proofs.Common.{◌≡◌, ◌∙◌, ◌/◌, inl, inr, ℕ, List, Option, Some, None, refl, ap, arith}
use Rattle.lutree.specs.declared.program.Program.{Program}
use Rattle.lutree.specs.Tree.{program_view}
use Rattle.lustat_rules.specs.Accepted.{Rule, stage}
use Rattle.lustat_rules.specs.declared.error.StatError.{StatError}
use Rattle.lustat_rules.specs.declared.error.StatError.TheVariants.{DuplicateName, UnknownName, UnknownNode, TypeMismatch, WrongArity, Undefined, DefinedTwice, RecursiveNode, ClockMismatch, NotAClock, ClockedParameter, HiddenClock, MaybeNil, CurrentMayBeNil, NoMain, BadMerge, OutOfMemory}
use Rattle.lustat_rules.specs.Reported.{rule_of, number_reported, RuleReported, ReportsRule}
use Rattle.lustat_rules.specs.Faults.{IsJudged, IsFault, AreKept}
use Rattle.lustat_rules.proofs.Stages.{stage_least}
use Rattle.lustat_rules.proofs.Keeping.{broken_somewhere}
use Rattle.lutype.specs.First.{IsReportedFirst as IsFirstOfNames}
use Rattle.lustat_clocks.specs.Asked.{is_asked}
use Rattle.lustat_init.specs.Faults.{IsFault as IsClassFault, AreKept as AreClassesKept, ReportsBroken}
use Rattle.lustat.specs.First.{stage_reported, IsReportedFirst}
use Rattle.lustat.proofs.Reporting.{second}

-- only out of memory reports no rule
no_rule : (e : StatError) → rule_of e ≡ None → e ≡ OutOfMemory
no_rule (DuplicateName byte) h = absurd (cc)
no_rule (UnknownName byte) h = absurd (cc)
no_rule (UnknownNode byte) h = absurd (cc)
no_rule (TypeMismatch byte) h = absurd (cc)
no_rule (WrongArity byte) h = absurd (cc)
no_rule (Undefined byte) h = absurd (cc)
no_rule (DefinedTwice byte) h = absurd (cc)
no_rule (RecursiveNode byte) h = absurd (cc)
no_rule NoMain h = absurd (cc)
no_rule (BadMerge byte) h = absurd (cc)
no_rule (ClockMismatch byte) h = absurd (cc)
no_rule (NotAClock byte) h = absurd (cc)
no_rule (ClockedParameter byte) h = absurd (cc)
no_rule (HiddenClock byte) h = absurd (cc)
no_rule (MaybeNil byte) h = absurd (cc)
no_rule (CurrentMayBeNil byte) h = absurd (cc)
no_rule OutOfMemory h = refl

-- the stage of the rule that a refusal reports
pub stage_of_reported : (e : StatError) (rule : Rule) → rule_of e ≡ Some rule → stage_reported e ≡ stage rule
stage_of_reported e rule reported = ap (λ n. n / 10) (ap number_reported reported)

pub first_of_names : (p : Program) (main : List ℕ) (e : StatError) → ReportsRule 1 (program_view p) main e → IsFirstOfNames p main e → IsReportedFirst p main e
first_of_names p main e tells (inl no_memory) = IsReportedFirst.memory no_memory
first_of_names p main e tells (inr least) = by_rule (rule_of e) refl tells
  where
    by_rule : (o : Option Rule) → rule_of e ≡ o → RuleReported 1 (program_view p) main o → IsReportedFirst p main e
    by_rule None is h = IsReportedFirst.memory (no_rule e is)
    by_rule (Some rule) is h =
        let one : stage rule ≡ 1 = (let le = h.0 in let ge = stage_least rule in omega (arith, le, ge)) in
        IsReportedFirst.names (stage_of_reported e rule is ∙ one) least

pub first_of_clocks : (p : Program) (main : List ℕ) (e : StatError) → IsJudged (IsFault is_asked p main) (AreKept is_asked p main) (Some e) → IsReportedFirst p main e
first_of_clocks p main e judged =
    let b = broken_somewhere is_asked p main e judged.0 in
    IsReportedFirst.clocks (stage_of_reported e b.rule b.reported ∙ second b.rule b.one) judged

pub first_of_classes : (p : Program) (main : List ℕ) (e : StatError) → ReportsBroken (program_view p) main e → IsJudged (IsClassFault p.nodes) (AreClassesKept p.nodes) (Some e) → IsReportedFirst p main e
first_of_classes p main e b judged = IsReportedFirst.classes (stage_of_reported e b.rule b.reported ∙ b.third) judged
