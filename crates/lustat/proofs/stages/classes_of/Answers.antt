use Rattle.std.proofs.Common.{List, ℕ, Some, All, sym, subst}
use Rattle.lutree.specs.declared.program.Program.{Program}
use Rattle.lutree.specs.Tree.{program_view}
use Rattle.lustat_rules.specs.Accepted.{Passes}
use Rattle.lustat_rules.specs.Faults.{IsJudged}
use Rattle.lustat_init.specs.Assigned.{LeftsKnown}
use Rattle.lustat_init.specs.Faults.{AreKept, IsFault, ReportsBroken}
use Rattle.lustat_init.specs.Rows.{AreClasses, IfKept, IfBroken, fault_of, plain}
use Rattle.lustat_init.proofs.Rowing.{lefts}
use Rattle.lustat.proofs.Reporting.{accepted_from, reported_by_classes}
use Rattle.lustat.proofs.First.{first_of_classes}
use Rattle.lustat.proofs.stages.classes_of.Goals as goal

pub initialise-requires : goal.initialise-requires
initialise-requires c =
    let p : Program = c.args.typed.now.program in
    subst (λ (x : Program). All LeftsKnown (program_view x).nodes) (sym c.catalog.ensures.catalog) (lefts (program_view p) c.args.typed.now.main c.catalog.ensures.names)

pub returns-in-Kept-clause-accepted : goal.returns-in-Kept-clause-accepted
returns-in-Kept-clause-accepted c =
    let p : Program = c.args.typed.now.program in
    let main = c.args.typed.now.main in
    let seen : Program = c.catalog.result.now in
    let all = subst (λ f. IfKept f (λ _. (m : List ℕ) → Passes (program_view seen) m 3)) c.in-Kept.is c.in_ok-classes.ensures.passes in
    let passes = subst (λ (x : Program). Passes (program_view x) main 3) c.catalog.ensures.catalog (all main) in
    accepted_from p main c.catalog.ensures.names c.requires passes

pub returns-in-Kept-clause-classes : goal.returns-in-Kept-clause-classes
returns-in-Kept-clause-classes c =
    let rows = subst (λ f. IfKept f (AreClasses (program_view c.catalog.result.now))) c.in-Kept.is c.in_ok-classes.ensures.classes in
    subst (λ (x : Program). AreClasses (program_view x) (plain c.in-Kept.classes.items)) c.catalog.ensures.catalog rows

pub returns-in-Broken-clause-reported : goal.returns-in-Broken-clause-reported
returns-in-Broken-clause-reported c =
    let p : Program = c.args.typed.now.program in
    let main = c.args.typed.now.main in
    let e = c.in-Broken.fault in
    let seen : Program = c.catalog.result.now in
    let broken = subst (λ f. IfBroken f (λ e. (m : List ℕ) → ReportsBroken (program_view seen) m e)) c.in-Broken.is c.in_ok-classes.ensures.broken in
    reported_by_classes p main e c.catalog.ensures.names c.requires (subst (λ (x : Program). ReportsBroken (program_view x) main e) c.catalog.ensures.catalog (broken main))

pub returns-in-Broken-clause-first : goal.returns-in-Broken-clause-first
returns-in-Broken-clause-first c =
    let p : Program = c.args.typed.now.program in
    let main = c.args.typed.now.main in
    let e = c.in-Broken.fault in
    let seen : Program = c.catalog.result.now in
    let broken = subst (λ f. IfBroken f (λ e. (m : List ℕ) → ReportsBroken (program_view seen) m e)) c.in-Broken.is c.in_ok-classes.ensures.broken in
    let judged = subst (λ f. IsJudged (IsFault seen.nodes) (AreKept seen.nodes) (fault_of f)) c.in-Broken.is c.in_ok-classes.ensures.first in
    first_of_classes p main e (subst (λ (x : Program). ReportsBroken (program_view x) main e) c.catalog.ensures.catalog (broken main))
    (subst (λ (x : Program). IsJudged (IsFault x.nodes) (AreKept x.nodes) (Some e)) c.catalog.ensures.catalog judged)
