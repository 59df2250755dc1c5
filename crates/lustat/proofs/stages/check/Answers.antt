use Rattle.std.proofs.Common.{ap, subst, ◌∙◌}
use Rattle.std.proofs.lemmas.Result.{err_from_is_err_and}
use Rattle.lutree.specs.declared.program.Program.{Program}
use Rattle.lutree.specs.Tree.{program_view}
use Rattle.lustat_rules.specs.Accepted.{IsAccepted}
use Rattle.lustat_rules.specs.Reported.{ReportsRule}
use Rattle.lustat.specs.Whole.{Whole}
use Rattle.lustat.specs.First.{IsReportedFirst}
use Rattle.lustat.proofs.First.{first_of_names}
use Rattle.lustat.proofs.Reporting.{reported_by_names}
use Rattle.lustat.proofs.stages.check.Goals as goal

pub returns-in_err-typed-clause-first : goal.returns-in_err-typed-clause-first
returns-in_err-typed-clause-first c =
    let p = err_from_is_err_and c.from_residual.result c.from_residual.ensures.1 in
    rw (p.1, p.2) (first_of_names _ _ _ c.in_err-typed.ensures.reported c.in_err-typed.ensures.first)

pub new-requires : goal.new-requires
new-requires c =
    record {
      accepted = c.in_ok-classes.ensures.accepted;
      calls = c.order-calls.ensures.calls;
      classes = c.in_ok-classes.ensures.classes;
    }

pub returns-clause-accepted : goal.returns-clause-accepted
returns-clause-accepted c =
    subst (λ m. IsAccepted (program_view c.args.program.now) m) c.in_ok-typed.ensures.main
    (subst (λ (x : Program). IsAccepted (program_view x) c.in_ok-typed.typed.main) c.in_ok-typed.ensures.program c.in_ok-classes.ensures.accepted)

pub returns-in_err-typed-clause-reported : goal.returns-in_err-typed-clause-reported
returns-in_err-typed-clause-reported c =
    let p = err_from_is_err_and c.from_residual.result c.from_residual.ensures.1 in
    rw (p.1, p.2) (reported_by_names _ _ _ c.in_err-typed.ensures.reported)

pub returns-in_err-classes-clause-reported : goal.returns-in_err-classes-clause-reported
returns-in_err-classes-clause-reported c =
    let p = err_from_is_err_and c.from_residual-in_err-classes.result c.from_residual-in_err-classes.ensures.1 in
    rw (p.1, p.2) (subst (λ m. ReportsRule 3 (program_view c.args.program.now) m c.in_err-classes.field-0.0) c.in_ok-typed.ensures.main (subst (λ (x : Program). ReportsRule 3 (program_view x) c.in_ok-typed.typed.main c.in_err-classes.field-0.0) c.in_ok-typed.ensures.program c.in_err-classes.ensures.reported))

pub returns-in_err-classes-clause-first : goal.returns-in_err-classes-clause-first
returns-in_err-classes-clause-first c =
    let p = err_from_is_err_and c.from_residual-in_err-classes.result c.from_residual-in_err-classes.ensures.1 in
    rw (p.1, p.2) (subst (λ m. IsReportedFirst c.args.program.now m c.in_err-classes.field-0.0) c.in_ok-typed.ensures.main (subst (λ (x : Program). IsReportedFirst x c.in_ok-typed.typed.main c.in_err-classes.field-0.0) c.in_ok-typed.ensures.program c.in_err-classes.ensures.first))

pub returns-clause-main : goal.returns-clause-main
returns-clause-main c = ap (λ (w : Whole). w.main) c.new.ensures ∙ c.in_ok-typed.ensures.main
