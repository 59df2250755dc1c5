-- The job of three texts.
use Rattle.std.proofs.Common.{◌≡◌, ℕ, false, List, sym, ap, subst}
use Rattle.luflow.specs.Program.{FlatView}
use Rattle.luflow.specs.Variables.{inputs_of}
use Rattle.luflow.specs.Tables.{FitsProgram}
use Rattle.luworld.specs.Needs.{PlanView}
use Rattle.luworld.specs.Jobs.{JobView, IsJobView}
use Rattle.std.specs.Prelude.{IsUtf8}
use Rattle.lutab.specs.Table.{IsTextOf, is_too_long}
use Rattle.lusdist_call.specs.Asked.{HasFlat, IsPlanOfText, IsJobOf}

pub job_is : (program place table main : List ℕ) (plan : PlanView) (job : JobView) → HasFlat program main plan.flat → IsPlanOfText place plan → job.plan ≡ plan → IsTextOf plan.flat.types (inputs_of plan.flat.variables) job.inputs table → is_too_long table ≡ false → IsUtf8 table → FitsProgram plan.flat job.inputs → IsJobView job → IsJobOf program place table main job
job_is program place table main plan job flat_of plan_of plan_is text short utf8 fits run =
    let with : plan.flat ≡ job.plan.flat = ap (λ (p : PlanView). p.flat) (sym plan_is) in
    let f : HasFlat program main job.plan.flat = subst (HasFlat program main) with flat_of in
    let columns = f.flat_is.columns job.inputs (subst (λ (g : FlatView). FitsProgram g job.inputs) with fits) in
    record {
      flat = f;
      plan = subst (IsPlanOfText place) (sym plan_is) plan_of;
      inputs = subst (λ (g : FlatView). IsTextOf g.types (inputs_of g.variables) job.inputs table) with text;
      short = short;
      utf8 = utf8;
      is_run = run;
      one_meaning = f.flat_is.one_meaning job.inputs columns;
      is_meant = λ σ solves. record { program = f.tree; main = main; agrees = f.flat_is.agrees job.inputs columns; solves = solves };
    }
