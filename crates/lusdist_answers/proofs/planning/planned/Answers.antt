use Rattle.std.proofs.Common.{Some, List, ℕ, sym, subst}
use Rattle.std.proofs.lemmas.Result.{err_from_is_err_and}
use Rattle.lusdist_call.specs.Asked.{HasFlat}
use Rattle.lusdist_call.specs.Stopped.StopsAtPlan.{no_program, place_unread, place_refused}
use Rattle.lusdist_answers.proofs.planning.planned.Goals as goal

pub returns-clause-plan : goal.returns-clause-plan
returns-clause-plan g c =
    let gives = g.F.Files.gives c.args.files.now in
    let at = c.in_ok-flat.ensures.flat in
    record {
      program = at.program;
      place = c.deref.result.now;
      program_given = at.given;
      place_given = subst (λ (b : List ℕ). gives c.args.place.now (Some b)) (sym c.deref.ensures.value) c.in_ok-place_bytes.ensures.given;
      flat = subst (HasFlat at.program c.args.main.now) (sym c.in_ok-plan.ensures.flat) at.flat_is;
      plan_of = c.in_ok-plan.ensures.plan;
      is_plan = c.recall_invariant.ensures;
    }

pub returns-in_err-flat-clause-stopped : goal.returns-in_err-flat-clause-stopped
returns-in_err-flat-clause-stopped g c =
    let p = err_from_is_err_and c.from_residual.result c.from_residual.ensures.1 in
    rw (p.1, p.2) (no_program c.in_err-flat.ensures.stopped)

pub returns-in_err-place_bytes-clause-stopped : goal.returns-in_err-place_bytes-clause-stopped
returns-in_err-place_bytes-clause-stopped g c =
    let p = err_from_is_err_and c.from_residual-in_err-place_bytes.result c.from_residual-in_err-place_bytes.ensures.1 in
    let at = c.in_ok-flat.ensures.flat in
    rw (p.1, p.2) (place_unread at.program c.in_ok-flat.flat at.given at.flat_is c.in_err-place_bytes.ensures.unread)

pub returns-in_err-plan-clause-stopped : goal.returns-in_err-plan-clause-stopped
returns-in_err-plan-clause-stopped g c =
    let p = err_from_is_err_and c.from_residual-in_err-plan.result c.from_residual-in_err-plan.ensures.1 in
    let gives = g.F.Files.gives c.args.files.now in
    let at = c.in_ok-flat.ensures.flat in
    rw (p.1, p.2) (place_refused at.program c.deref.result.now c.in_ok-flat.flat at.given at.flat_is (subst (λ (b : List ℕ). gives c.args.place.now (Some b)) (sym c.deref.ensures.value) c.in_ok-place_bytes.ensures.given) c.in_err-plan.ensures.refused)
