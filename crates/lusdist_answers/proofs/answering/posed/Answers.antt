use Rattle.std.proofs.Common.{inl, inr}
use Rattle.std.proofs.lemmas.Result.{err_from_is_err_and}
use Rattle.lusdist_answers.proofs.HasOutputs.{some_output}
use Rattle.lusdist_answers.proofs.Stops.{at_program_none, at_table_none, stops_at_table}
use Rattle.lusdist_answers.proofs.Outcomes.{flat_shown, memory_none, posed_at, observe_none}
use Rattle.lusdist_call.specs.Stopped.IsEvalStopped.{eval_program, eval_unobserved, eval_memory}
use Rattle.lusdist_answers.proofs.answering.posed.Goals as goal

pub returns-clause-posed : goal.returns-clause-posed
returns-clause-posed g c =
    let at = c.in_ok-flat.ensures.shown in
    let here = c.in_ok-inputs.ensures.table in
    record { posed = posed_at (g.F.Files.gives c.args.files.now) c.args.request c.in_ok-flat.flat c.in_ok-inputs.inputs (flat_shown (g.F.Files.gives c.args.files.now) c.args.request c.in_ok-flat.flat c.in_ok-flat.list.items at) here; list_of = at.has.list_of }

pub returns-clause-some : goal.returns-clause-some
returns-clause-some g c =
    let at = c.in_ok-flat.ensures.shown in
    some_output at.program c.args.request.main.now at.has.has.tree c.in_ok-flat.flat at.has.has.spelled at.has.has.flat_is

pub returns-in_err-flat-clause-stopped : goal.returns-in_err-flat-clause-stopped
returns-in_err-flat-clause-stopped g c =
    let p = err_from_is_err_and c.from_residual.result c.from_residual.ensures.1 in
    rw (p.1, p.2) (elim c.in_err-flat.ensures.stopped [ inl memory ↦ eval_memory memory | inr none ↦ eval_program none ])

pub returns-in_err-inputs-clause-stopped : goal.returns-in_err-inputs-clause-stopped
returns-in_err-inputs-clause-stopped g c =
    let p = err_from_is_err_and c.from_residual-in_err-inputs.result c.from_residual-in_err-inputs.ensures.1 in
    rw (p.1, p.2) (stops_at_table (g.F.Files.gives c.args.files.now) c.args.request c.in_ok-flat.flat _ (flat_shown (g.F.Files.gives c.args.files.now) c.args.request c.in_ok-flat.flat c.in_ok-flat.list.items c.in_ok-flat.ensures.shown) c.in_err-inputs.ensures.stopped)

pub returns-in_err-flat-clause-no_fault : goal.returns-in_err-flat-clause-no_fault
returns-in_err-flat-clause-no_fault g c =
    let p = err_from_is_err_and c.from_residual.result c.from_residual.ensures.1 in
    rw (p.1, p.2) (elim c.in_err-flat.ensures.stopped [ inl memory ↦ memory_none _ memory | inr none ↦ at_program_none (g.F.Files.gives c.args.files.now) c.args.request.program.now c.args.request.main.now _ none ])

pub returns-in_err-inputs-clause-no_fault : goal.returns-in_err-inputs-clause-no_fault
returns-in_err-inputs-clause-no_fault g c =
    let p = err_from_is_err_and c.from_residual-in_err-inputs.result c.from_residual-in_err-inputs.ensures.1 in
    rw (p.1, p.2) (at_table_none (g.F.Files.gives c.args.files.now) c.args.request.table.now c.in_ok-flat.flat _ c.in_err-inputs.ensures.stopped)

pub returns-in_err-observe-clause-stopped : goal.returns-in_err-observe-clause-stopped
returns-in_err-observe-clause-stopped g c =
    let p = err_from_is_err_and c.from_residual-in_err-observe.result c.from_residual-in_err-observe.ensures.1 in
    let at = c.in_ok-flat.ensures.shown in
    let here = c.in_ok-inputs.ensures.table in
    rw (p.1, p.2) (elim c.in_err-observe.ensures.stopped [
      | inl memory ↦ eval_memory memory
      | inr un ↦ eval_unobserved c.in_ok-flat.flat c.in_ok-inputs.inputs
          (posed_at (g.F.Files.gives c.args.files.now) c.args.request c.in_ok-flat.flat c.in_ok-inputs.inputs (flat_shown (g.F.Files.gives c.args.files.now) c.args.request c.in_ok-flat.flat c.in_ok-flat.list.items at) here)
          un
    ])

pub returns-in_err-observe-clause-no_fault : goal.returns-in_err-observe-clause-no_fault
returns-in_err-observe-clause-no_fault g c =
    let p = err_from_is_err_and c.from_residual-in_err-observe.result c.from_residual-in_err-observe.ensures.1 in
    rw (p.1, p.2) (observe_none c.in_ok-flat.flat _ _ c.in_err-observe.ensures.stopped)
