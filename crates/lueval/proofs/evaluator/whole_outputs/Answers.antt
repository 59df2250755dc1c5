use Rattle.std.proofs.Common.{◌∙◌, List, subst, sym, ap}
use Rattle.luflow.specs.declared.variable.Variable.{Variable}
use Rattle.luflow.specs.Tables.{AreOutputs}
use Rattle.lueval_lines.specs.Columns.{lists_of}
use Rattle.lueval_lines.specs.Outputs.{outputs_in}
use Rattle.lueval.proofs.Answering.{one_solution, all_types}
use Rattle.lueval.proofs.Listing.{whole_outputs, sound_outputs}
use Rattle.lueval.proofs.evaluator.whole_outputs.Goals as goal

pub returns-in_err-notes-clause-only : goal.returns-in_err-notes-clause-only
returns-in_err-notes-clause-only c = one_solution c.args.flat.now c.args.inputs.now c.recall_invariant.ensures

pub returns-in_err-notes-clause-tidy : goal.returns-in_err-notes-clause-tidy
returns-in_err-notes-clause-tidy c = all_types c.args.flat.now c.args.inputs.now c.recall_invariant.ensures c.requires.fit

pub returns-in_err-outputs-clause-only : goal.returns-in_err-outputs-clause-only
returns-in_err-outputs-clause-only c = one_solution c.args.flat.now c.args.inputs.now c.recall_invariant.ensures

pub returns-in_err-outputs-clause-tidy : goal.returns-in_err-outputs-clause-tidy
returns-in_err-outputs-clause-tidy c = all_types c.args.flat.now c.args.inputs.now c.recall_invariant.ensures c.requires.fit

pub returns-clause-only : goal.returns-clause-only
returns-clause-only c = one_solution c.args.flat.now c.args.inputs.now c.recall_invariant.ensures

pub returns-clause-tidy : goal.returns-clause-tidy
returns-clause-tidy c = all_types c.args.flat.now c.args.inputs.now c.recall_invariant.ensures c.requires.fit

pub unreachable-requires : goal.unreachable-requires
unreachable-requires c =
    let flat = c.args.flat.now in
    let inputs = c.args.inputs.now in
    let notes = c.in_ok-notes.notes in
    let is = c.in_ok-outputs.ensures ∙ ap (λ (xs : List Variable). outputs_in xs (lists_of notes.columns.items)) c.variables.ensures in
    let clash = c.in-None.ensures.when.1 (subst AreOutputs (sym is) (sound_outputs flat inputs notes c.recall_invariant.ensures c.in_ok-notes.ensures.notes c.requires.some)) in
    cc

pub returns-clause-outputs : goal.returns-clause-outputs
returns-clause-outputs c =
    let flat = c.args.flat.now in
    let inputs = c.args.inputs.now in
    let notes = c.in_ok-notes.notes in
    let is = c.in_ok-outputs.ensures ∙ ap (λ (xs : List Variable). outputs_in xs (lists_of notes.columns.items)) c.variables.ensures in
    whole_outputs flat inputs notes c.recall_invariant.ensures c.in_ok-notes.ensures.notes c.in-Some.outputs (c.in-Some.ensures.outputs ∙ is)
