use Rattle.std.proofs.Common.{◌≡◌, length, subst, sym}
use Rattle.lueval.specs.Whole.{AreStreams, AreMeant}
use Rattle.lueval_lines.specs.Columns.{Column, lists_of}
use Rattle.std.specs.Prelude.{All}
use Rattle.luflow.specs.Solution.{solution}
use Rattle.lueval_lines.proofs.Noting.{columns_even}
use Rattle.lueval.proofs.Listing.{whole_streams}
use Rattle.lueval.proofs.Answering.{one_solution, all_types, meant}
use Rattle.lueval.proofs.evaluator.whole.Goals as goal

pub returns-in_err-notes-clause-only : goal.returns-in_err-notes-clause-only
returns-in_err-notes-clause-only c = one_solution c.args.flat.now c.args.inputs.now c.recall_invariant.ensures

pub returns-in_err-notes-clause-tidy : goal.returns-in_err-notes-clause-tidy
returns-in_err-notes-clause-tidy c = all_types c.args.flat.now c.args.inputs.now c.recall_invariant.ensures c.requires

pub returns-clause-only : goal.returns-clause-only
returns-clause-only c = one_solution c.args.flat.now c.args.inputs.now c.recall_invariant.ensures

pub returns-clause-tidy : goal.returns-clause-tidy
returns-clause-tidy c = all_types c.args.flat.now c.args.inputs.now c.recall_invariant.ensures c.requires

pub returns-clause-solution : goal.returns-clause-solution
returns-clause-solution c =
    let flat = c.args.flat.now in
    let inputs = c.args.inputs.now in
    let notes = c.in_ok-notes.notes in
    let are = c.in_ok-notes.ensures.notes in
    subst (AreStreams flat inputs) (sym c.new.ensures) (whole_streams flat inputs notes.kept.items notes.columns.items c.recall_invariant.ensures are.all are.len are.columns)

pub returns-clause-source : goal.returns-clause-source
returns-clause-source c =
    let flat = c.args.flat.now in
    let inputs = c.args.inputs.now in
    let notes = c.in_ok-notes.notes in
    let are = c.in_ok-notes.ensures.notes in
    subst (AreMeant flat inputs) (sym c.new.ensures) (meant flat inputs (lists_of notes.columns.items) (whole_streams flat inputs notes.kept.items notes.columns.items c.recall_invariant.ensures are.all are.len are.columns))

pub new-requires : goal.new-requires
new-requires c =
    let flat = c.args.flat.now in
    let inputs = c.args.inputs.now in
    let notes = c.in_ok-notes.notes in
    let are = c.in_ok-notes.ensures.notes in
    let even = columns_even inputs (solution flat inputs) flat.variables notes.kept.items notes.columns.items inputs.instants are.all are.len are.columns in
    subst (λ n. All (λ (x : Column). length x.items ≡ n) notes.columns.items) (sym c.instants.ensures.instants) even
