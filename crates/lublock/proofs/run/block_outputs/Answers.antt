use Rattle.std.proofs.Common.{rules}
use Rattle.lueval.specs.Whole.{HasNoFault}
use Rattle.lueval.proofs.Answering.{one_solution, all_types}
use Rattle.lublock.proofs.Answered.{no_fault, on_ok}
use Rattle.lublock.proofs.run.block_outputs.Goals as goal

pub returns-in_err-columns-clause-only : goal.returns-in_err-columns-clause-only
returns-in_err-columns-clause-only c = one_solution c.args.flat.now c.args.inputs.now c.recall_invariant.ensures

pub returns-in_err-columns-clause-tidy : goal.returns-in_err-columns-clause-tidy
returns-in_err-columns-clause-tidy c = all_types c.args.flat.now c.args.inputs.now c.recall_invariant.ensures c.requires.fit

pub returns-in-Some-clause-only : goal.returns-in-Some-clause-only
returns-in-Some-clause-only c = one_solution c.args.flat.now c.args.inputs.now c.recall_invariant.ensures

pub returns-in-Some-clause-tidy : goal.returns-in-Some-clause-tidy
returns-in-Some-clause-tidy c = all_types c.args.flat.now c.args.inputs.now c.recall_invariant.ensures c.requires.fit

pub returns-in-Some-clause-no_fault : goal.returns-in-Some-clause-no_fault
returns-in-Some-clause-no_fault c = on_ok (HasNoFault c.args.flat.now c.args.inputs.now) c.reported.result (no_fault c.args.flat.now c.args.inputs.now c.in-Some.columns.items c.recall_invariant.ensures c.requires.fit (search rules))

pub returns-in_default-clause-fault : goal.returns-in_default-clause-fault
returns-in_default-clause-fault c = c.whole_outputs.ensures.fault
