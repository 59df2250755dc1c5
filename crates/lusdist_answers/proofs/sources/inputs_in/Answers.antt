use Rattle.luflow.proofs.Fitting.{fits}
use Rattle.lusdist_answers.proofs.sources.inputs_in.Goals as goal

pub returns-in-Ok-clause-fit : goal.returns-in-Ok-clause-fit
returns-in-Ok-clause-fit c =
    fits c.args.flat.now c.in-Ok.inputs c.recall_invariant.ensures c.in-Ok.ensures.spelled.is_table c.in-Ok.ensures.fits
