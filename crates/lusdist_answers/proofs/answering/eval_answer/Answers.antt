use Rattle.std.proofs.Common.{refl, sym}
use Rattle.lusdist_call.specs.Stopped.IsEvalRefused.{eval_mistaken}
use Rattle.lusdist_answers.proofs.Outcomes.{eval_refusal}
use Rattle.lusdist_answers.proofs.answering.eval_answer.Goals as goal

pub returns-in-Some-clause-refusal : goal.returns-in-Some-clause-refusal
returns-in-Some-clause-refusal g c = record { stops = eval_mistaken c.in-Some.mistake (sym c.in-Some.ensures) refl; leaves = refl }

pub evaluated-requires : goal.evaluated-requires
evaluated-requires g c = sym c.in-None.ensures

pub returns-in-None-clause-refusal : goal.returns-in-None-clause-refusal
returns-in-None-clause-refusal g c =
    eval_refusal (g.F.Files.gives c.args.files.now) c.args.request (sym c.in-None.ensures) c.evaluated.result c.evaluated.ensures.stopped c.evaluated.ensures.before
