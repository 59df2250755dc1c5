use Rattle.std.proofs.Common.{refl, sym}
use Rattle.std.proofs.lemmas.Result.{IfErr-weaker}
use Rattle.lusdist_call.specs.Stopped.IsReplayRefused.{replay_mistaken, replay_stopped}
use Rattle.lusdist_answers.proofs.replaying.replay_answer.Goals as goal

pub returns-in-Some-clause-refused : goal.returns-in-Some-clause-refused
returns-in-Some-clause-refused g c = replay_mistaken c.in-Some.mistake (sym c.in-Some.ensures) refl

pub replayed_answer-requires : goal.replayed_answer-requires
replayed_answer-requires g c = sym c.in-None.ensures

pub returns-in-None-clause-refused : goal.returns-in-None-clause-refused
returns-in-None-clause-refused g c =
    IfErr-weaker c.replayed_answer.result _ _ (λ stop h. replay_stopped (sym c.in-None.ensures) h) c.replayed_answer.ensures.stopped
