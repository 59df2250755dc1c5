use Rattle.std.proofs.Common.{sym, subst}
use Rattle.std.specs.Prelude.{option_map, string_bytes}
use Rattle.std.proofs.lemmas.Result.{IfOk-weaker, IfErr-weaker}
use Rattle.lusdist_call.specs.Asked.{IsAskedFor}
use Rattle.lusdist_call.specs.Stopped.IsReplayStopped.{replay_memory}
use Rattle.lusdist_call.specs.Mistakes.{cut_mistake, turns_mistake}
use Rattle.lusdist_answers.proofs.Replays.{first_none, is_replayed}
use Rattle.lusdist_answers.proofs.replaying.replayed_answer.Goals as goal

pub returns-clause-reply : goal.returns-clause-reply
returns-clause-reply g c =
    let gives = g.F.Files.gives c.args.files.now in
    let request = c.args.request in
    let job = c.in_ok-job.job in
    let turns = c.deref.result.now in
    let asked = subst (λ ts. IsAskedFor gives request job ts) (sym c.deref.ensures.value) c.in_ok-job.ensures.asked in
    IfOk-weaker c.printed.result _ _ (λ reply printed. is_replayed gives request c.requires job turns (string_bytes reply.text) (string_bytes reply.notes) reply.violated (option_map string_bytes reply.dump) asked c.in_ok-job.ensures.observed printed) c.printed.ensures.printed

pub returns-clause-stopped : goal.returns-clause-stopped
returns-clause-stopped g c = IfErr-weaker c.printed.result _ _ (λ stop h. replay_memory h) c.printed.ensures.memory

pub job_and_turns-requires : goal.job_and_turns-requires
job_and_turns-requires g c = first_none (turns_mistake c.args.request.source) (cut_mistake c.args.request.turns c.args.request.from c.args.request.to) c.requires
