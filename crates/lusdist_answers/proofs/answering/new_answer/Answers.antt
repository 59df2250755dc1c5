use Rattle.std.proofs.Common.{ap, ◌∙◌, option_map, string_bytes}
use Rattle.std.proofs.lemmas.Result.{err_from_is_err_and}
use Rattle.lusdist_call.specs.Stopped.IsNewStopped.{new_program}
use Rattle.lusdist_answers.proofs.answering.new_answer.Goals as goal

pub returns-in_err-flat-clause-stopped : goal.returns-in_err-flat-clause-stopped
returns-in_err-flat-clause-stopped g c =
    let p = err_from_is_err_and c.from_residual.result c.from_residual.ensures.1 in
    rw (p.1, p.2) (new_program c.in_err-flat.ensures.stopped)

pub returns-clause-reply : goal.returns-clause-reply
returns-clause-reply g c =
    let made = c.plain.ensures in (
      record {
        flat = c.in_ok-flat.flat;
        flat_at = c.in_ok-flat.ensures.flat;
        text_is = ap string_bytes made.text ∙ c.in_ok-text.ensures;
      },
      made.notes,
      (made.violated, ap (option_map string_bytes) made.dump),
    )
