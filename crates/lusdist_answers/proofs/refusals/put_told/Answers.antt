use Rattle.std.proofs.Common.{ℕ, List, ◌++◌, refl, sym, ap, ◌∙◌}
use Rattle.std.proofs.lemmas.Result.{IfOk-weaker}
use Rattle.lusdist_call.specs.Reasons.{short_line, explained_line, short_text, explained_text}
use Rattle.lusdist_call.specs.Reasons.IsTold.{explained, short}
use Rattle.lusdist_answers.proofs.refusals.put_told.Goals as goal

pub returns-in-Some : goal.returns-in-Some
returns-in-Some g c =
    let reason = c.in-Some.reason in
    let line = c.as_str.ensures.value ∙ c.in_ok-line.ensures in
    IfOk-weaker c.put_short.result _ _ (λ _ e. (short_text c.args.stop.now reason, short reason (sym c.asks_short.ensures ∙ c.if-asks_short.true) c.in-Some.ensures refl, e ∙ ap (λ (l : List ℕ). c.args.text.now.items ++ short_line l reason) line)) c.put_short.ensures

pub returns-in-Some-asked_reason : goal.returns-in-Some-asked_reason
returns-in-Some-asked_reason g c =
    let reason = c.in-Some-asked_reason.reason in
    let line = c.as_str-in-Some-asked_reason.ensures.value ∙ c.in_ok-line.ensures in
    IfOk-weaker c.put_explained.result _ _ (λ _ e. (explained_text c.args.stop.now reason, explained reason (sym c.asks_why.ensures ∙ c.if-asks_why.true) (sym c.asks_short.ensures ∙ c.if-asks_short.false) c.in-Some-asked_reason.ensures refl, e ∙ ap (λ (l : List ℕ). c.args.text.now.items ++ explained_line l reason) line)) c.put_explained.ensures
