use Rattle.std.proofs.Common.{◌∙◌, ap₂}
use Rattle.std.proofs.lemmas.Result.{IfOk-weaker}
use Rattle.lusdist_call.specs.Evaluated.{eval_notes, shown_text}
use Rattle.lusdist_answers.proofs.evaluating.shown_list.Goals as goal

pub returns-clause-text : goal.returns-clause-text
returns-clause-text c =
    let kinds = c.deref.ensures.value ∙ c.in_ok-kinds.ensures in
    IfOk-weaker c.shown.result _ _ (λ reply e. e ∙ ap₂ (λ ts ks. shown_text c.args.request ts ks c.args.columns.now) c.types.ensures kinds) c.shown.ensures.text

pub returns-clause-notes : goal.returns-clause-notes
returns-clause-notes c =
    let kinds = c.deref.ensures.value ∙ c.in_ok-kinds.ensures in
    IfOk-weaker c.shown.result _ _ (λ reply e. e ∙ ap₂ (λ ts ks. eval_notes c.args.request ts ks c.args.columns.now) c.types.ensures kinds) c.shown.ensures.notes
