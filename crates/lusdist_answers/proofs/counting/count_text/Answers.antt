use Rattle.std.proofs.Common.{subst, ◌∙◌, ap, ap₂, sym, Bool, ℕ, string_bytes}
use Rattle.std.specs.Prelude.{is_some}
use Rattle.std.proofs.lemmas.Result.{IfOk-weaker}
use Rattle.luworld.specs.Needs.{PlanView}
use Rattle.lustats.specs.Text.{stats_text}
use Rattle.lusdist_call.specs.Counted.{AreStats}
use Rattle.lusdist_answers.proofs.counting.count_text.Goals as goal

pub returns-in_ok-counts-in-Some : goal.returns-in_ok-counts-in-Some
returns-in_ok-counts-in-Some g c =
    let counts = c.in_ok-counts-in-Some.counts in
    let micros = c.micros_since-micros.result in
    let job = c.args.job.now in
    IfOk-weaker c.stats_text.result _ _
    (λ text e. subst (λ (b : Bool). AreStats b job (string_bytes text)) (ap is_some (sym c.in-Some.is))
    (counts, micros, e ∙ ap₂ (λ (p : PlanView) (n : ℕ). stats_text p counts micros n) c.plan.ensures.plan c.instants.ensures)) c.stats_text.ensures
