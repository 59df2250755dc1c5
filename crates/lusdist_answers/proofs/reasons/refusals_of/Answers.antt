use Rattle.std.proofs.Common.{◌≡◌, ℕ, List, length, Some, sym, subst, ap, ◌∙◌, arith}
use Rattle.std.specs.Prelude.{◌==◌}
use Rattle.lusdist_call.specs.Reasons.{AreRefusalsAt}
use Rattle.lusdist_answers.proofs.Tellings.{some_refusals}
use Rattle.lusdist_answers.proofs.reasons.refusals_of.Goals as goal

pub returns : goal.returns
returns g c =
    let gives = g.F.Files.gives c.args.files.now in
    let asked = c.asked_in-asked.ensures in
    let found = c.in_ok-refusals.refusals in
    let len : length found.items ≡ found.len = omega (arith, found.ok.0) in
    let filled = ap (λ (n : ℕ). n == 0) len ∙ sym c.is_empty.ensures ∙ c.if-is_empty.false in
    let at : AreRefusalsAt gives c.asked_in-asked.result.program.now found.items = record {
      bytes = c.deref.result.now;
      given = subst (λ (b : List ℕ). gives c.asked_in-asked.result.program.now (Some b)) (sym c.deref.ensures.value) c.in_ok-text.ensures.given;
      are = some_refusals _ _ found.items filled c.in_ok-refusals.ensures;
    } in
    subst (λ (p : List ℕ). AreRefusalsAt gives p found.items) asked.program at
