use Rattle.std.proofs.Common.{List, ℕ, Some, sym, subst}
use Rattle.luexplain.specs.declared.said.Explanation.{Explanation}
use Rattle.lusdist_answers.proofs.Faulting.{ok_as, reason_of}
use Rattle.lusdist_answers.proofs.reasons.of_value.Goals as goal

pub returns : goal.returns
returns g c =
    let gives = g.F.Files.gives c.args.files.now in
    let asked = c.args.asked in
    let both = c.in_ok-both.both in
    let given = subst (λ (b : List ℕ). gives asked.program.now (Some b)) (sym c.as_slice-text.ensures.value) c.in_ok-bytes.ensures.given in
    ok_as c.told_of.result
    (
    λ (x : Explanation) stands.
    reason_of gives asked.program.now asked.main.now asked.table.now c.args.variable.now c.args.instant c.args.kind x c.as_slice-text.result.now c.in_ok-program.program both.0.program both.0.main both.1 c.in_ok-inputs.inputs
    given c.in_ok-program.ensures.spelled c.in_ok-program.ensures.places c.in_ok-both.ensures.flat c.in_ok-inputs.ensures.table c.in_ok-both.ensures.program c.in_ok-both.ensures.main stands
    )
    c.told_of.ensures
