use Rattle.std.proofs.Common.{◌≡◌, ◌≢◌, ℕ, List, [], length, Some, sym, subst, ap, ◌∙◌, arith}
use Rattle.std.specs.Prelude.{◌==◌}
use Rattle.lusdist_call.specs.Reasons.{AreFaultsAt, program_path}
use Rattle.lusdist_answers.proofs.Tellings.{not_empty}
use Rattle.lusdist_answers.proofs.reasons.faults_of.Goals as goal

pub returns : goal.returns
returns g c =
    let gives = g.F.Files.gives c.args.files.now in
    let asked = c.asked_in-asked.ensures in
    let len : length c.in_ok-faults.faults.items ≡ c.in_ok-faults.faults.len = omega (arith, c.in_ok-faults.faults.ok.0) in
    let some : c.in_ok-faults.faults.items ≢ [] = not_empty c.in_ok-faults.faults.items (ap (λ (n : ℕ). n == 0) len ∙ sym c.is_empty.ensures ∙ c.if-is_empty.false) in
    let at : AreFaultsAt gives c.asked_in-asked.result.program.now c.asked_in-asked.result.main.now c.in_ok-faults.faults.items = record {
      bytes = c.deref.result.now;
      given = subst (λ (b : List ℕ). gives c.asked_in-asked.result.program.now (Some b)) (sym c.deref.ensures.value) c.in_ok-text.ensures.given;
      program = c.in_ok-program.program;
      spelled = c.in_ok-program.ensures.spelled;
      placed = c.in_ok-program.ensures.places;
      are = c.in_ok-faults.ensures.refused some;
    } in
    subst (λ (m : List ℕ). AreFaultsAt gives (program_path c.args.request) m c.in_ok-faults.faults.items) asked.main (subst (λ (p : List ℕ). AreFaultsAt gives p c.asked_in-asked.result.main.now c.in_ok-faults.faults.items) asked.program at)
