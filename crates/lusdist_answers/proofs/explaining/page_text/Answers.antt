use Rattle.std.proofs.Common.{ℕ, List, Option, Bor, refl, sym, ap, ◌∙◌}
use Rattle.std.specs.Prelude.{option_map}
use Rattle.lusdist_call.specs.declared.mistake.Mistake.TheVariants.{UnknownCode}
use Rattle.lusdist_call.specs.declared.call_error.CallError.TheVariants.{Mistaken}
use Rattle.lusdist_call.specs.Explained.IsExplainStopped.{explain_unknown}
use Rattle.lusdist_answers.proofs.explaining.page_text.Goals as goal

pub returns-in_ok-from_text-in-None-clause-stopped : goal.returns-in_ok-from_text-in-None-clause-stopped
returns-in_ok-from_text-in-None-clause-stopped c =
    let none = sym c.in_ok-page.ensures ∙ ap (λ (found : Option (Bor (List ℕ))). option_map (λ s. s.now) found) c.in-None.is in
    explain_unknown c.args.code.now refl none (ap (λ (name : List ℕ). Mistaken (UnknownCode name)) c.in_ok-from_text-in-None.ensures)
