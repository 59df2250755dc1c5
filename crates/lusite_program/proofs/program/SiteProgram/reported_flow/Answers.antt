use Rattle.std.proofs.Common.{◌≡◌, ℕ, List, Option, Some, None, ap, sym, ◌∙◌, subst}
use Rattle.std.specs.Prelude.{slice_get, unwrap_or}
use Rattle.luworld.specs.Jobs.{outputs_of}
use Rattle.lusite_program.specs.Programs.{SiteProgramView, Reports}
use Rattle.lusite_program.proofs.OutputLogs.{reported_there, reported_beyond}
use Rattle.lusite_program.proofs.program.SiteProgram.reported_flow.Goals as goal

pub returns-clause-there : goal.returns-clause-there
returns-clause-there c =
    let e = c.number_of.ensures ∙ ap (λ (xs : List (Option ℕ)). unwrap_or (slice_get xs c.args.k) None) c.as_slice.ensures in
    subst (λ (v : SiteProgramView). (i : ℕ) → slice_get (outputs_of v.plan) c.args.k ≡ Some i → Reports v.plan v.site i c.number_of.result) c.self.view_is
    (λ i there. subst (Reports c.self.inside.plan.value c.self.inside.site i) (sym e) (reported_there c.self.inside.plan.value c.self.inside.site c.self.inside.reported c.args.k i c.self.invariant.reported_are there))

pub returns-clause-beyond : goal.returns-clause-beyond
returns-clause-beyond c =
    let e = c.number_of.ensures ∙ ap (λ (xs : List (Option ℕ)). unwrap_or (slice_get xs c.args.k) None) c.as_slice.ensures in
    subst (λ (v : SiteProgramView). slice_get (outputs_of v.plan) c.args.k ≡ None → c.number_of.result ≡ None) c.self.view_is
    (λ none. e ∙ reported_beyond c.self.inside.plan.value c.self.inside.site c.self.inside.reported c.args.k c.self.invariant.reported_are none)
