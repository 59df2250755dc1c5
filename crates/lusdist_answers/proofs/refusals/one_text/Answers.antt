use Rattle.std.proofs.Common.{ℕ, List, ◌++◌, sym, subst, ap, ◌∙◌}
use Rattle.lusdist_call.specs.Reasons.{IsTold}
use Rattle.lusdist_answers.proofs.refusals.one_text.Goals as goal

pub returns : goal.returns
returns g c =
    let told = c.in_ok-put_told.ensures in
    let is = told.2 ∙ ap (λ (xs : List ℕ). xs ++ told.0) c.new-text.ensures.items in
    subst (IsTold (g.F.Files.gives c.args.files.now) c.args.request c.args.stop.now) (sym is) told.1
