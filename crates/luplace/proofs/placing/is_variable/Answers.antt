use Rattle.std.proofs.Common.{◌∙◌, ap}
use Rattle.std.specs.Prelude.{is_some}
use Rattle.lubase.specs.Places.{first_place}
use Rattle.luplace.proofs.Sited.{variable_sought}
use Rattle.luplace.proofs.placing.is_variable.Goals as goal

pub returns : goal.returns
returns c =
    c.is_some.ensures
    ∙ ap is_some (c.find.ensures ∙ ap (λ ns. first_place ns c.args.name.now) c.requires)
    ∙ variable_sought 0 c.args.variables.now c.args.name.now
