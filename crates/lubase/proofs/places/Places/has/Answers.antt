use Rattle.std.proofs.Common.{◌∙◌, ap}
use Rattle.std.specs.Option.{is_some}
use Rattle.lubase.proofs.Finding.{has_by_place}
use Rattle.lubase.proofs.places.Places.has.Goals as goal

pub returns : goal.returns
returns c = has_by_place c.args.self.now c.args.name.now c.is_some.result (c.is_some.ensures ∙ ap is_some c.find.ensures)
