use Rattle.std.proofs.Common.{◌∙◌, ap}
use Rattle.lutree.specs.declared.program.Program.{Program}
use Rattle.lubase.specs.Places.{first_place}
use Rattle.lustat_rules.specs.Scopes.{type_spellings}
use Rattle.lustat_rules.proofs.Labelled.{same_type_spellings}
use Rattle.lustat_rules.proofs.catalog.Catalog.type_place.Goals as goal

pub returns : goal.returns
returns c =
    c.find.ensures
    ∙ ap (λ l. first_place l c.args.name.now) (c.self.invariant.types ∙ ap (λ (p : Program). type_spellings p.types) c.self.view_is ∙ same_type_spellings c.args.self.now.types)
