use Rattle.std.proofs.Common.{◌∙◌, ap}
use Rattle.lubase.specs.Places.{first_place}
use Rattle.lustat_rules.specs.Scopes.{node_spellings}
use Rattle.lutree.specs.declared.program.Program.{Program}
use Rattle.lustat_rules.proofs.Declared.{place_called}
use Rattle.lustat_rules.proofs.catalog.Catalog.place.Goals as goal

pub returns : goal.returns
returns c =
    c.find.ensures
    ∙ ap (λ l. first_place l c.args.name.now) (c.self.invariant.nodes ∙ ap (λ (p : Program). node_spellings p.nodes) c.self.view_is)
    ∙ place_called c.args.self.now.nodes c.args.name.now
