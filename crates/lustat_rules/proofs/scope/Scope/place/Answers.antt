use Rattle.std.proofs.Common.{◌∙◌, ap, sym}
use Rattle.lubase.specs.Places.{first_place}
use Rattle.lustat_rules.specs.Scopes.{spellings}
use Rattle.lustat_rules.specs.Faults.{declared_in}
use Rattle.lustat_rules.proofs.Declared.{names_in_view}
use Rattle.lustat_rules.proofs.scope.Scope.place.Goals as goal

pub returns : goal.returns
returns c =
    c.find.ensures
    ∙ ap (λ l. first_place l c.args.name.now) (c.self.invariant.variables ∙ ap (λ n. spellings (declared_in n)) c.self.view_is ∙ sym (names_in_view c.args.self.now))
