use Rattle.std.proofs.Common.{◌∙◌, sym, ap, Some, None, refl, arith}
use Rattle.std.specs.Prelude.{option_copied}
use Rattle.lustat_rules.specs.Faults.{declared_in}
use Rattle.lustat_rules.proofs.Declared.{found_meaning, within_items, read_at}
use Rattle.std.proofs.lemmas.Grind.{common_steps}
use Rattle.lustat_rules.proofs.scope.Scope.find.Goals as goal

pub returns-in-None : goal.returns-in-None
returns-in-None c =
    found_meaning c.args.self.now c.args.name.now c.self.inside.declarations.items None None (c.self.invariant.declarations ∙ ap declared_in c.self.view_is) (sym c.in-None.is ∙ c.place.ensures) refl

pub index-requires : goal.index-requires
index-requires c =
    let lt = within_items c.args.self.now c.args.name.now c.self.inside.declarations.items c.in-Some.place (c.self.invariant.declarations ∙ ap declared_in c.self.view_is) (sym c.place.ensures ∙ c.in-Some.is) in
    grind (arith, common_steps, lt)

pub returns-in-Some : goal.returns-in-Some
returns-in-Some c =
    let items = c.self.inside.declarations.items in
    let same = c.self.invariant.declarations ∙ ap declared_in c.self.view_is in
    let place = sym c.in-Some.is ∙ c.place.ensures in
    let lt = within_items c.args.self.now c.args.name.now items c.in-Some.place same (sym place) in
    found_meaning c.args.self.now c.args.name.now items (Some c.in-Some.place) (Some c.index.result.now) same place
    (ap option_copied (read_at items c.in-Some.place c.index.result.now lt c.index.ensures))
