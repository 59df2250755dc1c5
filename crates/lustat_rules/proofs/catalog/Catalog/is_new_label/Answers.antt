use Rattle.std.proofs.Common.{◌≡◌, ◌+◌, ◌↔◌, IsTrue, Some, subst}
use Rattle.std.proofs.lemmas.Option.{slice_get_within}
use Rattle.lutree.specs.Tree.{program_view}
use Rattle.lustat_rules.specs.Scope.{labels_of}
use Rattle.lubase.specs.Places.{first_place}
use Rattle.lustat_rules.proofs.Labelled.{label_is_new}
use Rattle.lustat_rules.proofs.catalog.Catalog.is_new_label.Goals as goal

pub start-start-requires : goal.start-start-requires
start-start-requires c = slice_get_within c.args.self.now.types c.args.place c.args.declaration.now c.requires.of_type

pub returns : goal.returns
returns c =
    label_is_new c.args.self.now c.args.place c.args.declaration.now c.args.number c.args.name.now c.start-start.result c.stands_first.result c.requires.of_type c.requires.at c.start-start.ensures
    (subst (λ x. IsTrue c.stands_first.result ↔ (first_place (labels_of (program_view c.args.self.now).types) x ≡ Some (c.start-start.result + c.args.number))) c.as_str.ensures c.stands_first.ensures)
