use Rattle.std.proofs.Common.{◌∙◌, ◌↔◌, IsTrue, Contains, ap, subst}
use Rattle.lutree.specs.Tree.{node_view, program_view}
use Rattle.lustat_rules.specs.Scope.{declarations_of, names_of, labels_of}
use Rattle.lubase.specs.Places.{first_place}
use Rattle.lutype.proofs.Standing.{variable_is_new, variable_is_old}
use Rattle.lutype.proofs.faults.is_new_variable.Goals as goal

pub returns-then-is_first : goal.returns-then-is_first
returns-then-is_first c =
    let names = names_of (declarations_of (node_view c.args.scope.now)) in
    variable_is_new c.args.catalog.now c.args.scope.now c.args.place c.args.declaration.now c.place.result c.is_at-is_first.result c.has_label.result c.requires
    (c.place.ensures ∙ ap (first_place names) c.as_str-name.ensures)
    c.is_at-is_first.ensures
    (subst (λ x. IsTrue c.has_label.result ↔ Contains (labels_of (program_view c.args.catalog.now).types) x) c.as_str-name.ensures c.has_label.ensures)
    c.if-is_first.true

pub returns-else-is_first : goal.returns-else-is_first
returns-else-is_first c =
    let names = names_of (declarations_of (node_view c.args.scope.now)) in
    variable_is_old c.args.catalog.now c.args.scope.now c.args.place c.args.declaration.now c.place.result c.is_at-is_first.result c.requires
    (c.place.ensures ∙ ap (first_place names) c.as_str-name.ensures)
    c.is_at-is_first.ensures
    c.if-is_first.false
