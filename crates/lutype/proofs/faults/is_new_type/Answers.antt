use Rattle.std.proofs.Common.{◌∙◌, ap, map}
use Rattle.lutree.specs.Tree.{TypeTree, program_view}
use Rattle.lubase.specs.Places.{first_place}
use Rattle.lutype.proofs.Standing.{type_is_new}
use Rattle.lutype.proofs.faults.is_new_type.Goals as goal

pub returns : goal.returns
returns c =
    type_is_new c.args.catalog.now c.args.place c.args.declaration.now c.type_place.result c.is_at.result c.requires
    (c.type_place.ensures ∙ ap (first_place (map (λ (u : TypeTree). u.name) (program_view c.args.catalog.now).types)) c.as_str.ensures)
    c.is_at.ensures
