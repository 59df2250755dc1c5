use Rattle.std.proofs.Common.{◌∙◌, ◌∷◌, [], map, ap}
use Rattle.std.specs.Prelude.{option_map}
use Rattle.lutree.specs.Tree.{node_view}
use Rattle.lustat_rules.specs.Scope.{kind_of}
use Rattle.lustat_rules.specs.Typing.{has_kind}
use Rattle.lutype.proofs.Forms.{one_item}
use Rattle.lutype.proofs.Lookups.{meet_one}
use Rattle.lutype.proofs.typing.value_is_well_typed.Goals as goal

pub returns-in-len1 : goal.returns-in-len1
returns-in-len1 c =
    let n = node_view c.args.scope.now in
    let item = one_item c.args.left.now c.x-item.result c.in-len1.len_at_least c.in-len1.len_below c.x-item.is in
    meet_one (kind_of n c.x-item.result) c.in-Some.kind (option_map (λ k. k ∷ []) c.args.kind) (map (kind_of n) c.args.left.now) c.is_of_kind.result
    (c.is_of_kind.ensures ∙ ap (λ o. has_kind o c.in-Some.kind) (c.kind.ensures ∙ ap (kind_of n) c.as_str.ensures))
    (ap (option_map (λ k. k ∷ [])) c.in-Some.is)
    (ap (map (kind_of n)) item)
