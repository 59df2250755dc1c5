use Rattle.std.proofs.Common.{◌++◌, ◌∷◌, [], ap, ◌∙◌, refl}
use Rattle.std.specs.Prelude.{vec_capacity}
use Rattle.std.proofs.lemmas.Option.{get_or_from_slice_get}
use Rattle.lueval_lines.specs.Columns.{Column}
use Rattle.lueval_lines.proofs.columns.push_status.Goals as goal

pub returns : goal.returns
returns c x e =
    let now = c.index_mut-column.result.now in
    let same = c.index_mut-column.ensures.value ∙ get_or_from_slice_get c.args.columns.now.items c.args.v x now e in
    record {
      row = c.push_reserved.new.self;
      is = refl;
      items = c.push_reserved.ensures.items ∙ ap (λ (y : Column). y.items ++ c.args.status ∷ []) same;
      capacity = c.push_reserved.ensures.capacity ∙ ap (λ (y : Column). vec_capacity y) same;
    }
