use Rattle.std.proofs.Common.{◌++◌, ◌∷◌, [], ap, ◌∙◌}
use Rattle.std.specs.Prelude.{vec_capacity}
use Rattle.std.proofs.lemmas.List.{map-set}
use Rattle.std.proofs.lemmas.Option.{get_or_from_slice_get}
use Rattle.lusite_program.specs.Logs.{Log, log_view}
use Rattle.lusite_program.proofs.logs.push_log.Goals as goal

pub returns-clause-noted : goal.returns-clause-noted
returns-clause-noted c x e =
    let now = c.index_mut-row.result.now in
    let same = c.index_mut-row.ensures.value ∙ get_or_from_slice_get c.args.logs.now.items c.args.i x now e in
    record {
      row = log_view c.push_reserved.new.self;
      is = map-set log_view c.args.logs.now.items c.args.i c.push_reserved.new.self;
      items = c.push_reserved.ensures.items ∙ ap (λ (y : Log). y.items ++ c.args.status ∷ []) same;
      capacity = c.push_reserved.ensures.capacity ∙ ap (λ (y : Log). vec_capacity y) same;
    }
