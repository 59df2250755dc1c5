use Rattle.std.proofs.Common.{◌++◌, ◌∷◌, [], ap, ◌∙◌, refl}
use Rattle.std.specs.Prelude.{vec_capacity}
use Rattle.std.proofs.lemmas.Option.{get_or_from_slice_get}
use Rattle.luweave.specs.declared.link_queue.LinkQueue.{LinkQueue}
use Rattle.luweave.proofs.world.put_at.Goals as goal

pub returns : goal.returns
returns c x e =
    let now = c.index_mut-link_queue.result.now in
    let same = c.index_mut-link_queue.ensures.value ∙ get_or_from_slice_get c.args.link_queues.now.items c.args.l x now e in
    record {
      link_queue = c.put.new.self;
      is = refl;
      items = c.put.ensures.items ∙ ap (λ (y : LinkQueue). y.put.items ++ c.args.msg ∷ []) same;
      taken = c.put.ensures.taken ∙ ap (λ (y : LinkQueue). y.taken) same;
      capacity = c.put.ensures.capacity ∙ ap (λ (y : LinkQueue). vec_capacity y.put) same;
    }
