use Rattle.std.proofs.Common.{◌+◌, ap, ◌∙◌, sym, refl}
use Rattle.std.specs.Prelude.{slice_get}
use Rattle.std.proofs.lemmas.Option.{get_or_from_slice_get}
use Rattle.luweave.specs.declared.link_queue.LinkQueue.{LinkQueue}
use Rattle.luweave.proofs.world.take_at.Goals as goal

pub returns : goal.returns
returns c x e =
    let now = c.index_mut-link_queue.result.now in
    let same = c.index_mut-link_queue.ensures.value ∙ get_or_from_slice_get c.args.link_queues.now.items c.args.l x now e in
    record {
      link_queue = c.take.new.self;
      is = refl;
      item = sym (ap (λ (y : LinkQueue). slice_get y.put.items y.taken) same) ∙ c.take.ensures.item;
      put = c.take.ensures.put ∙ ap (λ (y : LinkQueue). y.put) same;
      taken = c.take.ensures.taken ∙ ap (λ (y : LinkQueue). y.taken + 1) same;
    }
