use Rattle.std.proofs.Common.{◌++◌, ◌∷◌, [], refl, ap, ◌∙◌}
use Rattle.std.proofs.lemmas.Option.{get_or_from_slice_get}
use Rattle.lurun.specs.declared.opening.Ends.{Ends}
use Rattle.lurun.proofs.opening.add_receiver.Goals as goal

pub returns : goal.returns
returns c = λ b e.
    (let now = c.index_mut-ends.result.now in
    let same = c.index_mut-ends.ensures.value ∙ get_or_from_slice_get c.args.all.now.items c.args.s b now e in
    record {
      ends = record { txs = c.index_mut-ends.result.now.txs; rxs = c.push.new.self };
      is = refl;
      rxs = c.in_ok-push.ensures.items ∙ ap (λ (y : Ends). y.rxs.items ++ c.args.rx ∷ []) same;
      txs = ap (λ (y : Ends). y.txs) same;
    })
