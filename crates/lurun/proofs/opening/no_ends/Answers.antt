use Rattle.std.proofs.Common.{ℕ, ◌∷◌, [], List, ap, sym, ◌∙◌, length, length-append, arith}
use Rattle.std.specs.Prelude.{slice_get}
use Rattle.lurun.specs.declared.opening.Ends.{Ends}
use Rattle.lurun.specs.Making.{IsEnds}
use Rattle.lurun.proofs.Lists.{pushed_at}
use Rattle.lurun.proofs.OpenedEnds.{empty_ends}
use Rattle.lurun.proofs.opening.no_ends.Goals as goal

pub loop-preserved : goal.loop-preserved
loop-preserved c =
    let p = c.push_reserved.ensures in
    let inv = c.loop.invariant in
    let new : Ends = record { txs = c.new.result; rxs = c.new-in-loop.result } in
    let n = length-append c.loop.all.items (new ∷ []) in
    let e = ap length p.items in
    record {
      len = let b = inv.len in omega (arith, e, n, b);
      each = λ s b at. pushed_at (IsEnds c.args.job.now [] 0) c.loop.all.items new (empty_ends c.args.job.now (length c.loop.all.items) new c.new.ensures.items c.new-in-loop.ensures.items) inv.each s b (ap (λ (xs : List Ends). slice_get xs s) (sym p.items) ∙ at);
      room = let a = p.capacity in let b = inv.room in omega (arith, a, b);
    }
