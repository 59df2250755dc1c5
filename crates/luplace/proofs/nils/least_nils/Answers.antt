use Rattle.std.proofs.Common.{◌≡◌, ◌+◌, ◌<◌, length, sym, ap, subst, arith}
use Rattle.luplace.specs.Nils.{AreNilsTo}
use Rattle.luplace.proofs.Least.{nils_step, least_from}
use Rattle.luplace.proofs.nils.least_nils.Goals as goal

pub loop-p-preserved : goal.loop-p-preserved
loop-p-preserved c =
    let flat = c.args.flat.now in
    let ranked = ap length c.rank-p-end.ensures in
    let lt : c.loop-p.p < length flat.order = omega (arith, ranked, c.loop-p-test.true) in
    subst (AreNilsTo flat (c.loop-p.p + 1)) (sym c.look_at.ensures)
    (nils_step flat c.flows.ensures.flat c.loop-p.p c.loop-p.nils.items lt c.loop-p.invariant)

pub returns : goal.returns
returns c =
    let flat = c.args.flat.now in
    let ranked = ap length c.rank-p-end.ensures in
    let e : c.loop-p.p ≡ length flat.order = omega (arith, ranked, c.loop-p-test.false, c.loop-p.auto.p-end) in
    least_from flat c.flows.ensures.flat c.loop-p.nils.items (subst (λ n. AreNilsTo flat n c.loop-p.nils.items) e c.loop-p.invariant)
