use Rattle.std.proofs.Common.{◌+◌, List, ℕ, slice_index, ◌≤◌, sym, subst, arith}
use Rattle.luflow.specs.Rank.{IsRankOrder}
use Rattle.lucore_laws.specs.Search.{times, IsReleased}
use Rattle.lucore_laws.proofs.Orders.{rank_all, straight}
use Rattle.lucore_laws.proofs.RankWalks.{stuck_cycle}
use Rattle.lucore_laws.proofs.Stepping.{IsSearching, begun, stuck, next, covered, stepped}
use Rattle.lucore_laws.specs.Search.{AreFree}
use Rattle.lucore_laws.proofs.ranking.rank.Goals as goal

pub loop-init : goal.loop-init
loop-init c =
    let free = subst (λ (xs : List ℕ). AreFree xs c.in_ok-ready.ready) c.deref.ensures.value c.in_ok-ready.ensures in
    subst (λ (xs : List ℕ). IsSearching c.args.rows.now c.in_ok-missing.missing.items c.in_ok-ready.ready xs 0) (sym c.in_ok-order.ensures.items)
    (begun c.args.rows.now c.in_ok-missing.missing.items c.in_ok-ready.ready c.in_ok-missing.ensures free)

pub least_on_cycle-requires-clause-cycle : goal.least_on_cycle-requires-clause-cycle
least_on_cycle-requires-clause-cycle c =
    let s = c.loop.invariant in
    let count = s.so_far.count in
    stuck_cycle c.args.rows.now c.loop.order.items c.requires
    (stuck c.args.rows.now c.loop.missing.items c.loop.ready c.loop.order.items c.loop.counter s c.in_default.ensures.none) (omega (arith, count, c.loop-test.true))

pub of-requires : goal.of-requires
of-requires c =
    let s = c.loop.invariant in
    let n = next c.args.rows.now c.loop.missing.items c.loop.ready c.loop.order.items c.loop.counter s c.in-Some.place c.pop.new.self c.in-Some.ensures.taken c.in-Some.ensures.least in
    omega (arith, n.inside, c.in_ok-readers.ensures.long)

pub release-requires : goal.release-requires
release-requires c =
    let s = c.loop.invariant in
    subst (λ (xs : List ℕ). (v : ℕ) → times v xs ≤ slice_index c.loop.missing.items v) (sym c.of.ensures)
    (covered c.args.rows.now c.loop.missing.items c.loop.ready c.loop.order.items c.loop.counter s c.in-Some.place c.pop.new.self c.in-Some.ensures.taken c.in-Some.ensures.least c.in_ok-readers.readers c.in_ok-readers.ensures)

pub loop-preserved : goal.loop-preserved
loop-preserved c =
    let s = c.loop.invariant in
    let released = subst (λ (xs : List ℕ). IsReleased xs c.loop.missing.items c.release.new.missing.items c.pop.new.self c.release.new.ready) c.of.ensures c.in_ok-release.ensures in
    subst (λ (xs : List ℕ). IsSearching c.args.rows.now c.release.new.missing.items c.release.new.ready xs (c.loop.counter + 1)) (sym c.in_ok-push.ensures.items)
    (stepped c.args.rows.now c.loop.missing.items c.loop.ready c.loop.order.items c.loop.counter s c.in-Some.place c.pop.new.self c.in-Some.ensures.taken c.in-Some.ensures.least c.in_ok-readers.readers c.in_ok-readers.ensures
    c.release.new.missing.items c.release.new.ready released)

pub returns-clause-order : goal.returns-clause-order
returns-clause-order c =
    let s = c.loop.invariant in
    subst (IsRankOrder c.args.rows.now) (sym c.new.ensures)
    (rank_all c.args.rows.now c.loop.order.items c.loop.counter s.so_far (omega (arith, c.loop-test.false, c.loop.auto.counter-end)))

pub returns-clause-straight : goal.returns-clause-straight
returns-clause-straight c =
    let s = c.loop.invariant in
    straight c.args.rows.now c.loop.order.items (rank_all c.args.rows.now c.loop.order.items c.loop.counter s.so_far (omega (arith, c.loop-test.false, c.loop.auto.counter-end)))
