use Rattle.std.proofs.Common.{◌≡◌, length, length-append, List, vec_len, rules, ap, sym, subst, ◌∙◌, arith, Vec, Global}
use Rattle.std.specs.Vec.Iter.{into_iter_items}
use Rattle.std.specs.declared.thread.PromisedHandle.{PromisedHandle}
use Rattle.lurun.specs.Stations.{StationView, ReportView}
use Rattle.lurun.proofs.Lists.{empty_list}
use Rattle.lurun.specs.declared.crew.ReportsOf.{ReportsOf}
use Rattle.lurun.specs.Shares.{promised}
use Rattle.lurun.proofs.Dealing.{none_reported, reports_moved, part_length}
use Rattle.lurun.proofs.crew.join_all.Goals as goal

abbrev Workers : Type 0
Workers = List (PromisedHandle (Vec ReportView Global) ReportsOf)

pub loop-worker-init : goal.loop-worker-init
loop-worker-init g c =
    let same = ap (λ (ws : Workers). promised ws) c.into_iter-worker-iterator.ensures.into_iter_gives.0 in
    let n = ap length same in
    let none = c.requires.none in
    let room = c.requires.room in
    let m : vec_len c.args.all ≡ length c.args.all.items = search rules in
    record {
      room = omega (arith, n, none, room);
      so_far = none_reported (promised c.args.workers.items) (promised (into_iter_items c.into_iter-worker-iterator.result)) c.args.all.items (empty_list c.args.all.items (sym m ∙ none)) same;
    }

pub gather-requires : goal.gather-requires
gather-requires g c =
    let room = c.loop-worker.invariant.room in
    let share = c.in-Some.worker.promise.0.value.items in
    let rest = into_iter_items c.next.new.self in
    let all = ap (λ (ws : Workers). length (promised ws)) c.in-Some.ensures.steps.0 in
    let both = length-append share (promised rest) in
    let few = part_length share c.join.result.items c.join.ensures in
    let n : vec_len c.join.result ≡ length c.join.result.items = search rules in
    omega (arith, room, all, both, few, n)

pub loop-worker-preserved : goal.loop-worker-preserved
loop-worker-preserved g c =
    let inv = c.loop-worker.invariant in
    let share = c.in-Some.worker.promise.0.value.items in
    let left = into_iter_items c.loop-worker.worker-iterator in
    let rest = into_iter_items c.next.new.self in
    let all = ap (λ (ws : Workers). promised ws) c.in-Some.ensures.steps.0 in
    let count = ap (λ (ws : Workers). length (promised ws)) c.in-Some.ensures.steps.0 in
    let both = length-append share (promised rest) in
    let few = part_length share c.join.result.items c.join.ensures in
    let n = ap length c.gather.ensures.items ∙ length-append c.loop-worker.all.items c.join.result.items in
    let a : vec_len c.loop-worker.all ≡ length c.loop-worker.all.items = search rules in
    let b : vec_len c.gather.new.all ≡ length c.gather.new.all.items = search rules in
    let cap = c.gather.ensures.room in
    let room = inv.room in
    record {
      room = omega (arith, room, count, both, few, n, a, b, cap);
      so_far = reports_moved (promised c.args.workers.items) (promised left) (promised rest) share c.loop-worker.all.items c.join.result.items c.gather.new.all.items inv.so_far all c.join.ensures c.gather.ensures.items;
    }
