use Rattle.std.proofs.Common.{◌≡◌, sym, ap, ◌∙◌, length, rules, arith}
use Rattle.std.specs.Prelude.{vec_len}
use Rattle.std.specs.Vec.Iter.{into_iter_items}
use Rattle.luworld.specs.Needs.{sites_of}
use Rattle.lurun.proofs.Made.{none_made, next_ends, one_made, made_stations}
use Rattle.lurun.proofs.making.stations_by.Goals as goal

pub loop-ends-init : goal.loop-ends-init
loop-ends-init c =
    let are = c.in_ok-all.ensures in
    let none = c.in_ok-stations.ensures.items in
    let n : vec_len c.in_ok-all.all ≡ sites_of c.args.job.now.plan = (let b = are.len in search rules) in
    record {
      room = search rules;
      count = search rules;
      site = sym (ap length none);
      are = none_made c.args.job.now c.args.engine c.in_ok-stations.stations.items (into_iter_items c.into_iter-ends-iterator.result) c.in_ok-all.all.items none c.into_iter-ends-iterator.ensures.into_iter_gives.0 are;
    }

pub station_of-requires-clause-ends : goal.station_of-requires-clause-ends
station_of-requires-clause-ends c =
    let inv = c.loop-ends.invariant in
    next_ends c.args.job.now c.args.engine c.loop-ends.stations.items (into_iter_items c.loop-ends.ends-iterator) (into_iter_items c.next.new.self) c.in-Some.ends c.loop-ends.site c.in-Some.ensures.steps.0 inv.site inv.are

pub loop-ends-preserved : goal.loop-ends-preserved
loop-ends-preserved c =
    let inv = c.loop-ends.invariant in
    let old = c.loop-ends.stations.items in
    let p = c.push_reserved.ensures in
    let room = inv.room in
    let count = inv.count in
    let site = inv.site in
    let gone = c.in-Some.ensures.steps.1 in
    let more = p.len in
    let kept = p.capacity in
    let a : vec_len c.push_reserved.new.self ≡ length c.push_reserved.new.self.items = search rules in
    let b : vec_len c.loop-ends.stations ≡ length old = search rules in
    record {
      room = omega (arith, room, gone, more, kept);
      count = omega (arith, count, gone, more);
      site = omega (arith, site, more, a, b);
      are = one_made c.args.job.now c.args.engine old c.push_reserved.new.self.items (into_iter_items c.loop-ends.ends-iterator) (into_iter_items c.next.new.self) c.in-Some.ends c.in-Some-2.station c.loop-ends.site c.in-Some.ensures.steps.0 inv.site (search rules) p.items inv.are;
    }

pub returns-clause-new : goal.returns-clause-new
returns-clause-new c = made_stations c.args.job.now c.args.engine c.loop-ends.stations.items (into_iter_items c.loop-ends.ends-iterator) (search rules) c.loop-ends.invariant.are
