use Rattle.std.proofs.Common.{rules, ap, Vec, Global}
use Rattle.std.specs.Vec.Iter.{into_iter_items}
use Rattle.std.specs.declared.thread.PromisedHandle.{PromisedHandle}
use Rattle.lurun.specs.Stations.{ReportView}
use Rattle.lurun.specs.declared.served.Share.{Share}
use Rattle.lurun.specs.declared.crew.ReportsOf.{ReportsOf}
use Rattle.lurun.specs.Crew.{IsNewShare, held}
use Rattle.lurun.specs.Stations.{StationView}
use Rattle.lurun.proofs.Dealing.{after_next, started_on}
use Rattle.lurun.proofs.crew.start_all.Goals as goal

pub loop-share-preserved : goal.loop-share-preserved
loop-share-preserved g c =
    let inv = c.loop-share.invariant in
    let left = into_iter_items c.loop-share.share-iterator in
    let rest = into_iter_items c.next.new.self in
    record {
      room = search rules;
      each = (after_next IsNewShare left rest c.in-Some.share c.in-Some.ensures.steps.0 inv.each).1;
      all = started_on (λ (h : PromisedHandle (Vec ReportView Global) ReportsOf). h.promise.0.value.items) (λ (h : Share). h.served.items) c.loop-share.workers.items c.push_reserved.new.self.items c.in-Ok.worker left rest c.in-Some.share (held c.args.started.items) c.push_reserved.ensures.items
          c.in-Some.ensures.steps.0 (ap (λ (v : Vec StationView Global). v.items) c.in-Ok.ensures) inv.all;
    }
