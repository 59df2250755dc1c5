use Rattle.std.proofs.Common.{◌<◌, length, refl, rules, Vec, Global}
use Rattle.lurun.specs.Stations.{StationView}
use Rattle.lurun.proofs.Lists.{got_at}
use Rattle.lurun.proofs.Dealing.{one_dealt}
use Rattle.lurun.proofs.crew.deal_to.Goals as goal

pub returns-clause-one : goal.returns-clause-one
returns-clause-one c =
    let l : c.args.to < length c.args.shares.now.items = search rules in
    let now = c.index_mut-share.result.now in
    one_dealt (λ (s : Vec StationView Global). s.items) c.args.shares.now.items c.args.to now c.push.new.self c.args.served (got_at c.args.shares.now.items c.args.to now l c.index_mut-share.ensures.value) c.in_ok-push.ensures.items

pub returns-clause-to : goal.returns-clause-to
returns-clause-to c =
    let l : c.args.to < length c.args.shares.now.items = search rules in
    let now = c.index_mut-share.result.now in
    record {
      before = now;
      after = c.push.new.self;
      was = got_at c.args.shares.now.items c.args.to now l c.index_mut-share.ensures.value;
      is = refl;
      more = c.in_ok-push.ensures.items;
    }
