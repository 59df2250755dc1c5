use Rattle.std.proofs.Common.{◌≡◌, ◌∙◌, ℕ, ◌%◌, [], ◌∷◌, ap, sym, rules, subst, Vec, Global}
use Rattle.std.specs.List.Sorted.{IsPermutation}
use Rattle.std.specs.Vec.Iter.{into_iter_items}
use Rattle.lurun.specs.Stations.{StationView}
use Rattle.lurun.specs.Crew.{AreOfWorker, dealt}
use Rattle.lurun.proofs.Lists.{empty_list}
use Rattle.lurun.proofs.Dealing.{after_push, all_of_none, at_all, nothing_dealt, dealt_on, one_share}
use Rattle.lurun.proofs.crew.deal.Goals as goal

pub loop-station-init : goal.loop-station-init
loop-station-init c =
    let n = c.from-count.result in
    record {
      len = search rules;
      each = λ i share e. all_of_none (λ (s : StationView). s.site % n ≡ i) share.items (at_all (λ (t : Vec StationView Global). t.items ≡ []) c.in_ok-shares.shares.items i share e c.in_ok-shares.ensures.empty);
      all = nothing_dealt c.args.stations.items (dealt c.in_ok-shares.shares.items) (into_iter_items c.into_iter-station-iterator.result) (empty_list (dealt c.in_ok-shares.shares.items) c.in_ok-shares.ensures.none) c.into_iter-station-iterator.ensures.into_iter_gives.0;
    }

pub loop-station-preserved : goal.loop-station-preserved
loop-station-preserved c =
    let n = c.from-count.result in
    let to = c.from.result % n in
    let d = c.in_ok-deal_to.ensures.to in
    let own = ap (λ (k : ℕ). k % n) (sym (c.from.ensures ∙ c.number.ensures)) in
    record {
      len = search rules;
      each = one_share (AreOfWorker n) c.loop-station.shares.items c.deal_to.new.shares.items to d.before d.after d.was d.is (λ all. after_push (λ (s : StationView). s.site % n ≡ to) d.before.items d.after.items c.served_of-served.result d.more all own) c.loop-station.invariant.each;
      all = dealt_on c.args.stations.items (dealt c.loop-station.shares.items) (dealt c.deal_to.new.shares.items) (into_iter_items c.loop-station.station-iterator) (into_iter_items c.next.new.self) c.in-Some.station c.in-Some.ensures.steps.0 c.loop-station.invariant.all
          (subst (λ (s : StationView). IsPermutation (s ∷ dealt c.loop-station.shares.items) (dealt c.deal_to.new.shares.items)) c.served_of-served.ensures c.in_ok-deal_to.ensures.one);
    }
