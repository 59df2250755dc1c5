use Rattle.std.proofs.Common.{◌≡◌, ◌++◌, ◌∙◌, ap, sym, filter, length, arith, rules, List, Vec, Global}
use Rattle.std.specs.Prelude.{ltb}
use Rattle.std.proofs.lemmas.Bool.{lt-ltb}
use Rattle.std.specs.Vec.Iter.{into_iter_items}
use Rattle.lurun.specs.declared.served.Share.{Share}
use Rattle.lurun.specs.Crew.{IsNewShare, dealt, has_station, held}
use Rattle.lurun.specs.Stations.{StationView}
use Rattle.lurun.proofs.Lists.{empty_list}
use Rattle.lurun.proofs.Dealing.{after_push, passed_over, started_on, started_with}
use Rattle.lurun.proofs.crew.new_shares.Goals as goal

pub loop-served-preserved-then-not-is_empty : goal.loop-served-preserved-then-not-is_empty
loop-served-preserved-then-not-is_empty c =
    let inv = c.loop-served.invariant in
    let push = c.push_reserved.ensures in
    let len = push.len in
    let cap = push.capacity in
    let gone = c.in-Some.ensures.steps.1 in
    let room = inv.room in
    let olds = c.loop-served.started.items in
    let news = c.push_reserved.new.self.items in
    record {
      room = omega (arith, len, cap, gone, room);
      each = after_push IsNewShare olds news c.in_ok-new_share.field-0 push.items inv.each c.in_ok-new_share.ensures.new;
      shares = started_with (λ (h : Share). h.served) has_station olds news c.in_ok-new_share.field-0 (into_iter_items c.loop-served.served-iterator) (into_iter_items c.next.new.self) c.in-Some.served (filter has_station c.args.shares.items) push.items c.in-Some.ensures.steps.0 c.in_ok-new_share.ensures.served (lt-ltb 0 (length c.in-Some.served.items) (search rules)) inv.shares;
      all = started_on (λ (h : Share). h.served.items) (λ (v : Vec StationView Global). v.items) olds news c.in_ok-new_share.field-0 (into_iter_items c.loop-served.served-iterator) (into_iter_items c.next.new.self) c.in-Some.served (dealt c.args.shares.items) push.items
          c.in-Some.ensures.steps.0 (ap (λ (v : Vec StationView Global). v.items) c.in_ok-new_share.ensures.served) inv.all;
    }

pub loop-served-preserved : goal.loop-served-preserved
loop-served-preserved c =
    let inv = c.loop-served.invariant in
    let gone = c.in-Some.ensures.steps.1 in
    let room = inv.room in
    let before = held c.loop-served.started.items in
    let rest = dealt (into_iter_items c.next.new.self) in
    let zero : length c.in-Some.served.items ≡ 0 = search rules in
    record {
      room = omega (arith, gone, room);
      each = inv.each;
      shares = passed_over (λ (h : Share). h.served) has_station c.loop-served.started.items (into_iter_items c.loop-served.served-iterator) (into_iter_items c.next.new.self) c.in-Some.served (filter has_station c.args.shares.items) c.in-Some.ensures.steps.0 (ap (ltb 0) zero) inv.shares;
      all = ap (λ (ss : List StationView). before ++ (ss ++ rest)) (sym (empty_list c.in-Some.served.items zero)) ∙ ap (λ (vs : List (Vec StationView Global)). before ++ dealt vs) (sym c.in-Some.ensures.steps.0) ∙ inv.all;
    }
