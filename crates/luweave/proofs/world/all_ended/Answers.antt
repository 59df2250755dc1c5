use Rattle.std.proofs.Common.{◌≡◌, ◌<◌, length, false, sym, ◌∙◌, arith, rules}
use Rattle.std.proofs.lemmas.Option.{slice_get_within}
use Rattle.luflow.proofs.Solutions.{some_at}
use Rattle.luweave.proofs.world.all_ended.Goals as goal

pub returns-then-not-has_ended-clause-all : goal.returns-then-not-has_ended-clause-all
returns-then-not-has_ended-clause-all c all =
    let lt : c.loop-s.s < length c.args.sites.now.items = omega (arith, c.len-s-end.ensures) in
    let v = some_at c.args.sites.now.items c.loop-s.s lt in
    let r : c.has_ended.result ≡ false = search rules in
    sym r ∙ c.has_ended.ensures.all v.0 v.1 (all c.loop-s.s v.0 v.1)

pub returns-clause-only : goal.returns-clause-only
returns-clause-only c _ s v at =
    let l = slice_get_within c.args.sites.now.items s v at in
    c.loop-s.invariant.done s v (omega (arith, l, c.len-s-end.ensures)) at
