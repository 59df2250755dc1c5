use Rattle.std.proofs.Common.{◌≡◌, ◌+◌, ◌∙◌, ℕ, Some, length, sym, ap, subst, arith}
use Rattle.std.specs.Prelude.{slice_get, Vec}
use Rattle.std.specs.Global.{Global}
use Rattle.lubase.specs.declared.link.Link.{Link}
use Rattle.lutree.specs.Tree.{declaration_view, node_view}
use Rattle.lustat_rules.specs.Lent.{lent_view}
use Rattle.lustat_clocks.specs.Chains.{AreClocked}
use Rattle.lustat_rules.proofs.Lent.{lent_at}
use Rattle.lustat_clocks.proofs.Chaining.{clocked_push, clocked_skip}
use Rattle.lustat_clocks.proofs.chain.clocked.Goals as goal
use Rattle.lustat_clocks.proofs.chain.clocked.Goals.{in-Some+in_ok-push, in_default}

pub loop-i-preserved : goal.loop-i-preserved
loop-i-preserved c =
    let ds = lent_view c.args.declarations.now in
    let n = node_view c.args.scope.now in
    let i : ℕ = c.loop-i.i in
    let d = c.index-declarations-i.result in
    let here : slice_get ds i ≡ Some (declaration_view d.now) = lent_at c.args.declarations.now i d c.loop-i-test.true c.index-declarations-i.is in
    elim c.match-place_of_clock.branch [
      | in-Some+in_ok-push w ↦
          let more = clocked_push ds i (declaration_view d.now) here n w.in-Some.u c.loop-i.links.items c.loop-i.invariant (sym c.place_of_clock.ensures ∙ w.in-Some.is) in
          subst (AreClocked n ds (i + 1)) (sym (ap (λ (v : Vec Link Global). v.items) w.links-is ∙ w.in_ok-push.ensures.items)) more
      | in_default w ↦
          let more = clocked_skip ds i (declaration_view d.now) here n c.loop-i.links.items c.loop-i.invariant (sym c.place_of_clock.ensures ∙ w.in_default.is) in
          subst (AreClocked n ds (i + 1)) (sym (ap (λ (v : Vec Link Global). v.items) w.links-is)) more
    ]

pub returns : goal.returns
returns c =
    let e : c.loop-i.i ≡ length c.args.declarations.now = omega (arith, c.loop-i-test.false) in
    subst (λ k. AreClocked (node_view c.args.scope.now) (lent_view c.args.declarations.now) k c.loop-i.links.items) e c.loop-i.invariant
