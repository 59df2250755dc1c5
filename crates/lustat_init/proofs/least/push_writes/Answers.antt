use Rattle.std.proofs.Common.{◌≡◌, ◌++◌, ℕ, List, refl, subst}
use Rattle.lutree.specs.Tree.{node_view}
use Rattle.lustat_init.specs.Assigned.{place_of}
use Rattle.lustat_init.specs.Linked.{write_link, writes_in}
use Rattle.lustat_init.proofs.Pushed.{pushed_more, pushed_all}
use Rattle.lustat_init.proofs.least.push_writes.Goals as goal

pub loop-x-preserved : goal.loop-x-preserved
loop-x-preserved c =
    let n = node_view c.args.scope.now in
    let old = c.loop-x.links.items in
    let one = c.push_write.new.links.items in
    pushed_more (λ (x : List ℕ). write_link c.args.equation (place_of n x)) (writes_in n c.args.equation) (λ _ _. refl) c.args.names.now c.loop-x.x-index c.x-item.result
    old one _ c.loop-x-test.true c.x-item.is (subst (λ (x : List ℕ). one ≡ old ++ write_link c.args.equation (place_of n x)) c.as_str.ensures c.in_ok-push_write.ensures) c.loop-x.invariant

pub returns : goal.returns
returns c =
    pushed_all (writes_in (node_view c.args.scope.now) c.args.equation) refl c.args.names.now c.loop-x.x-index _ _ c.loop-x-test.false c.loop-x.invariant
