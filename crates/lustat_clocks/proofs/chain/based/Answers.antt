use Rattle.std.proofs.Common.{◌≡◌, ◌+◌, ℕ, Some, length, sym, ap, ◌∙◌, subst, arith}
use Rattle.std.specs.Prelude.{slice_get, Vec}
use Rattle.std.specs.Global.{Global}
use Rattle.lutree.specs.Tree.{declaration_view}
use Rattle.lustat_rules.specs.Lent.{lent_view}
use Rattle.lustat_clocks.specs.Chains.{AreBased}
use Rattle.lustat_rules.proofs.Lent.{lent_at, none_if, some_if}
use Rattle.lustat_clocks.proofs.Chaining.{based_push, based_skip}
use Rattle.lustat_clocks.proofs.chain.based.Goals as goal
use Rattle.lustat_clocks.proofs.chain.based.Goals.{then-is_none+in_ok-push, else-is_none}

pub loop-i-preserved : goal.loop-i-preserved
loop-i-preserved c =
    let ds = lent_view c.args.declarations.now in
    let i : ℕ = c.loop-i.i in
    let d = c.index-declarations-i.result in
    let here : slice_get ds i ≡ Some (declaration_view d.now) = lent_at c.args.declarations.now i d c.loop-i-test.true c.index-declarations-i.is in
    elim c.if-is_none.branch [
      | then-is_none+in_ok-push w ↦
          let more = based_push ds i (declaration_view d.now) here c.loop-i.starts.items c.loop-i.invariant (none_if d.now.clock c.is_none.result c.is_none.ensures w.if-is_none.true) in
          subst (AreBased ds (i + 1)) (sym (ap (λ (v : Vec ℕ Global). v.items) w.starts-is ∙ w.in_ok-push.ensures.items)) more
      | else-is_none w ↦
          let more = based_skip ds i (declaration_view d.now) here c.loop-i.starts.items c.loop-i.invariant (some_if d.now.clock c.is_none.result c.is_none.ensures w.if-is_none.false) in
          subst (AreBased ds (i + 1)) (sym (ap (λ (v : Vec ℕ Global). v.items) w.starts-is)) more
    ]

pub returns : goal.returns
returns c =
    let e : c.loop-i.i ≡ length c.args.declarations.now = omega (arith, c.loop-i-test.false) in
    subst (λ k. AreBased (lent_view c.args.declarations.now) k c.loop-i.starts.items) e c.loop-i.invariant
