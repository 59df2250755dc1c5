use Rattle.std.proofs.Common.{arith, ◌≡◌, ℕ, subst}
use Rattle.lublock.specs.Shown.{IsAdded, present_at}
use Rattle.lublock.proofs.Showing.{added_none, added_more}
use Rattle.lublock.proofs.show.push_base.Goals as goal

pub loop-n-init : goal.loop-n-init
loop-n-init c = added_none c.args.column.now.items (present_at c.args.kind c.args.row.now)

pub loop-n-preserved : goal.loop-n-preserved
loop-n-preserved c =
    added_more c.args.column.now.items c.loop-n.column.items c.push_tick.new.column.items c.loop-n.n (present_at c.args.kind c.args.row.now) c.loop-n.invariant (c.in_ok-push_tick.ensures c.if-branch.false)

pub returns : goal.returns
returns c = λ e.
    let a = c.loop-n-test.false in
    let b = c.loop-n.auto.n-end in
    let all : c.loop-n.n ≡ c.args.len = omega (arith, a, b) in
    subst (λ (n : ℕ). IsAdded c.args.column.now.items c.loop-n.column.items n (present_at c.args.kind c.args.row.now)) all c.loop-n.invariant
