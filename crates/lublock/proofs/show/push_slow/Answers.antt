use Rattle.std.proofs.Common.{arith, ◌≡◌, ◌∙◌, [], ◌∷◌, ◌++◌, ℕ, ap, subst, refl}
use Rattle.luflow.specs.declared.data.Status.{Status}
use Rattle.lublock.specs.Shown.{IsAdded, slow_at}
use Rattle.lublock.proofs.Showing.{added_none, added_more, byte_small, seen_more, slow_more}
use Rattle.lublock.proofs.show.push_slow.Goals as goal

pub loop-n-init : goal.loop-n-init
loop-n-init c =
    record {
      count = refl;
      few = omega arith;
      added = added_none c.args.column.now.items (slow_at c.args.kind c.args.row.now c.args.of.now c.args.value c.args.t);
    }

pub loop-n-preserved : goal.loop-n-preserved
loop-n-preserved c =
    let kind = c.args.kind in
    let row = c.args.row.now in
    let of = c.args.of.now in
    let d = c.args.value in
    let t = c.args.t in
    let n = c.loop-n.n in
    let on = c.has_value-on.result in
    let inv = c.loop-n.invariant in
    let few = inv.few in
    let small = byte_small on in
    let put = c.in_ok-push_status.ensures c.if-branch.false in
    record {
      count = seen_more of d t n c.loop-n.tick on inv.count c.has_value-on.ensures;
      few = omega (arith, few, small);
      added = added_more c.args.column.now.items c.loop-n.column.items c.push_status.new.column.items n (slow_at kind row of d t) inv.added
          (put ∙ ap (λ (s : Status). c.loop-n.column.items ++ s ∷ []) (slow_more kind row of d t n c.loop-n.tick on inv.count c.has_value-on.ensures));
    }

pub returns : goal.returns
returns c = λ e.
    let a = c.loop-n-test.false in
    let b = c.loop-n.auto.n-end in
    let all : c.loop-n.n ≡ c.args.len = omega (arith, a, b) in
    subst (λ (n : ℕ). IsAdded c.args.column.now.items c.loop-n.column.items n (slow_at c.args.kind c.args.row.now c.args.of.now c.args.value c.args.t)) all c.loop-n.invariant.added
