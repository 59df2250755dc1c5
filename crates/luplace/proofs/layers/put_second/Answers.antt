use Rattle.std.proofs.Common.{◌≡◌, ◌+◌, ◌++◌, ◌∷◌, [], sym, subst}
use Rattle.luplace.specs.Layers.{second_row, HasMore}
use Rattle.luplace.proofs.Growing.{more_push}
use Rattle.luplace.proofs.layers.put_second.Goals as goal

pub loop-i-preserved : goal.loop-i-preserved
loop-i-preserved c =
    let e : c.push.new.self.items ≡ c.loop-i.rows.items ++ c.in_ok-second_row.field-0 ∷ [] = c.in_ok-push.ensures.items in
    subst (HasMore (second_row c.args.plan.now) (c.loop-i.i + 1) c.args.rows.now.items) (sym e)
    (more_push (second_row c.args.plan.now) c.loop-i.i c.args.rows.now.items c.loop-i.rows.items c.in_ok-second_row.field-0 c.loop-i.invariant c.in_ok-second_row.ensures)
