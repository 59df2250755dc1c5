use Rattle.std.proofs.Common.{◌≡◌, ◌+◌, ◌++◌, ◌∷◌, [], sym, subst}
use Rattle.luplace.specs.Layers.{first_row, HasMore}
use Rattle.luplace.proofs.Growing.{more_push}
use Rattle.luplace.proofs.layers.put_first.Goals as goal

pub loop-i-preserved : goal.loop-i-preserved
loop-i-preserved c =
    let e : c.push.new.self.items ≡ c.loop-i.rows.items ++ c.in_ok-first_row.field-0 ∷ [] = c.in_ok-push.ensures.items in
    subst (HasMore (first_row c.args.plan.now) (c.loop-i.i + 1) c.args.rows.now.items) (sym e)
    (more_push (first_row c.args.plan.now) c.loop-i.i c.args.rows.now.items c.loop-i.rows.items c.in_ok-first_row.field-0 c.loop-i.invariant c.in_ok-first_row.ensures)
