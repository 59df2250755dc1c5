use Rattle.std.proofs.Common.{set, ap, sym, ◌∙◌}
use Rattle.lusite.proofs.Counting.{set_same, newest_absent, newest_present}
use Rattle.lusite.proofs.kept.renew.Goals as goal

pub returns-then-is_absent : goal.returns-then-is_absent
returns-then-is_absent c y e =
    let xs = c.args.lasts.now in
    set_same xs c.args.i y e ∙ ap (set xs c.args.i) (newest_absent c.args.cell y (sym c.is_absent.ensures ∙ c.if-is_absent.true))

pub returns : goal.returns
returns c y e =
    let xs = c.args.lasts.now in
    ap (set xs c.args.i) (newest_present c.args.cell y (sym c.is_absent.ensures ∙ c.if-is_absent.false))
