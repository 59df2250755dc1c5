use Rattle.std.proofs.Common.{rules, arith}
use Rattle.lublock_site.proofs.Taking.{are_messages}
use Rattle.lublock_site.proofs.outlets.fill.Goals as goal

pub returns-clause-filled : goal.returns-clause-filled
returns-clause-filled c = λ e.
    let within = c.fill_run.ensures.within e in
    let few = c.requires.few in
    let ticks = c.requires.ticks in
    are_messages c.args.flat.now c.args.rows.now c.args.spans.now c.args.outlet.now c.fill_run.new.run.items c.in-Some.kind c.row_at-row.result.now (omega (arith, within, few, ticks)) (search rules) c.row_at-row.ensures (c.fill_run.ensures.filled e)
