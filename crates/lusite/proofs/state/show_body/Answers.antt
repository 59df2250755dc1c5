use Rattle.std.proofs.Common.{set, ap, sym, ◌∙◌}
use Rattle.luflow.specs.declared.data.Status.{Status}
use Rattle.lueval_lines.specs.Cells.{statuses}
use Rattle.lusite.specs.Machine.{with_body}
use Rattle.lusite.proofs.Held.{held_status}
use Rattle.lusite.proofs.state.show_body.Goals as goal

pub returns-in-Value-clause-shown : goal.returns-in-Value-clause-shown
returns-in-Value-clause-shown c =
    let xs = c.args.shown.now.items in
    c.show.ensures.shown
    ∙ ap (λ (s : Status). set (statuses xs) c.args.i s) (held_status c.cell_of.result c.in-Value.d c.cell_of.ensures)
    ∙ ap (with_body (statuses xs) c.args.i) (sym c.in-Value.is)
