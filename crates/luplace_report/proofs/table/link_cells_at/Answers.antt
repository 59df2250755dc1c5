use Rattle.std.proofs.Common.{◌≡◌, Option, IfOk, sym, ap, subst, ◌∙◌}
use Rattle.luworld.specs.declared.link.Link.{Link}
use Rattle.luplace_report.specs.Table.{cells_of, link_cells}
use Rattle.luplace_report.proofs.Ranges.{item_found, none_found}
use Rattle.luplace_report.proofs.table.link_cells_at.Goals as goal

pub returns-in-Some : goal.returns-in-Some
returns-in-Some c =
    let plan = c.args.plan.now in
    let found = item_found c.links.result.now plan.links c.args.number c.in-Some.link c.links.ensures c.in-Some.ensures.lookup in
    subst (λ (o : Option Link). IfOk c.link_cells.result (λ row. row ≡ cells_of (link_cells plan c.args.number) o)) (sym found) c.link_cells.ensures

pub returns-in-None : goal.returns-in-None
returns-in-None c =
    let plan = c.args.plan.now in
    c.new-in-None.ensures
    ∙ c.new.ensures.items
    ∙ sym (ap (λ (o : Option Link). cells_of (link_cells plan c.args.number) o) (none_found c.links.result.now plan.links c.args.number c.links.ensures c.in-None.ensures.lookup))
