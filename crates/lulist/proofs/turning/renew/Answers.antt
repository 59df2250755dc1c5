use Rattle.std.proofs.Common.{◌≡◌, sym, ap, ◌∙◌}
use Rattle.std.specs.Prelude.{slice_set}
use Rattle.lueval_lines.specs.declared.cell.Cell.{Cell}
use Rattle.lueval_lines.specs.Cells.{newest}
use Rattle.lueval_lines.proofs.Elements.{set_back}
use Rattle.lulist.proofs.Instants.{newest_absent}
use Rattle.lulist.proofs.turning.renew.Goals as goal

pub returns-then-is_absent : goal.returns-then-is_absent
returns-then-is_absent c = λ y there.
    let old : newest c.args.cell y ≡ y = newest_absent c.args.cell y (sym c.is_absent.ensures ∙ c.if-is_absent.true) in
    sym (ap (λ (z : Cell). slice_set c.args.lasts.now c.args.k z) old ∙ set_back c.args.lasts.now c.args.k y there)
