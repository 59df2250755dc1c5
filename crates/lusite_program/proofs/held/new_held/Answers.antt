use Rattle.std.proofs.Common.{◌∙◌, length, replicate, ap, rules}
use Rattle.lueval_lines.specs.declared.cell.Cell.TheVariants.{Absent}
use Rattle.lusite_program.proofs.held.new_held.Goals as goal

pub returns-clause-shown : goal.returns-clause-shown
returns-clause-shown c = c.in_ok-shown.ensures.items_if_clones_equal (λ y k. search rules) ∙ ap (λ m. replicate m Absent) (ap length c.places-rows.ensures)

pub returns-clause-lasts : goal.returns-clause-lasts
returns-clause-lasts c = c.in_ok-lasts.ensures.items_if_clones_equal (λ y k. search rules) ∙ ap (λ m. replicate m Absent) (ap length c.places-rows.ensures)

pub returns-clause-counts : goal.returns-clause-counts
returns-clause-counts c = c.in_ok-counts.ensures.items_if_clones_equal (λ y k. search rules) ∙ ap (λ m. replicate m 0) (ap length c.places-rows.ensures)
