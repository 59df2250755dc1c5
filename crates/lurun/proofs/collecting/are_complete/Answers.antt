use Rattle.std.proofs.Common.{◌&&◌, ap₂, sym, ◌∙◌}
use Rattle.std.specs.List.{list_all, range_with_len}
use Rattle.std.proofs.lemmas.Bool.{lt-ltb, eq-eqb}
use Rattle.lurun.specs.Reports.{is_one}
use Rattle.lurun.proofs.collecting.are_complete.Goals as goal

pub returns-then-count : goal.returns-then-count
returns-then-count c =
    let some = lt-ltb _ _ c.if-count.true.0 in
    let same = eq-eqb _ _ (c.if-count.true.1 ∙ c.from.ensures) in
    let each = list_all (is_one c.args.reports.now) (range_with_len 0 c.args.sites) in
    c.are_each-each.ensures ∙ sym (ap₂ (λ p q. p && q && each) some same)
