use Rattle.std.proofs.Common.{◌≡◌, ℕ, List, [], ◌∷◌, ◌++◌, length, map, ap, ap₂, ◌∙◌, subst}
use Rattle.std.specs.Prelude.{slice_get}
use Rattle.std.specs.List.{range_with_len}
use Rattle.luplace_report.specs.Aligned.{aligned}
use Rattle.luplace_report.specs.Names.{Adds}
use Rattle.luplace_report.specs.Table.{cells_of, cause_cells, cause_rows}
use Rattle.luplace_report.proofs.table.put_cause_table.Goals as goal

pub returns : goal.returns
returns c =
    let plan = c.args.plan.now in
    let more = map (λ l. cells_of (cause_cells plan l) (slice_get plan.links l)) (range_with_len 0 (length plan.links)) in
    let head = c.in_ok-push.ensures.items ∙ ap₂ (λ (xs : List (List (List ℕ))) (h : List (List ℕ)). xs ++ h ∷ []) c.new-rows.ensures.items c.in_ok-cause_head.ensures in
    let rows : c.as_slice.result.now ≡ cause_rows plan = c.as_slice.ensures.value ∙ c.in_ok-put_causes.ensures ∙ ap (λ (xs : List (List (List ℕ))). xs ++ more) head in
    subst (λ (rs : List (List (List ℕ))). Adds c.put_aligned.result c.args.text.now c.put_aligned.new.text (aligned rs)) rows c.put_aligned.ensures
