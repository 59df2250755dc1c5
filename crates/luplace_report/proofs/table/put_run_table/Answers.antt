use Rattle.std.proofs.Common.{◌≡◌, ℕ, List, [], ◌∷◌, ◌++◌, ap, ap₂, ◌∙◌, subst, append_assoc}
use Rattle.luflow.specs.Program.{FlatView}
use Rattle.luworld.specs.Needs.{sites_of}
use Rattle.luplace_report.specs.Aligned.{aligned}
use Rattle.luplace_report.specs.Cycles.{cycle_rows}
use Rattle.luplace_report.specs.Names.{Adds}
use Rattle.luplace_report.specs.Table.{run_rows}
use Rattle.luplace_report.specs.Way.{crew_rows, way_cells}
use Rattle.luplace_report.proofs.table.put_run_table.Goals as goal

pub returns : goal.returns
returns c =
    let plan = c.args.plan.now in
    let way = c.args.way.now in
    let fed = c.args.fed.now in
    let first = c.in_ok-way_cells.ensures ∙ ap (λ (f : FlatView). way_cells f way) c.flat.ensures.flat in
    let head = c.in_ok-push.ensures.items ∙ ap₂ (λ (xs : List (List (List ℕ))) (h : List (List ℕ)). xs ++ h ∷ []) c.new-rows.ensures.items first in
    let crew = c.in_ok-put_crew.ensures ∙ ap (λ (xs : List (List (List ℕ))). xs ++ crew_rows plan way) head in
    let cycles = cycle_rows plan.names (sites_of plan) fed in
    let rows : c.as_slice.result.now ≡ run_rows plan way fed = c.as_slice.ensures.value ∙ c.in_ok-put_cycles.ensures ∙ ap (λ (xs : List (List (List ℕ))). xs ++ cycles) crew ∙ append_assoc ([] ++ way_cells plan.flat way ∷ []) (crew_rows plan way) cycles in
    subst (λ (rs : List (List (List ℕ))). Adds c.put_aligned.result c.args.text.now c.put_aligned.new.text (aligned rs)) rows c.put_aligned.ensures
