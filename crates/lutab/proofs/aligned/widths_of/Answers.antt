use Rattle.std.proofs.Common.{List, ℕ, length, ap, ◌∙◌}
use Rattle.std.specs.Prelude.{fold}
use Rattle.luflow.specs.declared.data.Status.{Status}
use Rattle.luflow.specs.Tables.{outputs_view}
use Rattle.lutab.specs.Outputs.{names_in}
use Rattle.lutab.specs.Aligned.{name_at, wider, width_of}
use Rattle.lutab.proofs.Placing.{item_more}
use Rattle.lutab.proofs.aligned.widths_of.Goals as goal

pub loop-i-preserved : goal.loop-i-preserved
loop-i-preserved c =
    let columns = outputs_view c.args.columns.now in
    let i = c.loop-i.i in
    let names = names_in c.args.types.now c.args.kinds.now i in
    let name = c.name_at-name.result.now in
    let statuses = c.statuses_of.result.now in
    item_more (width_of c.args.types.now c.args.kinds.now columns) i c.loop-i.widths.items c.push.new.self.items c.in_ok-width.field-0 c.loop-i.invariant c.in_ok-push.ensures.items
    (c.in_ok-width.ensures
    ∙ ap (λ (ns : List (List ℕ)). fold (wider ns) (length name) statuses) c.names_at-names.ensures
    ∙ ap (λ (n : List ℕ). fold (wider names) (length n) statuses) c.name_at-name.ensures
    ∙ ap (λ (ss : List Status). fold (wider names) (length (name_at columns i)) ss) c.statuses_of.ensures)
