use Rattle.std.proofs.Common.{List, ℕ, ◌++◌, ap, ap₂, ◌∙◌, string_bytes, slice_index_or}
use Rattle.luflow.specs.declared.data.Status.{Status}
use Rattle.luflow.specs.declared.data.Status.TheVariants.{Absent}
use Rattle.luflow.specs.Tables.{outputs_view}
use Rattle.lutab.specs.Text.{status_text}
use Rattle.lutab.specs.Aligned.{field_at, placed}
use Rattle.lutab.proofs.Placing.{piece_more}
use Rattle.lutab.proofs.aligned.put_fields.Goals as goal

pub loop-i-preserved : goal.loop-i-preserved
loop-i-preserved c =
    let widths = c.args.widths.now in
    let field = field_at c.args.types.now c.args.kinds.now (outputs_view c.args.columns.now) c.args.t in
    let old = string_bytes c.loop-i.out in
    let i = c.loop-i.i in
    let status = c.status_at-status.ensures ∙ ap (λ (ss : List Status). slice_index_or ss c.args.t Absent) c.statuses_of.ensures in
    piece_more (λ j. placed widths j (field j)) i (string_bytes c.args.out.now) old (string_bytes c.put_field.new.out) c.loop-i.invariant (c.in_ok-put_field.ensures ∙ ap₂ (λ (ns : List (List ℕ)) (s : Status). old ++ placed widths i (status_text ns s)) c.names_at-names.ensures status)
