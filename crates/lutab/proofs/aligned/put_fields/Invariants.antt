use Rattle.std.proofs.Common.{◌≡◌, ◌++◌, string_bytes}
use Rattle.luflow.specs.Tables.{outputs_view}
use Rattle.lutab.specs.Aligned.{field_at, fields_text}
use Rattle.lutab.proofs.aligned.put_fields.Given as goal

abbrev pub invariant-loop-i : goal.invariant-loop-i
invariant-loop-i l = string_bytes l.out ≡ string_bytes l.initial.out ++ fields_text l.widths (field_at l.types l.kinds (outputs_view l.columns) l.t) l.i
