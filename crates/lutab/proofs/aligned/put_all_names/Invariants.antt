use Rattle.std.proofs.Common.{◌≡◌, ◌++◌, string_bytes}
use Rattle.luflow.specs.Tables.{outputs_view}
use Rattle.lutab.specs.Aligned.{name_at, fields_text}
use Rattle.lutab.proofs.aligned.put_all_names.Given as goal

abbrev pub invariant-loop-i : goal.invariant-loop-i
invariant-loop-i l = string_bytes l.out ≡ string_bytes l.initial.out ++ fields_text l.widths (name_at (outputs_view l.columns)) l.i
