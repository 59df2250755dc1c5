use Rattle.std.proofs.Common.{◌≡◌, [], All}
use Rattle.lublock.specs.Shown.{Column}
use Rattle.lublock_site.proofs.start_rows.first_columns.Given as goal

abbrev pub invariant-loop-k : goal.invariant-loop-k
invariant-loop-k l = record { empty : All (λ (column : Column). column.items ≡ []) l.columns.items }
