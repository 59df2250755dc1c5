use Rattle.std.proofs.Common.{◌≡◌, ◌++◌, flat_map, string_bytes}
use Rattle.std.specs.List.{range_with_len}
use Rattle.luweave_text.specs.Charted.{cell}
use Rattle.luweave_text.proofs.charting.put_cells.Given as goal

abbrev pub invariant-loop-column : goal.invariant-loop-column
invariant-loop-column l = string_bytes l.text ≡ string_bytes l.initial.text ++ flat_map (cell l.sites l.site l.target l.word) (range_with_len 0 l.column)
