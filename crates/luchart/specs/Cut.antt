-- A table cut to its first instants.
use Rattle.std.specs.Prelude.{ℕ, map, take}
use Rattle.luflow.specs.Program.{Column, InputsView}

abbrev pub cut_column : ℕ → Column → Column
cut_column n column = record { name = column.name; values = take n column.values }

-- so many instants of a table, the first ones
abbrev pub cut : ℕ → InputsView → InputsView
cut n inputs = record { instants = n; columns = map (cut_column n) inputs.columns }
