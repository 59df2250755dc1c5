-- Tables for a terminal: rows of cells, each column as wide as its longest cell, with two blanks between two
-- columns and none behind the last. The cells of a row are as many as those of the first, and none is empty.
use Rattle.std.specs.Prelude.{ℕ, ◌+◌, ◌-◌, List, [], ◌∷◌, ◌++◌, length, map, max, fold, flat_map, replicate}
use Rattle.std.specs.Prelude.{codes, nat_lt, if◌then◌else◌, slice_index, slice_index_or}
use Rattle.std.specs.List.{range_with_len}

-- the cell of a row in a column
abbrev pub cell_at : List (List ℕ) → ℕ → List ℕ
cell_at row column = slice_index_or row column []

-- how wide a column is: as its longest cell
abbrev pub width : List (List (List ℕ)) → ℕ → ℕ
width rows column = fold (λ most row. max most (length (cell_at row column))) 0 rows

-- how many columns there are: as many as the first row has cells
abbrev pub columns_of : List (List (List ℕ)) → ℕ
columns_of [] = 0
columns_of (row ∷ rows) = length row

abbrev pub widths_of : List (List (List ℕ)) → List ℕ
widths_of rows = map (width rows) (range_with_len 0 (columns_of rows))

-- a cell, blanks up to the width of its column, and two more
abbrev pub padded : ℕ → List ℕ → List ℕ
padded width cell = cell ++ (replicate (width - length cell) 32 ++ codes "  ")

-- the cell of a row in a column, with blanks behind it unless it is the last
abbrev pub piece : List ℕ → List (List ℕ) → ℕ → List ℕ
piece widths row column =
    if nat_lt (column + 1) (length row)
    then padded (slice_index widths column) (cell_at row column)
    else cell_at row column

abbrev pub pieces : List ℕ → List (List ℕ) → List ℕ
pieces widths row = flat_map (piece widths row) (range_with_len 0 (length row))

abbrev pub line : List ℕ → List (List ℕ) → List ℕ
line widths row = pieces widths row ++ codes "\n"

abbrev pub lines : List ℕ → List (List (List ℕ)) → List ℕ
lines widths rows = flat_map (line widths) rows

-- a line for each row
abbrev pub aligned : List (List (List ℕ)) → List ℕ
aligned rows = lines (widths_of rows) rows
