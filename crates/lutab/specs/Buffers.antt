-- A buffer for what columns have at some instants.
use Rattle.std.specs.Prelude.{ℕ, List, [], map, take, drop, Vec}
use Rattle.std.specs.declared.alloc.Global.{Global}
use Rattle.luflow.specs.declared.data.Status.{Status}
use Rattle.luflow.specs.Tables.{OutputColumn}

-- the part of one output, and those of all
abbrev pub cell_view : Vec Status Global → OutputColumn
cell_view x = record { name = []; statuses = x.items }

abbrev pub cells_view : List (Vec Status Global) → List OutputColumn
cells_view xs = map cell_view xs

-- what an output has at n instants from this one on
abbrev pub stretch_of : ℕ → ℕ → OutputColumn → OutputColumn
stretch_of from n o = record { name = []; statuses = take n (drop from o.statuses) }
