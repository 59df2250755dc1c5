-- Turns as a chart: a column for each site, and a row for each turn that is reported, with an arrow for a
-- message that is put.
--
--     turn  A                     B
--        0  compute               |
--        1  put a 0 0 ------------>
--        2  |                     take a 0 0
use Rattle.std.specs.Prelude.{ℕ, ◌+◌, Bool, List, [], ◌++◌, length, codes, flat_map, nat_eq, nat_lt, nat_le}
use Rattle.std.specs.Prelude.{◌&&◌, ◌||◌, Option, Some, None, slice_get, if◌then◌else◌}
use Rattle.std.specs.Fmt.{decimal}
use Rattle.std.specs.List.{range_with_len}
use Rattle.luworld.specs.declared.link.Link.{Link}
use Rattle.luworld.specs.Needs.{PlanView}
use Rattle.luworld.specs.Systems.{Item, Compute, Puts, Takes}
use Rattle.luchart.specs.Pieces.{at_right, filled}
use Rattle.luweave_text.specs.WorldText.{site_name}

-- how wide a column is, and the numbers before the columns
abbrev pub column_width : ℕ
column_width = 24

abbrev pub number_width : ℕ
number_width = 6

-- how many rows a chart has at most; behind them a line says that there are more
abbrev pub most_rows : ℕ
most_rows = 1000

-- the site that a link leads to; of no link this one
abbrev pub receiver_of : Option Link → ℕ → ℕ
receiver_of None s = s
receiver_of (Some link) s = link.to

-- the site that the message of an item goes to; the site itself where none is put
abbrev pub target_of : PlanView → ℕ → Item → ℕ
target_of plan s (Compute flow instant) = s
target_of plan s (Puts l) = receiver_of (slice_get plan.links l) s
target_of plan s (Takes l) = s

-- whether an arrow between the sites s and t goes from column k to the next one, or comes from there
abbrev pub crosses : ℕ → ℕ → ℕ → Bool
crosses s t k = (nat_le s k && nat_lt k t) || (nat_le t k && nat_lt k s)

-- what stands in column k, where it isn't that of site s itself: the head of the arrow to site t, a part of
-- it, or the line of a site that does nothing
abbrev pub mark : ℕ → ℕ → ℕ → List ℕ
mark s t k = if nat_eq k t then (if nat_lt s t then codes ">" else codes "<")
    else (if crosses s t k then codes "-" else codes "|")

-- The cell of column k in a row of site s, which does what a word says, and whose message goes to site t.
-- Where a column follows, the cell is filled, by the arrow where that goes on.
abbrev pub word_in : ℕ → ℕ → List ℕ → ℕ → List ℕ
word_in s t word k = if nat_eq k s then word else mark s t k

abbrev pub own_blank : ℕ → ℕ → List ℕ
own_blank s k = if nat_eq k s then codes " " else []

abbrev pub filler : ℕ → ℕ → ℕ → List ℕ
filler s t k = if crosses s t k then codes "-" else codes " "

abbrev pub cell : ℕ → ℕ → ℕ → List ℕ → ℕ → List ℕ
cell sites s t word k =
    if nat_lt (k + 1) sites then filled column_width (filler s t k) (word_in s t word k ++ own_blank s k)
    else word_in s t word k

-- a number, and the cells
abbrev pub row : ℕ → ℕ → ℕ → ℕ → List ℕ → List ℕ
row sites n s t word =
    at_right number_width (decimal n) ++ (codes "  " ++ (flat_map (cell sites s t word)
    (range_with_len 0 sites) ++ codes "\n"))

-- a row as far as the chart goes, where so many stand before
abbrev pub chart_line : ℕ → List ℕ → List ℕ
chart_line shown line = if nat_lt shown most_rows then line
    else (if nat_eq shown most_rows then codes "..\n" else [])

-- the names of the sites over their columns
abbrev pub named : List (List ℕ) → ℕ → List ℕ
named names k = if nat_lt (k + 1) (length names) then filled column_width (codes " ")
    (site_name names k ++ codes " ") else site_name names k

abbrev pub heading : List (List ℕ) → List ℕ
heading names = at_right number_width (codes "turn")
    ++ (codes "  " ++ (flat_map (named names) (range_with_len 0 (length names)) ++ codes "\n"))
