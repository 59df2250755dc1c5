-- Where a byte stands in a text, and how its line is shown.
use Rattle.std.specs.Prelude.{ℕ, ◌+◌, ◌-◌, min, nat_eq, nat_lt, Bool, not, ◌&&◌, ◌||◌, if◌then◌else◌}
use Rattle.std.specs.Prelude.{List, [], ◌++◌, map, length, take, drop, codes, count_by}
use Rattle.std.specs.Fmt.{decimal}
use Rattle.std.specs.List.{prefix_len, suffix_len}

-- BYTES

-- 10 is the line feed
abbrev pub is_feed : ℕ → Bool
is_feed b = nat_eq b 10

-- a byte that belongs to a line
abbrev pub is_inside : ℕ → Bool
is_inside b = not (is_feed b)

-- 9 is the tab, and 32 to 126 are the visible letters and the blank
abbrev pub is_plain : ℕ → Bool
is_plain b = nat_eq b 9 || (nat_lt 31 b && nat_lt b 127)

-- how a byte is shown: itself, or a question mark, which is 63
abbrev pub shown : ℕ → ℕ
shown b = if is_plain b then b else 63

-- what stands under it before the caret: a tab under a tab, else a blank
abbrev pub under : ℕ → ℕ
under b = if nat_eq b 9 then 9 else 32

-- LINES

-- the line of a place, by the text before it, counted from 1
abbrev pub line_number : List ℕ → ℕ
line_number before = count_by is_feed before + 1

-- the part of its line before the place, by the text before it
abbrev pub line_before : List ℕ → List ℕ
line_before before = drop (length before - suffix_len is_inside before) before

-- the part of its line from the place on, by the text from there on
abbrev pub line_behind : List ℕ → List ℕ
line_behind behind = take (prefix_len is_inside behind) behind

-- SHOWN LINES

-- of a line of more than 100 bytes 100 are shown, with 50 of them before the place where there are so many on
-- both sides

-- how many bytes at the front of a line aren't shown, by the lengths of its parts before and behind the place
abbrev pub left_out : ℕ → ℕ → ℕ
left_out before behind = min (before - 50) (before + behind - 100)

-- what is shown of a line before the place
abbrev pub left_of : List ℕ → List ℕ → List ℕ
left_of head tail = drop (left_out (length head) (length tail)) head

-- how many bytes from the place on there is room for
abbrev pub room : List ℕ → List ℕ → ℕ
room head tail = 100 - length (left_of head tail)

-- a mark where something is cut off, and what stands under it
abbrev pub mark : Bool → List ℕ
mark is_cut = if is_cut then codes ".." else []

abbrev pub under_mark : Bool → List ℕ
under_mark is_cut = if is_cut then codes "  " else []

abbrev pub is_cut_left : List ℕ → List ℕ → Bool
is_cut_left head tail = nat_lt 0 (left_out (length head) (length tail))

abbrev pub is_cut_right : List ℕ → List ℕ → Bool
is_cut_right head tail = nat_lt (room head tail) (length tail)

-- a line, by its parts before and behind the place
unfoldable pub source_line : List ℕ → List ℕ → List ℕ
source_line head tail =
    codes "  | " ++ mark (is_cut_left head tail) ++ map shown (left_of head tail)
    ++ map shown (take (room head tail) tail) ++ mark (is_cut_right head tail) ++ codes "\n"

-- the line under it, with a caret under the place
unfoldable pub caret_line : List ℕ → List ℕ → List ℕ
caret_line head tail =
    codes "  | " ++ under_mark (is_cut_left head tail) ++ map under (left_of head tail) ++ codes "^\n"

-- `PATH:LINE:COLUMN`, both counted from 1, by the text before the place
abbrev pub spot : List ℕ → List ℕ → List ℕ
spot path before =
    path ++ codes ":" ++ decimal (line_number before) ++ codes ":"
    ++ decimal (length (line_before before) + 1)

-- the same as a line
unfoldable pub numbers : List ℕ → List ℕ → List ℕ
numbers path before = spot path before ++ codes "\n"

-- the numbers, the line, and a caret under the place
abbrev pub place_between : List ℕ → List ℕ → List ℕ → List ℕ
place_between path before behind =
    numbers path before ++ source_line (line_before before) (line_behind behind)
    ++ caret_line (line_before before) (line_behind behind)

-- the place of a byte; of one behind the text's end it is the end
abbrev pub place : List ℕ → List ℕ → ℕ → List ℕ
place path text byte = place_between path (take byte text) (drop byte text)
