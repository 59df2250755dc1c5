-- A turn of a schedule that is of no site.
use Rattle.std.specs.Prelude.{ℕ, ◌-◌, Bool, not, nat_lt, List, [], ◌++◌, codes, Option, Some, None, position}
use Rattle.std.specs.Prelude.{slice_index}
use Rattle.std.specs.Fmt.{decimal}

-- of so many sites
abbrev pub is_no_site : ℕ → ℕ → Bool
is_no_site sites s = not (nat_lt s sites)

abbrev pub turn_part : List ℕ → ℕ → ℕ → List ℕ
turn_part path turn s = path ++ (codes ": W06 StrayTurn: Turn " ++ (decimal turn
    ++ (codes ", counted from 0, is of site " ++ decimal s)))

abbrev pub last_part : ℕ → List ℕ
last_part sites = codes ", and the last site is " ++ (decimal (sites - 1) ++ codes ".\n")

abbrev pub stray_line : List ℕ → ℕ → ℕ → ℕ → List ℕ
stray_line path sites turn s = turn_part path turn s ++ last_part sites

abbrev pub stray_at : List ℕ → ℕ → List ℕ → Option ℕ → List ℕ
stray_at path sites turns None = []
stray_at path sites turns (Some turn) = stray_line path sites turn (slice_index turns turn)

-- the line of the first such turn, behind the path of the schedule; nothing where each is of a site
abbrev pub stray_text : List ℕ → ℕ → List ℕ → List ℕ
stray_text path sites turns = stray_at path sites turns (position (is_no_site sites) turns)
