-- Worked places, and worked names.
use Rattle.std.specs.Prelude.{◌≡◌, ℕ, List, ◌++◌, ◌∷◌, [], codes}
use Rattle.luexplain.specs.Place.{place}
use Rattle.luexplain.specs.Near.{apart}

-- a text of three lines, of which the second begins with a tab
abbrev pub tabbed : List ℕ
tabbed = codes "let\n" ++ 9 ∷ codes "y = c;\ntel\n"

-- ten bytes
abbrev pub ten : List ℕ
ten = codes "0123456789"

-- a line of 130 bytes, between two others
abbrev pub long : List ℕ
long = codes "a\n" ++ ten ++ ten ++ ten ++ ten ++ ten ++ ten ++ ten ++ ten ++ ten ++ ten ++ ten ++ ten ++ ten
    ++ codes "\nb"

-- fifty bytes
abbrev pub fifty : List ℕ
fifty = ten ++ ten ++ ten ++ ten ++ ten

-- as many blanks
abbrev pub blanks : List ℕ
blanks = codes "                                                  "

-- places of worked texts
pub record PlaceVectors : Type 0 where
  -- a tab stands under a tab
  pub behind_tab : place (codes "p") tabbed 9 ≡ codes "p:2:6\n  | " ++ 9 ∷ codes "y = c;\n  | " ++ 9
      ∷ codes "    ^\n"
  -- a line feed is the end of its line
  pub at_feed : place (codes "p") tabbed 3 ≡ codes "p:1:4\n  | let\n  |    ^\n"
  -- behind the last line feed an empty line begins, and a byte behind the end is the end
  pub at_end : place (codes "p") tabbed 99 ≡ codes "p:4:1\n  | \n  | ^\n"
  pub of_nothing : place (codes "p") [] 0 ≡ codes "p:1:1\n  | \n  | ^\n"
  -- what isn't visible is shown as a question mark
  pub hidden : place (codes "p") (13 ∷ 200 ∷ codes "c") 2 ≡ codes "p:1:3\n  | ??c\n  |   ^\n"
  -- a long line is cut on the right, on both sides, and on the left
  pub cut_right : place (codes "p") long 2 ≡ codes "p:2:1\n  | " ++ fifty ++ fifty ++ codes "..\n  | ^\n"
  pub cut_both : place (codes "p") long 62 ≡ codes "p:2:61\n  | .." ++ fifty ++ fifty ++ codes "..\n  |   "
      ++ blanks ++ codes "^\n"
  pub cut_left : place (codes "p") long 92 ≡ codes "p:2:91\n  | .." ++ fifty ++ fifty ++ codes "\n  |   "
      ++ blanks ++ codes "          ^\n"

-- how many letters names are apart
pub record NearVectors : Type 0 where
  pub inserted : apart (codes "abs") (codes "abss") ≡ 1
  pub deleted : apart (codes "abss") (codes "abs") ≡ 1
  pub replaced : apart (codes "Tank") (codes "tank") ≡ 1
  -- two letters that change places are two edits
  pub swapped : apart (codes "levle") (codes "level") ≡ 2
  pub apart_by_both : apart (codes "tempratura") (codes "temperature") ≡ 2
  pub far : apart (codes "tank") (codes "panel") ≡ 3
  -- a name has more letters than it is apart
  pub of_one : apart (codes "x") (codes "y") ≡ 3
  pub of_two : apart (codes "on") (codes "up") ≡ 3
