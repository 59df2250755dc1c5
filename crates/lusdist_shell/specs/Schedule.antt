-- The letters of a schedule.
use Rattle.std.specs.Prelude.{ℕ, ◌+◌, ◌-◌, Bool, ◌&&◌, ◌||◌, not, nat_le, nat_eq, Option, Some, None, is_some}
use Rattle.std.specs.Prelude.{if◌then◌else◌}

-- `0` to `9` are turns of the sites 0 to 9, and `a` to `f` of the sites 10 to 15
abbrev pub turn_of : ℕ → Option ℕ
turn_of letter =
    if nat_le 48 letter && nat_le letter 57 then Some (letter - 48)
    else (if nat_le 97 letter && nat_le letter 102 then Some (letter - 97 + 10) else None)

abbrev pub is_turn : ℕ → Bool
is_turn letter = is_some (turn_of letter)

-- a space or a line feed
abbrev pub is_blank : ℕ → Bool
is_blank letter = nat_eq letter 32 || nat_eq letter 10

-- a letter that a schedule may not have
abbrev pub is_bad : ℕ → Bool
is_bad letter = not (is_turn letter) && not (is_blank letter)
