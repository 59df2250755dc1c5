-- Random turns, as a linear congruential generator makes them.
use Rattle.std.specs.Prelude.{ℕ, ◌+◌, ◌*◌, ◌/◌, ◌%◌, zero, suc, List, map}
use Rattle.std.specs.List.{range_with_len}

-- the state that follows a state, a number of 31 bits
abbrev pub next_state : ℕ → ℕ
next_state state = (state * 1103515245 + 12345) % 2147483648

-- the state behind so many turns: the seed before the first
unfoldable pub state_after : ℕ → ℕ → ℕ
state_after seed zero = seed
state_after seed (suc turns) = next_state (state_after seed turns)

-- the site that a state gives a turn, of so many sites: by all but the lowest 16 bits of the state
abbrev pub site_at : ℕ → ℕ → ℕ
site_at sites state = state / 65536 % sites

-- the site that has the turn of this number, counted from 0: by the state behind it
abbrev pub random_turn : ℕ → ℕ → ℕ → ℕ
random_turn seed sites number = site_at sites (state_after seed (number + 1))

-- so many random turns of so many sites, from a seed
abbrev pub random_turns : ℕ → ℕ → ℕ → List ℕ
random_turns seed sites count = map (random_turn seed sites) (range_with_len 0 count)
