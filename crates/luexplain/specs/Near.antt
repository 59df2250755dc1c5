-- Names that are spelled nearly as another.
use Rattle.std.specs.Prelude.{ℕ, zero, suc, nat_eq, nat_lt, Bool, ◌&&◌, ◌||◌, if◌then◌else◌}
use Rattle.std.specs.Prelude.{List, length, drop}
use Rattle.std.specs.Str.{bytes_eq}
use Rattle.std.specs.List.{prefix_len, zip}

-- how many letters two texts share at the front
abbrev pub shared : List ℕ → List ℕ → ℕ
shared xs ys = prefix_len (λ p. nat_eq p.0 p.1) (zip xs ys)

-- one edit at the front makes of the first text what is the second by `less`: its first letter is replaced by
-- that of the second, or deleted, or that of the second is inserted before it
abbrev pub by_edit : (List ℕ → List ℕ → Bool) → List ℕ → List ℕ → Bool
by_edit less xs ys = less (drop 1 xs) (drop 1 ys) || (less (drop 1 xs) ys || less xs (drop 1 ys))

-- at most so many edits make of the first text the second, where each inserts, deletes or replaces one
-- letter: what both share at the front stays, and the first edit is at the first letter that differs
abbrev pub is_within : ℕ → List ℕ → List ℕ → Bool
is_within zero xs ys = bytes_eq xs ys
is_within (suc k) xs ys = by_edit (is_within k) (drop (shared xs ys) xs) (drop (shared xs ys) ys)

-- two names are at most so many edits apart, and each has more letters than that
abbrev pub is_near : ℕ → List ℕ → List ℕ → Bool
is_near k xs ys = nat_lt k (length xs) && (nat_lt k (length ys) && is_within k xs ys)

-- how many letters two names are apart: one, two, or too many, which is three
abbrev pub apart : List ℕ → List ℕ → ℕ
apart xs ys = if is_near 1 xs ys then 1 else (if is_near 2 xs ys then 2 else 3)
