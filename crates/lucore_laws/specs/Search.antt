-- Readers, and what changes where a place gets its rank.
use Rattle.std.specs.Prelude.{◌≡◌, ◌+◌, ◌==◌, ℕ, zero, suc, List, length, count_by, slice_index}
use Rattle.std.specs.Prelude.{if◌then◌else◌, nat_lt}
use Rattle.luflow.specs.Rank.{row}

-- how often a number stands in a list
abbrev pub times : ℕ → List ℕ → ℕ
times v xs = count_by (λ y. y == v) xs

-- each place has a list of its readers, each as often as it reads the place
pub record AreReaders (rows readers : List (List ℕ)) : Type 0 where
  pub long : length readers ≡ length rows
  pub exact : (x v : ℕ) → times v (row readers x) ≡ times x (row rows v)

-- a reader stands in the list of each of its reads once more for each time that it reads it
pub record IsAdded (reader : ℕ) (reads : List ℕ) (old new : List (List ℕ)) : Type 0 where
  pub long : length new ≡ length old
  pub more : (x v : ℕ) → times v (row new x) ≡ times v (row old x) + (if v == reader then times x reads
      else 0)

-- 1 where nothing is missing
abbrev pub done : ℕ → ℕ
done zero = 1
done (suc n) = 0

-- each place with nothing missing is ready once, and no other
abbrev pub AreFree : List ℕ → List ℕ → Type 0
AreFree missing ready = (v : ℕ) → times v ready ≡ (if nat_lt v (length missing)
    then done (slice_index missing v) else 0)

-- Each reader has one missing read less for each time that it stands in the list. It is ready once more where
-- none is missing any longer.
pub record IsReleased (readers missing left ready after : List ℕ) : Type 0 where
  pub long : length left ≡ length missing
  pub fewer : (v : ℕ) → slice_index left v + times v readers ≡ slice_index missing v
  pub freed : (v : ℕ) → times v after + done (slice_index missing v) ≡ times v ready + done
      (slice_index left v)
