-- What an end counts at its looks at the other end's word.
use Rattle.std.specs.Prelude.{◌≡◌, ℕ, ◌+◌, ◌≤◌, ◌⊎◌, max, ◌==◌, if◌then◌else◌, List}
use Rattle.lulink.specs.declared.counts.Counts.{Counts}
use Rattle.lulink.specs.Words.{HasSeen}

abbrev pub uncounted : Counts
uncounted = record { waited = 0; marked = 0; most = 0 }

-- The message of this number had to wait. It counts once, however often it is tried.
abbrev pub counted : ℕ → Counts → Counts
counted n c = record {
  waited = if c.marked == n + 1 then c.waited else c.waited + 1;
  marked = n + 1;
  most = c.most;
}

-- a look showed so many messages in the link
abbrev pub showed : ℕ → Counts → Counts
showed n c = record { waited = c.waited; marked = c.marked; most = max c.most n }

-- A try that went well: the word was loaded in it and showed so many messages in the link, or none was loaded.
abbrev pub WentWell : ℕ → List ℕ → ℕ → List ℕ → Counts → Counts → Type 0
WentWell there before w after c d = ((after ≡ before) × (d ≡ c))
    ⊎ (HasSeen before w after × (d ≡ showed there c))

-- the message of this number had to wait, or not
abbrev pub WaitsOnce : ℕ → Counts → Counts → Type 0
WaitsOnce n c d = ((d.waited ≡ c.waited) × (d.marked ≡ c.marked))
    ⊎ ((d.waited ≡ (counted n c).waited) × (d.marked ≡ n + 1))

-- after some tries of the message of this number
pub record CountsOnce (n : ℕ) (c d : Counts) : Type 0 where
  pub waits : WaitsOnce n c d
  pub most : c.most ≤ d.most

-- what holds of the counts of an end that has passed so many messages
pub record AreCounts (passed room : ℕ) (c : Counts) : Type 0 where
  pub waited : c.waited ≤ c.marked
  pub marked : c.marked ≤ passed + 1
  pub most : c.most ≤ room
