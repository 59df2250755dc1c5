-- What links lead to.
use Rattle.std.specs.Prelude.{◌<◌, ℕ, List, Contains}
use Rattle.lubase.specs.declared.link.Link.{Link}

abbrev pub link : ℕ → ℕ → Link
link u v = record { from = u; to = v }

-- both ends are below a number
pub record IsWithin (size : ℕ) (l : Link) : Type 0 where
  pub from : l.from < size
  pub to : l.to < size

-- a start is reached, and so is what a link leads to from what is reached
pub data IsReached (starts : List ℕ) (links : List Link) : ℕ → Type 0 where
  start : (v : ℕ) → Contains starts v → IsReached starts links v
  along : (u v : ℕ) → IsReached starts links u → Contains links (link u v) → IsReached starts links v
