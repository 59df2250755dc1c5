-- What contracts see of what gathers counts.
use Rattle.std.specs.Prelude.{ℕ}

-- for how many sites and links there is room
pub record Sizes : Type 0 where
  pub sites : ℕ
  pub links : ℕ
