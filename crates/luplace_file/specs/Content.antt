-- What a placement file says.
use Rattle.std.specs.Prelude.{ℕ, List}
use Rattle.luplace_file.specs.declared.place.Placed.{Placed}

-- the sites, where the variables stand at them, and how much each link between them holds
pub record PlaceView : Type 0 where
  -- the names of the sites; a site's number is its place here
  pub sites : List (List ℕ)
  -- the sites of the variables that `place` doesn't hold, in order; empty where there is no default
  pub default : List ℕ
  -- how many messages each link holds
  pub capacity : ℕ
  -- the variables that the file places, and where
  pub place : List Placed
