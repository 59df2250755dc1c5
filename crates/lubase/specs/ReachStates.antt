-- A search between two steps.
use Rattle.std.specs.Prelude.{◌≡◌, ◌⊎◌, ◌↔◌, ◌+◌, ℕ, Bool, not, List, length, count_by, All, Contains}
use Rattle.lubase.specs.Graph.{Graph, row_of}
use Rattle.lubase.specs.Search.{Has}
use Rattle.lubase.specs.declared.link.Link.{Link}
use Rattle.lubase.specs.Reach.{link, IsReached}

-- a number's list has what it is linked to
abbrev pub HasRows : Graph → List Link → Type 0
HasRows rows links = (u v : ℕ) → Contains (row_of rows u) v ↔ Contains links (link u v)

-- how many steps are left at most
abbrev pub steps_left : List Bool → List ℕ → ℕ
steps_left marks stack = length stack + count_by not marks

-- The numbers of a row are marked; those that had no mark are on the stack.
pub record IsEntered (row : List ℕ) (old new : List Bool) (before after : List ℕ) : Type 0 where
  pub long : length new ≡ length old
  pub kept : (v : ℕ) → Has old v → Has new v
  pub marked : All (Has new) row
  pub waiting : (v : ℕ) → Has new v → Has old v ⊎ (Contains row v × Contains after v)
  pub stacked : (v : ℕ) → Contains before v → Contains after v
  pub only : (v : ℕ) → Contains after v → Contains before v ⊎ Contains row v
  pub steps : steps_left new after ≡ steps_left old before

-- All starts are marked, and what is marked is reached. What a marked number is linked to is marked, or the
-- number is on the stack.
pub record IsSearching (starts : List ℕ) (links : List Link) (rows : Graph) (marks : List Bool)
    (stack : List ℕ) : Type 0 where
  pub long : length marks ≡ length rows
  pub started : All (Has marks) starts
  pub sound : (v : ℕ) → Has marks v → IsReached starts links v
  pub marked : (v : ℕ) → Contains stack v → Has marks v
  pub passed : (v : ℕ) → Has marks v → Contains stack v ⊎ All (Has marks) (row_of rows v)
