-- The items that some run can reach, without an order of turns.
use Rattle.std.specs.Prelude.{◌≡◌, ℕ, ◌+◌, ◌<◌, ◌≤◌, length, Some, slice_get}
use Rattle.luworld.specs.Systems.{Compute, Puts, Takes, System, ItemCounts, done, put_count, taken_count}
use Rattle.luworld.specs.Systems.{puts_before, takes_before}

-- The least set of places of scripts that holds a place where it holds all places before it in that script
-- and, for a take of a message, the put of that message; for a put of a message whose number isn't less than
-- the capacity, the take of the message that is the capacity earlier.
pub data IsReachable (sys : System) : ℕ → ℕ → Type 0 where
  reach_compute : {site place : ℕ} (flow instant : ℕ)
      → slice_get (sys.script site) place ≡ Some (Compute flow instant)
      → ((before : ℕ) → before < place → IsReachable sys site before) → IsReachable sys site place
  reach_early_put : {site place : ℕ} (link : ℕ) → slice_get (sys.script site) place ≡ Some (Puts link)
      → puts_before sys link site place < sys.capacity
      → ((before : ℕ) → before < place → IsReachable sys site before) → IsReachable sys site place
  reach_late_put : {site place : ℕ} (link : ℕ) → slice_get (sys.script site) place ≡ Some (Puts link)
      → (earlier : ℕ) → slice_get (sys.script (sys.receiver link)) earlier ≡ Some (Takes link)
      → takes_before sys link (sys.receiver link) earlier + sys.capacity ≡ puts_before sys link site place
      → IsReachable sys (sys.receiver link) earlier
      → ((before : ℕ) → before < place → IsReachable sys site before) → IsReachable sys site place
  reach_take : {site place : ℕ} (link : ℕ) → slice_get (sys.script site) place ≡ Some (Takes link)
      → (earlier : ℕ) → slice_get (sys.script (sys.sender link)) earlier ≡ Some (Puts link)
      → puts_before sys link (sys.sender link) earlier ≡ takes_before sys link site place
      → IsReachable sys (sys.sender link) earlier
      → ((before : ℕ) → before < place → IsReachable sys site before) → IsReachable sys site place

-- what every reached world keeps
pub record IsGood (sys : System) (world : ItemCounts) : Type 0 where
  pub long : length world ≡ sys.sites
  pub inside : (site : ℕ) → done world site ≤ length (sys.script site)
  pub taken_put : (link : ℕ) → taken_count sys world link ≤ put_count sys world link
  pub bounded : (link : ℕ) → put_count sys world link ≤ taken_count sys world link + sys.capacity
  pub reachable : (site place : ℕ) → place < done world site → IsReachable sys site place
