-- The links of one site, by the flows that they carry.
use Rattle.std.specs.Prelude.{◌≡◌, ℕ, ◌<◌, Bool, false, ◌&&◌, nat_eq, cond, List, [], ◌∷◌, ◌++◌, length}
use Rattle.std.specs.Prelude.{filter, Option, Some, None, slice_get, slice_set, take, unwrap_or, Vec}
use Rattle.std.specs.List.{range_with_len, position_from}
use Rattle.std.specs.Option.{option_map, ForSome}
use Rattle.std.specs.declared.alloc.Global.{Global}
use Rattle.luworld.specs.declared.link.Link.{Link}
use Rattle.luflow.specs.Program.{flows_of}
use Rattle.luworld.specs.Needs.{PlanView}
use Rattle.luworld.specs.Jobs.{is_into, link_into}

-- the links of one flow
abbrev pub LinkRow : Type 0
LinkRow = Vec ℕ Global

-- a flow's link into a site, and one link more: the first one that is wanted stays
abbrev pub or_link : Option ℕ → Bool → ℕ → Option ℕ
or_link (Some l) wanted link = Some l
or_link None wanted link = cond wanted (Some link) None

-- whether a link carries a flow out of a site, and whether link l of a list does
abbrev pub is_out_of : ℕ → ℕ → Link → Bool
is_out_of s i k = nat_eq k.flow i && nat_eq k.from s

abbrev pub leaves : List Link → ℕ → ℕ → ℕ → Bool
leaves links s i l = unwrap_or (option_map (is_out_of s i) (slice_get links l)) false

-- one link more in the row of a flow
pub record IsLonger (rows : List LinkRow) (flow link : ℕ) (rows' : List LinkRow) : Type 0 where
  pub old : LinkRow
  pub row : LinkRow
  pub was : slice_get rows flow ≡ Some old
  pub is : rows' ≡ slice_set rows flow row
  pub items : row.items ≡ old.items ++ link ∷ []

-- one link more in the rows of the flows that it is wanted for
pub record AreLonger (rows : List LinkRow) (wanted : ℕ → Bool) (link : ℕ)
    (rows' : List LinkRow) : Type 0 where
  pub len : length rows' ≡ length rows
  pub each : (i : ℕ) (x : LinkRow) → slice_get rows i ≡ Some x → ForSome (slice_get rows' i)
      (λ y. y.items ≡ x.items ++ cond (wanted i) (link ∷ []) [])

-- for each flow the link into a site among the first links of a plan, and those out of it
pub record AreCarriersTo (links : List Link) (s flows l : ℕ) (sources : List (Option ℕ))
    (rows : List LinkRow) : Type 0 where
  pub sources_len : length sources ≡ flows
  pub rows_len : length rows ≡ flows
  pub source : (i : ℕ) → i < flows → slice_get sources i ≡ Some (position_from (is_into s i) 0 (take l links))
  pub row : (i : ℕ) → ForSome (slice_get rows i) (λ x. x.items ≡ filter (leaves links s i)
      (range_with_len 0 l))

abbrev pub AreCarriers : List Link → ℕ → ℕ → List (Option ℕ) → List LinkRow → Type 0
AreCarriers links s flows sources rows = AreCarriersTo links s flows (length links) sources rows

-- for each place the link by which a site takes the flow
abbrev pub HasSources : PlanView → ℕ → List (Option ℕ) → Type 0
HasSources plan s sources = (i : ℕ) → i < flows_of plan.flat → slice_get sources i ≡ Some (link_into plan s i)
