-- Where a placement puts the variables of a program, which placement is refused, and the plan that comes of
-- one.
use Rattle.std.specs.Prelude.{◌≡◌, ℕ, Bool, not, List, [], length, map, find, slice_index, nat_lt, All}
use Rattle.std.specs.Prelude.{Option, Some, None, if◌then◌else◌}
use Rattle.std.specs.List.{list_all, list_any, range_with_len}
use Rattle.std.specs.List.Sorted.{IsStrictlyIncreasing}
use Rattle.std.specs.Str.{bytes_eq}
use Rattle.luflow.specs.declared.variable.Variable.{Variable}
use Rattle.luflow.specs.Program.{FlatView}
use Rattle.luflow.specs.Rank.{row}
use Rattle.luworld.specs.Needs.{PlanView}
use Rattle.luplace_file.specs.Content.{PlaceView}
use Rattle.luplace_file.specs.declared.place.Placed.{Placed}
use Rattle.luplace_file.specs.declared.error.PlaceError.{PlaceError}
use Rattle.luplace_file.specs.declared.error.PlaceError.TheVariants.{UnknownVariable, Unplaced, SplitCall}

-- the entry's sites, or the default
abbrev pub named_by : Option Placed → List ℕ → List ℕ
named_by None default = default
named_by (Some entry) default = entry.sites

-- the sites at which a placement puts a variable: those of the variable's entry, else the default; none where
-- it has neither
abbrev pub sites_put : PlaceView → List ℕ → List ℕ
sites_put place variable =
    named_by (find (λ entry. bytes_eq entry.variable variable) place.place) place.default

-- whether a main variable has the name
abbrev pub is_variable : List Variable → List ℕ → Bool
is_variable variables name = list_any (λ x. bytes_eq x.name name) variables

-- whether all that is placed is a main variable
abbrev pub are_known : List Variable → List Placed → Bool
are_known variables entries = list_all (λ entry. is_variable variables entry.variable) entries

-- the sites of each main variable
abbrev pub placed_by : List Variable → PlaceView → List (List ℕ)
placed_by variables place = map (λ x. sites_put place x.name) variables

-- whether each main variable has a site
abbrev pub are_somewhere : List (List ℕ) → Bool
are_somewhere placed = list_all (λ sites. nat_lt 0 (length sites)) placed

-- whether each main variable stands where the first variable of its equation stands
abbrev pub are_together : List ℕ → List (List ℕ) → Bool
are_together owners placed = list_all (λ v. bytes_eq (row placed (slice_index owners v)) (row placed v))
    (range_with_len 0 (length placed))

-- The refusal of a placement for a program, if it is refused: by the first of three rules that is broken.
abbrev pub refusal : FlatView → PlaceView → Option PlaceError
refusal flat place =
    if not (are_known flat.variables place.place) then Some UnknownVariable
    else (if not (are_somewhere (placed_by flat.variables place)) then Some Unplaced
    else (if not (are_together flat.owners (placed_by flat.variables place)) then Some SplitCall
    else None))

-- The plan of a program and the sites of its main variables: the needs of each site are in order of place.
-- What a site needs and the links follow, since it is a plan.
pub record IsPlanAt (flat : FlatView) (place : PlaceView) (placed : List (List ℕ))
    (plan : PlanView) : Type 0 where
  pub flat_is : plan.flat ≡ flat
  pub names_are : plan.names ≡ place.sites
  pub capacity_is : plan.capacity ≡ place.capacity
  pub placed_are : plan.placed ≡ placed
  pub in_order : All IsStrictlyIncreasing plan.needs

-- The plan of a program and a placement: one that isn't refused, each main variable at the sites at which it
-- is put.
pub record IsPlanOf (flat : FlatView) (place : PlaceView) (plan : PlanView) : Type 0 where
  pub accepted : refusal flat place ≡ None
  pub plan_is : IsPlanAt flat place (placed_by flat.variables place) plan

-- a plan without its needs and links
abbrev pub bare : FlatView → List (List ℕ) → List (List ℕ) → PlanView
bare flat names placed = record {
  flat = flat;
  names = names;
  placed = placed;
  needs = [];
  links = [];
  capacity = 0;
}

-- the names of variables, and of entries
abbrev pub variable_names : List Variable → List (List ℕ)
variable_names variables = map (λ x. x.name) variables

abbrev pub entry_names : List Placed → List (List ℕ)
entry_names entries = map (λ entry. entry.variable) entries
