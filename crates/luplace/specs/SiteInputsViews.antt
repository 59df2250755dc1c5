-- The part of a run's inputs that one site is handed.
use Rattle.std.specs.Prelude.{◌≡◌, ℕ, cond, List, length, map, Option, Some, None, slice_get}
use Rattle.std.specs.List.{range_with_len}
use Rattle.std.specs.Option.{option_map}
use Rattle.luflow.specs.declared.data.Datum.{Datum}
use Rattle.luflow.specs.declared.values.Values.{Values}
use Rattle.luflow.specs.Packed.{data_in}
use Rattle.luflow.specs.Program.{column_of}
use Rattle.luworld.specs.Needs.{stands}
use Rattle.luworld.specs.Jobs.{JobView, IsJobView}

-- the run and the site that a site's inputs are of
pub record SiteInputsView : Type 0 where
  pub job : JobView
  pub site : ℕ

-- a column as a site has it: the main input's data where the input stands at the site, and nothing elsewhere
abbrev pub column_at : JobView → ℕ → ℕ → Option (List Datum)
column_at job s c = cond (stands job.plan c s) (Some (column_of job.inputs c)) None

-- the columns of a site: its own, and no others
abbrev pub columns_at : JobView → ℕ → List (Option (List Datum))
columns_at job s = map (column_at job s) (range_with_len 0 (length job.inputs.columns))

-- the data of the columns that are there
abbrev pub given_data : List (Option Values) → List (Option (List Datum))
given_data columns = map (option_map data_in) columns

-- the datum of an instant, if the column is there and has one
abbrev pub datum_of : Option (Option (List Datum)) → ℕ → Option Datum
datum_of None t = None
datum_of (Some None) t = None
datum_of (Some (Some column)) t = slice_get column t

pub record IsSiteInputsView (job : JobView) (site instants : ℕ) (columns : List (Option Values)) : Type 0 where
  pub is_run : IsJobView job
  pub instants_are : instants ≡ job.inputs.instants
  pub columns_are : given_data columns ≡ columns_at job site
