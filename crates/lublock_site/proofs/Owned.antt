-- The columns of a site's own inputs are the table's.
use Rattle.std.proofs.Common.{◌≡◌, ℕ, ◌+◌, ◌<◌, Bool, true, false, cond, List, length, Option, Some, None, sym, ◌∙◌, ap, arith}
use Rattle.std.specs.Prelude.{slice_get}
use Rattle.std.specs.Option.{option_map}
use Rattle.std.proofs.lemmas.List.FromFn.{length-map-range_with_len}
use Rattle.std.proofs.lemmas.Option.{same_Some, slice_get-map, slice_get_within}
use Rattle.luflow.specs.declared.data.Datum.{Datum}
use Rattle.luflow.specs.declared.values.Values.{Values}
use Rattle.luflow.specs.Packed.{data_in}
use Rattle.luflow.specs.Program.{column_of}
use Rattle.luworld.specs.Needs.{stands}
use Rattle.luworld.specs.Jobs.{JobView}
use Rattle.luplace.specs.SiteInputsViews.{column_at, columns_at, given_data}
use Rattle.luplace.proofs.OwnColumns.{map_range}
use Rattle.lublock_site.specs.Given.{AreGiven}

own_is : (b : Bool) (column here : List Datum) → cond b (Some column) None ≡ Some here → here ≡ column
own_is true column here is = sym (same_Some column here is)
own_is false column here is = absurd cc

pub own_given : (job : JobView) (site : ℕ) (given : List (Option Values)) → given_data given ≡ columns_at job site → AreGiven job.inputs given
own_given job site given is = record {
  each = λ c values there.
      let here : slice_get (columns_at job site) c ≡ Some (Some (data_in values)) =
      ap (λ (xs : List (Option (List Datum))). slice_get xs c) (sym is) ∙ slice_get-map (option_map data_in) given c ∙ ap (option_map (option_map data_in)) there in
      let n = length job.inputs.columns in
      let inside : c < n = let l = slice_get_within (columns_at job site) c (Some (data_in values)) here in let m = length-map-range_with_len (column_at job site) 0 n in omega (arith, l, m) in
      let place : 0 + c ≡ c = omega arith in
      let own : Some (column_at job site c) ≡ Some (Some (data_in values)) = ap (λ (k : ℕ). Some (column_at job site k)) (sym place) ∙ sym (map_range (column_at job site) 0 n c inside) ∙ here in
      own_is (stands job.plan c site) (column_of job.inputs c) (data_in values) (same_Some (column_at job site c) (Some (data_in values)) own);
}
