-- The columns of variables, taken from the streams of all flows.
use Rattle.std.proofs.Common.{◌≡◌, ◌<◌, true, Bool, List, [], ◌∷◌, length, map, get_or, Some, refl, sym, ap, ◌∙◌, arith}
use Rattle.std.specs.Prelude.{All, slice_get, option_map, unwrap_or}
use Rattle.std.proofs.lemmas.List.{length-map}
use Rattle.std.proofs.lemmas.List.FromFn.{length-map-range_with_len}
use Rattle.std.proofs.lemmas.Option.{same_Some, slice_get-map, slice_get-get_or}
use Rattle.luflow.specs.declared.data.Status.{Status}
use Rattle.luflow.specs.Program.{FlatView, InputsView, flows_of}
use Rattle.luflow.specs.Streams.{Known}
use Rattle.luflow.specs.Tables.{OutputColumn, AreOutputs}
use Rattle.luflow.specs.Solution.{solution}
use Rattle.luflow.specs.Flats.{IsFlat}
use Rattle.luflow.proofs.Solutions.{IsSolution-solution, some_at}
use Rattle.lucore_laws.proofs.Names.{all_at}
use Rattle.lueval_lines.proofs.Reported.{even}
use Rattle.lueval.specs.Whole.{AreFlowStreams}
use Rattle.luinside.specs.declared.variables.DeepVariable.{DeepVariable}
use Rattle.luinside.specs.Columns.{AreFlowColumns}
use Rattle.luinside.specs.Passing.{column_by}

abbrev Marked : List Bool → DeepVariable → Type 0
Marked marks d = slice_get marks d.flow ≡ Some true

abbrev Inside : FlatView → DeepVariable → Type 0
Inside flat d = d.flow < flows_of flat

named : (streams : List (List Status)) (ds : List DeepVariable) → map (λ (c : OutputColumn). c.name) (map (column_by streams) ds) ≡ map (λ (d : DeepVariable). d.variable.name) ds
named streams [] = refl
named streams (d ∷ ds) = ap (λ ns. d.variable.name ∷ ns) (named streams ds)

pub taken : (flat : FlatView) (inputs : InputsView) (marks : List Bool) (ds : List DeepVariable) (streams : List (List Status)) → AreFlowStreams flat inputs marks streams → All (Marked marks) ds → All (Inside flat) ds
    → AreFlowColumns flat inputs ds (map (column_by streams) ds)
taken flat inputs marks ds streams are marked inside = record {
  names = named streams ds;
  streams = λ σ sol k d c there at.
      let same : column_by streams d ≡ c = same_Some (column_by streams d) c (sym (slice_get-map (column_by streams) ds k ∙ ap (option_map (column_by streams)) there) ∙ at) in
      let lt = all_at (Inside flat) ds k d inside there in
      let s = some_at streams d.flow (let n = are.count in omega (arith, lt, n)) in
      let is : c.statuses ≡ s.0 = sym (ap (λ (c : OutputColumn). c.statuses) same) ∙ ap (λ o. unwrap_or o []) s.1 in
      ap (map Known) is ∙ are.each σ sol d.flow s.0 (all_at (Marked marks) ds k d marked there) s.1;
}

-- they are the columns of a table, where there is one
pub table : (flat : FlatView) (inputs : InputsView) (ds : List DeepVariable) (columns : List OutputColumn) → IsFlat flat → AreFlowColumns flat inputs ds columns → 0 < length ds → AreOutputs columns
table flat inputs ds columns is_flat are some =
    let name = λ (c : OutputColumn). c.name in
    let count : length columns ≡ length ds = sym (length-map columns name) ∙ ap length are.names ∙ length-map ds (λ (d : DeepVariable). d.variable.name) in
    let σ = solution flat inputs in
    let sol = IsSolution-solution flat inputs is_flat.ordered in
    let long : All (λ (c : OutputColumn). length c.statuses ≡ inputs.instants) columns =
    λ k e lt.
    let c = get_or columns k e in
    let d = some_at ds k (omega (arith, lt, count)) in
    sym (length-map c.statuses Known) ∙ ap length (are.streams σ sol k d.0 c d.1 (slice_get-get_or columns k e lt)) ∙ length-map-range_with_len (σ d.0.flow) 0 inputs.instants in
    even inputs.instants columns long (omega (arith, count, some))
