-- The streams of the outputs alone are the outputs among all streams.
use Rattle.std.proofs.Common.{◌≡◌, ◌≢◌, ℕ, zero, suc, ◌+◌, ◌<◌, Bool, true, false, cond, List, [], ◌∷◌, ◌++◌, length, map, Some, subst, refl, sym, ap, ap₂, ◌∙◌, arith}
use Rattle.std.specs.Prelude.{All, Contains, slice_get}
use Rattle.std.specs.List.{range_with_len}
use Rattle.std.proofs.lemmas.List.{length-map}
use Rattle.std.proofs.lemmas.List.Elements.{All-nil, All-cons}
use Rattle.std.proofs.lemmas.List.FromFn.{length-map-range_with_len}
use Rattle.std.proofs.lemmas.Option.{slice_get_within, same_Some}
use Rattle.luflow.specs.declared.data.Status.{Status}
use Rattle.luflow.specs.declared.data.Status.TheVariants.{Absent}
use Rattle.luflow.specs.declared.variable.Variable.{Variable}
use Rattle.luflow.specs.declared.variable.Role.{Role}
use Rattle.luflow.specs.declared.variable.Role.TheVariants.{Input, Output, Local}
use Rattle.luflow.specs.Program.{FlatView, InputsView, flows_of}
use Rattle.luflow.specs.Streams.{Mark, Known, Broken, Stream, Streams}
use Rattle.luflow.specs.Messages.{marks}
use Rattle.luflow.specs.Tables.{OutputColumn, AreOutputs}
use Rattle.luflow.specs.Variables.{is_output, outputs_of}
use Rattle.luflow.specs.Solution.{solution}
use Rattle.luflow.specs.Flats.{IsFlat}
use Rattle.luflow.proofs.Solutions.{IsSolution-solution, solutions_same}
use Rattle.lueval_lines.specs.declared.columns.Wanted.TheVariants.{All as AllOf, Outputs}
use Rattle.lueval_lines.specs.declared.columns.Notes.{Notes}
use Rattle.lueval_lines.specs.Outputs.{outputs_in}
use Rattle.lueval.specs.Whole.{AreFlowStreams, AreStreams, AreWholeOutputs}
use Rattle.lueval_lines.specs.Columns.{Column, items_of, lists_of, is_wanted, AreAllKept, AreColumns}
use Rattle.lueval.specs.Steps.{AreWhole}
use Rattle.lueval.proofs.Answering.{meant}
use Rattle.lueval_lines.proofs.Noting.{from_map, column_at, every_column, map_same}
use Rattle.lueval_lines.proofs.Reported.{are_outputs}

abbrev status_in : Mark → Status
status_in (Known s) = s
status_in Broken = Absent

known_status : (m : Mark) → m ≢ Broken → Known (status_in m) ≡ m
known_status (Known s) ne = refl
known_status Broken ne = absurd (ne refl)

-- what a stream has at the instants of a table
abbrev whole_stream : ℕ → Stream → List Status
whole_stream n s = map (λ t. status_in (s t)) (range_with_len 0 n)

known_from : (s : Stream) (a n : ℕ) → ((t : ℕ) → t < a + n → s t ≢ Broken) → map Known (map (λ t. status_in (s t)) (range_with_len a n)) ≡ map s (range_with_len a n)
known_from s a zero sound = refl
known_from s a (suc n) sound = ap₂ (λ (m : Mark) (ms : List Mark). m ∷ ms) (known_status (s a) (sound a (omega arith))) (known_from s (a + 1) n (λ t l. sound t (omega arith)))

abbrev all_streams : Streams → ℕ → ℕ → List (List Status)
all_streams σ n count = map (λ v. whole_stream n (σ v)) (range_with_len 0 count)

at_place : {X : Type 0} (f : ℕ → X) (a c v : ℕ) (x : X) → slice_get (map f (range_with_len a c)) v ≡ Some x → (v < c) × (x ≡ f (a + v))
at_place f a zero v x e = absurd cc
at_place f a (suc c) zero x e = let z : a ≡ a + 0 = omega arith in (omega arith, sym (same_Some (f a) x e) ∙ ap f z)
at_place f a (suc c) (suc v) x e =
    let w = at_place f (a + 1) c v x e in
    let l = w.0 in
    let z : (a + 1) + v ≡ a + suc v = omega arith in (omega (arith, l), w.1 ∙ ap f z)

place_there : {X : Type 0} (f : ℕ → X) (a c v : ℕ) → v < c → slice_get (map f (range_with_len a c)) v ≡ Some (f (a + v))
place_there f a zero v l = absurd (omega (arith, l))
place_there f a (suc c) zero l = let z : a ≡ a + 0 = omega arith in ap (λ k. Some (f k)) z
place_there f a (suc c) (suc v) l = let z : (a + 1) + v ≡ a + suc v = omega arith in place_there f (a + 1) c v (omega (arith, l)) ∙ ap (λ k. Some (f k)) z

-- all columns are the streams of each solution
pub whole_streams : (flat : FlatView) (inputs : InputsView) (kept : List ℕ) (columns : List Column) → IsFlat flat → AreAllKept AllOf flat.variables kept → length columns ≡ length flat.variables → AreColumns inputs (solution flat inputs) kept columns inputs.instants → AreStreams flat inputs (lists_of columns)
whole_streams flat inputs kept columns is_flat all len are =
    record {
      count = length-map columns items_of ∙ len;
      each = λ σ sol v statuses there.
          let w = from_map columns (slice_get columns v) v statuses refl there in
          let lv : v < flows_of flat = let l = slice_get_within columns v w.0 w.1 in let m = is_flat.variables_first in omega (arith, len) in
          ap (map Known) (sym w.2) ∙ (every_column inputs (solution flat inputs) flat.variables kept columns inputs.instants v w.0 all len are w.1).known
          ∙ map_same (solution flat inputs v) (σ v) 0 inputs.instants (λ t. solutions_same flat inputs (solution flat inputs) σ is_flat.ordered (IsSolution-solution flat inputs is_flat.ordered) sol v t lv);
    }

-- the columns of the flows that are wanted are their streams in each solution
pub flow_streams : (flat : FlatView) (inputs : InputsView) (wanted : List Bool) (kept : List ℕ) (columns : List Column) → IsFlat flat → ((i : ℕ) → i < flows_of flat → slice_get wanted i ≡ Some true → Contains kept i) → length columns ≡ flows_of flat → AreColumns inputs (solution flat inputs) kept columns inputs.instants → AreFlowStreams flat inputs wanted (lists_of columns)
flow_streams flat inputs wanted kept columns is_flat all len are =
    record {
      count = length-map columns items_of ∙ len;
      each = λ σ sol i statuses yes there.
          let w = from_map columns (slice_get columns i) i statuses refl there in
          let li : i < flows_of flat = let l = slice_get_within columns i w.0 w.1 in omega (arith, len, l) in
          ap (map Known) (sym w.2) ∙ (column_at inputs (solution flat inputs) kept columns inputs.instants i w.0 are (all i li yes) w.1).known
          ∙ map_same (solution flat inputs i) (σ i) 0 inputs.instants (λ t. solutions_same flat inputs (solution flat inputs) σ is_flat.ordered (IsSolution-solution flat inputs is_flat.ordered) sol i t li);
    }

-- in a solution that nothing breaks
module _ (flat : FlatView) (inputs : InputsView) (is_flat : IsFlat flat) (sound : (r u : ℕ) → r < flows_of flat → u < inputs.instants → solution flat inputs r u ≢ Broken) where
  abbrev pub whole_streams_of : List (List Status)
  whole_streams_of = all_streams (solution flat inputs) inputs.instants (length flat.variables)

  marks_of : (v : ℕ) → v < length flat.variables → map Known (whole_stream inputs.instants (solution flat inputs v)) ≡ marks (solution flat inputs v) inputs.instants
  marks_of v l = known_from (solution flat inputs v) 0 inputs.instants (λ t lt. sound v t (let m = is_flat.variables_first in omega (arith, l, m)) (omega (arith, lt)))

  pub are_streams : AreStreams flat inputs whole_streams_of
  are_streams = record {
    count = length-map-range_with_len (λ v. whole_stream inputs.instants (solution flat inputs v)) 0 (length flat.variables);
    each = λ σ sol v statuses there.
        let w = at_place (λ k. whole_stream inputs.instants (solution flat inputs k)) 0 (length flat.variables) v statuses there in
        let lv : v < flows_of flat = let l = w.0 in let m = is_flat.variables_first in omega (arith, l, m) in
        let z : 0 + v ≡ v = omega arith in
        ap (map Known) (w.1 ∙ ap (λ k. whole_stream inputs.instants (solution flat inputs k)) z) ∙ marks_of v w.0
        ∙ map_same (solution flat inputs v) (σ v) 0 inputs.instants (λ t. solutions_same flat inputs (solution flat inputs) σ is_flat.ordered (IsSolution-solution flat inputs is_flat.ordered) sol v t lv);
  }

long_streams : (σ : Streams) (n a c : ℕ) → All (λ (s : List Status). length s ≡ n) (map (λ v. whole_stream n (σ v)) (range_with_len a c))
long_streams σ n a zero = All-nil (λ (s : List Status). length s ≡ n)
long_streams σ n a (suc c) =
    All-cons (λ (s : List Status). length s ≡ n) (whole_stream n (σ a)) (map (λ v. whole_stream n (σ v)) (range_with_len (a + 1) c)) (length-map-range_with_len (λ t. status_in (σ a t)) 0 n) (long_streams σ n (a + 1) c)

same_statuses : (xs ys : List Status) → map Known xs ≡ map Known ys → xs ≡ ys
same_statuses [] [] e = refl
same_statuses [] (y ∷ ys) e = absurd cc
same_statuses (x ∷ xs) [] e = absurd cc
same_statuses (x ∷ xs) (y ∷ ys) e =
    let head : x ≡ y = cc in
    let tail : map Known xs ≡ map Known ys = cc in
    ap₂ (λ (z : Status) (zs : List Status). z ∷ zs) head (same_statuses xs ys tail)

abbrev column_of : Variable → List Status → OutputColumn
column_of x s = record { name = x.name; statuses = s }

output_by : (b : Bool) (x : Variable) (s s' : List Status) → (b ≡ true → s ≡ s') → cond b (column_of x s ∷ []) [] ≡ cond b (column_of x s' ∷ []) []
output_by true x s s' h = ap (λ (z : List Status). column_of x z ∷ []) (h refl)
output_by false x s s' h = refl

-- only the streams of outputs matter
outputs_same : (xs : List Variable) (ss ss' : List (List Status)) → length ss ≡ length ss' → ((v : ℕ) (x : Variable) (s : List Status) → slice_get xs v ≡ Some x → is_output x.role ≡ true → slice_get ss v ≡ Some s → slice_get ss' v ≡ Some s) → outputs_in xs ss ≡ outputs_in xs ss'
outputs_same [] ss ss' e h = refl
outputs_same (x ∷ xs) [] [] e h = refl
outputs_same (x ∷ xs) [] (s' ∷ ss') e h = absurd (let z : 0 ≡ suc (length ss') = e in omega (arith, z))
outputs_same (x ∷ xs) (s ∷ ss) [] e h = absurd (let z : suc (length ss) ≡ 0 = e in omega (arith, z))
outputs_same (x ∷ xs) (s ∷ ss) (s' ∷ ss') e h =
    let z : suc (length ss) ≡ suc (length ss') = e in
    ap₂ (λ (a b : List OutputColumn). a ++ b) (output_by (is_output x.role) x s s' (λ so. sym (same_Some s' s (h 0 x s refl so refl))))
    (outputs_same xs ss ss' (omega (arith, z)) (λ v y t there so at. h (suc v) y t there so at))

wanted_output : (r : Role) → is_output r ≡ true → is_wanted Outputs r ≡ true
wanted_output Input e = e
wanted_output Output e = refl
wanted_output Local e = e

-- columns that have the streams of the outputs
module _ (flat : FlatView) (inputs : InputsView) (columns : List Column) (is_flat : IsFlat flat) (sound : (r u : ℕ) → r < flows_of flat → u < inputs.instants → solution flat inputs r u ≢ Broken) (len : length columns ≡ length flat.variables) (known : (v : ℕ) (x : Variable) (column : Column) → slice_get flat.variables v ≡ Some x → is_output x.role ≡ true → slice_get columns v ≡ Some column → map Known column.items ≡ marks (solution flat inputs v) inputs.instants) where
  kept_there : (v : ℕ) (x : Variable) (s : List Status) → slice_get flat.variables v ≡ Some x → is_output x.role ≡ true → slice_get (lists_of columns) v ≡ Some s → slice_get (whole_streams_of flat inputs is_flat sound) v ≡ Some s
  kept_there v x s there so at =
      let w = from_map columns (slice_get columns v) v s refl at in
      let lv = slice_get_within flat.variables v x there in
      let same : whole_stream inputs.instants (solution flat inputs v) ≡ s =
      same_statuses (whole_stream inputs.instants (solution flat inputs v)) s (marks_of flat inputs is_flat sound v lv ∙ sym (known v x w.0 there so w.1) ∙ ap (map Known) w.2) in
      let zero_more : 0 + v ≡ v = omega arith in
      place_there (λ k. whole_stream inputs.instants (solution flat inputs k)) 0 (length flat.variables) v lv ∙ ap (λ k. Some (whole_stream inputs.instants (solution flat inputs k))) zero_more ∙ ap (λ (z : List Status). Some z) same

  lists_same : outputs_in flat.variables (lists_of columns) ≡ outputs_in flat.variables (whole_streams_of flat inputs is_flat sound)
  lists_same =
      outputs_same flat.variables (lists_of columns) (whole_streams_of flat inputs is_flat sound)
      (length-map columns (λ (c : Column). c.items) ∙ len ∙ sym (are_streams flat inputs is_flat sound).count) kept_there

  pub outputs_of_columns : (outputs : List OutputColumn) → outputs ≡ outputs_in flat.variables (lists_of columns) → AreWholeOutputs flat inputs outputs
  outputs_of_columns outputs e = record {
    streams = whole_streams_of flat inputs is_flat sound;
    solution = are_streams flat inputs is_flat sound;
    source = meant flat inputs (whole_streams_of flat inputs is_flat sound) (are_streams flat inputs is_flat sound);
    are = e ∙ lists_same;
  }

  pub sound_columns : 0 < length (outputs_of flat.variables) → AreOutputs (outputs_in flat.variables (lists_of columns))
  sound_columns some =
      let streams = whole_streams_of flat inputs is_flat sound in
      subst AreOutputs (sym lists_same)
      (are_outputs inputs.instants flat.variables streams (sym (are_streams flat inputs is_flat sound).count) (long_streams (solution flat inputs) inputs.instants 0 (length flat.variables)) some)

-- what was kept of a whole run are its outputs
module _ (flat : FlatView) (inputs : InputsView) (notes : Notes) (is_flat : IsFlat flat) (are : AreWhole Outputs flat inputs notes) where
  known_there : (v : ℕ) (x : Variable) (column : Column) → slice_get flat.variables v ≡ Some x → is_output x.role ≡ true → slice_get notes.columns.items v ≡ Some column → map Known column.items ≡ marks (solution flat inputs v) inputs.instants
  known_there v x column there so at = (column_at inputs (solution flat inputs) notes.kept.items notes.columns.items inputs.instants v column are.columns (are.all v x there (wanted_output x.role so)) at).known

  pub whole_outputs : (outputs : List OutputColumn) → outputs ≡ outputs_in flat.variables (lists_of notes.columns.items) → AreWholeOutputs flat inputs outputs
  whole_outputs outputs e = outputs_of_columns flat inputs notes.columns.items is_flat are.sound are.len known_there outputs e

  pub sound_outputs : 0 < length (outputs_of flat.variables) → AreOutputs (outputs_in flat.variables (lists_of notes.columns.items))
  sound_outputs some = sound_columns flat inputs notes.columns.items is_flat are.sound are.len known_there some
