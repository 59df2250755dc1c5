-- The outputs of a whole run.
use Rattle.std.proofs.Common.{◌≡◌, ℕ, suc, ◌+◌, ◌<◌, Bool, true, cond, List, [], ◌∷◌, length, map, Option, Some, refl, sym, subst, ◌∙◌, ap, ap₂, arith}
use Rattle.std.specs.Prelude.{slice_get, OnOk, Ok, Err}
use Rattle.std.specs.declared.result.Result.{Result}
use Rattle.std.specs.List.{range_with_len}
use Rattle.std.proofs.lemmas.Option.{slice_get_within}
use Rattle.luflow.specs.declared.data.Status.{Status}
use Rattle.luflow.specs.declared.variable.Variable.{Variable}
use Rattle.luflow.specs.declared.variable.Role.{Role}
use Rattle.luflow.specs.declared.variable.Role.TheVariants.{Input, Output, Local}
use Rattle.luflow.specs.Program.{FlatView, InputsView, flows_of}
use Rattle.luflow.specs.Streams.{Mark, Known, Streams, clock_at, ticked}
use Rattle.luflow.specs.Messages.{marks}
use Rattle.luflow.specs.Solution.{IsSolution, solution}
use Rattle.luflow.specs.Sound.{IsFit}
use Rattle.luflow.specs.Flats.{IsFlat}
use Rattle.luflow.specs.Tables.{OutputColumn, AreOutputs}
use Rattle.luflow.specs.Variables.{is_output, outputs_of}
use Rattle.luflow.proofs.Solutions.{IsSolution-solution, some_at}
use Rattle.luflow.proofs.TidyStreams.{tidy}
use Rattle.lueval_lines.specs.Outputs.{outputs_in}
use Rattle.lueval_lines.specs.Columns.{lists_of}
use Rattle.lueval.specs.Whole.{AreWholeOutputs, HasNoFault}
use Rattle.lueval.proofs.Listing.{outputs_of_columns, sound_columns}
use Rattle.lueval_lines.proofs.Faults.{fault_broken}
use Rattle.lublock.specs.Shown.{AreNear, Column, IsNear, IsRun, first_for, first_of}
use Rattle.lublock.proofs.Showing.{exact_near}

listed : (xs : List Status) (f : ℕ → Mark) (a : ℕ) → ((m : ℕ) (s : Status) → slice_get xs m ≡ Some s → f (a + m) ≡ Known s) → map Known xs ≡ map f (range_with_len a (length xs))
listed [] f a h = refl
listed (x ∷ xs) f a h =
    let e : a + 0 ≡ a = omega arith in
    ap₂ (λ (m : Mark) (ms : List Mark). m ∷ ms) (sym (h 0 x refl) ∙ ap f e)
    (listed xs f (a + 1) (λ m s at. (let g : (a + 1) + m ≡ a + suc m = omega arith in ap f g ∙ h (suc m) s at)))

is_role : (r : Role) → is_output r ≡ true → r ≡ Output
is_role Input e = absurd cc
is_role Output e = refl
is_role Local e = absurd cc

abbrev pub AreLong : FlatView → InputsView → List Column → Type 0
AreLong flat inputs columns = (v : ℕ) (x : Variable) (column : Column) → slice_get flat.variables v ≡ Some x → is_output x.role ≡ true → slice_get columns v ≡ Some column → length column.items ≡ inputs.instants

pub on_ok : {X E : Type 0} (P : Type 0) (r : Result X E) → P → OnOk r P
on_ok P (Ok x) p = p
on_ok P (Err e) p = tt

-- a whole column of an output, in a solution
module _ (flat : FlatView) (inputs : InputsView) (columns : List Column) (σ : Streams) (is_flat : IsFlat flat) (fit : IsFit flat inputs) (sol : IsSolution flat inputs σ) (near : AreNear flat σ inputs.instants columns) (v : ℕ) (x : Variable) (column : Column) (there : slice_get flat.variables v ≡ Some x) (output : is_output x.role ≡ true) (at : slice_get columns v ≡ Some column) (long : length column.items ≡ inputs.instants) where
  known_at : (m : ℕ) (s : Status) → slice_get column.items m ≡ Some s → σ v m ≡ Known s
  known_at m s is =
      let lv : v < flows_of flat = (let l = slice_get_within flat.variables v x there in let k = is_flat.variables_first in omega (arith, l, k)) in
      let lm : m < inputs.instants = (let l = slice_get_within column.items m s is in omega (arith, l, long)) in
      let f = some_at flat.flows v lv in
      exact_near f.0.kind (is_flat.sound.class v) (ticked (clock_at inputs σ f.0.clock) m) (clock_at inputs σ f.0.clock m) (σ v m) s
      (tidy flat inputs σ is_flat.ordered is_flat.sound fit sol v m lv lm f.0 f.1) (is_flat.sound.outputs v x there (is_role x.role output))
      (let first : first_of flat v inputs.instants ≡ 0 = ap (λ (o : Option Variable). first_for o inputs.instants) there ∙ ap (λ (b : Bool). cond b 0 inputs.instants) output in
      let same : first_of flat v inputs.instants + m ≡ m = ap (λ (k : ℕ). k + m) first ∙ (let none : 0 + m ≡ m = omega arith in none) in
      subst (λ (k : ℕ). IsNear (σ v k) s) same (near.near v column at m s is))

  pub reported_column : map Known column.items ≡ marks (σ v) inputs.instants
  reported_column =
      listed column.items (σ v) 0 (λ m s is. (let e : 0 + m ≡ m = omega arith in ap (σ v) e ∙ known_at m s is))
      ∙ ap (λ (n : ℕ). map (σ v) (range_with_len 0 n)) long

module _ (flat : FlatView) (inputs : InputsView) (columns : List Column) (is_flat : IsFlat flat) (fit : IsFit flat inputs) (run : IsRun flat inputs columns) where
  one : IsSolution flat inputs (solution flat inputs)
  one = IsSolution-solution flat inputs is_flat.ordered

  pub no_fault : HasNoFault flat inputs
  no_fault σ sol i t kind l fault =
      run.sound σ sol i t (slice_get_within flat.flows i fault.flow fault.there) l (fault_broken flat inputs σ is_flat fit sol i t kind fault)

  pub known : AreLong flat inputs columns → (v : ℕ) (x : Variable) (column : Column) → slice_get flat.variables v ≡ Some x → is_output x.role ≡ true → slice_get columns v ≡ Some column → map Known column.items ≡ marks (solution flat inputs v) inputs.instants
  known whole v x column there output at =
      reported_column flat inputs columns (solution flat inputs) is_flat fit one (run.near (solution flat inputs) one) v x column there output at (whole v x column there output at)

  pub reported_outputs : AreLong flat inputs columns → (outputs : List OutputColumn) → outputs ≡ outputs_in flat.variables (lists_of columns) → AreWholeOutputs flat inputs outputs
  reported_outputs whole outputs e = outputs_of_columns flat inputs columns is_flat (run.sound (solution flat inputs) one) run.len (known whole) outputs e

  pub reported_sound : AreLong flat inputs columns → 0 < length (outputs_of flat.variables) → AreOutputs (outputs_in flat.variables (lists_of columns))
  reported_sound whole some = sound_columns flat inputs columns is_flat (run.sound (solution flat inputs) one) run.len (known whole) some
