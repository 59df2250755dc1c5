-- The variables that an evaluation shows, and their columns.
use Rattle.std.proofs.Common.{◌≡◌, ◌<◌, ◌+◌, ℕ, zero, suc, Bool, true, false, cond, List, [], ◌∷◌, ◌++◌, length, map, refl, sym, ap, ap₂, ◌∙◌, arith, ◌||◌}
use Rattle.std.specs.Prelude.{Some, slice_get}
use Rattle.std.proofs.lemmas.Option.{same_Some}
use Rattle.std.proofs.lemmas.List.{map-append}
use Rattle.lutree.specs.Tree.{ProgramTree}
use Rattle.luflow.specs.declared.data.Status.{Status}
use Rattle.luflow.specs.declared.variable.Variable.{Variable}
use Rattle.luflow.specs.Flats.{IsFlat}
use Rattle.luflow.specs.Program.{FlatView, flows_of}
use Rattle.luflow.specs.Streams.{Stream}
use Rattle.luflow.specs.Tables.{OutputColumn}
use Rattle.luflow.specs.Variables.{is_output}
use Rattle.luflow.proofs.Solutions.{all_at}
use Rattle.lusource.specs.Agreement.{IsFlowOf}
use Rattle.lucore.specs.Result.{IsFlatOf}
use Rattle.lueval_lines.specs.Outputs.{outputs_in, columns_in}
use Rattle.luinside.specs.declared.variables.DeepVariable.{DeepVariable}
use Rattle.luinside.specs.Variables.{InstanceVariable, all_variables, deep_variable, AreDeepVariables, ListsDeepVariables}
use Rattle.lusdist_shell.specs.declared.request.EvalRequest.{EvalRequest}
use Rattle.lusdist_call.specs.Shown.{main_from, listed_from, listed_names, names_of, kinds_of, listed_kinds, AreShownIf, IsListFor, IsListOf}

-- THE LIST OF MAIN VARIABLES

abbrev pub one_listed : Variable → ℕ → DeepVariable
one_listed x i = record { variable = x; flow = i }

-- a listed variable is a main variable, by the place of its flow
abbrev ListedAt : ℕ → List Variable → DeepVariable → Type 0
ListedAt i xs d = (j : ℕ) × (d.flow ≡ i + j) × (j < length xs)

listed_step : (b : Bool) (i : ℕ) (x : Variable) (xs : List Variable) (ds : List DeepVariable) → ((k : ℕ) (d : DeepVariable) → slice_get ds k ≡ Some d → ListedAt (i + 1) xs d)
    → (k : ℕ) (d : DeepVariable) → slice_get (cond b (one_listed x i ∷ []) [] ++ ds) k ≡ Some d → ListedAt i (x ∷ xs) d
listed_step true i x xs ds rest zero d at = (0, ap (λ (e : DeepVariable). e.flow) (sym (same_Some (one_listed x i) d at)) ∙ omega arith, omega arith)
listed_step true i x xs ds rest (suc k) d at = let w = rest k d at in (suc w.0, w.1 ∙ omega arith, (let lt = w.2 in omega (arith, lt)))
listed_step false i x xs ds rest k d at = let w = rest k d at in (suc w.0, w.1 ∙ omega arith, (let lt = w.2 in omega (arith, lt)))

pub listed_at : (all : Bool) (i : ℕ) (xs : List Variable) (k : ℕ) (d : DeepVariable) → slice_get (listed_from all i xs) k ≡ Some d → ListedAt i xs d
listed_at all i [] k d at = cc
listed_at all i (x ∷ xs) k d at = listed_step (all || is_output x.role) i x xs (listed_from all (i + 1) xs) (listed_at all (i + 1) xs) k d at

-- the same of those by their paths
abbrev pub one_main : Variable → ℕ → InstanceVariable
one_main x i = record { path = []; variable = x; flow = i }

abbrev MainAt : ℕ → List Variable → InstanceVariable → Type 0
MainAt i xs y = (j : ℕ) × (y.flow ≡ i + j) × (y.path ≡ []) × (slice_get xs j ≡ Some y.variable)

main_later : (i : ℕ) (x : Variable) (xs : List Variable) (y : InstanceVariable) → MainAt (i + 1) xs y → MainAt i (x ∷ xs) y
main_later i x xs y w = (suc w.0, w.1 ∙ omega arith, w.2, w.3)

main_step : (b : Bool) (i : ℕ) (x : Variable) (xs : List Variable) (ys : List InstanceVariable) → ((k : ℕ) (y : InstanceVariable) → slice_get ys k ≡ Some y → MainAt (i + 1) xs y)
    → (k : ℕ) (y : InstanceVariable) → slice_get (cond b (one_main x i ∷ []) [] ++ ys) k ≡ Some y → MainAt i (x ∷ xs) y
main_step true i x xs ys rest zero y at =
    let same = same_Some (one_main x i) y at in
    (0, ap (λ (e : InstanceVariable). e.flow) (sym same) ∙ omega arith, ap (λ (e : InstanceVariable). e.path) (sym same), ap (λ (e : InstanceVariable). Some e.variable) same)
main_step true i x xs ys rest (suc k) y at = main_later i x xs y (rest k y at)
main_step false i x xs ys rest k y at = main_later i x xs y (rest k y at)

main_at : (all : Bool) (i : ℕ) (xs : List Variable) (k : ℕ) (y : InstanceVariable) → slice_get (main_from all i xs) k ≡ Some y → MainAt i xs y
main_at all i [] k y at = cc
main_at all i (x ∷ xs) k y at = main_step (all || is_output x.role) i x xs (main_from all (i + 1) xs) (main_at all (i + 1) xs) k y at

-- and they are those of the list, by their names
listed_one : (tree : ProgramTree) (main : List ℕ) (b : Bool) (x : Variable) (i : ℕ) → cond b (one_listed x i ∷ []) [] ≡ map (deep_variable tree main) (cond b (one_main x i ∷ []) [])
listed_one tree main true x i = refl
listed_one tree main false x i = refl

pub listed_main : (tree : ProgramTree) (main : List ℕ) (all : Bool) (i : ℕ) (xs : List Variable) → listed_from all i xs ≡ map (deep_variable tree main) (main_from all i xs)
listed_main tree main all i [] = refl
listed_main tree main all i (x ∷ xs) =
    let b = all || is_output x.role in
    ap₂ (λ (ys zs : List DeepVariable). ys ++ zs) (listed_one tree main b x i) (listed_main tree main all (i + 1) xs)
    ∙ sym (map-append (deep_variable tree main) (cond b (one_main x i ∷ []) []) (main_from all (i + 1) xs))

-- what is listed stands among the flows
pub listed_inside : (deep all : Bool) (flat : FlatView) (list : List DeepVariable) → IsFlat flat → IsListFor deep all flat list → (k : ℕ) (d : DeepVariable) → slice_get list k ≡ Some d → d.flow < flows_of flat
listed_inside true all flat list is_flat is k d at = all_at (λ (e : DeepVariable). e.flow < flows_of flat) list k d is.1 at
listed_inside false all flat list is_flat is k d at =
    let w = listed_at all 0 flat.variables k d (ap (λ (xs : List DeepVariable). slice_get xs k) (sym is) ∙ at) in
    let flow = w.1 in
    let lt = w.2 in
    let first = is_flat.variables_first in
    omega (arith, flow, lt, first)

-- COLUMNS BY THEIR NUMBERS

abbrev column : Variable → List Status → OutputColumn
column x s = record { name = x.name; statuses = s }

-- the stream of a listed variable is its column
abbrev StreamAt : ℕ → List (List Status) → DeepVariable → OutputColumn → Type 0
StreamAt i ss d c = (j : ℕ) × (d.flow ≡ i + j) × (slice_get ss j ≡ Some c.statuses)

column_step : (b : Bool) (i : ℕ) (x : Variable) (s : List Status) (ss : List (List Status)) (ds : List DeepVariable) (cs : List OutputColumn) → ((k : ℕ) (d : DeepVariable) (c : OutputColumn) → slice_get ds k ≡ Some d → slice_get cs k ≡ Some c → StreamAt (i + 1) ss d c)
    → (k : ℕ) (d : DeepVariable) (c : OutputColumn) → slice_get (cond b (one_listed x i ∷ []) [] ++ ds) k ≡ Some d → slice_get (cond b (column x s ∷ []) [] ++ cs) k ≡ Some c → StreamAt i (s ∷ ss) d c
column_step true i x s ss ds cs rest zero d c at there =
    (0, ap (λ (e : DeepVariable). e.flow) (sym (same_Some (one_listed x i) d at)) ∙ omega arith, ap (λ (e : OutputColumn). Some e.statuses) (same_Some (column x s) c there))
column_step true i x s ss ds cs rest (suc k) d c at there = let w = rest k d c at there in (suc w.0, w.1 ∙ omega arith, w.2)
column_step false i x s ss ds cs rest k d c at there = let w = rest k d c at there in (suc w.0, w.1 ∙ omega arith, w.2)

pub output_at : (i : ℕ) (xs : List Variable) (ss : List (List Status)) (k : ℕ) (d : DeepVariable) (c : OutputColumn) → slice_get (listed_from false i xs) k ≡ Some d → slice_get (outputs_in xs ss) k ≡ Some c → StreamAt i ss d c
output_at i [] ss k d c at there = cc
output_at i (x ∷ xs) [] k d c at there = cc
output_at i (x ∷ xs) (s ∷ ss) k d c at there =
    column_step (is_output x.role) i x s ss (listed_from false (i + 1) xs) (outputs_in xs ss) (λ k d c. output_at (i + 1) xs ss k d c) k d c at there

pub variable_at : (i : ℕ) (xs : List Variable) (ss : List (List Status)) (k : ℕ) (d : DeepVariable) (c : OutputColumn) → slice_get (listed_from true i xs) k ≡ Some d → slice_get (columns_in xs ss) k ≡ Some c → StreamAt i ss d c
variable_at i [] ss k d c at there = cc
variable_at i (x ∷ xs) [] k d c at there = cc
variable_at i (x ∷ xs) (s ∷ ss) k d c at there =
    column_step true i x s ss (listed_from true (i + 1) xs) (columns_in xs ss) (λ k d c. variable_at (i + 1) xs ss k d c) k d c at there

name_step : (b : Bool) (i : ℕ) (x : Variable) (s : List Status) (cs : List OutputColumn) (ds : List DeepVariable) → map (λ (c : OutputColumn). c.name) cs ≡ listed_names ds
    → map (λ (c : OutputColumn). c.name) (cond b (column x s ∷ []) [] ++ cs) ≡ listed_names (cond b (one_listed x i ∷ []) [] ++ ds)
name_step true i x s cs ds same = ap (λ (ns : List (List ℕ)). x.name ∷ ns) same
name_step false i x s cs ds same = same

pub output_names : (i : ℕ) (xs : List Variable) (ss : List (List Status)) → length xs ≡ length ss → map (λ (c : OutputColumn). c.name) (outputs_in xs ss) ≡ listed_names (listed_from false i xs)
output_names i [] ss same = refl
output_names i (x ∷ xs) [] same = absurd (omega (arith, same))
output_names i (x ∷ xs) (s ∷ ss) same = name_step (is_output x.role) i x s (outputs_in xs ss) (listed_from false (i + 1) xs) (output_names (i + 1) xs ss (omega (arith, same)))

pub variable_names : (i : ℕ) (xs : List Variable) (ss : List (List Status)) → length xs ≡ length ss → map (λ (c : OutputColumn). c.name) (columns_in xs ss) ≡ listed_names (listed_from true i xs)
variable_names i [] ss same = refl
variable_names i (x ∷ xs) [] same = absurd (omega (arith, same))
variable_names i (x ∷ xs) (s ∷ ss) same = name_step true i x s (columns_in xs ss) (listed_from true (i + 1) xs) (variable_names (i + 1) xs ss (omega (arith, same)))

-- NAMES AND TYPES

pub names_same : (tree : ProgramTree) (main : List ℕ) (shown : List InstanceVariable) → listed_names (map (deep_variable tree main) shown) ≡ names_of tree main shown
names_same tree main [] = refl
names_same tree main (x ∷ shown) = ap (λ (ns : List (List ℕ)). (deep_variable tree main x).variable.name ∷ ns) (names_same tree main shown)

pub kinds_same : (tree : ProgramTree) (main : List ℕ) (shown : List InstanceVariable) → listed_kinds (map (deep_variable tree main) shown) ≡ kinds_of shown
kinds_same tree main [] = refl
kinds_same tree main (x ∷ shown) = ap (λ ks. x.variable.kind ∷ ks) (kinds_same tree main shown)

-- WHAT IS LISTED IS SHOWN

deep_shown : (deep all : Bool) (tree : ProgramTree) (main : List ℕ) (flat : FlatView) (list : List DeepVariable) → deep ≡ true → (d : AreDeepVariables tree main flat list) → AreShownIf deep all tree main flat (all_variables tree d.instances)
deep_shown true all tree main flat list e d = (d.instances, d.are_instances, refl)
deep_shown false all tree main flat list e d = cc

main_shown : (deep all : Bool) (tree : ProgramTree) (main : List ℕ) (flat : FlatView) → deep ≡ false → AreShownIf deep all tree main flat (main_from all 0 flat.variables)
main_shown false all tree main flat e = refl
main_shown true all tree main flat e = cc

pub deep_list : (request : EvalRequest) (tree : ProgramTree) (flat : FlatView) (list : List DeepVariable) → request.deep ≡ true → IsFlatOf tree request.main.now flat → ListsDeepVariables tree request.main.now list → IsListOf request tree flat list
deep_list request tree flat list deep is lists =
    let d = lists flat is in
    let main = request.main.now in
    record {
      shown = all_variables tree d.instances;
      are_shown = deep_shown request.deep request.all tree main flat list deep d;
      listed = d.are;
      meant = λ inputs agrees σ solves.
          let f = agrees.to_flat σ solves in (
            f.0,
            f.1,
            λ k t x at.
                let here = all_at (λ (y : InstanceVariable). IsFlowOf tree main flat y.path y.variable.name y.flow) (all_variables tree d.instances) k x d.flows at in
                sym (here.same inputs σ f.0 solves f.1 t),
          );
    }

pub main_list : (request : EvalRequest) (tree : ProgramTree) (flat : FlatView) (list : List DeepVariable) → request.deep ≡ false → list ≡ listed_from request.all 0 flat.variables → IsListOf request tree flat list
main_list request tree flat list deep is =
    let main = request.main.now in
    record {
      shown = main_from request.all 0 flat.variables;
      are_shown = main_shown request.deep request.all tree main flat deep;
      listed = is ∙ listed_main tree main request.all 0 flat.variables;
      meant = λ inputs agrees σ solves.
          let f = agrees.to_flat σ solves in (
            f.0,
            f.1,
            λ k t x at.
                let w = main_at request.all 0 flat.variables k x at in
                let flow : x.flow ≡ w.0 = w.1 ∙ omega arith in
                ap (λ v. f.0 v t) flow ∙ ap (λ (s : Stream). s t) (f.2 w.0 x.variable w.3) ∙ ap (λ path. σ path x.variable.name t) (sym w.2),
          );
    }

pub deep_can : (deep all : Bool) (tree : ProgramTree) (main : List ℕ) (flat : FlatView) (list : List DeepVariable) → deep ≡ true → AreDeepVariables tree main flat list → IsListFor deep all flat list
deep_can true all tree main flat list e d = (d.enough, d.inside)
deep_can false all tree main flat list e d = cc

pub main_can : (deep all : Bool) (flat : FlatView) (list : List DeepVariable) → deep ≡ false → list ≡ listed_from all 0 flat.variables → IsListFor deep all flat list
main_can false all flat list e is = is
main_can true all flat list e is = cc
