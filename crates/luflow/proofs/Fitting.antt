-- A table whose columns are the inputs of a flat program gives each flow that reads it its values.
use Rattle.std.proofs.Common.{◌≡◌, ℕ, zero, suc, ◌<◌, Bool, true, false, cond, List, [], ◌∷◌, ◌++◌, length, filter, Some, refl, sym, ap, ◌∙◌, subst, arith}
use Rattle.std.specs.Prelude.{slice_get, All}
use Rattle.std.proofs.lemmas.List.Elements.{All-head, All-tail, filter_passes}
use Rattle.lutree.specs.declared.program.Kind.{Kind}
use Rattle.luflow.specs.declared.data.Datum.{Datum}
use Rattle.luflow.specs.declared.form.Form.{Form}
use Rattle.luflow.specs.declared.form.Form.TheVariants.{Input, Constant, Copied, Unary, Binary, If, Pre, Arrow, When, Current, Merge}
use Rattle.luflow.specs.declared.form.Flow.{Flow}
use Rattle.luflow.specs.declared.variable.Variable.{Variable}
use Rattle.luflow.specs.declared.variable.Role.TheVariants as roles
use Rattle.luflow.specs.Program.{FlatView, InputsView, Column, flow_at, data_of, column_of}
use Rattle.luflow.specs.Sound.{IsConstantOf, IsFitFor, IsFit}
use Rattle.luflow.specs.Variables.{is_input, inputs_of}
use Rattle.luflow.specs.Flats.{IsFlat}
use Rattle.luflow.specs.Tables.{IsTable, AreColumnsOf, FitsProgram, FitsProgramLaw}

All-at : {X : Type 0} (P : X → Type 0) (xs : List X) (i : ℕ) (x : X) → slice_get xs i ≡ Some x → All P xs → P x
All-at P [] i x e h = cc
All-at P (y ∷ xs) zero x e h = let same : y ≡ x = cc in subst P same (All-head P y xs h)
All-at P (y ∷ xs) (suc i) x e h = All-at P xs i x e (All-tail P y xs h)

-- the column of an input
record IsColumn (x : Variable) (columns : List Column) (v : ℕ) : Type 0 where
  column : Column
  there : slice_get columns v ≡ Some column
  values : All (λ d. IsConstantOf x.kind d) column.values

column_at : (xs : List Variable) (columns : List Column) → AreColumnsOf xs columns → (v : ℕ) (x : Variable) → slice_get xs v ≡ Some x → IsColumn x columns v
column_at [] columns h v x e = cc
column_at (y ∷ xs) [] h v x e = absurd h
column_at (y ∷ xs) (c ∷ cs) h zero x e =
    let same : y ≡ x = cc in
    record { column = c; there = refl; values = subst (λ (z : Variable). All (λ d. IsConstantOf z.kind d) c.values) same h.1 }
column_at (y ∷ xs) (c ∷ cs) h (suc v) x e =
    let rest = column_at xs cs h.2 v x e in
    record { column = rest.column; there = rest.there; values = rest.values }

value_at : (k : Kind) (ds : List Datum) → All (λ d. IsConstantOf k d) ds → (t : ℕ) → t < length ds → (d : Datum) × (slice_get ds t ≡ Some d) × IsConstantOf k d
value_at k [] h t lt = absurd (omega (arith, lt))
value_at k (d ∷ ds) h zero lt = (d, refl, All-head (λ d. IsConstantOf k d) d ds h)
value_at k (d ∷ ds) h (suc t) lt = value_at k ds (All-tail (λ d. IsConstantOf k d) d ds h) t (omega (arith, lt))

module _ {X : Type 0} (p : X → Bool) where
  abbrev kept : Bool → X → List X → List X
  kept b x xs = cond b (x ∷ xs) xs

  passes_not : (y x : X) → p y ≡ false → y ≡ x → p x ≡ true → ⊥
  passes_not y x said same is = let clash : false ≡ true = sym said ∙ ap p same ∙ is in cc

  -- nothing that passes stands in a list from which the filter leaves nothing
  never : (xs : List X) → filter p xs ≡ [] → (i : ℕ) (x : X) → slice_get xs i ≡ Some x → p x ≡ true → ⊥
  never [] e i x here is = cc
  never (y ∷ xs) e i x here is = go (p y) refl e i here (never xs)
    where
      go : (b : Bool) → p y ≡ b → kept b y (filter p xs) ≡ [] → (j : ℕ) → slice_get (y ∷ xs) j ≡ Some x → (filter p xs ≡ [] → (k : ℕ) (z : X) → slice_get xs k ≡ Some z → p z ≡ true → ⊥) → ⊥
      go true said none j there rest = cc
      go false said none zero there rest = passes_not y x said (let same : y ≡ x = cc in same) is
      go false said none (suc j) there rest = rest none j x there is

  first : (y : X) (xs rest passing : List X) → All (λ z. p z ≡ true) passing → p y ≡ false → y ∷ xs ≡ passing ++ rest → passing ≡ []
  first y xs rest [] all said h = refl
  first y xs rest (z ∷ zs) all said h =
      let same : y ≡ z = cc in
      absurd (passes_not y z said same (All-head (λ z. p z ≡ true) z zs all))

  -- a list that begins with its passing ones has none of them later
  begins : (xs rest : List X) → xs ≡ filter p xs ++ rest → (i : ℕ) (x : X) → slice_get xs i ≡ Some x → p x ≡ true → slice_get (filter p xs) i ≡ Some x
  begins [] rest e i x here is = cc
  begins (y ∷ xs) rest e i x here is = go (p y) refl e i here (begins xs rest)
    where
      go : (b : Bool) → p y ≡ b → y ∷ xs ≡ kept b y (filter p xs) ++ rest → (j : ℕ) → slice_get (y ∷ xs) j ≡ Some x → (xs ≡ filter p xs ++ rest → (k : ℕ) (z : X) → slice_get xs k ≡ Some z → p z ≡ true → slice_get (filter p xs) k ≡ Some z) → slice_get (kept b y (filter p xs)) j ≡ Some x
      go true said h zero there more = there
      go true said h (suc j) there more = let e : xs ≡ filter p xs ++ rest = cc in more e j x there is
      go false said h zero there more = absurd (passes_not y x said (let same : y ≡ x = cc in same) is)
      go false said h (suc j) there more = absurd (never xs (first y xs rest (filter p xs) (filter_passes p xs) said h) j x there is)

is_input_role : (x : Variable) → x.role ≡ roles.Input → is_input x.role ≡ true
is_input_role x e = ap is_input e

module _ (flat : FlatView) (inputs : InputsView) (ok : IsFlat flat) (table : IsTable inputs) (fits : FitsProgram flat inputs) where
  -- what a flow that reads column c has at an instant
  read : (i c : ℕ) (flow : Flow) → flow_at flat i ≡ Some flow → flow.form ≡ Input c → (t : ℕ) → t < inputs.instants → (d : Datum) × (slice_get (column_of inputs c) t ≡ Some d) × IsConstantOf flow.kind d
  read i c flow here form t lt =
      let (place, x, found, role) = ok.input_there i c flow here form in
      let its = ok.input_is i x found role in
      let kind = its.3 in
      let both : Some its.0 ≡ Some flow = sym its.1 ∙ here in
      let one : its.0 ≡ flow = cc in
      let stands = begins (λ y. is_input y.role) flat.variables ok.inputs_first.0 ok.inputs_first.1 i x found (is_input_role x role) in
      let column = column_at (inputs_of flat.variables) inputs.columns fits i x stands in
      let long : length column.column.values ≡ inputs.instants = All-at (λ column. length column.values ≡ inputs.instants) inputs.columns i column.column column.there table.long in
      let v = value_at x.kind column.column.values column.values t (omega (arith, lt, long)) in
      let is : column_of inputs c ≡ column.column.values = ap (λ n. data_of (slice_get inputs.columns n)) place ∙ ap data_of column.there in
      (v.0, ap (λ l. slice_get l t) is ∙ v.1, subst (λ (k : Kind). IsConstantOf k v.0) (sym kind ∙ ap (λ (f : Flow). f.kind) one) v.2)

  fit_for : (k : Kind) (form : Form) → ((c : ℕ) → form ≡ Input c → (t : ℕ) → t < inputs.instants → (d : Datum) × (slice_get (column_of inputs c) t ≡ Some d) × IsConstantOf k d) → IsFitFor inputs k form
  fit_for k (Input c) h = h c refl
  fit_for k (Constant d) h = tt
  fit_for k (Copied a) h = tt
  fit_for k (Unary op a) h = tt
  fit_for k (Binary op a b) h = tt
  fit_for k (If c a b) h = tt
  fit_for k (Pre a) h = tt
  fit_for k (Arrow a b) h = tt
  fit_for k (When a) h = tt
  fit_for k (Current a) h = tt
  fit_for k (Merge c xs) h = tt

  all_fit : IsFit flat inputs
  all_fit = record { columns = λ i flow here. fit_for flow.kind flow.form (λ c form t lt. read i c flow here form t lt) }

pub fits : FitsProgramLaw
fits flat inputs ok table fit = all_fit flat inputs ok table fit

-- such columns are as many as the inputs
pub as_many : (xs : List Variable) (columns : List Column) → AreColumnsOf xs columns → length xs ≡ length columns
as_many [] [] h = refl
as_many [] (c ∷ cs) h = absurd h
as_many (x ∷ xs) [] h = absurd h
as_many (x ∷ xs) (c ∷ cs) h = ap suc (as_many xs cs h.2)
