-- The table that a user begins with is a table of the program's inputs, and its text is that table's.
use Rattle.std.proofs.Common.{◌≡◌, ◌∙◌, ℕ, zero, suc, ◌<◌, ◌≤◌, List, [], ◌∷◌, ◌++◌, length, get_or, map, Some, All, refl, sym, ap, ap₂, subst, append-nil, arith}
use Rattle.std.specs.Prelude.{slice_get, unwrap_or}
use Rattle.std.specs.List.{flat_map, repeat}
use Rattle.std.specs.Option.{option_map}
use Rattle.std.proofs.lemmas.Grind.{flat_map-append}
use Rattle.std.proofs.Math.Facts.{sfits_lit}
use Rattle.std.proofs.lemmas.List.{length-replicate, get_or_default, get_or-replicate}
use Rattle.std.proofs.lemmas.List.Elements.{All-nil, All-cons, All-head, All-tail, All-replicate}
use Rattle.std.proofs.lemmas.Option.{slice_get_read}
use Rattle.lutree.specs.declared.program.Kind.{Kind}
use Rattle.lutree.specs.declared.program.Kind.TheVariants as kinds
use Rattle.luflow.specs.declared.data.Datum.{Datum}
use Rattle.luflow.specs.declared.data.Datum.TheVariants.{Nil}
use Rattle.luflow.specs.declared.variable.Enum.{Enum}
use Rattle.luflow.specs.declared.variable.Variable.{Variable}
use Rattle.luflow.specs.Flats.{IsFlat, IsTypeAmong}
use Rattle.luflow.specs.Program.{Column, FlatView}
use Rattle.luflow.specs.Sound.{IsConstantOf}
use Rattle.luflow.specs.Tables.{AreColumnsOf}
use Rattle.luflow.specs.Types.{names_of}
use Rattle.luflow.specs.Variables.{inputs_of}
use Rattle.luflow.proofs.Solutions.{all_left, some_at}
use Rattle.lutab.specs.Table.{AreWords, row_of, rows_of, sorts_of}
use Rattle.lutab.specs.Text.{IsFieldName, IsWord, datum_text, fields_text, line_text, row_text}
use Rattle.lutab.specs.FirstTable.{FirstTableLaw, HaveFirstNames, first_column, first_datum, first_field, first_line}
use Rattle.lutab.proofs.Repeats.{repeat_suc}

-- ---- one value

some_below : {X : Type 0} (xs : List X) (x : X) → slice_get xs 0 ≡ Some x → 0 < length xs
some_below [] x e = absurd cc
some_below (y ∷ ys) x e = omega arith

constant : (types : List Enum) (k : Kind) → HaveFirstNames types → IsTypeAmong types k → IsConstantOf k (first_datum k)
constant types kinds.Int first among = (tt, λ e. cc)
constant types kinds.Bool first among = (tt, λ e. cc)
constant types (kinds.Enum place size) first among =
    let named = first place among.0 among.1 in
    (omega (arith, some_below among.0.names named.name named.there, among.2), λ e. cc)

spelled : (types : List Enum) (k : Kind) → HaveFirstNames types → IsTypeAmong types k → IsWord (names_of types k) (first_datum k)
spelled types kinds.Int first among = sfits_lit tt
spelled types kinds.Bool first among = tt
spelled types (kinds.Enum place size) first among =
    subst (λ o. IsFieldName (unwrap_or (option_map (λ (t : Enum). t.names) o) []) 0) (sym among.1) (first place among.0 among.1)

-- ---- the columns

abbrev AreTyped : List Enum → List Variable → Type 0
AreTyped types xs = All (λ x. IsTypeAmong types x.kind) xs

module _ (types : List Enum) (n : ℕ) (first : HaveFirstNames types) where
  columns_are : (xs : List Variable) → AreTyped types xs → AreColumnsOf xs (map (first_column n) xs)
  columns_are [] typed = tt
  columns_are (x ∷ xs) typed = (
    refl,
    All-replicate (IsConstantOf x.kind) n (first_datum x.kind) (constant types x.kind first (All-head (λ (y : Variable). IsTypeAmong types y.kind) x xs typed)),
    columns_are xs (All-tail (λ (y : Variable). IsTypeAmong types y.kind) x xs typed),
  )

  words_are : (xs : List Variable) → AreTyped types xs → AreWords (sorts_of types xs) (map (first_column n) xs)
  words_are [] typed = tt
  words_are (x ∷ xs) typed = (
    All-replicate (IsWord (names_of types x.kind)) n (first_datum x.kind) (spelled types x.kind first (All-head (λ (y : Variable). IsTypeAmong types y.kind) x xs typed)),
    words_are xs (All-tail (λ (y : Variable). IsTypeAmong types y.kind) x xs typed),
  )

long : (n : ℕ) (xs : List Variable) → All (λ c. length c.values ≡ n) (map (first_column n) xs)
long n [] = All-nil (λ (c : Column). length c.values ≡ n)
long n (x ∷ xs) = All-cons (λ (c : Column). length c.values ≡ n) (first_column n x) (map (first_column n) xs) (length-replicate n (first_datum x.kind)) (long n xs)

named : (n : ℕ) (xs : List Variable) → map (λ (c : Column). c.name) (map (first_column n) xs) ≡ map (λ (x : Variable). x.name) xs
named n [] = refl
named n (x ∷ xs) = ap (λ (names : List (List ℕ)). x.name ∷ names) (named n xs)

-- ---- the lines

module _ (types : List Enum) (n : ℕ) where
  fields : (xs : List Variable) (t : ℕ) → t < n → fields_text (sorts_of types xs) (row_of (map (first_column n) xs) t) ≡ map (first_field types) xs
  fields [] t lt = refl
  fields (x ∷ xs) t lt =
      ap₂ (λ (y : List ℕ) ys. y ∷ ys) (ap (λ (d : Datum). datum_text (names_of types x.kind) d) (get_or-replicate n t (first_datum x.kind) Nil lt)) (fields xs t lt)

  lines : (xs : List Variable) (k : ℕ) → k ≤ n → flat_map (row_text (sorts_of types xs)) (rows_of (map (first_column n) xs) k) ≡ repeat k (first_line types xs)
  lines xs zero le = refl
  lines xs (suc k) le =
      let columns = map (first_column n) xs in
      let sorts = sorts_of types xs in
      flat_map-append (row_text sorts) (rows_of columns k) (row_of columns k ∷ [])
      ∙ ap₂ (λ (a b : List ℕ). a ++ b) (lines xs k (omega (arith, le))) (append-nil (row_text sorts (row_of columns k)) ∙ ap line_text (fields xs k (omega (arith, le))))
      ∙ sym (repeat_suc k (first_line types xs))

-- ---- the variables of a flat program

variable_typed : (flat : FlatView) → IsFlat flat → (v : ℕ) (x : Variable) → v < length flat.variables → slice_get flat.variables v ≡ Some x → IsTypeAmong flat.types x.kind
variable_typed flat is v x lt there =
    let flow = some_at flat.flows v (omega (arith, lt, is.variables_first)) in
    subst (IsTypeAmong flat.types) (is.kinds v x flow.0 there flow.1) (is.types v flow.0 flow.1)

typed : (flat : FlatView) → IsFlat flat → AreTyped flat.types (inputs_of flat.variables)
typed flat is =
    let P : Variable → Type 0 = λ x. IsTypeAmong flat.types x.kind in
    let all : All P flat.variables = λ v d lt. variable_typed flat is v (get_or flat.variables v d) lt (slice_get_read flat.variables (length flat.variables) v (get_or flat.variables v d) refl lt (get_or_default flat.variables v d (get_or flat.variables v d) lt)) in
    all_left P (inputs_of flat.variables) is.inputs_first.0 (subst (All P) is.inputs_first.1 all)

pub first_table_law : FirstTableLaw
first_table_law flat n is first few =
    let xs = inputs_of flat.variables in
    record {
      columns = columns_are flat.types n first xs (typed flat is);
      is_table = record { few = few; long = long n xs };
      words = words_are flat.types n first xs (typed flat is);
      spelled = ap₂ (λ (a b : List ℕ). a ++ b) (ap line_text (sym (named n xs))) (sym (lines flat.types n xs n (omega arith)));
    }
