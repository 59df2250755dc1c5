-- The header, and columns that are still empty.
use Rattle.std.proofs.Common.{◌≡◌, ℕ, ◌+◌, ◌<◌, true, false, List, [], ◌∷◌, ◌++◌, length, get_or, take, drop, Option, Some, None, refl, sym, ap, subst, ◌∙◌, arith, map}
use Rattle.std.specs.Prelude.{nat_eq, MatchOption, IfSome, IfNone, string_bytes, All}
use Rattle.std.specs.Borrow.{Bor}
use Rattle.std.specs.Cmp.Lexicographic.{pointwise}
use Rattle.std.proofs.lemmas.Slice.Eq.{bytes_eq-Decides}
use Rattle.std.proofs.lemmas.List.{map-append, take_more, take-append-drop, take_at, take_all, append-nil, drop_all}
use Rattle.std.proofs.lemmas.List.Elements.{All-nil}
use Rattle.std.proofs.lemmas.Bool.{both_ways}
use Rattle.std.specs.declared.string.String.{String}
use Rattle.std.specs.declared.alloc.Global.{Global}
use Rattle.luflow.specs.declared.data.Datum.{Datum}
use Rattle.luflow.specs.declared.values.Values.{Values}
use Rattle.luflow.specs.declared.variable.Enum.{Enum}
use Rattle.luflow.specs.declared.variable.Variable.{Variable}
use Rattle.luflow.specs.Program.{Column}
use Rattle.luflow.specs.Packed.{data_in}
use Rattle.luflow.specs.Tables.{column_view, columns_view}
use Rattle.lutab.specs.Text.{Sort, sort_of, HasKind}
use Rattle.lutab.specs.Table.{kinds_of, sorts_of}
use Rattle.lutab.specs.Filling.{AreFilled, AreEmptyOf}

one_column : (ks : List Sort) (k : Sort) (cs : List Column) (c : Column) → AreFilled 0 ks cs → c.values ≡ [] → AreFilled 0 (ks ++ k ∷ []) (cs ++ c ∷ [])
one_column [] k [] c is none = (ap length none, subst (λ (x : List Datum). All (HasKind k) x) (sym none) (All-nil (HasKind k)), tt)
one_column [] k (d ∷ cs) c is none = absurd is
one_column (j ∷ ks) k [] c is none = absurd is
one_column (j ∷ ks) k (d ∷ cs) c is none = (is.0, is.1, one_column ks k cs c is.2 none)

pub one_more_column : (types : List Enum) (inputs : List Variable) (i : ℕ) (input : Variable) (columns new : List (String Global × Values)) (c : String Global × Values) → i < length inputs → AreEmptyOf types (take i inputs) (columns_view columns) →
    string_bytes c.0 ≡ (get_or inputs i input).name → data_in c.1 ≡ [] → new ≡ columns ++ c ∷ [] → AreEmptyOf types (take (i + 1) inputs) (columns_view new)
one_more_column types inputs i input columns new c lt is named none e =
    let x = get_or inputs i input in
    let names : map (λ y. y.name) (columns_view (columns ++ c ∷ [])) ≡ map (λ y. y.name) (take i inputs ++ x ∷ []) =
    rw (map-append column_view columns (c ∷ []), map-append (λ (y : Column). y.name) (columns_view columns) (column_view c ∷ []), map-append (λ (y : Variable). y.name) (take i inputs) (x ∷ []), is.0, named) refl in
    let filled : AreFilled 0 (sorts_of types (take i inputs ++ x ∷ [])) (columns_view (columns ++ c ∷ [])) =
    rw (map-append column_view columns (c ∷ []), map-append (λ (y : Variable). y.kind) (take i inputs) (x ∷ []), map-append (sort_of types) (kinds_of (take i inputs)) (x.kind ∷ []))
    (one_column (sorts_of types (take i inputs)) (sort_of types x.kind) (columns_view columns) (column_view c) is.1 none) in
    rw (take_more inputs i input lt, e) (names, filled)

-- a slice written back to its vector
pub written : {A : Type 0} (n : ℕ) (new old : List A) → length new ≡ length old → n ≡ length old → take n (new ++ drop (length new) old) ≡ new
written n new old same len = rw (drop_all (length new) old (omega arith), append-nil new) (take_all n new (omega arith))

front_is : (header bytes body : List ℕ) → (pointwise nat_eq (take (length header) bytes) header ≡ true) × (body ≡ drop (length header) bytes) × (length body + length header ≡ length bytes) → bytes ≡ header ++ body
front_is header bytes body h =
    let front : take (length header) bytes ≡ header = (bytes_eq-Decides (take (length header) bytes) header).0 h.0 in
    sym (take-append-drop (length header) bytes) ∙ ap (λ (x : List ℕ). x ++ drop (length header) bytes) front ∙ ap (λ (x : List ℕ). header ++ x) (sym h.1)

no_front : (header bytes body : List ℕ) → pointwise nat_eq (take (length header) bytes) header ≡ false → bytes ≡ header ++ body → ⊥
no_front header bytes body h e =
    let front : take (length header) bytes ≡ header = rw e (take_at header body (length header) refl) in
    both_ways _ h ((bytes_eq-Decides (take (length header) bytes) header).1 front)

-- what `strip_prefix` says, by cases
pub found_or_none : (header bytes : List ℕ) (r : Option (Bor (List ℕ))) → MatchOption r (pointwise nat_eq (take (length header) bytes) header ≡ false) (λ x. (pointwise nat_eq (take (length header) bytes) header ≡ true) × (x.now ≡ drop (length header) bytes) × (length x.now + length header ≡ length bytes))
    → IfSome r (λ body. bytes ≡ header ++ body.now) × IfNone r ((body : List ℕ) → bytes ≡ header ++ body → ⊥)
found_or_none header bytes (Some x) h = (front_is header bytes x.now h, tt)
found_or_none header bytes None h = (tt, λ body e. no_front header bytes body h e)
