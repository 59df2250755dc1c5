-- What was read is the table that the text spells, and no text spells two.
use Rattle.std.proofs.Common.{◌≡◌, ℕ, zero, suc, ◌+◌, ◌<◌, ◌≤◌, Bool, true, false, cond, List, [], ◌∷◌, ◌++◌, length, get_or, refl, sym, ap, subst, ◌∙◌, arith, map, All, inl, inr, count_by, length-append}
use Rattle.std.specs.Prelude.{◌||◌, nat_lt}
use Rattle.std.specs.List.{flat_map, join_with_byte}
use Rattle.std.proofs.lemmas.Bool.{ltb-false, cases_lt}
use Rattle.std.proofs.lemmas.List.{append_cancel_left, ext_get_or, get_or_append_left, get_or_push}
use Rattle.std.proofs.lemmas.List.Elements.{All-nil, All-cons, All-head, All-tail, All-push, All-weaker, All-get_or}
use Rattle.std.proofs.lemmas.List.Sums.{sum_by-append}
use Rattle.lutree.specs.declared.program.Kind.{Kind}
use Rattle.lutree.specs.declared.program.Kind.TheVariants as kinds
use Rattle.luflow.specs.declared.data.Datum.{Datum}
use Rattle.luflow.specs.declared.data.Datum.TheVariants as datums
use Rattle.luflow.specs.declared.variable.Enum.{Enum}
use Rattle.luflow.specs.declared.variable.Variable.{Variable}
use Rattle.luflow.specs.Types.{names_of as names_of_type}
use Rattle.luflow.specs.Program.{Column, InputsView}
use Rattle.luflow.specs.Sound.{IsConstantOf}
use Rattle.luflow.specs.Tables.{IsTable, AreColumnsOf}
use Rattle.lutab.specs.Text.{Sort, sort_of, IsWord, IsValueOf, HasKind, IsRow, row_text}
use Rattle.lutab.specs.Table.{header_text, sorts_of, AreWords, row_of, rows_of, is_feed, is_too_long, table_text, IsTextOf}
use Rattle.lutab.specs.Filling.{AreFilled, AreRead}
use Rattle.lutab.proofs.Rowwise.{rows_same}

-- ---- values by their types

constant_of : (names : List (List ℕ)) (k : Kind) (d : Datum) → IsValueOf names k d → IsConstantOf k d
constant_of names kinds.Int (datums.Int z) has = (tt, λ e. cc)
constant_of names kinds.Int (datums.Bool b) has = absurd has
constant_of names kinds.Int (datums.Name k) has = absurd has
constant_of names kinds.Int datums.Nil has = absurd has
constant_of names kinds.Bool (datums.Int z) has = absurd has
constant_of names kinds.Bool (datums.Bool b) has = (tt, λ e. cc)
constant_of names kinds.Bool (datums.Name k) has = absurd has
constant_of names kinds.Bool datums.Nil has = absurd has
constant_of names (kinds.Enum p n) (datums.Int z) has = absurd has
constant_of names (kinds.Enum p n) (datums.Bool b) has = absurd has
constant_of names (kinds.Enum p n) (datums.Name k) has = (has.0, λ e. cc)
constant_of names (kinds.Enum p n) datums.Nil has = absurd has

word_of : (names : List (List ℕ)) (k : Kind) (d : Datum) → IsValueOf names k d → IsWord names d
word_of names kinds.Int (datums.Int z) has = has
word_of names kinds.Int (datums.Bool b) has = absurd has
word_of names kinds.Int (datums.Name k) has = absurd has
word_of names kinds.Int datums.Nil has = absurd has
word_of names kinds.Bool (datums.Int z) has = absurd has
word_of names kinds.Bool (datums.Bool b) has = tt
word_of names kinds.Bool (datums.Name k) has = absurd has
word_of names kinds.Bool datums.Nil has = absurd has
word_of names (kinds.Enum p n) (datums.Int z) has = absurd has
word_of names (kinds.Enum p n) (datums.Bool b) has = absurd has
word_of names (kinds.Enum p n) (datums.Name k) has = has.1
word_of names (kinds.Enum p n) datums.Nil has = absurd has

kind_of : (names : List (List ℕ)) (k : Kind) (d : Datum) → IsConstantOf k d → IsWord names d → IsValueOf names k d
kind_of names kinds.Int (datums.Int z) is word = word
kind_of names kinds.Int (datums.Bool b) is word = absurd is.0
kind_of names kinds.Int (datums.Name k) is word = absurd is.0
kind_of names kinds.Int datums.Nil is word = absurd (is.1 refl)
kind_of names kinds.Bool (datums.Int z) is word = absurd is.0
kind_of names kinds.Bool (datums.Bool b) is word = tt
kind_of names kinds.Bool (datums.Name k) is word = absurd is.0
kind_of names kinds.Bool datums.Nil is word = absurd (is.1 refl)
kind_of names (kinds.Enum p n) (datums.Int z) is word = absurd is.0
kind_of names (kinds.Enum p n) (datums.Bool b) is word = absurd is.0
kind_of names (kinds.Enum p n) (datums.Name k) is word = (is.0, word)
kind_of names (kinds.Enum p n) datums.Nil is word = absurd (is.1 refl)

-- ---- columns

head_is : (a b : List ℕ) (xs ys : List (List ℕ)) → a ∷ xs ≡ b ∷ ys → a ≡ b
head_is a b xs ys e = cc

tail_is : (a b : List ℕ) (xs ys : List (List ℕ)) → a ∷ xs ≡ b ∷ ys → xs ≡ ys
tail_is a b xs ys e = cc

columns_of : (types : List Enum) (n : ℕ) (xs : List Variable) (cs : List Column) → AreFilled n (sorts_of types xs) cs → map (λ c. c.name) cs ≡ map (λ x. x.name) xs → AreColumnsOf xs cs
columns_of types n [] [] is e = tt
columns_of types n [] (c ∷ cs) is e = absurd is
columns_of types n (x ∷ xs) [] is e = absurd is
columns_of types n (x ∷ xs) (c ∷ cs) is e = (
  head_is c.name x.name (map (λ d. d.name) cs) (map (λ y. y.name) xs) e,
  All-weaker (HasKind (sort_of types x.kind)) (IsConstantOf x.kind) (constant_of (names_of_type types x.kind) x.kind) c.values is.1,
  columns_of types n xs cs is.2 (tail_is c.name x.name (map (λ d. d.name) cs) (map (λ y. y.name) xs) e),
)

long_of : (n : ℕ) (ks : List Sort) (cs : List Column) → AreFilled n ks cs → All (λ c. length c.values ≡ n) cs
long_of n [] [] is = All-nil (λ (c : Column). length c.values ≡ n)
long_of n [] (c ∷ cs) is = absurd is
long_of n (k ∷ ks) [] is = absurd is
long_of n (k ∷ ks) (c ∷ cs) is = All-cons (λ (c : Column). length c.values ≡ n) c cs is.0 (long_of n ks cs is.2)

words_of : (n : ℕ) (ks : List Sort) (cs : List Column) → AreFilled n ks cs → AreWords ks cs
words_of n [] cs is = tt
words_of n (k ∷ ks) [] is = absurd is
words_of n (k ∷ ks) (c ∷ cs) is = (All-weaker (HasKind k) (IsWord k.names) (word_of k.names k.kind) c.values is.1, words_of n ks cs is.2)

both_kinds : (k : Sort) (ds : List Datum) → All (IsConstantOf k.kind) ds → All (IsWord k.names) ds → All (HasKind k) ds
both_kinds k ds a b i d lt = kind_of k.names k.kind (get_or ds i d) (a i d lt) (b i d lt)

filled_of : (types : List Enum) (n : ℕ) (xs : List Variable) (cs : List Column) → AreColumnsOf xs cs → All (λ c. length c.values ≡ n) cs → AreWords (sorts_of types xs) cs → AreFilled n (sorts_of types xs) cs
filled_of types n [] [] is long words = tt
filled_of types n [] (c ∷ cs) is long words = absurd is
filled_of types n (x ∷ xs) [] is long words = absurd is
filled_of types n (x ∷ xs) (c ∷ cs) is long words = (
  All-head (λ (c : Column). length c.values ≡ n) c cs long,
  both_kinds (sort_of types x.kind) c.values is.1 words.0,
  filled_of types n xs cs is.2 (All-tail (λ (c : Column). length c.values ≡ n) c cs long) words.1,
)

names_of : (xs : List Variable) (cs : List Column) → AreColumnsOf xs cs → map (λ c. c.name) cs ≡ map (λ x. x.name) xs
names_of [] [] is = refl
names_of [] (c ∷ cs) is = absurd is
names_of (x ∷ xs) [] is = absurd is
names_of (x ∷ xs) (c ∷ cs) is = rw (is.0, names_of xs cs is.2) refl

-- ---- the rows of columns

row_is_row : (n t : ℕ) (ks : List Sort) (cs : List Column) → AreFilled n ks cs → t < n → IsRow ks (row_of cs t)
row_is_row n t [] [] is lt = tt
row_is_row n t [] (c ∷ cs) is lt = absurd is
row_is_row n t (k ∷ ks) [] is lt = absurd is
row_is_row n t (k ∷ ks) (c ∷ cs) is lt = (All-get_or (HasKind k) c.values t datums.Nil (omega (arith, is.0)) is.1, row_is_row n t ks cs is.2 lt)

rows_are_rows : (n m : ℕ) (ks : List Sort) (cs : List Column) → AreFilled n ks cs → m ≤ n → All (IsRow ks) (rows_of cs m)
rows_are_rows n zero ks cs is le = All-nil (IsRow ks)
rows_are_rows n (suc m) ks cs is le = All-push (IsRow ks) (rows_of cs m) (row_of cs m) (rows_are_rows n m ks cs is (omega arith)) (row_is_row n m ks cs is (omega arith))

count_of : (cs : List Column) (n : ℕ) → length (rows_of cs n) ≡ n
count_of cs zero = refl
count_of cs (suc n) = omega (arith, length-append (rows_of cs n) (row_of cs n ∷ []), count_of cs n)

-- ---- the text

pub header_same : (ks : List Sort) (xs : List Variable) (table : InputsView) → AreColumnsOf xs table.columns → table_text ks table ≡ header_text xs ++ flat_map (row_text ks) (rows_of table.columns table.instants)
header_same ks xs table is = rw (names_of xs table.columns is) refl

-- a text that isn't too long has few line feeds
few_feeds : (text : List ℕ) → is_too_long text ≡ false → count_by is_feed text ≤ 1000001
few_feeds text short = ltb-false 1000001 (count_by is_feed text) (last (nat_lt 67108864 (length text)) (nat_lt 1000001 (count_by is_feed text)) short)
  where
    last : (a b : Bool) → (a || b) ≡ false → b ≡ false
    last true b e = absurd cc
    last false b e = e

feeds_behind : (line body : List ℕ) → count_by is_feed ((line ++ 10 ∷ []) ++ body) ≡ count_by is_feed line + 1 + count_by is_feed body
feeds_behind line body = omega (arith, sum_by-append (λ b. cond (is_feed b) 1 0) (line ++ 10 ∷ []) body, sum_by-append (λ b. cond (is_feed b) 1 0) line (10 ∷ []))

pub few_read : (xs : List Variable) (text body : List ℕ) (n : ℕ) → is_too_long text ≡ false → text ≡ header_text xs ++ body → n ≤ count_by is_feed body → n ≤ 1000000
few_read xs text body n short e few =
    let line = join_with_byte 44 (map (λ x. x.name) xs) in
    omega (arith, few, few_feeds text short, ap (count_by is_feed) e, feeds_behind line body)

pub table_read : (types : List Enum) (xs : List Variable) (text body : List ℕ) (n : ℕ) (cs : List Column) → is_too_long text ≡ false → text ≡ header_text xs ++ body → AreRead (sorts_of types xs) (map (λ x. x.name) xs) body n cs → IsTable (record { instants = n; columns = cs })
table_read types xs text body n cs short e read = record { few = few_read xs text body n short e read.few; long = long_of n (sorts_of types xs) cs read.filled }

-- what was read is spelled so
pub text_read : (types : List Enum) (xs : List Variable) (text body : List ℕ) (n : ℕ) (cs : List Column) → is_too_long text ≡ false → text ≡ header_text xs ++ body → AreRead (sorts_of types xs) (map (λ x. x.name) xs) body n cs → IsTextOf types xs (record { instants = n; columns = cs }) text
text_read types xs text body n cs short e read = record {
  columns = columns_of types n xs cs read.filled read.named;
  is_table = table_read types xs text body n cs short e read;
  words = words_of n (sorts_of types xs) cs read.filled;
  spelled = e ∙ rw (read.named, ← read.spelled) refl;
}

-- ---- no text spells two tables

filled_in : (types : List Enum) (xs : List Variable) (table : InputsView) (text : List ℕ) → IsTextOf types xs table text → AreFilled table.instants (sorts_of types xs) table.columns
filled_in types xs table text is = filled_of types table.instants xs table.columns is.columns is.is_table.long is.words

pub rows_in : (types : List Enum) (xs : List Variable) (table : InputsView) (text : List ℕ) → IsTextOf types xs table text → All (IsRow (sorts_of types xs)) (rows_of table.columns table.instants)
rows_in types xs table text is = rows_are_rows table.instants table.instants (sorts_of types xs) table.columns (filled_in types xs table text is) (omega arith)

pub spelled_in : (types : List Enum) (xs : List Variable) (table : InputsView) (text : List ℕ) → IsTextOf types xs table text → text ≡ header_text xs ++ flat_map (row_text (sorts_of types xs)) (rows_of table.columns table.instants)
spelled_in types xs table text is = is.spelled ∙ header_same (sorts_of types xs) xs table is.columns

read_row_at : (cs : List Column) (n t : ℕ) → t < n → get_or (rows_of cs n) t [] ≡ row_of cs t
read_row_at cs zero t lt = absurd (omega arith)
read_row_at cs (suc n) t lt =
    elim (cases_lt t n) [
      | inl less ↦ get_or_append_left (rows_of cs n) (row_of cs n ∷ []) [] t (omega (arith, count_of cs n)) ∙ read_row_at cs n t less
      | inr more ↦
          let is : t ≡ n = omega arith in
          get_or_push (rows_of cs n) (row_of cs n) [] t (omega (arith, count_of cs n)) ∙ ap (row_of cs) (sym is)
    ]

same_row : (cs ds : List Column) (n : ℕ) → rows_of cs n ≡ rows_of ds n → (t : ℕ) → t < n → row_of cs t ≡ row_of ds t
same_row cs ds n e t lt = sym (read_row_at cs n t lt) ∙ (ap (λ rows. get_or rows t []) e ∙ read_row_at ds n t lt)

column_same : (c d : Column) → c.name ≡ d.name → c.values ≡ d.values → c ≡ d
column_same c d n v = ap (λ (x : List ℕ). record { name = x; values = c.values }) n ∙ ap (λ (x : List Datum). record { name = d.name; values = x }) v

datum_is : (a b : Datum) (x y : List Datum) → a ∷ x ≡ b ∷ y → a ≡ b
datum_is a b x y e = cc

data_are : (a b : Datum) (x y : List Datum) → a ∷ x ≡ b ∷ y → x ≡ y
data_are a b x y e = cc

abbrev IsLong : ℕ → Column → Type 0
IsLong n c = length c.values ≡ n

columns_same : (n : ℕ) (xs : List Variable) (cs ds : List Column) → AreColumnsOf xs cs → AreColumnsOf xs ds → All (IsLong n) cs → All (IsLong n) ds → ((t : ℕ) → t < n → row_of cs t ≡ row_of ds t) → cs ≡ ds
columns_same n [] [] [] a b la lb rows = refl
columns_same n [] [] (d ∷ ds) a b la lb rows = absurd b
columns_same n [] (c ∷ cs) ds a b la lb rows = absurd a
columns_same n (x ∷ xs) [] ds a b la lb rows = absurd a
columns_same n (x ∷ xs) (c ∷ cs) [] a b la lb rows = absurd b
columns_same n (x ∷ xs) (c ∷ cs) (d ∷ ds) a b la lb rows =
    let lc : length c.values ≡ n = All-head (IsLong n) c cs la in
    let ld : length d.values ≡ n = All-head (IsLong n) d ds lb in
    let values : c.values ≡ d.values = ext_get_or datums.Nil c.values d.values (lc ∙ sym ld) (λ t lt. datum_is (get_or c.values t datums.Nil) (get_or d.values t datums.Nil) (row_of cs t) (row_of ds t) (rows t (omega (arith, lc)))) in
    let more : cs ≡ ds = columns_same n xs cs ds a.2 b.2 (All-tail (IsLong n) c cs la) (All-tail (IsLong n) d ds lb) (λ t lt. data_are (get_or c.values t datums.Nil) (get_or d.values t datums.Nil) (row_of cs t) (row_of ds t) (rows t lt)) in
    rw (column_same c d (a.0 ∙ sym b.0) values, more) refl

table_same : (a b : InputsView) → a.instants ≡ b.instants → a.columns ≡ b.columns → a ≡ b
table_same a b n c = ap (λ (x : ℕ). record { instants = x; columns = a.columns }) n ∙ ap (λ (x : List Column). record { instants = b.instants; columns = x }) c

pub one_table : (types : List Enum) (xs : List Variable) (text : List ℕ) (a b : InputsView) → IsTextOf types xs a text → IsTextOf types xs b text → a ≡ b
one_table types xs text a b p q =
    let bodies = append_cancel_left (header_text xs) _ _ (sym (spelled_in types xs a text p) ∙ spelled_in types xs b text q) in
    let rows : rows_of a.columns a.instants ≡ rows_of b.columns b.instants = rows_same (sorts_of types xs) _ _ (rows_in types xs a text p) (rows_in types xs b text q) bodies in
    let count : a.instants ≡ b.instants = sym (count_of a.columns a.instants) ∙ (ap length rows ∙ count_of b.columns b.instants) in
    let rows_b : rows_of a.columns b.instants ≡ rows_of b.columns b.instants = subst (λ n. rows_of a.columns n ≡ rows_of b.columns b.instants) count rows in
    let long_a : All (IsLong b.instants) a.columns = subst (λ n. All (IsLong n) a.columns) count p.is_table.long in
    table_same a b count (columns_same b.instants xs a.columns b.columns p.columns q.columns long_a q.is_table.long (same_row a.columns b.columns b.instants rows_b))
