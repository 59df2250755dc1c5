-- Reading a row from left to right: a value and the bytes after it, if the bytes begin with one.
use Rattle.std.specs.Prelude.{ℕ, ◌+◌, ◌-◌, ◌*◌, List, [], ◌∷◌, length, codes, true, false, Bool, Option, Some}
use Rattle.std.specs.Prelude.{None, if◌then◌else◌, nat_lt, nat_eq, ◌==◌, pos, negsuc, position, take, drop}
use Rattle.std.specs.Char.{is_ascii_digit}
use Rattle.std.specs.Cmp.Lexicographic.{pointwise}
use Rattle.std.specs.List.{position_or_len}
use Rattle.std.specs.Str.{bytes_eq}
use Rattle.lutree.specs.declared.program.Kind.{Kind}
use Rattle.lutree.specs.declared.program.Kind.TheVariants as kinds
use Rattle.luflow.specs.declared.data.Datum.{Datum}
use Rattle.luflow.specs.declared.data.Datum.TheVariants as datums
use Rattle.lutab.specs.Text.{Sort, is_end}

infixl 10 ◌>>=◌
abbrev pub ◌>>=◌ : {A B : Type 0} → Option A → (A → Option B) → Option B
(Some x) >>= f = f x
None >>= f = None

-- decimal digits behind those of n, as many as there are
unfoldable pub digits_from : ℕ → List ℕ → Option (ℕ × List ℕ)
digits_from n [] = Some (n, [])
digits_from n (b ∷ bs) =
    if is_ascii_digit b then (if nat_lt 922337203685477580 n then None
    else digits_from (n * 10 + (b - 48)) bs) else Some (n, b ∷ bs)

-- digits with no leading zero
unfoldable pub number_at : List ℕ → Option (ℕ × List ℕ)
number_at [] = None
number_at (b ∷ bs) = if b == 48 then Some (0, bs) else (if is_ascii_digit b then digits_from (b - 48) bs
    else None)

-- the number is the value itself, or the absolute value of one below 0
unfoldable pub natural_value : ℕ × List ℕ → Option (Datum × List ℕ)
natural_value x = if nat_lt x.0 9223372036854775808 then Some (datums.Int (pos x.0), x.1) else None

unfoldable pub negative_value : ℕ × List ℕ → Option (Datum × List ℕ)
negative_value x = if x.0 == 0 then None else (if nat_lt 9223372036854775808 x.0 then None
    else Some (datums.Int (negsuc (x.0 - 1)), x.1))

unfoldable pub int_at : List ℕ → Option (Datum × List ℕ)
int_at [] = None
int_at (b ∷ bs) = if b == 45 then (number_at bs >>= negative_value)
    else (number_at (b ∷ bs) >>= natural_value)

-- what follows the word
abbrev pub after : List ℕ → List ℕ → Option (List ℕ)
after word bytes = if pointwise nat_eq (take (length word) bytes) word then Some (drop (length word) bytes)
    else None

abbrev pub or_else : {A : Type 0} → Option A → Option A → Option A
or_else (Some x) o = Some x
or_else None o = o

abbrev pub truth : Bool → List ℕ → Option (Datum × List ℕ)
truth b rest = Some (datums.Bool b, rest)

unfoldable pub bool_at : List ℕ → Option (Datum × List ℕ)
bool_at bytes = or_else (after (codes "true") bytes >>= truth true)
    (after (codes "false") bytes >>= truth false)

-- the field at the front: what stands before the next comma or line feed
abbrev pub field_length : List ℕ → ℕ
field_length bytes = position_or_len is_end bytes

abbrev pub front_field : List ℕ → List ℕ
front_field bytes = take (field_length bytes) bytes

-- the first of these names that is the field, if it is one of the first n
unfoldable pub name_at : List (List ℕ) → ℕ → List ℕ → Option (Datum × List ℕ)
name_at names n bytes =
    position (λ name. bytes_eq name (front_field bytes)) names >>= λ k.
    if nat_lt k n then Some (datums.Name k, drop (field_length bytes) bytes) else None

-- a value of a type with these names
abbrev pub value_of : List (List ℕ) → Kind → List ℕ → Option (Datum × List ℕ)
value_of names kinds.Int bytes = int_at bytes
value_of names kinds.Bool bytes = bool_at bytes
value_of names (kinds.Enum place size) bytes = name_at names size bytes

abbrev pub value_at : Sort → List ℕ → Option (Datum × List ℕ)
value_at s bytes = value_of s.names s.kind bytes

-- what follows the byte
abbrev pub skip : ℕ → List ℕ → Option (List ℕ)
skip c [] = None
skip c (b ∷ bs) = if b == c then Some bs else None

-- what ends a field before those of these types
abbrev pub end_before : List Sort → ℕ
end_before [] = 10
end_before (k ∷ ks) = 44

-- a field and the byte that ends it
unfoldable pub field_at : Sort → ℕ → List ℕ → Option (Datum × List ℕ)
field_at k end bytes =
    value_at k bytes >>= λ v.
    skip end v.1 >>= λ rest.
    Some (v.0, rest)

-- the fields of these types
unfoldable pub fields_at : List Sort → List ℕ → Option (List Datum × List ℕ)
fields_at [] bytes = Some ([], bytes)
fields_at (k ∷ ks) bytes =
    field_at k (end_before ks) bytes >>= λ v.
    fields_at ks v.1 >>= λ x.
    Some (v.0 ∷ x.0, x.1)

-- a line, of which an empty one has no field where there are no types
unfoldable pub row_at : List Sort → List ℕ → Option (List Datum × List ℕ)
row_at [] bytes = skip 10 bytes >>= λ rest. Some ([], rest)
row_at (k ∷ ks) bytes = fields_at (k ∷ ks) bytes
