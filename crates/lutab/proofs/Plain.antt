-- A row has one field more than it has commas, and no line feed before its end.
use Rattle.std.proofs.Common.{◌≡◌, ℕ, suc, ◌+◌, ◌<◌, true, false, cond, not, ltb, List, [], ◌∷◌, ◌++◌, length, Some, refl, sym, ap, ◌∙◌, subst, append_assoc, arith, count_by, position, pos, negsuc, length-append}
use Rattle.std.specs.Str.{all_ascii_digits}
use Rattle.std.specs.Fmt.{decimal}
use Rattle.std.specs.List.{join_with_byte, position_or_len}
use Rattle.std.specs.Prelude.{All, unwrap_or}
use Rattle.std.proofs.lemmas.Bool.{ne_eqb, and_parts, or_parts, false≢true, lt-ltb, eq-eqb}
use Rattle.std.proofs.lemmas.Fmt.{digits_decimal}
use Rattle.std.proofs.lemmas.List.{take_at}
use Rattle.std.proofs.lemmas.List.Elements.{All-head, All-tail}
use Rattle.std.proofs.lemmas.List.Sums.{sum_by-append}
use Rattle.lutree.specs.declared.program.Kind.{Kind}
use Rattle.lutree.specs.declared.program.Kind.TheVariants as kinds
use Rattle.luflow.specs.declared.data.Datum.{Datum}
use Rattle.luflow.specs.declared.data.Datum.TheVariants as datums
use Rattle.luflow.specs.Types.{name_of}
use Rattle.lutab.specs.Text.{Sort, datum_text, fields_text, is_end, IsValueOf, IsRow, row_text}
use Rattle.lutab.specs.Table.{is_feed, is_comma, has_other_count, is_bad_row, IsNoRow}
use Rattle.lutab.proofs.Values.{own, digit_range}

-- no line feed
abbrev pub IsOneLine : List ℕ → Type 0
IsOneLine [] = Unit {0}
IsOneLine (b ∷ bs) = (is_feed b ≡ false) × IsOneLine bs

abbrev pub commas_in : List ℕ → ℕ
commas_in bytes = count_by is_comma bytes

commas_append : (xs ys : List ℕ) → commas_in (xs ++ ys) ≡ commas_in xs + commas_in ys
commas_append xs ys = sum_by-append (λ b. cond (is_comma b) 1 0) xs ys

commas_pass : (b : ℕ) (bs : List ℕ) → is_comma b ≡ false → commas_in (b ∷ bs) ≡ commas_in bs
commas_pass b bs h = commas_append (b ∷ []) bs ∙ rw h (omega arith)

one_line_append : (xs ys : List ℕ) → IsOneLine xs → IsOneLine ys → IsOneLine (xs ++ ys)
one_line_append [] ys a b = b
one_line_append (x ∷ xs) ys a b = (a.0, one_line_append xs ys a.1 b)

-- ---- values

digits_plain : (ds : List ℕ) → all_ascii_digits ds ≡ true → IsOneLine ds × (commas_in ds ≡ 0)
digits_plain [] all = (tt, refl)
digits_plain (d ∷ ds) all =
    let range = digit_range d (and_parts _ _ all).0 in
    let feed : is_feed d ≡ false = ne_eqb d 10 (λ e. absurd (omega arith)) in
    let comma : is_comma d ≡ false = ne_eqb d 44 (λ e. absurd (omega arith)) in
    let more = digits_plain ds (and_parts _ _ all).1 in
    ((feed, more.0), commas_pass d ds comma ∙ more.1)

name_plain : (name : List ℕ) → All (λ b. is_end b ≡ false) name → IsOneLine name × (commas_in name ≡ 0)
name_plain [] plain = (tt, refl)
name_plain (b ∷ bs) plain =
    let p = or_parts (is_comma b) (is_feed b) (All-head (λ b. is_end b ≡ false) b bs plain) in
    let more = name_plain bs (All-tail (λ b. is_end b ≡ false) b bs plain) in
    ((p.1, more.0), commas_pass b bs p.0 ∙ more.1)

datum_plain : (names : List (List ℕ)) (k : Kind) (d : Datum) → IsValueOf names k d → IsOneLine (datum_text names d) × (commas_in (datum_text names d) ≡ 0)
datum_plain names kinds.Int (datums.Int (pos n)) has =
    let low : n < 9223372036854775808 = has.sfits in
    digits_plain (decimal n) (digits_decimal own n (omega arith))
datum_plain names kinds.Int (datums.Int (negsuc n)) has =
    let low : n < 9223372036854775808 = has.sfits in
    let p = digits_plain (decimal (suc n)) (digits_decimal own (suc n) (omega arith)) in
    ((refl, p.0), commas_pass 45 (decimal (suc n)) refl ∙ p.1)
datum_plain names kinds.Int (datums.Bool b) has = absurd has
datum_plain names kinds.Int (datums.Name k) has = absurd has
datum_plain names kinds.Int datums.Nil has = absurd has
datum_plain names kinds.Bool (datums.Int z) has = absurd has
datum_plain names kinds.Bool (datums.Bool true) has = ((refl, (refl, (refl, (refl, tt)))), refl)
datum_plain names kinds.Bool (datums.Bool false) has = ((refl, (refl, (refl, (refl, (refl, tt))))), refl)
datum_plain names kinds.Bool (datums.Name k) has = absurd has
datum_plain names kinds.Bool datums.Nil has = absurd has
datum_plain names (kinds.Enum p n) (datums.Int z) has = absurd has
datum_plain names (kinds.Enum p n) (datums.Bool b) has = absurd has
datum_plain names (kinds.Enum p n) (datums.Name k) has =
    let reported = has.1 in
    let text : reported.name ≡ name_of names k = sym (ap (λ o. unwrap_or o []) reported.there) in
    subst (λ (t : List ℕ). IsOneLine t × (commas_in t ≡ 0)) text (name_plain reported.name reported.plain)
datum_plain names (kinds.Enum p n) datums.Nil has = absurd has

-- ---- rows

fields_plain : (k : Sort) (ks : List Sort) (row : List Datum) → IsRow (k ∷ ks) row → IsOneLine (join_with_byte 44 (fields_text (k ∷ ks) row)) × (commas_in (join_with_byte 44 (fields_text (k ∷ ks) row)) ≡ length ks)
fields_plain k [] [] is = absurd is
fields_plain k [] (d ∷ []) is = datum_plain k.names k.kind d is.0
fields_plain k [] (d ∷ x ∷ ds) is = absurd is.1
fields_plain k (j ∷ ks) [] is = absurd is
fields_plain k (j ∷ ks) (d ∷ []) is = absurd is.1
fields_plain k (j ∷ ks) (d ∷ x ∷ ds) is =
    let p = datum_plain k.names k.kind d is.0 in
    let more = fields_plain j ks (x ∷ ds) is.1 in
    let rest = join_with_byte 44 (fields_text (j ∷ ks) (x ∷ ds)) in (
      one_line_append (datum_text k.names d) (44 ∷ rest) p.0 (refl, more.0),
      omega (arith, commas_append (datum_text k.names d) (44 ∷ rest), commas_append (44 ∷ []) rest, p.1, more.1),
    )

row_plain : (ks : List Sort) (row : List Datum) → IsRow ks row → IsOneLine (join_with_byte 44 (fields_text ks row)) × (has_other_count (length ks) (join_with_byte 44 (fields_text ks row)) ≡ false)
row_plain [] [] is = (tt, refl)
row_plain [] (d ∷ ds) is = absurd is
row_plain (k ∷ ks) row is = let p = fields_plain k ks row is in (p.0, ap not (eq-eqb _ _ p.1))

-- where a line ends
end_is : (line after : List ℕ) → IsOneLine line → position_or_len is_feed (line ++ 10 ∷ after) ≡ length line
end_is [] after one = refl
end_is (b ∷ line) after one = rw one.0 (omega (arith, end_is line after one.1))

row_end : (line after : List ℕ) → IsOneLine line → position is_feed (line ++ 10 ∷ after) ≡ Some (length line)
row_end line after one =
    let less : ltb (length line) (length (line ++ 10 ∷ after)) ≡ true = lt-ltb _ _ (omega (arith, length-append line (10 ∷ after))) in
    rw (end_is line after one, less) refl

good_row : (ks : List Sort) (row : List Datum) (after : List ℕ) → IsRow ks row → is_bad_row (length ks) (row_text ks row ++ after) ≡ false
unfolding is_bad_row
good_row ks row after is =
    let line = join_with_byte 44 (fields_text ks row) in
    let p = row_plain ks row is in
    rw (append_assoc line (10 ∷ []) after, row_end line after p.0, take_at line (10 ∷ after) (length line) refl) p.1

-- a line that has another number of fields, or isn't ended, is no row
pub bad_is_no_row : (ks : List Sort) (rest : List ℕ) → is_bad_row (length ks) rest ≡ true → IsNoRow ks rest
bad_is_no_row ks rest bad row after is e = absurd (false≢true (sym (good_row ks row after is) ∙ (ap (is_bad_row (length ks)) (sym e) ∙ bad)))
