-- A value that is read is the value that was written, and what was written is read again.
use Rattle.std.proofs.Common.{◌≡◌, ℕ, suc, ◌+◌, ◌-◌, ◌*◌, ◌^◌, ◌<◌, ◌≤◌, Bool, true, false, cond, ltb, leb, eqb, List, [], ◌∷◌, ◌++◌, length, get_or, take, drop, Option, Some, None, refl, sym, ap, subst, ◌∙◌, arith, rules, zero-add, inl, inr, ℤ, pos}
use Rattle.std.specs.Prelude.{negsuc, ◌⊎◌, ◌≢◌, not, All, FitsSigned, codes, nat_eq, position, slice_get, unwrap_or}
use Rattle.std.specs.Char.{is_ascii_digit}
use Rattle.std.specs.Int.{w64}
use Rattle.std.specs.List.{position_or_len}
use Rattle.std.specs.Str.{all_ascii_digits, bytes_eq}
use Rattle.std.specs.Fmt.{decimal}
use Rattle.std.specs.Cmp.Lexicographic.{pointwise}
use Rattle.std.proofs.lemmas.Bool.{cases_lt, ltb-true, ltb-false, lt-ltb, le-ltb, leb-true, eqb-true, eqb-false, ne_eqb, and_parts, and_from, or_cases, cases_Bool, both_ways, false_from_ne_true, false≢true}
use Rattle.std.proofs.lemmas.Slice.Eq.{bytes_eq-Decides}
use Rattle.std.proofs.lemmas.List.{take-append-drop, take_at, drop_at, length-take, length-append, get_or-take, get_or_append_left, get_or_at}
use Rattle.std.proofs.lemmas.List.Sums.{prefix_len-le-length, position_or_len_is, fails_before_first, passes_at_first}
use Rattle.std.proofs.lemmas.Option.{cond_some, slice_get_within, slice_get-get_or, get_or_from_slice_get}
use Rattle.std.proofs.lemmas.Str.Parse.{IsNumeralModel, numerals_by_fold}
use Rattle.std.proofs.lemmas.Fmt.{digits_decimal, digits_value-decimal, decimal-digits_value, decimal_digit, decimal_nonempty, first_decimal}
use Rattle.lutree.specs.declared.program.Kind.{Kind}
use Rattle.lutree.specs.declared.program.Kind.TheVariants as kinds
use Rattle.luflow.specs.declared.data.Datum.{Datum}
use Rattle.luflow.specs.declared.data.Datum.TheVariants as datums
use Rattle.luflow.specs.Types.{name_of}
use Rattle.lutab.specs.Text.{Sort, datum_text, is_end, IsFieldName, IsValueOf, HasKind}
use Rattle.lutab.specs.Reading.{◌>>=◌, digits_from, number_at, natural_value, negative_value, int_at, after, or_else, truth, bool_at, field_length, front_field, name_at, value_of, value_at}

-- what the digits say behind those of n
abbrev pub read_on : ℕ → List ℕ → ℕ
read_on n [] = n
read_on n (c ∷ cs) = read_on (n * 10 + (c - 48)) cs

pub own : IsNumeralModel (λ ds. all_ascii_digits ds ≡ true) (read_on 0)
own = numerals_by_fold _ (search rules) read_on (search rules)

-- no digit stands in front
abbrev pub NoDigit : List ℕ → Type 0
NoDigit [] = Unit {0}
NoDigit (b ∷ bs) = is_ascii_digit b ≡ false

-- which way a test went
pub chosen : {A : Type 0} (b : Bool) (x y z : A) → cond b x y ≡ z → ((b ≡ true) × (x ≡ z)) ⊎ ((b ≡ false) × (y ≡ z))
chosen true x y z e = inl (refl, e)
chosen false x y z e = inr (refl, e)

pub bind_some : {A B : Type 0} (o : Option A) (f : A → Option B) (y : B) → (o >>= f) ≡ Some y → (x : A) × (o ≡ Some x) × (f x ≡ Some y)
bind_some (Some x) f y e = (x, refl, e)
bind_some None f y e = absurd cc

abbrev some : {A : Type 0} → A → Option A
some x = Some x

pub some_is : {A : Type 0} (x y : A) → some x ≡ some y → x ≡ y
some_is x y e = cc

pub first_is : {A : Type 0} (p q : A × List ℕ) → some p ≡ some q → p.0 ≡ q.0
first_is p q e = ap (λ p. p.0) (some_is p q e)

pub rest_is : {A : Type 0} (p q : A × List ℕ) → some p ≡ some q → p.1 ≡ q.1
rest_is p q e = ap (λ p. p.1) (some_is p q e)

pub digit_range : (b : ℕ) → is_ascii_digit b ≡ true → (48 ≤ b) × (b ≤ 57)
digit_range b e = let p = and_parts (leb 48 b) (leb b 57) e in (leb-true 48 b p.0, leb-true b 57 p.1)

-- digits that were taken from the front
pub record TakesDigits (n : ℕ) (bytes : List ℕ) (m : ℕ) (rest : List ℕ) : Type 0 where
  pub digits : List ℕ
  pub parts : bytes ≡ digits ++ rest
  pub all : all_ascii_digits digits ≡ true
  pub value : read_on n digits ≡ m
  pub low : m ≤ 9223372036854775809
  pub stop : NoDigit rest

-- reading on never makes a number less
pub read_on_grows : (n : ℕ) (ds : List ℕ) → n ≤ read_on n ds
read_on_grows n [] = omega arith
read_on_grows n (d ∷ ds) = omega (arith, read_on_grows (n * 10 + (d - 48)) ds)

pub digits_takes : (bytes : List ℕ) (n m : ℕ) (rest : List ℕ) → n ≤ 9223372036854775809 → digits_from n bytes ≡ Some (m, rest) → TakesDigits n bytes m rest
unfolding digits_from
digits_takes [] n m rest lt e =
    let same = first_is (n, []) (m, rest) e in
    record { digits = []; parts = rest_is (n, []) (m, rest) e; all = refl; value = same; low = omega arith; stop = subst NoDigit (rest_is (n, []) (m, rest) e) tt }
digits_takes (b ∷ bs) n m rest lt e =
    elim (chosen (is_ascii_digit b) (cond (ltb 922337203685477580 n) None (digits_from (n * 10 + (b - 48)) bs)) (Some (n, b ∷ bs)) (Some (m, rest)) e) [
      | inl p ↦ elim (chosen (ltb 922337203685477580 n) None (digits_from (n * 10 + (b - 48)) bs) (Some (m, rest)) p.1) [
        | inl q ↦ absurd cc
        | inr q ↦
            let small : n ≤ 922337203685477580 = ltb-false _ _ q.0 in
            let range = digit_range b p.0 in
            let t = digits_takes bs (n * 10 + (b - 48)) m rest (omega arith) q.1 in
            record { digits = b ∷ t.digits; parts = ap (λ (x : List ℕ). b ∷ x) t.parts; all = and_from _ _ p.0 t.all; value = t.value; low = t.low; stop = t.stop }
      ]
      | inr p ↦
          let same = first_is (n, b ∷ bs) (m, rest) p.1 in
          record { digits = []; parts = rest_is (n, b ∷ bs) (m, rest) p.1; all = refl; value = same; low = omega arith; stop = subst NoDigit (rest_is (n, b ∷ bs) (m, rest) p.1) p.0 }
    ]

-- digits that nothing stops are taken
pub digits_again : (digits rest : List ℕ) (n : ℕ) → all_ascii_digits digits ≡ true → NoDigit rest → read_on n digits ≤ 9223372036854775809 → digits_from n (digits ++ rest) ≡ Some (read_on n digits, rest)
unfolding digits_from
digits_again [] [] n all stop low = refl
digits_again [] (b ∷ bs) n all stop low = rw stop refl
digits_again (d ∷ ds) rest n all stop low =
    let digit : is_ascii_digit d ≡ true = (and_parts _ _ all).0 in
    let grows = read_on_grows (n * 10 + (d - 48)) ds in
    let small : ltb 922337203685477580 n ≡ false = le-ltb _ _ (omega arith) in
    rw (digit, small) (digits_again ds rest (n * 10 + (d - 48)) ((and_parts _ _ all).1) stop low)

-- ---- numbers

pub number_takes : (bytes : List ℕ) (m : ℕ) (rest : List ℕ) → number_at bytes ≡ Some (m, rest) → (bytes ≡ decimal m ++ rest) × (m ≤ 9223372036854775809)
unfolding number_at
number_takes [] m rest e = absurd cc
number_takes (b ∷ bs) m rest e =
    elim (chosen (eqb b 48) (Some (0, bs)) (cond (is_ascii_digit b) (digits_from (b - 48) bs) None) (Some (m, rest)) e) [
      | inl p ↦
          let zero_is = first_is (0, bs) (m, rest) p.1 in
          let bs_is = rest_is (0, bs) (m, rest) p.1 in
          let b_is : b ≡ 48 = eqb-true _ _ p.0 in
          (rw (b_is, bs_is, ← zero_is, decimal_digit 0 (omega arith)) refl, omega arith)
      | inr p ↦ elim (chosen (is_ascii_digit b) (digits_from (b - 48) bs) None (Some (m, rest)) p.1) [
        | inl q ↦
            let range = digit_range b q.0 in
            let t = digits_takes bs (b - 48) m rest (omega arith) q.1 in
            let value : read_on 0 (b ∷ t.digits) ≡ m = ap (λ k. read_on k t.digits) (zero-add (b - 48)) ∙ t.value in
            let digits : decimal (read_on 0 (b ∷ t.digits)) ≡ b ∷ t.digits = decimal-digits_value own (b ∷ t.digits) (and_from _ _ q.0 t.all) (omega arith) (λ h. absurd (false≢true (sym p.0 ∙ rw h refl))) (rw value (omega (arith, t.low))) in
            (rw (← value, digits) (ap (λ (x : List ℕ). b ∷ x) t.parts), t.low)
        | inr q ↦ absurd cc
      ]
    ]

empty_is : (ds : List ℕ) → length ds ≡ 0 → ds ≡ []
empty_is [] e = refl
empty_is (d ∷ ds) e = absurd (omega arith)

digits_read : (ds rest : List ℕ) → all_ascii_digits ds ≡ true → 0 < length ds → (get_or ds 0 0 ≡ 48 → length ds ≡ 1) → read_on 0 ds ≤ 9223372036854775809 → NoDigit rest → number_at (ds ++ rest) ≡ Some (read_on 0 ds, rest)
unfolding number_at
digits_read [] rest all nonempty one low stop = absurd (omega arith)
digits_read (d ∷ ds) rest all nonempty one low stop =
    elim (cases_Bool (eqb d 48)) [
      | inl is ↦
          let d_is : d ≡ 48 = eqb-true _ _ is in
          let ds_is : ds ≡ [] = empty_is ds (omega (arith, one d_is)) in
          rw (d_is, ds_is) refl
      | inr isnt ↦
          let low_on : read_on (d - 48) ds ≤ 9223372036854775809 = subst (λ k. read_on k ds ≤ 9223372036854775809) (zero-add (d - 48)) low in
          let digit : is_ascii_digit d ≡ true = (and_parts _ _ all).0 in
          rw (isnt, digit, zero-add (d - 48)) (digits_again ds rest (d - 48) (and_parts _ _ all).1 stop low_on)
    ]

-- a number that nothing goes on is read again
pub number_again : (n : ℕ) (rest : List ℕ) → n ≤ 9223372036854775809 → NoDigit rest → number_at (decimal n ++ rest) ≡ Some (n, rest)
number_again n rest low stop =
    let small : n < 2 ^ 64 = omega arith in
    let value : read_on 0 (decimal n) ≡ n = digits_value-decimal own n small in
    let one : get_or (decimal n) 0 0 ≡ 48 → length (decimal n) ≡ 1 = λ h. elim (cases_lt 0 n) [
      | inl more ↦ absurd (omega (arith, first_decimal n more small))
      | inr none ↦ let n_is : n ≡ 0 = omega arith in rw (n_is, decimal_digit 0 (omega arith)) refl
    ] in
    digits_read (decimal n) rest (digits_decimal own n small) (decimal_nonempty n small) one (omega arith) stop ∙ ap (λ k. Some (k, rest)) value

-- ---- whole numbers

pub int_takes : (names : List (List ℕ)) (bytes : List ℕ) (d : Datum) (rest : List ℕ) → int_at bytes ≡ Some (d, rest) → (bytes ≡ datum_text names d ++ rest) × IsValueOf names kinds.Int d
unfolding int_at natural_value negative_value
int_takes names [] d rest e = absurd cc
int_takes names (b ∷ bs) d rest e =
    elim (chosen (eqb b 45) (number_at bs >>= negative_value) (number_at (b ∷ bs) >>= natural_value) (Some (d, rest)) e) [
      | inl p ↦
          let b_is : b ≡ 45 = eqb-true _ _ p.0 in
          let x = bind_some (number_at bs) negative_value (d, rest) p.1 in
          let t = number_takes bs x.0.0 x.0.1 x.1 in
          elim (chosen (eqb x.0.0 0) None (cond (ltb 9223372036854775808 x.0.0) None (Some (datums.Int (negsuc (x.0.0 - 1)), x.0.1))) (Some (d, rest)) x.2) [
            | inl q ↦ absurd cc
            | inr q ↦ elim (chosen (ltb 9223372036854775808 x.0.0) None (Some (datums.Int (negsuc (x.0.0 - 1)), x.0.1)) (Some (d, rest)) q.1) [
              | inl r ↦ absurd cc
              | inr r ↦
                  let low : x.0.0 ≤ 9223372036854775808 = ltb-false _ _ r.0 in
                  let nonzero : x.0.0 ≢ 0 = eqb-false _ _ q.0 in
                  let m_is : suc (x.0.0 - 1) ≡ x.0.0 = omega arith in
                  let whole : (b ∷ bs ≡ datum_text names (datums.Int (negsuc (x.0.0 - 1))) ++ x.0.1) × IsValueOf names kinds.Int (datums.Int (negsuc (x.0.0 - 1))) = (rw (b_is, m_is) (ap (λ (y : List ℕ). 45 ∷ y) t.0), record { sfits = omega arith }) in
                  subst (λ (y : Datum × List ℕ). (b ∷ bs ≡ datum_text names y.0 ++ y.1) × IsValueOf names kinds.Int y.0) (some_is (datums.Int (negsuc (x.0.0 - 1)), x.0.1) (d, rest) r.1) whole
            ]
          ]
      | inr p ↦
          let x = bind_some (number_at (b ∷ bs)) natural_value (d, rest) p.1 in
          let t = number_takes (b ∷ bs) x.0.0 x.0.1 x.1 in
          elim (chosen (ltb x.0.0 9223372036854775808) (Some (datums.Int (pos x.0.0), x.0.1)) None (Some (d, rest)) x.2) [
            | inl q ↦
                let low : x.0.0 < 9223372036854775808 = ltb-true _ _ q.0 in
                let whole : (b ∷ bs ≡ datum_text names (datums.Int (pos x.0.0)) ++ x.0.1) × IsValueOf names kinds.Int (datums.Int (pos x.0.0)) = (t.0, record { sfits = omega arith }) in
                subst (λ (y : Datum × List ℕ). (b ∷ bs ≡ datum_text names y.0 ++ y.1) × IsValueOf names kinds.Int y.0) (some_is (datums.Int (pos x.0.0), x.0.1) (d, rest) q.1) whole
            | inr q ↦ absurd cc
          ]
    ]

minus_first : (b : ℕ) (bs : List ℕ) → is_ascii_digit b ≡ true → eqb b 45 ≡ false
minus_first b bs digit = ne_eqb b 45 (λ e. let r = digit_range b digit in absurd (omega arith))

digits_int : (ds rest : List ℕ) → all_ascii_digits ds ≡ true → 0 < length ds → int_at (ds ++ rest) ≡ (number_at (ds ++ rest) >>= natural_value)
unfolding int_at
digits_int [] rest all nonempty = absurd (omega arith)
digits_int (d ∷ ds) rest all nonempty = let digit : is_ascii_digit d ≡ true = (and_parts _ _ all).0 in rw (minus_first d ds digit) refl

pub int_again : (names : List (List ℕ)) (z : ℤ) (rest : List ℕ) → FitsSigned w64 z → NoDigit rest → int_at (datum_text names (datums.Int z) ++ rest) ≡ Some (datums.Int z, rest)
unfolding int_at natural_value negative_value
int_again names (pos n) rest fits stop =
    let low : n < 9223372036854775808 = fits.sfits in
    let small : n < 2 ^ 64 = omega arith in
    digits_int (decimal n) rest (digits_decimal own n small) (decimal_nonempty n small) ∙ rw (number_again n rest (omega arith) stop, lt-ltb n 9223372036854775808 low) refl
int_again names (negsuc n) rest fits stop =
    let low : n < 9223372036854775808 = fits.sfits in
    let fits_in : ltb 9223372036854775808 (suc n) ≡ false = le-ltb _ _ (omega arith) in
    let n_is : suc n - 1 ≡ n = omega arith in
    let nonzero : eqb (suc n) 0 ≡ false = ne_eqb (suc n) 0 (λ e. absurd (omega arith)) in
    rw (number_again (suc n) rest (omega arith) stop, nonzero, fits_in, n_is) refl

-- ---- truth values

after_takes : (word bytes rest : List ℕ) → after word bytes ≡ Some rest → bytes ≡ word ++ rest
after_takes word bytes rest e =
    elim (chosen (pointwise nat_eq (take (length word) bytes) word) (Some (drop (length word) bytes)) None (Some rest) e) [
      | inl p ↦
          let front : take (length word) bytes ≡ word = (bytes_eq-Decides (take (length word) bytes) word).0 p.0 in
          sym (take-append-drop (length word) bytes) ∙ ap (λ (x : List ℕ). x ++ drop (length word) bytes) front ∙ ap (λ (x : List ℕ). word ++ x) (some_is (drop (length word) bytes) rest p.1)
      | inr p ↦ absurd cc
    ]

pub after_again : (word rest : List ℕ) → after word (word ++ rest) ≡ Some rest
after_again word rest =
    let same : pointwise nat_eq word word ≡ true = (bytes_eq-Decides word word).1 refl in
    rw (take_at word rest (length word) refl, drop_at word rest (length word) refl, same) refl

either_is : {A : Type 0} (o p : Option A) (y : A) → or_else o p ≡ Some y → (o ≡ Some y) ⊎ (p ≡ Some y)
either_is (Some x) p y e = inl e
either_is None p y e = inr e

word_takes : (names : List (List ℕ)) (b : Bool) (word bytes : List ℕ) (d : Datum) (rest : List ℕ) → (after word bytes >>= truth b) ≡ Some (d, rest) → datum_text names (datums.Bool b) ≡ word → (bytes ≡ datum_text names d ++ rest) × IsValueOf names kinds.Bool d
word_takes names b word bytes d rest e text =
    let x = bind_some (after word bytes) (truth b) (d, rest) e in
    subst (λ (y : Datum × List ℕ). (bytes ≡ datum_text names y.0 ++ y.1) × IsValueOf names kinds.Bool y.0) (some_is (datums.Bool b, x.0) (d, rest) x.2) (after_takes word bytes x.0 x.1 ∙ ap (λ (w : List ℕ). w ++ x.0) (sym text), tt)

pub bool_takes : (names : List (List ℕ)) (bytes : List ℕ) (d : Datum) (rest : List ℕ) → bool_at bytes ≡ Some (d, rest) → (bytes ≡ datum_text names d ++ rest) × IsValueOf names kinds.Bool d
unfolding bool_at
bool_takes names bytes d rest e =
    elim (either_is (after (codes "true") bytes >>= truth true) (after (codes "false") bytes >>= truth false) (d, rest) e) [
      | inl p ↦ word_takes names true (codes "true") bytes d rest p refl
      | inr p ↦ word_takes names false (codes "false") bytes d rest p refl
    ]

pub bool_again : (names : List (List ℕ)) (b : Bool) (rest : List ℕ) → bool_at (datum_text names (datums.Bool b) ++ rest) ≡ Some (datums.Bool b, rest)
unfolding bool_at
bool_again names true rest = refl
bool_again names false rest = refl

-- ---- names

-- the first of these names that is spelled so
found : (names : List (List ℕ)) (word : List ℕ) (k : ℕ) → position (λ name. bytes_eq name word) names ≡ Some k → (slice_get names k ≡ Some word) × ((j : ℕ) (other : List ℕ) → j < k → slice_get names j ≡ Some other → other ≢ word)
found names word k e =
    let test : List ℕ → Bool = λ name. bytes_eq name word in
    let n = position_or_len test names in
    let c = cond_some (ltb n (length names)) n k e in
    let inside : n < length names = ltb-true n (length names) c.0 in
    let same : get_or names n [] ≡ word = (bytes_eq-Decides (get_or names n []) word).0 (passes_at_first test names [] inside) in (
      ap (slice_get names) (sym c.1) ∙ slice_get-get_or names n [] inside ∙ ap (λ (x : List ℕ). Some x) same,
      λ j other l at is.
          let here : get_or names j [] ≡ other = get_or_from_slice_get names j other [] at in
          both_ways (test (get_or names j [])) (fails_before_first test names j [] (omega (arith, l, c.1))) ((bytes_eq-Decides (get_or names j []) word).1 (here ∙ is)),
    )

-- a name that a field spells is found again
found_again : (names : List (List ℕ)) (k : ℕ) (reported : IsFieldName names k) → position (λ name. bytes_eq name reported.name) names ≡ Some k
found_again names k reported =
    let test : List ℕ → Bool = λ name. bytes_eq name reported.name in
    let inside : k < length names = slice_get_within names k reported.name reported.there in
    let here : get_or names k [] ≡ reported.name = get_or_from_slice_get names k reported.name [] reported.there in
    let is : position_or_len test names ≡ k =
    position_or_len_is test names k [] (omega (arith, inside))
    (λ j l. false_from_ne_true (test (get_or names j [])) (λ yes. reported.first j (get_or names j []) l (slice_get-get_or names j [] (omega (arith, l, inside))) ((bytes_eq-Decides (get_or names j []) reported.name).0 yes)))
    (λ l. (bytes_eq-Decides (get_or names k []) reported.name).1 here) in
    rw (is, lt-ltb k (length names) inside) refl

-- how much stands before the first byte that passes
pub length_some : (p : ℕ → Bool) (xs : List ℕ) (k : ℕ) → position p xs ≡ Some k → position_or_len p xs ≡ k
length_some p xs k e = (cond_some (ltb (position_or_len p xs) (length xs)) (position_or_len p xs) k e).1

pub length_none : (p : ℕ → Bool) (xs : List ℕ) → position p xs ≡ None → position_or_len p xs ≡ length xs
length_none p xs e =
    elim (chosen (ltb (position_or_len p xs) (length xs)) (Some (position_or_len p xs)) None None e) [
      | inl some ↦ absurd (let h = some.1 in cc)
      | inr none ↦ let low = ltb-false _ _ none.0 in let most = prefix_len-le-length (λ x. not (p x)) xs in omega arith
    ]

-- what stands before the first byte that ends a field has none
plain_front : (bytes : List ℕ) → All (λ b. is_end b ≡ false) (front_field bytes)
plain_front bytes j d l =
    let n = field_length bytes in
    let short = length-take n bytes in
    let inside : j < n = omega (arith, l, short) in
    rw (get_or-take n bytes j d inside) (fails_before_first is_end bytes j d inside)

-- a field that has none of these bytes, before one of them
front_again : (word : List ℕ) (end : ℕ) (rest : List ℕ) → All (λ b. is_end b ≡ false) word → is_end end ≡ true → field_length (word ++ end ∷ rest) ≡ length word
front_again word end rest plain stop =
    position_or_len_is is_end (word ++ end ∷ rest) (length word) 0 (let n = length-append word (end ∷ rest) in omega (arith, n))
    (λ j l. rw (get_or_append_left word (end ∷ rest) 0 j l) (plain j 0 l))
    (λ l. rw (get_or_at word end rest 0 (length word) refl) stop)

name_takes : (names : List (List ℕ)) (p n : ℕ) (bytes : List ℕ) (d : Datum) (rest : List ℕ) → name_at names n bytes ≡ Some (d, rest) → (bytes ≡ datum_text names d ++ rest) × IsValueOf names (kinds.Enum p n) d
unfolding name_at
name_takes names p n bytes d rest e =
    let after_field = drop (field_length bytes) bytes in
    let x = bind_some (position (λ name. bytes_eq name (front_field bytes)) names) (λ k. cond (ltb k n) (Some (datums.Name k, after_field)) None) (d, rest) e in
    let k = x.0 in
    let c = cond_some (ltb k n) (datums.Name k, after_field) (d, rest) x.2 in
    let w = found names (front_field bytes) k x.1 in
    let text : name_of names k ≡ front_field bytes = ap (λ o. unwrap_or o []) w.0 in
    let whole : (bytes ≡ datum_text names (datums.Name k) ++ after_field) × IsValueOf names (kinds.Enum p n) (datums.Name k) = (
      sym (take-append-drop (field_length bytes) bytes) ∙ ap (λ (y : List ℕ). y ++ after_field) (sym text),
      (ltb-true k n c.0, record { name = front_field bytes; there = w.0; plain = plain_front bytes; first = w.1 }),
    ) in
    subst (λ (y : Datum × List ℕ). (bytes ≡ datum_text names y.0 ++ y.1) × IsValueOf names (kinds.Enum p n) y.0) c.1 whole

name_again : (names : List (List ℕ)) (n k end : ℕ) (rest : List ℕ) → k < n → IsFieldName names k → is_end end ≡ true → name_at names n (datum_text names (datums.Name k) ++ end ∷ rest) ≡ Some (datums.Name k, end ∷ rest)
unfolding name_at
name_again names n k end rest l reported stop =
    let text : name_of names k ≡ reported.name = ap (λ o. unwrap_or o []) reported.there in
    let long = front_again reported.name end rest reported.plain stop in
    rw (text, long, take_at reported.name (end ∷ rest) (length reported.name) refl, drop_at reported.name (end ∷ rest) (length reported.name) refl, found_again names k reported, lt-ltb k n l) refl

-- ---- values

no_digit_ends : (end : ℕ) → is_end end ≡ true → is_ascii_digit end ≡ false
no_digit_ends end h =
    elim (or_cases (eqb end 44) (eqb end 10) h) [
      | inl comma ↦ rw (eqb-true end 44 comma) refl
      | inr feed ↦ rw (eqb-true end 10 feed) refl
    ]

of_kind : (names : List (List ℕ)) (k : Kind) (bytes : List ℕ) (d : Datum) (rest : List ℕ) → value_of names k bytes ≡ Some (d, rest) → (bytes ≡ datum_text names d ++ rest) × IsValueOf names k d
of_kind names kinds.Int bytes d rest e = int_takes names bytes d rest e
of_kind names kinds.Bool bytes d rest e = bool_takes names bytes d rest e
of_kind names (kinds.Enum p n) bytes d rest e = name_takes names p n bytes d rest e

pub value_takes : (k : Sort) (bytes : List ℕ) (d : Datum) (rest : List ℕ) → value_at k bytes ≡ Some (d, rest) → (bytes ≡ datum_text k.names d ++ rest) × HasKind k d
value_takes k bytes d rest e = of_kind k.names k.kind bytes d rest e

of_kind_again : (names : List (List ℕ)) (k : Kind) (d : Datum) (end : ℕ) (rest : List ℕ) → IsValueOf names k d → is_end end ≡ true → value_of names k (datum_text names d ++ end ∷ rest) ≡ Some (d, end ∷ rest)
of_kind_again names kinds.Int (datums.Int z) end rest has stop = int_again names z (end ∷ rest) has (no_digit_ends end stop)
of_kind_again names kinds.Int (datums.Bool b) end rest has stop = absurd has
of_kind_again names kinds.Int (datums.Name k) end rest has stop = absurd has
of_kind_again names kinds.Int datums.Nil end rest has stop = absurd has
of_kind_again names kinds.Bool (datums.Int z) end rest has stop = absurd has
of_kind_again names kinds.Bool (datums.Bool b) end rest has stop = bool_again names b (end ∷ rest)
of_kind_again names kinds.Bool (datums.Name k) end rest has stop = absurd has
of_kind_again names kinds.Bool datums.Nil end rest has stop = absurd has
of_kind_again names (kinds.Enum p n) (datums.Int z) end rest has stop = absurd has
of_kind_again names (kinds.Enum p n) (datums.Bool b) end rest has stop = absurd has
of_kind_again names (kinds.Enum p n) (datums.Name k) end rest has stop = name_again names n k end rest has.0 has.1 stop
of_kind_again names (kinds.Enum p n) datums.Nil end rest has stop = absurd has

pub value_again : (k : Sort) (d : Datum) (end : ℕ) (rest : List ℕ) → HasKind k d → is_end end ≡ true → value_at k (datum_text k.names d ++ end ∷ rest) ≡ Some (d, end ∷ rest)
value_again k d end rest has stop = of_kind_again k.names k.kind d end rest has stop
