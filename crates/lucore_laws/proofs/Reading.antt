-- Rows, and the readers of each place.
use Rattle.std.proofs.Common.{◌≡◌, ◌≢◌, ℕ, zero, suc, ◌+◌, ◌<◌, ◌≤◌, inl, inr, Bool, true, false, cond, eqb, ltb, List, [], ◌∷◌, ◌++◌, length, get_or, set, take, map, Vec, Global, refl, sym, ap, ◌∙◌, subst, arith, length-set}
use Rattle.std.specs.Prelude.{All}
use Rattle.std.proofs.lemmas.Bool.{cases_lt}
use Rattle.std.proofs.lemmas.List.{get_or-set_same, get_or-set_other, get_or_past, get_or_read, get_or-map, map-set, length-map, take_more, take_all}
use Rattle.std.proofs.lemmas.Option.{unwrap_or-slice_get}
use Rattle.luflow.specs.Rank.{row}
use Rattle.lucore_laws.specs.Rank.{AreClosed}
use Rattle.lucore_laws.specs.Search.{times, AreReaders, IsAdded}
use Rattle.lucore_laws.proofs.Deciding.{same_or_not, test_from_same, test_from_apart, test_from_below, test_from_above}
use Rattle.lucore_laws.proofs.Counts.{hit, hit_same, hit_other, times-append, times-one}

pub row-read : (rows : List (List ℕ)) (x : ℕ) → row rows x ≡ get_or rows x []
row-read rows x = unwrap_or-slice_get rows x []

-- a row as the code reads it
pub row-at : (rows : List (List ℕ)) (x : ℕ) (l : List ℕ) → x < length rows → l ≡ get_or rows x l → row rows x ≡ l
row-at rows x l lt e = row-read rows x ∙ sym (get_or_read rows x l lt e [])

pub reads-at : (rows : List (List ℕ)) (x : ℕ) (l reads : List ℕ) → x < length rows → l ≡ get_or rows x l → reads ≡ l → row rows x ≡ reads
reads-at rows x l reads lt e same = row-at rows x l lt e ∙ sym same

-- the reads of a place as the code has them, which are places
pub reads_inside : (rows : List (List ℕ)) (x n : ℕ) (l reads : List ℕ) → AreClosed rows → n ≡ length rows → x < length rows → l ≡ get_or rows x l → reads ≡ l → All (λ y. y < n) reads
reads_inside rows x n l reads closed all_places lt e same =
    subst (λ xs. All (λ y. y < n) xs) (reads-at rows x l reads lt e same) (subst (λ m. All (λ y. y < m) (row rows x)) (sym all_places) (closed x))

pub row_past : (rows : List (List ℕ)) (x : ℕ) → length rows ≤ x → row rows x ≡ []
row_past rows x le = row-read rows x ∙ get_or_past rows x [] le

pub row-set_same : (rows : List (List ℕ)) (x : ℕ) (l : List ℕ) → x < length rows → row (set rows x l) x ≡ l
row-set_same rows x l lt = row-read (set rows x l) x ∙ get_or-set_same rows x l [] lt

pub row-set_other : (rows : List (List ℕ)) (x y : ℕ) (l : List ℕ) → y ≢ x → row (set rows x l) y ≡ row rows y
row-set_other rows x y l ne = row-read (set rows x l) y ∙ get_or-set_other rows x y l [] ne ∙ sym (row-read rows y)

-- LISTS AS THE CODE HAS THEM

abbrev pub lists_of : List (Vec ℕ Global) → List (List ℕ)
lists_of lists = map (λ (v : Vec ℕ Global). v.items) lists

pub list-at : (lists : List (Vec ℕ Global)) (old : List (List ℕ)) (x : ℕ) (was : Vec ℕ Global) → x < length old → lists_of lists ≡ old → was ≡ get_or lists x was → was.items ≡ row old x
list-at lists old x was lt e read =
    let inside : x < length lists = omega (arith, length-map lists (λ (v : Vec ℕ Global). v.items), ap length e) in
    subst (λ rows. was.items ≡ row rows x) e
    (sym (row-read (lists_of lists) x ∙ get_or-map (λ (v : Vec ℕ Global). v.items) lists x was [] inside ∙ ap (λ (v : Vec ℕ Global). v.items) (sym read)))

pub pushed_reader : (lists : List (Vec ℕ Global)) (old : List (List ℕ)) (x r : ℕ) (was now : Vec ℕ Global) → x < length old → lists_of lists ≡ old → was ≡ get_or lists x was →
    now.items ≡ was.items ++ r ∷ [] → lists_of (set lists x now) ≡ set old x (row old x ++ r ∷ [])
pushed_reader lists old x r was now lt e read pushed =
    map-set (λ (v : Vec ℕ Global). v.items) lists x now ∙ ap (λ rows. set rows x now.items) e ∙ ap (set old x) (pushed ∙ ap (λ l. l ++ r ∷ []) (list-at lists old x was lt e read))

-- one more list, which is empty
pub empty_more : (lists : List (Vec ℕ Global)) (v : Vec ℕ Global) → v.items ≡ [] → ((x : ℕ) → row (lists_of lists) x ≡ []) → (x : ℕ) → row (lists_of (lists ++ v ∷ [])) x ≡ []
empty_more [] v e none zero = e
empty_more [] v e none (suc x) = refl
empty_more (u ∷ lists) v e none zero = none 0
empty_more (u ∷ lists) v e none (suc x) = empty_more lists v e (λ y. none (suc y)) x

-- A PLACE IS PUT INTO THE LISTS OF ITS READS

pub added_none : (reader : ℕ) (old : List (List ℕ)) → IsAdded reader [] old old
added_none reader old = record { long = refl; more = λ x v. nothing (times v (row old x)) (eqb v reader) }
  where
    nothing : (n : ℕ) (b : Bool) → n ≡ n + cond {A = ℕ} b 0 0
    nothing n true = omega arith
    nothing n false = omega arith

module _ (reader y : ℕ) (reads : List ℕ) (old mid : List (List ℕ)) (a : IsAdded reader reads old mid) (lt : y < length mid) where
  new : List (List ℕ)
  new = set mid y (row mid y ++ reader ∷ [])

  at_read : (v : ℕ) → times v (row (set mid y (row mid y ++ reader ∷ [])) y) ≡ times v (row mid y) + hit v reader
  at_read v = ap (times v) (row-set_same mid y (row mid y ++ reader ∷ []) lt) ∙ omega (arith, times-append v (row mid y) (reader ∷ []), times-one v reader)

  of_reader : (x : ℕ) → times reader (row (set mid y (row mid y ++ reader ∷ [])) x) ≡ times reader (row old x) + times x (reads ++ y ∷ [])
  of_reader x =
      let m : times reader (row mid x) ≡ times reader (row old x) + times x reads = a.more x reader ∙ ap (λ b. times reader (row old x) + cond b (times x reads) 0) (test_from_same reader reader refl) in
      let t : times x (reads ++ y ∷ []) ≡ times x reads + hit x y = omega (arith, times-append x reads (y ∷ []), times-one x y) in
      elim (same_or_not x y) [
        | inl e ↦ subst (λ x. times reader (row mid x) ≡ times reader (row old x) + times x reads → times x (reads ++ y ∷ []) ≡ times x reads + hit x y → times reader (row (set mid y (row mid y ++ reader ∷ [])) x) ≡ times reader (row old x) + times x (reads ++ y ∷ [])) (sym e)
            (λ m t. omega (arith, m, t, at_read reader, hit_same reader, hit_same y)) m t
        | inr ne ↦ omega (arith, m, t, ap (times reader) (row-set_other mid y x (row mid y ++ reader ∷ []) ne), hit_other x y (λ e. ne (sym e)))
      ]

  of_other : (x v : ℕ) → v ≢ reader → times v (row (set mid y (row mid y ++ reader ∷ [])) x) ≡ times v (row old x)
  of_other x v other =
      let m : times v (row mid x) ≡ times v (row old x) + 0 = a.more x v ∙ ap (λ b. times v (row old x) + cond b (times x reads) 0) (test_from_apart v reader other) in
      elim (same_or_not x y) [
        | inl e ↦ subst (λ x. times v (row mid x) ≡ times v (row old x) + 0 → times v (row (set mid y (row mid y ++ reader ∷ [])) x) ≡ times v (row old x)) (sym e)
            (λ m. omega (arith, m, at_read v, hit_other v reader (λ e. other (sym e)))) m
        | inr ne ↦ omega (arith, m, ap (times v) (row-set_other mid y x (row mid y ++ reader ∷ []) ne))
      ]

  pub added_one : IsAdded reader (reads ++ y ∷ []) old (set mid y (row mid y ++ reader ∷ []))
  added_one =
      record {
        long = length-set mid y (row mid y ++ reader ∷ []) ∙ a.long;
        more = λ x v.
            elim (same_or_not v reader) [
              | inl e ↦ subst (λ v. times v (row (set mid y (row mid y ++ reader ∷ [])) x) ≡ times v (row old x) + cond (eqb v reader) (times x (reads ++ y ∷ [])) 0) (sym e)
                  (of_reader x ∙ ap (λ b. times reader (row old x) + cond b (times x (reads ++ y ∷ [])) 0) (sym (test_from_same reader reader refl)))
              | inr ne ↦ omega (arith, of_other x v ne, ap (λ b. cond b (times x (reads ++ y ∷ [])) 0) (test_from_apart v reader ne))
            ];
      }

pub added_next : (reader : ℕ) (reads : List ℕ) (old mid new : List (List ℕ)) (i : ℕ) → i < length reads → All (λ y. y < length old) reads → IsAdded reader (take i reads) old mid →
    new ≡ set mid (get_or reads i 0) (row mid (get_or reads i 0) ++ reader ∷ []) → IsAdded reader (take (i + 1) reads) old new
added_next reader reads old mid new i lt all a e =
    let y : ℕ = get_or reads i 0 in
    let inside : y < length mid = omega (arith, a.long, all i 0 lt) in
    subst (λ rows. IsAdded reader (take (i + 1) reads) old rows) (sym e)
    (subst (λ xs. IsAdded reader xs old (set mid y (row mid y ++ reader ∷ []))) (sym (take_more reads i 0 lt)) (added_one reader y (take i reads) old mid a inside))

pub added_all : (reader : ℕ) (reads : List ℕ) (old new : List (List ℕ)) (i : ℕ) → length reads ≤ i → IsAdded reader (take i reads) old new → IsAdded reader reads old new
added_all reader reads old new i le a = subst (λ xs. IsAdded reader xs old new) (take_all i reads le) a

-- THE READERS OF THE FIRST PLACES

pub record AreFirstReaders (rows readers : List (List ℕ)) (n : ℕ) : Type 0 where
  pub long : length readers ≡ length rows
  pub exact : (x v : ℕ) → times v (row readers x) ≡ cond (ltb v n) (times x (row rows v)) 0

pub readers_none : (rows readers : List (List ℕ)) → length readers ≡ length rows → ((x : ℕ) → row readers x ≡ []) → AreFirstReaders rows readers 0
readers_none rows readers long none =
    record {
      long = long;
      exact = λ x v. ap (times v) (none x) ∙ sym (ap (λ b. cond b (times x (row rows v)) 0) (test_from_above v 0 (omega arith)));
    }

pub readers_more : (rows old new : List (List ℕ)) (n : ℕ) → AreFirstReaders rows old n → IsAdded n (row rows n) old new → AreFirstReaders rows new (n + 1)
readers_more rows old new n f a =
    record {
      long = a.long ∙ f.long;
      exact = λ x v. a.more x v ∙ ap (λ k. k + cond (eqb v n) (times x (row rows n)) 0) (f.exact x v) ∙ joined x v;
    }
  where
    joined : (x v : ℕ) → cond (ltb v n) (times x (row rows v)) 0 + cond (eqb v n) (times x (row rows n)) 0 ≡ cond (ltb v (n + 1)) (times x (row rows v)) 0
    joined x v =
        elim (same_or_not v n) [
          | inl e ↦ subst (λ v. cond (ltb v n) (times x (row rows v)) 0 + cond (eqb v n) (times x (row rows n)) 0 ≡ cond (ltb v (n + 1)) (times x (row rows v)) 0) (sym e)
              (omega (arith, ap (λ b. cond b (times x (row rows n)) 0) (test_from_above n n (omega arith)), ap (λ b. cond b (times x (row rows n)) 0) (test_from_same n n refl), ap (λ b. cond b (times x (row rows n)) 0) (test_from_below n (n + 1) (omega arith))))
          | inr ne ↦
              elim (cases_lt v n) [
                | inl lt ↦ omega (arith, ap (λ b. cond b (times x (row rows v)) 0) (test_from_below v n lt), ap (λ b. cond b (times x (row rows n)) 0) (test_from_apart v n ne), ap (λ b. cond b (times x (row rows v)) 0) (test_from_below v (n + 1) (omega arith)))
                | inr le ↦ omega (arith, ap (λ b. cond b (times x (row rows v)) 0) (test_from_above v n le), ap (λ b. cond b (times x (row rows n)) 0) (test_from_apart v n ne), ap (λ b. cond b (times x (row rows v)) 0) (test_from_above v (n + 1) (omega (arith, le, ne))))
              ]
        ]

pub readers_all : (rows readers : List (List ℕ)) (n : ℕ) → length rows ≤ n → AreFirstReaders rows readers n → AreReaders rows readers
readers_all rows readers n le f =
    record {
      long = f.long;
      exact = λ x v.
          f.exact x v
          ∙ elim (cases_lt v n) [
            | inl lt ↦ ap (λ b. cond b (times x (row rows v)) 0) (test_from_below v n lt)
            | inr past ↦ ap (λ b. cond b (times x (row rows v)) 0) (test_from_above v n past) ∙ sym (ap (times x) (row_past rows v (omega (arith, le, past))))
          ];
    }
