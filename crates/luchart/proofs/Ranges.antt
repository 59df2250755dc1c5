-- What is made of the numbers from one on, and of the items of a list, one more.
use Rattle.std.proofs.Common.{◌≡◌, ℕ, zero, suc, ◌+◌, ◌<◌, max, List, [], ◌∷◌, ◌++◌, length, map, flat_map, take, get_or, sym, ap, ap₂, ◌∙◌, arith, append_assoc, append-nil, add-one}
use Rattle.std.specs.Prelude.{Some, slice_get}
use Rattle.std.specs.List.{range_with_len}
use Rattle.std.proofs.lemmas.List.{map-append}
use Rattle.std.proofs.lemmas.Grind.{flat_map-append}
use Rattle.std.proofs.Math.Seq.{take-suc}
use Rattle.luchart.specs.Pieces.{largest, repeated}

pub range_more : (a n : ℕ) → range_with_len a (n + 1) ≡ range_with_len a n ++ (a + n) ∷ []
range_more a zero = let e : a ≡ a + 0 = omega arith in ap (λ (x : ℕ). x ∷ []) e
range_more a (suc n) =
    let e : a + 1 + n ≡ a + suc n = omega arith in
    let c : suc n + 1 ≡ suc (n + 1) = omega arith in
    ap (range_with_len a) c ∙ ap (λ (xs : List ℕ). a ∷ xs) (range_more (a + 1) n ∙ ap (λ (x : ℕ). range_with_len (a + 1) n ++ x ∷ []) e)

one_more : {X Y : Type 0} (f : X → List Y) (xs : List X) (x : X) → flat_map f (xs ++ x ∷ []) ≡ flat_map f xs ++ f x
one_more f xs x = flat_map-append f xs (x ∷ []) ∙ ap (λ ys. flat_map f xs ++ ys) (append-nil (f x))

-- a text that has a piece for each of so many numbers, and one piece more
pub text_more : (f : ℕ → List ℕ) (a n : ℕ) (start old new : List ℕ) → old ≡ start ++ flat_map f (range_with_len a n) → new ≡ old ++ f (a + n) → new ≡ start ++ flat_map f (range_with_len a (n + 1))
text_more f a n start old new before is =
    is ∙ ap (λ xs. xs ++ f (a + n)) before ∙ append_assoc start (flat_map f (range_with_len a n)) (f (a + n))
    ∙ ap (λ xs. start ++ xs) (sym (ap (flat_map f) (range_more a n) ∙ one_more f (range_with_len a n) (a + n)))

pub text_more_zero : (f : ℕ → List ℕ) (n : ℕ) (start old new : List ℕ) → old ≡ start ++ flat_map f (range_with_len 0 n) → new ≡ old ++ f n → new ≡ start ++ flat_map f (range_with_len 0 (n + 1))
text_more_zero f n start old new before is =
    let z : n ≡ 0 + n = omega arith in
    text_more f 0 n start old new before (is ∙ ap (λ k. old ++ f k) z)

-- a vector that is seen as what is made of the numbers, and has one item more
pub pushed_more : {X Y : Type 0} (seen : X → Y) (f : ℕ → Y) (n : ℕ) (old new : List X) (x : X) → map seen old ≡ map f (range_with_len 0 n) → new ≡ old ++ x ∷ [] → seen x ≡ f n → map seen new ≡ map f (range_with_len 0 (n + 1))
pushed_more seen f n old new x before is made =
    let z : 0 + n ≡ n = omega arith in
    ap (map seen) is ∙ map-append seen old (x ∷ []) ∙ ap₂ (λ ys y. ys ++ y ∷ []) before made
    ∙ sym (ap (map f) (range_more 0 n) ∙ map-append f (range_with_len 0 n) ((0 + n) ∷ []) ∙ ap (λ k. map f (range_with_len 0 n) ++ f k ∷ []) z)

-- the items of a list as they are seen, one more
pub seen_more : {X Y : Type 0} (seen : X → Y) (xs : List X) (i : ℕ) (x : X) → i < length xs → x ≡ get_or xs i x → map seen (take (i + 1) xs) ≡ map seen (take i xs) ++ seen x ∷ []
seen_more seen xs i x lt is =
    ap (λ n. map seen (take n xs)) (add-one i) ∙ ap (map seen) (take-suc xs i x lt) ∙ map-append seen (take i xs) (get_or xs i x ∷ []) ∙ ap (λ y. map seen (take i xs) ++ seen y ∷ []) (sym is)

-- a text that has a piece for each of the first items, and one piece more
pub text_seen : {X Y : Type 0} (f : Y → List ℕ) (seen : X → Y) (xs : List X) (i : ℕ) (x : X) (start old new : List ℕ) → i < length xs → x ≡ get_or xs i x → old ≡ start ++ flat_map f (map seen (take i xs)) → new ≡ old ++ f (seen x) → new ≡ start ++ flat_map f (map seen (take (i + 1) xs))
text_seen f seen xs i x start old new lt is before more =
    let so_far = map seen (take i xs) in
    more ∙ ap (λ ys. ys ++ f (seen x)) before ∙ append_assoc start (flat_map f so_far) (f (seen x))
    ∙ ap (λ ys. start ++ ys) (sym (ap (flat_map f) (seen_more seen xs i x lt is) ∙ one_more f so_far (seen x)))

-- the largest of some numbers and one more
largest-append : (xs : List ℕ) (x : ℕ) → largest (xs ++ x ∷ []) ≡ max (largest xs) x
largest-append [] x = omega arith
largest-append (y ∷ xs) x = let h = largest-append xs x in omega (arith, h)

pub largest_range : (f : ℕ → ℕ) (a n : ℕ) → largest (map f (range_with_len a (n + 1))) ≡ max (largest (map f (range_with_len a n))) (f (a + n))
largest_range f a n =
    ap (λ xs. largest (map f xs)) (range_more a n) ∙ ap largest (map-append f (range_with_len a n) ((a + n) ∷ [])) ∙ largest-append (map f (range_with_len a n)) (f (a + n))

pub largest_seen : {X Y : Type 0} (f : Y → ℕ) (seen : X → Y) (xs : List X) (i : ℕ) (x : X) → i < length xs → x ≡ get_or xs i x → largest (map f (map seen (take (i + 1) xs))) ≡ max (largest (map f (map seen (take i xs)))) (f (seen x))
largest_seen f seen xs i x lt is =
    ap (λ ys. largest (map f ys)) (seen_more seen xs i x lt is) ∙ ap largest (map-append f (map seen (take i xs)) (seen x ∷ [])) ∙ largest-append (map f (map seen (take i xs))) (f (seen x))

-- a piece once more
pub repeated_more : (piece : List ℕ) (n : ℕ) → repeated piece (n + 1) ≡ repeated piece n ++ piece
repeated_more piece n = ap (repeated piece) (add-one n)

-- an item as it is seen
pub seen_at : {X Y : Type 0} (seen : X → Y) (xs : List X) (i : ℕ) (x : X) → i < length xs → x ≡ get_or xs i x → slice_get (map seen xs) i ≡ Some (seen x)
seen_at seen [] i x lt is = absurd (omega (arith, lt))
seen_at seen (y ∷ xs) zero x lt is = ap (λ z. Some (seen z)) (sym is)
seen_at seen (y ∷ xs) (suc i) x lt is = seen_at seen xs i x (omega (arith, lt)) is
