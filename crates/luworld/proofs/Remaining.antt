-- What is left where a site stands at item j of the flow of rank p at an instant, the close being the last instant.
use Rattle.std.proofs.Common.{◌≡◌, ℕ, zero, suc, ◌+◌, ◌-◌, ◌*◌, ◌<◌, ◌≤◌, Bool, true, false, cond, List, [], ◌∷◌, ◌++◌, map, length, take, drop, flat_map, Some, refl, sym, ap, ap₂, ◌∙◌, arith, append_assoc, append-nil, length-append}
use Rattle.std.specs.Prelude.{nat_lt, slice_get, slice_index, sum_by}
use Rattle.std.specs.List.{range_with_len}
use Rattle.std.proofs.Math.Seq.{drop-cons}
use Rattle.std.proofs.lemmas.Grind.{flat_map-append}
use Rattle.std.proofs.lemmas.List.{map-append}
use Rattle.std.proofs.lemmas.List.Folds.{flat_map-map}
use Rattle.std.proofs.lemmas.List.Sums.{sum_by-cons, sum_by-append}
use Rattle.std.proofs.lemmas.Bool.{lt-ltb, le-ltb}
use Rattle.luworld.specs.Outline.{Outline, Cell, cell_at, close_cell, cells, shown_items, message_items, round_cell, round, size, left_in}
use Rattle.luworld.proofs.Parts.{flat_map_twice, flat_map_same}
use Rattle.luworld.proofs.Rounds.{range_more, one_more}
use Rattle.luworld.proofs.Left.{inside, left_past}

map_same : {X Y : Type 0} (f g : X → Y) → ((x : X) → f x ≡ g x) → (xs : List X) → map f xs ≡ map g xs
map_same f g e [] = refl
map_same f g e (x ∷ xs) = ap₂ ◌∷◌ (e x) (map_same f g e xs)

take_drop : (n : ℕ) (xs : List ℕ) → take n xs ++ drop n xs ≡ xs
take_drop zero xs = refl
take_drop (suc n) [] = refl
take_drop (suc n) (x ∷ xs) = ap (λ ys. x ∷ ys) (take_drop n xs)

range_split : (a m n : ℕ) → range_with_len a (m + n) ≡ range_with_len a m ++ range_with_len (a + m) n
range_split a zero n =
    let e : 0 + n ≡ n = omega arith in
    let f : a ≡ a + 0 = omega arith in
    ap (range_with_len a) e ∙ ap (λ (b : ℕ). range_with_len b n) f
range_split a (suc m) n =
    let e : suc m + n ≡ suc (m + n) = omega arith in
    let f : a + 1 + m ≡ a + suc m = omega arith in
    ap (range_with_len a) e ∙ ap (λ xs. a ∷ xs) (range_split (a + 1) m n ∙ ap (λ (b : ℕ). range_with_len (a + 1) m ++ range_with_len b n) f)

size_append : (xs ys : List Cell) → size (xs ++ ys) ≡ size xs + size ys
size_append xs ys = sum_by-append (λ (c : Cell). length c.items) xs ys

module _ (plan : Outline) (s : ℕ) where
  -- a flow's cell at an instant, the close being one more
  abbrev pub cell_of : ℕ → ℕ → Cell
  cell_of t i = cond (nat_lt t plan.instants) (cell_at plan s t i) (close_cell plan s i)

  abbrev pub row : ℕ → List Cell
  row t = map (cell_of t) plan.ranked

  early_cell : (t : ℕ) → t < plan.instants → (i : ℕ) → cell_at plan s t i ≡ cell_of t i
  early_cell t lt i = ap (λ (b : Bool). cond b (cell_at plan s t i) (close_cell plan s i)) (sym (lt-ltb t plan.instants lt))

  late_cell : (t : ℕ) → plan.instants ≤ t → (i : ℕ) → close_cell plan s i ≡ cell_of t i
  late_cell t le i = ap (λ (b : Bool). cond b (cell_at plan s t i) (close_cell plan s i)) (sym (le-ltb t plan.instants le))

  early_rows : (a n : ℕ) → a + n ≤ plan.instants → flat_map (λ t. map (cell_at plan s t) plan.ranked) (range_with_len a n) ≡ flat_map row (range_with_len a n)
  early_rows a zero le = refl
  early_rows a (suc n) le =
      ap₂ (λ (xs : List Cell) (ys : List Cell). xs ++ ys) (map_same (cell_at plan s a) (cell_of a) (early_cell a (omega arith)) plan.ranked) (early_rows (a + 1) n (omega arith))

  cells_rows : cells plan s ≡ flat_map row (range_with_len 0 (plan.instants + 1))
  cells_rows =
      let n = plan.instants in
      ap₂ (λ (xs : List Cell) (ys : List Cell). xs ++ ys) (early_rows 0 n (omega arith)) (map_same (close_cell plan s) (cell_of (0 + n)) (late_cell (0 + n) (omega arith)) plan.ranked)
      ∙ sym (ap (flat_map row) (range_more 0 n) ∙ one_more row (range_with_len 0 n) (0 + n))

  cell_shown : (t i : ℕ) → shown_items (cell_of t i) ≡ round_cell plan s t i
  cell_shown t i = go (nat_lt t plan.instants)
    where
      go : (b : Bool) → shown_items (cond b (cell_at plan s t i) (close_cell plan s i)) ≡ cond b (shown_items (cell_at plan s t i)) (message_items plan s i)
      go true = refl
      go false = refl

  row_shown : (t : ℕ) (xs : List ℕ) → flat_map shown_items (map (cell_of t) xs) ≡ flat_map (round_cell plan s t) xs
  row_shown t xs = flat_map-map shown_items (cell_of t) xs ∙ flat_map_same (λ i. shown_items (cell_of t i)) (round_cell plan s t) (cell_shown t) xs

  rows_shown : (ts : List ℕ) → flat_map shown_items (flat_map row ts) ≡ flat_map (round plan s) ts
  rows_shown ts = flat_map_twice shown_items row ts ∙ flat_map_same (λ t. flat_map shown_items (row t)) (round plan s) (λ t. row_shown t plan.ranked) ts

  -- the cells before a place, those of its instant from there on, and those of later instants
  abbrev pub later : ℕ → List Cell
  later t = flat_map row (range_with_len (t + 1) (plan.instants - t))

  split : (t p : ℕ) → t ≤ plan.instants → cells plan s ≡ flat_map row (range_with_len 0 t) ++ (map (cell_of t) (take p plan.ranked) ++ (map (cell_of t) (drop p plan.ranked) ++ later t))
  split t p le =
      let n : plan.instants + 1 ≡ t + suc (plan.instants - t) = omega arith in
      let z : 0 + t ≡ t = omega arith in
      cells_rows
      ∙ ap (λ (m : ℕ). flat_map row (range_with_len 0 m)) n
      ∙ ap (flat_map row) (range_split 0 t (suc (plan.instants - t)))
      ∙ flat_map-append row (range_with_len 0 t) (range_with_len (0 + t) (suc (plan.instants - t)))
      ∙ ap (λ (u : ℕ). flat_map row (range_with_len 0 t) ++ flat_map row (range_with_len u (suc (plan.instants - t)))) z
      ∙ ap (λ (xs : List Cell). flat_map row (range_with_len 0 t) ++ (xs ++ later t)) (ap (map (cell_of t)) (sym (take_drop p plan.ranked)) ∙ map-append (cell_of t) (take p plan.ranked) (drop p plan.ranked))
      ∙ ap (λ (xs : List Cell). flat_map row (range_with_len 0 t) ++ xs) (append_assoc (map (cell_of t) (take p plan.ranked)) (map (cell_of t) (drop p plan.ranked)) (later t))

  -- how many items are before a place
  abbrev pub before : ℕ → ℕ → ℕ → ℕ
  before t p j = length (flat_map (round plan s) (range_with_len 0 t)) + (length (flat_map (round_cell plan s t) (take p plan.ranked)) + j)

  left_from : (t p j : ℕ) → t ≤ plan.instants → left_in (cells plan s) (before t p j) ≡ left_in (map (cell_of t) (drop p plan.ranked) ++ later t) j
  left_from t p j le =
      let firsts = flat_map row (range_with_len 0 t) in
      let here = map (cell_of t) (take p plan.ranked) in
      let rest = map (cell_of t) (drop p plan.ranked) ++ later t in
      ap (λ (cs : List Cell). left_in cs (before t p j)) (split t p le)
      ∙ ap₂ (λ (m : ℕ) (n : ℕ). left_in (firsts ++ (here ++ rest)) (m + (n + j))) (ap length (sym (rows_shown (range_with_len 0 t)))) (ap length (sym (row_shown t (take p plan.ranked))))
      ∙ left_past firsts (here ++ rest) (length (flat_map shown_items here) + j)
      ∙ left_past here rest j

  shown_cell : (cell : Cell) (j : ℕ) → j < length (shown_items cell) → (cell.shown ≡ true) × (j < length cell.items)
  shown_cell cell j lt = go cell.shown refl lt
    where
      go : (b : Bool) → cell.shown ≡ b → j < length (cond b cell.items []) → (cell.shown ≡ true) × (j < length cell.items)
      go true e lt = (e, lt)
      go false e lt = absurd (omega (arith, lt))

  -- at an item of a flow
  pub left_here : (t p j : ℕ) → t ≤ plan.instants → p < length plan.ranked → j < length (round_cell plan s t (slice_index plan.ranked p)) → (left_in (cells plan s) (before t p j) ≡ (size (map (cell_of t) (drop p plan.ranked)) - j) + size (later t)) × (j ≤ size (map (cell_of t) (drop p plan.ranked)))
  left_here t p j le lp lj =
      let i = slice_index plan.ranked p in
      let rest = map (cell_of t) (drop (suc p) plan.ranked) in
      let d = ap (map (cell_of t)) (drop-cons plan.ranked p 0 lp) in
      let cs = cell_shown t i in
      let lj' : j < length (shown_items (cell_of t i)) = let e = ap length cs in omega (arith, e, lj) in
      let w = shown_cell (cell_of t i) j lj' in
      let head = inside (cell_of t i) (rest ++ later t) w.0 j w.1 in
      let a = size_append rest (later t) in
      let b = ap size d ∙ sum_by-cons (λ (c : Cell). length c.items) (cell_of t i) rest in
      let lt = w.1 in
      (left_from t p j le ∙ ap (λ (xs : List Cell). left_in (xs ++ later t) j) d ∙ head ∙ omega (arith, a, b, lt), omega (arith, b, lt))

  -- at the end
  pub left_over : left_in (cells plan s) (before plan.instants (length plan.ranked) 0) ≡ 0
  left_over =
      let n : plan.instants - plan.instants ≡ 0 = omega arith in
      left_from plan.instants (length plan.ranked) 0 (omega arith)
      ∙ ap₂ (λ (xs : List ℕ) (k : ℕ). left_in (map (cell_of plan.instants) xs ++ flat_map row (range_with_len (plan.instants + 1) k)) 0) (drop_all plan.ranked) n
    where
      drop_all : (xs : List ℕ) → drop (length xs) xs ≡ []
      drop_all [] = refl
      drop_all (x ∷ xs) = drop_all xs

  -- the size of the later instants, where each has one size, and the close another
  rows_size : (early late : ℕ) → ((t : ℕ) → t < plan.instants → size (row t) ≡ early) → size (row plan.instants) ≡ late → (n a : ℕ) → a + n ≡ plan.instants → size (flat_map row (range_with_len a (suc n))) ≡ n * early + late
  rows_size early late each close zero a e =
      let x = size_append (row a) [] in
      let at : a ≡ plan.instants = omega (arith, e) in
      let y = ap (λ (t : ℕ). size (row t)) at in
      omega (arith, x, y, close)
  rows_size early late each close (suc n) a e =
      let x = size_append (row a) (flat_map row (range_with_len (a + 1) (suc n))) in
      let y = rows_size early late each close n (a + 1) (omega (arith, e)) in
      let z = each a (omega (arith, e)) in
      omega (arith, x, y, z)

  pub later_size : (early late : ℕ) → ((t : ℕ) → t < plan.instants → size (row t) ≡ early) → size (row plan.instants) ≡ late → (t : ℕ) → t < plan.instants → size (later t) ≡ ((plan.instants - t) - 1) * early + late
  later_size early late each close t lt =
      let n : plan.instants - t ≡ suc ((plan.instants - t) - 1) = omega (arith, lt) in
      ap (λ (k : ℕ). size (flat_map row (range_with_len (t + 1) k))) n ∙ rows_size early late each close ((plan.instants - t) - 1) (t + 1) (omega (arith, lt))

  pub later_none : size (later plan.instants) ≡ 0
  later_none = let n : plan.instants - plan.instants ≡ 0 = omega arith in ap (λ (k : ℕ). size (flat_map row (range_with_len (plan.instants + 1) k))) n

-- sums of equal terms
sum_same : (f g : ℕ → ℕ) (xs : List ℕ) → ((k : ℕ) → k < length xs → f (slice_index xs k) ≡ g (slice_index xs k)) → sum_by f xs ≡ sum_by g xs
sum_same f g [] h = refl
sum_same f g (x ∷ xs) h =
    let a = h 0 (omega arith) in
    let b = sum_same f g xs (λ k lt. h (suc k) (omega (arith, lt))) in
    let c = sum_by-cons f x xs in
    let d = sum_by-cons g x xs in
    omega (arith, a, b, c, d)

pub sum_drop_same : (f g : ℕ → ℕ) (xs : List ℕ) (p : ℕ) → ((k : ℕ) → k < length xs → f (slice_index xs k) ≡ g (slice_index xs k)) → sum_by f (drop p xs) ≡ sum_by g (drop p xs)
sum_drop_same f g xs zero h = sum_same f g xs h
sum_drop_same f g [] (suc p) h = refl
sum_drop_same f g (x ∷ xs) (suc p) h = sum_drop_same f g xs p (λ k lt. h (suc k) (omega (arith, lt)))

pub size_map : (f : ℕ → Cell) (xs : List ℕ) → size (map f xs) ≡ sum_by (λ i. length (f i).items) xs
size_map f [] = refl
size_map f (x ∷ xs) =
    let a = sum_by-cons (λ (c : Cell). length c.items) (f x) (map f xs) in
    let b = sum_by-cons (λ (i : ℕ). length (f i).items) x xs in
    let c = size_map f xs in
    omega (arith, a, b, c)
