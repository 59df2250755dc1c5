-- Orders of ranks put reads first, and how they grow.
use Rattle.std.proofs.Common.{◌≡◌, ℕ, zero, suc, ◌<◌, ◌≤◌, ◌⊎◌, inl, inr, ⊎_elim, Bool, true, false, eqb, List, [], ◌∷◌, ◌++◌, length, get_or, take, Option, Some, refl, sym, ap, ◌∙◌, subst, arith, length-append}
use Rattle.std.specs.Prelude.{slice_get, slice_index, unwrap_or, not, ◌&&◌, ◌||◌, Contains, All}
use Rattle.std.specs.List.{list_any, list_all, IsDistinct}
use Rattle.std.specs.Option.{option_map}
use Rattle.std.proofs.Math.Seq.{take-suc}
use Rattle.std.proofs.lemmas.Bool.Decides.{nat_tests}
use Rattle.std.proofs.lemmas.List.{length-map}
use Rattle.std.proofs.lemmas.Bool.{cases_lt}
use Rattle.std.proofs.lemmas.Option.{slice_get-get_or, slice_get-map}
use Rattle.std.proofs.lemmas.List.Folds.{list_any-append}
use Rattle.std.proofs.lemmas.Cmp.{nat_eq_equiv}
use Rattle.std.proofs.lemmas.Map.Keys.{IsDistinct-push}
use Rattle.std.proofs.lemmas.Map.Steps.{length-le_from_distinct_below}
use Rattle.luflow.specs.declared.form.Flow.{Flow}
use Rattle.luflow.specs.Program.{FlatView, IsOrdered, flow_at, flows_of, places, clock_reads, reads}
use Rattle.luflow.specs.Rank.{reads_of, has, row, is_ready, IsNext, IsRankOrder}

eqb-comm : (a b : ℕ) → eqb a b ≡ eqb b a
eqb-comm a b = grind (arith, nat_tests)

pub has-eqb : (x : ℕ) (xs : List ℕ) → list_any (eqb x) xs ≡ has xs x
has-eqb x [] = refl
has-eqb x (y ∷ xs) = ap (λ b. b || list_any (eqb x) xs) (eqb-comm x y) ∙ ap (λ b. eqb y x || b) (has-eqb x xs)

and_left : (a b : Bool) → (a && b) ≡ true → a ≡ true
and_left true b h = refl
and_left false b h = h

and_right : (a b : Bool) → (a && b) ≡ true → b ≡ true
and_right true b h = h
and_right false b h = cc

not_true : (a : Bool) → not a ≡ true → a ≡ false
not_true true h = cc
not_true false h = refl

or_right : (a b : Bool) → b ≡ true → (a || b) ≡ true
or_right true b h = refl
or_right false b h = h

pub or_cases : (a b : Bool) → (a || b) ≡ true → (a ≡ true) ⊎ (b ≡ true)
or_cases true b h = inl refl
or_cases false b h = inr h

pub no_rank_yet : (rows : List (List ℕ)) (order : List ℕ) (x : ℕ) → is_ready rows order x ≡ true → has order x ≡ false
no_rank_yet rows order x h = not_true (has order x) (and_left (not (has order x)) _ h)

pub reads_ranked : (rows : List (List ℕ)) (order : List ℕ) (x : ℕ) → is_ready rows order x ≡ true → list_all (λ y. has order y) (row rows x) ≡ true
reads_ranked rows order x h = and_right (not (has order x)) _ h

pub has_take : (xs : List ℕ) (p q x : ℕ) → slice_get xs p ≡ Some x → p < q → has (take q xs) x ≡ true
has_take [] p q x e lt = cc
has_take (y ∷ ys) p zero x e lt = absurd (omega arith)
has_take (y ∷ ys) zero (suc q) x e lt =
    let same : y ≡ x = cc in
    let yes : eqb y x ≡ true = grind (arith, nat_tests) in
    ap (λ b. b || has (take q ys) x) yes
has_take (y ∷ ys) (suc p) (suc q) x e lt = or_right (eqb y x) (has (take q ys) x) (has_take ys p q x e (omega arith))

contains_more : (y x : ℕ) (ys : List ℕ) → Contains ys x → Contains (y ∷ ys) x
contains_more y x ys c = (suc c.0, (let lt = c.1 in omega arith), c.2)

pub contains_from_has : (xs : List ℕ) (x : ℕ) → has xs x ≡ true → Contains xs x
contains_from_has [] x h = cc
contains_from_has (y ∷ ys) x h =
    ⊎_elim
    (λ (a : eqb y x ≡ true). let same : y ≡ x = grind (arith, nat_tests) in (0, omega arith, same))
    (λ (b : has ys x ≡ true). contains_more y x ys (contains_from_has ys x b))
    (or_cases (eqb y x) (has ys x) h)

pub all_from_list_all : (p : ℕ → Bool) (P : ℕ → Type 0) (xs : List ℕ) → ((y : ℕ) → p y ≡ true → P y) → list_all p xs ≡ true → All P xs
all_from_list_all p P [] f h k d lt = absurd (omega arith)
all_from_list_all p P (x ∷ xs) f h zero d lt = f x (and_left (p x) (list_all p xs) h)
all_from_list_all p P (x ∷ xs) f h (suc k) d lt = all_from_list_all p P xs f (and_right (p x) (list_all p xs) h) k d (omega arith)

take_whole : (c : List ℕ) (j : ℕ) → j ≡ length c → take j c ≡ c
take_whole [] zero e = refl
take_whole [] (suc j) e = refl
take_whole (x ∷ c) zero e = absurd (omega arith)
take_whole (x ∷ c) (suc j) e = ap (λ l. x ∷ l) (take_whole c j (omega arith))

-- what holds of every order of ranks
module _ (rows : List (List ℕ)) (order : List ℕ) (ranked : IsRankOrder rows order) where
  next_at : (p : ℕ) (d : ℕ) → p < length order → IsNext rows (take p order) (get_or order p d)
  next_at p d lt = ranked.each p (get_or order p d) (slice_get-get_or order p d lt)

  distinct : (p : ℕ) → p ≤ length order → IsDistinct eqb (take p order)
  unfolding IsDistinct
  distinct zero le = tt
  distinct (suc p) le =
      let lt : p < length order = omega arith in
      let next = next_at p 0 lt in
      subst (IsDistinct eqb) (sym (take-suc order p 0 lt))
      (IsDistinct-push nat_eq_equiv (take p order) (get_or order p 0) (distinct p (omega arith)) (has-eqb (get_or order p 0) (take p order) ∙ no_rank_yet rows (take p order) (get_or order p 0) next.ready))

  pub all_distinct : IsDistinct eqb order
  all_distinct = subst (IsDistinct eqb) (take_whole order (length order) refl) (distinct (length order) (omega arith))

  pub inside : (q : ℕ) → has order q ≡ true → q < length rows
  inside q h =
      let c = contains_from_has order q h in
      subst (λ x. x < length rows) c.2 ((next_at c.0 q c.1).inside)

  pub has_all : (i : ℕ) → i < length rows → has order i ≡ true
  has_all i lt = go (has order i) refl
    where
      go : (b : Bool) → has order i ≡ b → has order i ≡ true
      go true e = e
      go false e =
          let d = IsDistinct-push nat_eq_equiv order i all_distinct (has-eqb i order ∙ e) in
          let b : (q : ℕ) → list_any (eqb q) (order ++ i ∷ []) ≡ true → q < length rows = λ q h.
          ⊎_elim
          (λ (a : list_any (eqb q) order ≡ true). inside q (sym (has-eqb q order) ∙ a))
          (λ (a : list_any (eqb q) (i ∷ []) ≡ true). last q a)
          (or_cases _ _ (sym (list_any-append (eqb q) order (i ∷ [])) ∙ h)) in
          let l = length-le_from_distinct_below (order ++ i ∷ []) (length rows) d b in
          let c = ranked.count in
          absurd (omega (arith, length-append order (i ∷ [])))
        where
          last : (q : ℕ) → list_any (eqb q) (i ∷ []) ≡ true → q < length rows
          last q h =
              ⊎_elim
              (λ (e : eqb q i ≡ true). let same : q ≡ i = grind (arith, nat_tests) in omega arith)
              (λ (e : false ≡ true). cc)
              (or_cases (eqb q i) false h)

  not_later : (p q : ℕ) → p < q → q < length order → get_or order p 0 ≡ get_or order q 0 → ⊥
  not_later p q lt lq same =
      let next = next_at q 0 lq in
      let yes = has_take order p q (get_or order p 0) (slice_get-get_or order p 0 (omega arith)) lt in
      let no = no_rank_yet rows (take q order) (get_or order q 0) next.ready in
      let never : true ≡ false = sym yes ∙ ap (has (take q order)) same ∙ no in
      cc

  pub once : (p q : ℕ) → p < length order → q < length order → get_or order p 0 ≡ get_or order q 0 → p ≡ q
  once p q lp lq same =
      ⊎_elim
      (λ (a : p < q). absurd (not_later p q a lq same))
      (λ (b : q ≤ p).
      ⊎_elim
      (λ (a : q < p). absurd (not_later q p a lp (sym same)))
      (λ (c : p ≤ q). let e : p ≡ q = omega arith in e)
      (cases_lt q p))
      (cases_lt p q)

  pub reads_first : (p x : ℕ) (l : List ℕ) → slice_get order p ≡ Some x → slice_get rows x ≡ Some l → All (λ r. Contains (take p order) r) l
  reads_first p x l at there =
      let next = ranked.each p x at in
      let e : row rows x ≡ l = ap (λ (o : Option (List ℕ)). unwrap_or o []) there in
      all_from_list_all (λ y. has (take p order) y) (λ r. Contains (take p order) r) l
      (λ y h. contains_from_has (take p order) y h)
      (sym (ap (list_all (λ y. has (take p order) y)) e) ∙ reads_ranked rows (take p order) x next.ready)

-- a flat program whose order is the defined one has each flow once, after all that it reads
pub is_ordered : (flat : FlatView) → IsRankOrder (reads_of flat) flat.order
    → ((i : ℕ) (flow : Flow) → flow_at flat i ≡ Some flow → All (λ r. r < flows_of flat) (places flow.form))
    → ((i : ℕ) (flow : Flow) → flow_at flat i ≡ Some flow → All (λ r. r < flows_of flat) (clock_reads flow.clock))
    → IsOrdered flat
is_ordered flat ranked places_in clocks_in =
    let rows = reads_of flat in
    let len : length rows ≡ flows_of flat = length-map flat.flows reads in
    record {
      places_in = places_in;
      clocks_in = clocks_in;
      all_flows = λ i lt. contains_from_has flat.order i (has_all rows flat.order ranked i (omega arith));
      only_flows = λ k d lt. let next = ranked.each k (get_or flat.order k d) (slice_get-get_or flat.order k d lt) in let i = next.inside in omega arith;
      once = once rows flat.order ranked;
      reads_first = λ p flow lt there. reads_first rows flat.order ranked p (slice_index flat.order p) (reads flow) (slice_get-get_or flat.order p 0 lt) (slice_get-map reads flat.flows (slice_index flat.order p) ∙ ap (option_map reads) there);
    }
