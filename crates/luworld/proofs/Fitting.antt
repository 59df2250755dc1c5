-- A plan's parts fit each other: what the machines of its sites rest on follows from what a plan is.
use Rattle.std.proofs.Common.{◌≡◌, ◌≢◌, ℕ, zero, suc, ◌+◌, ◌*◌, ◌<◌, ◌≤◌, ◌⊎◌, inl, inr, Bool, true, false, cond, List, [], ◌∷◌, ◌++◌, length, map, get_or, nat_eq, filter, flat_map, Option, Some, None, refl, sym, ap, ◌∙◌, subst, arith, length-append}
use Rattle.std.specs.Prelude.{slice_get, slice_index, All, Contains, not, ◌||◌, ◌&&◌, ◌==◌, is_some, position, unwrap_or}
use Rattle.std.specs.List.{range_with_len, position_from, list_any}
use Rattle.std.specs.Option.{option_map}
use Rattle.std.proofs.lemmas.Bool.{cases_lt, cases_eq, true≢false, false≢true, eqb-true, eq-eqb, ne_eqb}
use Rattle.std.proofs.lemmas.List.Folds.{list_any-append, list_any_at}
use Rattle.std.proofs.lemmas.List.Elements.{Contains-get_or}
use Rattle.std.proofs.lemmas.Iterator.Adapters.{position_from-zero}
use Rattle.std.proofs.Math.Nat.{mul-le-mul}
use Rattle.luflow.specs.declared.form.Flow.{Flow}
use Rattle.luflow.specs.Program.{FlatView, flow_at, flows_of, places, clock_reads}
use Rattle.luflow.specs.Flats.{IsFlat, IsWithin}
use Rattle.luworld.specs.declared.link.Link.{Link}
use Rattle.luworld.specs.Needs.{PlanView, sites_of, flow_sites, is_in, stands, home, IsNeeded, read_there, clock_there, clock_needed, is_linked, links_of_variable, all_links, IsPlacedAt, IsPlan}
use Rattle.luworld.specs.Jobs.{JobView, IsJobView, IsCoherent, IsJob, flow_of_link, carried, receiver_of, carriers, is_into, link_into, knows, listed}
use Rattle.luflow.proofs.Solutions.{some_at}
use Rattle.luworld.proofs.Wired.{Each, each_append, each_at}
use Rattle.luflow.specs.Rank.{row}

-- the test fails at each element
abbrev Never : {X : Type 0} → (X → Bool) → List X → Type 0
Never p xs = Each (λ x. p x ≡ false) xs

-- the test passes at one element at most
abbrev Once : {X : Type 0} → (X → Bool) → List X → Type 0
Once p [] = Unit {0}
Once p (x ∷ xs) = (p x ≡ true → Never p xs) × Once p xs

module _ {X : Type 0} (p : X → Bool) where
  once_never : (xs : List X) → Never p xs → Once p xs
  once_never [] n = tt
  once_never (x ∷ xs) n = ((λ _. n.1), once_never xs n.1)

  once_later : (xs ys : List X) → Never p xs → Once p ys → Once p (xs ++ ys)
  once_later [] ys n o = o
  once_later (x ∷ xs) ys n o = ((λ e. absurd (true≢false (sym e ∙ n.0))), once_later xs ys n.1 o)

  once_first : (xs ys : List X) → Once p xs → Never p ys → Once p (xs ++ ys)
  once_first [] ys o n = once_never ys n
  once_first (x ∷ xs) ys o n = ((λ e. each_append (λ y. p y ≡ false) xs ys (o.0 e) n), once_first xs ys o.1 n)

  -- the places at which the test passes, counted from a
  abbrev found : ℕ → List X → List ℕ
  found a [] = []
  found a (x ∷ xs) = cond (p x) (a ∷ found (a + 1) xs) (found (a + 1) xs)

  found_never : (a : ℕ) (xs : List X) → Never p xs → found a xs ≡ []
  found_never a [] n = refl
  found_never a (x ∷ xs) n = ap (λ b. cond b (a ∷ found (a + 1) xs) (found (a + 1) xs)) n.0 ∙ found_never (a + 1) xs n.1

  found_once : (a : ℕ) (xs : List X) → Once p xs → found a xs ≡ listed (position_from p a xs)
  found_once a [] o = refl
  found_once a (x ∷ xs) o = go (p x) refl (found_once (a + 1) xs o.1)
    where
      go : (b : Bool) → p x ≡ b → found (a + 1) xs ≡ listed (position_from p (a + 1) xs) → cond b (a ∷ found (a + 1) xs) (found (a + 1) xs) ≡ listed (cond b (Some a) (position_from p (a + 1) xs))
      go true e rest = ap (λ ys. a ∷ ys) (found_never (a + 1) xs (o.0 e))
      go false e rest = rest

  filter_found : (g : ℕ → Bool) (a : ℕ) (xs : List X) → ((k : ℕ) (x : X) → slice_get xs k ≡ Some x → g (a + k) ≡ p x) → filter g (range_with_len a (length xs)) ≡ found a xs
  filter_found g a [] h = refl
  filter_found g a (x ∷ xs) h =
      let z : a + 0 ≡ a = omega arith in
      let e : g a ≡ p x = ap g (sym z) ∙ h 0 x refl in
      let rest = filter_found g (a + 1) xs (λ k y here. let s : a + 1 + k ≡ a + suc k = omega arith in ap g s ∙ h (suc k) y here) in
      ap (λ b. cond b (a ∷ filter g (range_with_len (a + 1) (length xs))) (filter g (range_with_len (a + 1) (length xs)))) e
      ∙ ap (λ ys. cond (p x) (a ∷ ys) ys) rest

  some_found : (a : ℕ) (xs : List X) → list_any p xs ≡ true → is_some (position_from p a xs) ≡ true
  some_found a [] h = absurd (false≢true h)
  some_found a (x ∷ xs) h = go (p x) h (some_found (a + 1) xs)
    where
      go : (b : Bool) → (b || list_any p xs) ≡ true → (list_any p xs ≡ true → is_some (position_from p (a + 1) xs) ≡ true) → is_some (cond b (Some a) (position_from p (a + 1) xs)) ≡ true
      go true h rest = refl
      go false h rest = rest h

  none_found : (a : ℕ) (xs : List X) → Never p xs → position_from p a xs ≡ None
  none_found a [] n = refl
  none_found a (x ∷ xs) n = ap (λ b. cond b (Some a) (position_from p (a + 1) xs)) n.0 ∙ none_found (a + 1) xs n.1

filter_both : (q r : ℕ → Bool) (xs : List ℕ) → filter q (filter r xs) ≡ filter (λ x. r x && q x) xs
filter_both q r [] = refl
filter_both q r (x ∷ xs) = go (r x) (filter_both q r xs)
  where
    go : (b : Bool) → filter q (filter r xs) ≡ filter (λ y. r y && q y) xs → filter q (cond b (x ∷ filter r xs) (filter r xs)) ≡ cond (b && q x) (x ∷ filter (λ y. r y && q y) xs) (filter (λ y. r y && q y) xs)
    go true rest = ap (λ ys. cond (q x) (x ∷ ys) ys) rest
    go false rest = rest

and_first : (b c : Bool) → (b && c) ≡ true → b ≡ true
and_first true c e = refl
and_first false c e = e

and_second : (b c : Bool) → (b && c) ≡ true → c ≡ true
and_second true c e = e
and_second false c e = absurd (false≢true e)

and_false : (b c : Bool) → c ≡ false → (b && c) ≡ false
and_false true c e = e
and_false false c e = refl

or_second : (b c : Bool) → c ≡ true → (b || c) ≡ true
or_second true c e = refl
or_second false c e = e

not_true : (b : Bool) → not b ≡ true → b ≡ false
not_true true e = absurd (false≢true e)
not_true false e = refl

-- the links of a table of who takes what: a row for each variable
module _ (linked : ℕ → ℕ → Bool) (from : ℕ → ℕ) (sites : ℕ) where
  abbrev link : ℕ → ℕ → Link
  link v s = record { flow = v; from = from v; to = s }

  abbrev some_of : ℕ → ℕ → ℕ → List Link
  some_of v a m = map (link v) (filter (linked v) (range_with_len a m))

  abbrev all_of : ℕ → ℕ → List Link
  all_of a m = flat_map (λ v. some_of v 0 sites) (range_with_len a m)

  -- each is of a variable below n, to a site that takes it
  abbrev Sound : ℕ → Link → Type 0
  Sound n k = (k.flow < n) × (k.to < sites) × (linked k.flow k.to ≡ true)

  some_sound : (n v a m : ℕ) → v < n → a + m ≤ sites → Each (Sound n) (some_of v a m)
  some_sound n v a zero lv le = tt
  some_sound n v a (suc m) lv le = go (linked v a) refl (some_sound n v (a + 1) m lv (omega arith))
    where
      go : (b : Bool) → linked v a ≡ b → Each (Sound n) (some_of v (a + 1) m) → Each (Sound n) (map (link v) (cond b (a ∷ filter (linked v) (range_with_len (a + 1) m)) (filter (linked v) (range_with_len (a + 1) m))))
      go true e rest = ((lv, omega arith, e), rest)
      go false e rest = rest

  all_sound : (n a m : ℕ) → a + m ≤ n → Each (Sound n) (all_of a m)
  all_sound n a zero le = tt
  all_sound n a (suc m) le = each_append (Sound n) (some_of a 0 sites) (all_of (a + 1) m) (some_sound n a 0 sites (omega arith) (omega arith)) (all_sound n (a + 1) m (omega arith))

  some_few : (v a m : ℕ) → length (some_of v a m) ≤ m
  some_few v a zero = omega arith
  some_few v a (suc m) = go (linked v a) (some_few v (a + 1) m)
    where
      go : (b : Bool) → length (some_of v (a + 1) m) ≤ m → length (map (link v) (cond b (a ∷ filter (linked v) (range_with_len (a + 1) m)) (filter (linked v) (range_with_len (a + 1) m)))) ≤ suc m
      go true rest = omega (arith, rest)
      go false rest = omega (arith, rest)

  all_few : (a m : ℕ) → length (all_of a m) ≤ m * sites
  all_few a zero = omega arith
  all_few a (suc m) = omega (arith, length-append (some_of a 0 sites) (all_of (a + 1) m), some_few a 0 sites, all_few (a + 1) m)

  module _ (s i : ℕ) where
    abbrev into : Link → Bool
    into = is_into s i

    some_other : (v a m : ℕ) → v ≢ i → Never into (some_of v a m)
    some_other v a zero ne = tt
    some_other v a (suc m) ne = go (linked v a) (some_other v (a + 1) m ne)
      where
        go : (b : Bool) → Never into (some_of v (a + 1) m) → Never into (map (link v) (cond b (a ∷ filter (linked v) (range_with_len (a + 1) m)) (filter (linked v) (range_with_len (a + 1) m))))
        go true rest = (ap (λ b. b && (a == s)) (ne_eqb v i ne), rest)
        go false rest = rest

    some_past : (v a m : ℕ) → s < a → Never into (some_of v a m)
    some_past v a zero l = tt
    some_past v a (suc m) l = go (linked v a) (some_past v (a + 1) m (omega arith))
      where
        go : (b : Bool) → Never into (some_of v (a + 1) m) → Never into (map (link v) (cond b (a ∷ filter (linked v) (range_with_len (a + 1) m)) (filter (linked v) (range_with_len (a + 1) m))))
        go true rest = (and_false (v == i) (a == s) (ne_eqb a s (λ e. omega (arith, e))), rest)
        go false rest = rest

    some_once : (v a m : ℕ) → Once into (some_of v a m)
    some_once v a zero = tt
    some_once v a (suc m) = go (linked v a) (some_once v (a + 1) m)
      where
        go : (b : Bool) → Once into (some_of v (a + 1) m) → Once into (map (link v) (cond b (a ∷ filter (linked v) (range_with_len (a + 1) m)) (filter (linked v) (range_with_len (a + 1) m))))
        go true rest = ((λ e. some_past v (a + 1) m (let w = eqb-true a s (and_second (v == i) (a == s) e) in omega (arith, w))), rest)
        go false rest = rest

    all_past : (a m : ℕ) → i < a → Never into (all_of a m)
    all_past a zero l = tt
    all_past a (suc m) l = each_append (λ k. into k ≡ false) (some_of a 0 sites) (all_of (a + 1) m) (some_other a 0 sites (λ e. omega (arith, e))) (all_past (a + 1) m (omega arith))

    all_once : (a m : ℕ) → Once into (all_of a m)
    all_once a zero = tt
    all_once a (suc m) = elim (cases_eq a i) [
      | inl e ↦ once_first into (some_of a 0 sites) (all_of (a + 1) m) (some_once a 0 sites) (all_past (a + 1) m (omega (arith, e)))
      | inr ne ↦ once_later into (some_of a 0 sites) (all_of (a + 1) m) (some_other a 0 sites ne) (all_once (a + 1) m)
    ]

    some_there : (v a m : ℕ) → v ≡ i → linked v s ≡ true → a ≤ s → s < a + m → list_any into (some_of v a m) ≡ true
    some_there v a zero ev e le lt = absurd (omega arith)
    some_there v a (suc m) ev e le lt = elim (cases_eq a s) [
      | inl same ↦
          ap (λ b. list_any into (map (link v) (cond b (a ∷ filter (linked v) (range_with_len (a + 1) m)) (filter (linked v) (range_with_len (a + 1) m))))) (ap (linked v) same ∙ e)
          ∙ ap (λ b. b && (a == s) || list_any into (some_of v (a + 1) m)) (eq-eqb v i ev)
          ∙ ap (λ b. b || list_any into (some_of v (a + 1) m)) (eq-eqb a s same)
      | inr ne ↦ go (linked v a) (some_there v (a + 1) m ev e (omega arith) (omega arith))
    ]
      where
        go : (b : Bool) → list_any into (some_of v (a + 1) m) ≡ true → list_any into (map (link v) (cond b (a ∷ filter (linked v) (range_with_len (a + 1) m)) (filter (linked v) (range_with_len (a + 1) m)))) ≡ true
        go true rest = or_second (into (link v a)) (list_any into (some_of v (a + 1) m)) rest
        go false rest = rest

    all_there : (a m : ℕ) → linked i s ≡ true → s < sites → a ≤ i → i < a + m → list_any into (all_of a m) ≡ true
    all_there a zero e ls le lt = absurd (omega arith)
    all_there a (suc m) e ls le lt =
        list_any-append into (some_of a 0 sites) (all_of (a + 1) m)
        ∙ elim (cases_eq a i) [
          | inl same ↦ ap (λ b. b || list_any into (all_of (a + 1) m)) (some_there a 0 sites same (ap (λ v. linked v s) same ∙ e) (omega arith) (omega arith))
          | inr ne ↦ or_second (list_any into (some_of a 0 sites)) (list_any into (all_of (a + 1) m)) (all_there (a + 1) m e ls (omega arith) (omega arith))
        ]

    taken_is : (n a : ℕ) (ks : List Link) → Each (Sound n) ks → is_some (position_from into a ks) ≡ true → Sound n (record { flow = i; from = from i; to = s })
    taken_is n a [] each h = absurd (false≢true h)
    taken_is n a (k ∷ ks) each h = go (into k) refl h (taken_is n (a + 1) ks each.1)
      where
        go : (b : Bool) → into k ≡ b → is_some (cond b (Some a) (position_from into (a + 1) ks)) ≡ true → (is_some (position_from into (a + 1) ks) ≡ true → Sound n (record { flow = i; from = from i; to = s })) → Sound n (record { flow = i; from = from i; to = s })
        go true e h rest =
            let f : k.flow ≡ i = eqb-true k.flow i (and_first (k.flow == i) (k.to == s) e) in
            let t : k.to ≡ s = eqb-true k.to s (and_second (k.flow == i) (k.to == s) e) in
            (omega (arith, f, each.0.0), omega (arith, t, each.0.1), ap (λ v. linked v s) (sym f) ∙ ap (linked k.flow) (sym t) ∙ each.0.2)
        go false e h rest = rest h

each_of : (P : ℕ → Type 0) (xs : List ℕ) → ((k : ℕ) → k < length xs → P (slice_index xs k)) → Each P xs
each_of P [] h = tt
each_of P (x ∷ xs) h = (h 0 (omega arith), each_of P xs (λ k l. h (suc k) (omega arith)))

in_each : (P : ℕ → Type 0) (s : ℕ) (xs : List ℕ) → Each P xs → is_in s xs ≡ true → P s
in_each P s [] each h = absurd (false≢true h)
in_each P s (x ∷ xs) each h = go (x == s) refl h (in_each P s xs each.1)
  where
    go : (b : Bool) → (x == s) ≡ b → (b || is_in s xs) ≡ true → (is_in s xs ≡ true → P s) → P s
    go true e h rest = subst P (eqb-true x s e) each.0
    go false e h rest = rest h

head_below : (n : ℕ) (xs : List ℕ) → 0 < n → Each (λ y. y < n) xs → slice_index xs 0 < n
head_below n [] some each = some
head_below n (x ∷ xs) some each = each.0

head_in : (xs : List ℕ) → 0 < length xs → is_in (slice_index xs 0) xs ≡ true
head_in [] l = absurd (omega arith)
head_in (x ∷ xs) l = ap (λ b. b || is_in x xs) (eq-eqb x x refl)

past_list : {X : Type 0} (xs : List X) (k : ℕ) → length xs ≤ k → slice_get xs k ≡ None
past_list [] k l = refl
past_list (x ∷ xs) zero l = absurd (omega arith)
past_list (x ∷ xs) (suc k) l = past_list xs k (omega arith)

contains_in : (x : ℕ) (xs : List ℕ) → Contains xs x → is_in x xs ≡ true
contains_in x xs c = list_any_at (λ y. y == x) xs c.0 x c.1 (eq-eqb (get_or xs c.0 x) x c.2)

in_contains : (x : ℕ) (xs : List ℕ) → is_in x xs ≡ true → Contains xs x
in_contains x [] h = absurd (false≢true h)
in_contains x (y ∷ xs) h = go (y == x) refl h (in_contains x xs)
  where
    go : (b : Bool) → (y == x) ≡ b → (b || is_in x xs) ≡ true → (is_in x xs ≡ true → Contains xs x) → Contains (y ∷ xs) x
    go true e h rest = (0, omega arith, eqb-true y x e)
    go false e h rest = let c = rest h in (suc c.0, omega (arith, c.1), c.2)

all_front : {X : Type 0} (P : X → Type 0) (xs ys : List X) → All P (xs ++ ys) → All P xs
all_front P [] ys h k d l = absurd (omega arith)
all_front P (x ∷ xs) ys h zero d l = h 0 d (omega arith)
all_front P (x ∷ xs) ys h (suc k) d l = all_front P xs ys (λ j e lj. h (suc j) e (omega arith)) k d (omega arith)

all_back : {X : Type 0} (P : X → Type 0) (xs ys : List X) → All P (xs ++ ys) → All P ys
all_back P [] ys h = h
all_back P (x ∷ xs) ys h = all_back P xs ys (λ j e lj. h (suc j) e (omega arith))

-- The clock variable of a main variable is a main variable.
abbrev pub HasMainClocks : FlatView → Type 0
HasMainClocks flat = (v : ℕ) (flow : Flow) → v < length flat.variables → flow_at flat v ≡ Some flow → All (λ c. c < length flat.variables) (clock_reads flow.clock)

module _ (plan : PlanView) (ok : IsPlan plan) where
  abbrev main : ℕ
  main = length plan.flat.variables

  abbrev TakenBy : Link → Type 0
  TakenBy = Sound (is_linked plan) (home plan) (sites_of plan) main

  links_sound : Each TakenBy plan.links
  links_sound = subst (Each TakenBy) (sym ok.links_are) (all_sound (is_linked plan) (home plan) (sites_of plan) main 0 main (omega arith))

  placed_in : (v : ℕ) → Each (λ s. s < sites_of plan) (row plan.placed v)
  placed_in v = elim (cases_lt v main) [
    | inl l ↦ each_of (λ s. s < sites_of plan) (row plan.placed v) (ok.placed_is v l).inside
    | inr g ↦ subst (Each (λ s. s < sites_of plan)) (sym (ap (λ o. unwrap_or o []) (past_list plan.placed v (omega (arith, ok.placed_len, g))))) tt
  ]

  homes_in : (i : ℕ) → home plan i < sites_of plan
  homes_in i = head_below (sites_of plan) (flow_sites plan i) ok.some_sites (placed_in (slice_index plan.flat.owners i))

  stands_inside : (i s : ℕ) → stands plan i s ≡ true → s < sites_of plan
  stands_inside i s h = in_each (λ y. y < sites_of plan) s (flow_sites plan i) (placed_in (slice_index plan.flat.owners i)) h

  stands_at_home : (i : ℕ) → i < flows_of plan.flat → stands plan i (home plan i) ≡ true
  stands_at_home i l =
      let owned : slice_index plan.flat.owners i < main = ok.flat_is.owners_in i 0 (omega (arith, ok.flat_is.owners_len, l)) in
      head_in (flow_sites plan i) (ok.placed_is (slice_index plan.flat.owners i) owned).some

  link_at : (l : ℕ) → l < length plan.links → (k : Link) × (slice_get plan.links l ≡ Some k) × TakenBy k
  link_at l lt = let k = some_at plan.links l lt in (k.0, k.1, each_at TakenBy plan.links links_sound l k.0 k.1)

  carried_is : (l : ℕ) (k : Link) → slice_get plan.links l ≡ Some k → carried plan l ≡ k.flow
  carried_is l k e = ap (λ o. unwrap_or (option_map (λ (x : Link). x.flow) o) 0) e

  receiver_is : (l : ℕ) (k : Link) → slice_get plan.links l ≡ Some k → receiver_of plan l ≡ k.to
  receiver_is l k e = ap (λ o. unwrap_or (option_map (λ (x : Link). x.to) o) 0) e

  carries_main : (l : ℕ) → l < length plan.links → carried plan l < length plan.flat.variables
  carries_main l lt = let k = link_at l lt in omega (arith, carried_is l k.0 k.1, k.2.0)

  receivers_in : (l : ℕ) → receiver_of plan l < sites_of plan
  receivers_in l = elim (cases_lt l (length plan.links)) [
    | inl lt ↦ let k = link_at l lt in omega (arith, receiver_is l k.0 k.1, k.2.1)
    | inr g ↦ let e = ap (λ o. unwrap_or (option_map (λ (x : Link). x.to) o) 0) (past_list plan.links l g) in omega (arith, e, ok.some_sites)
  ]

  not_there : (v s : ℕ) → is_linked plan v s ≡ true → stands plan v s ≡ false
  not_there v s e = not_true (stands plan v s) (and_second (is_in v (row plan.needs s)) (not (stands plan v s)) e)

  sent_elsewhere : (l : ℕ) → l < length plan.links → receiver_of plan l ≢ home plan (carried plan l)
  sent_elsewhere l lt same =
      let k = link_at l lt in
      let t : k.0.to ≡ home plan k.0.flow = sym (receiver_is l k.0 k.1) ∙ same ∙ ap (home plan) (carried_is l k.0 k.1) in
      let off : stands plan k.0.flow k.0.to ≡ false = not_there k.0.flow k.0.to k.2.2 in
      let on : stands plan k.0.flow (home plan k.0.flow) ≡ true = stands_at_home k.0.flow (omega (arith, k.2.0, ok.flat_is.variables_first)) in
      true≢false (sym on ∙ ap (stands plan k.0.flow) (sym t) ∙ off)

  few : length plan.links ≤ 65536
  few =
      let a = ap length ok.links_are in
      let b = all_few (is_linked plan) (home plan) (sites_of plan) 0 main in
      let c : main ≤ 4096 = omega (arith, ok.flat_is.variables_first, ok.flat_is.few) in
      omega (arith, a, b, mul-le-mul c ok.few_sites)

  into_is : (s i : ℕ) → link_into plan s i ≡ position_from (is_into s i) 0 plan.links
  into_is s i = position_from-zero (is_into s i) plan.links

  links_once : (s i : ℕ) → Once (is_into s i) plan.links
  links_once s i = subst (Once (is_into s i)) (sym ok.links_are) (all_once (is_linked plan) (home plan) (sites_of plan) s i 0 main)

  one : (s i : ℕ) → filter (λ l. nat_eq (receiver_of plan l) s) (carriers plan i) ≡ listed (link_into plan s i)
  one s i =
      filter_both (λ l. nat_eq (receiver_of plan l) s) (λ l. nat_eq (carried plan l) i) (range_with_len 0 (length plan.links))
      ∙ filter_found (is_into s i) (λ l. nat_eq (carried plan l) i && nat_eq (receiver_of plan l) s) 0 plan.links at_place
      ∙ found_once (is_into s i) 0 plan.links (links_once s i)
      ∙ ap listed (sym (into_is s i))
    where
      at_place : (k : ℕ) (x : Link) → slice_get plan.links k ≡ Some x → (nat_eq (carried plan (0 + k)) i && nat_eq (receiver_of plan (0 + k)) s) ≡ is_into s i x
      at_place k x e =
          let z : 0 + k ≡ k = omega arith in
          ap (λ j. nat_eq (carried plan j) i && nat_eq (receiver_of plan j) s) z
          ∙ ap (λ f. nat_eq f i && nat_eq (receiver_of plan k) s) (carried_is k x e)
          ∙ ap (λ t. nat_eq x.flow i && nat_eq t s) (receiver_is k x e)

  taken : (s i : ℕ) → is_some (link_into plan s i) ≡ true → (i < main) × (s < sites_of plan) × (is_linked plan i s ≡ true)
  taken s i h = taken_is (is_linked plan) (home plan) (sites_of plan) s i main 0 plan.links links_sound (sym (ap is_some (into_is s i)) ∙ h)

  taken_there : (s i : ℕ) → i < main → s < sites_of plan → is_linked plan i s ≡ true → is_some (link_into plan s i) ≡ true
  taken_there s i li ls e =
      ap is_some (into_is s i)
      ∙ some_found (is_into s i) 0 plan.links
      (ap (list_any (is_into s i)) ok.links_are ∙ all_there (is_linked plan) (home plan) (sites_of plan) s i 0 main e ls (omega arith) (omega (arith, li)))

  not_taken : (s i : ℕ) → stands plan i s ≡ true → link_into plan s i ≡ None
  not_taken s i on = go (link_into plan s i) refl
    where
      go : (o : Option ℕ) → link_into plan s i ≡ o → o ≡ None
      go None e = refl
      go (Some l) e = absurd (true≢false (sym on ∙ not_there i s (taken s i (ap is_some e)).2))

  known_here : (s i : ℕ) → stands plan i s ≡ true → knows plan s i ≡ true
  known_here s i on = ap (λ b. b || is_some (link_into plan s i)) on

  -- a main variable that a site needs is known there
  known_main : (s r : ℕ) → s < sites_of plan → r < main → IsNeeded plan s r → knows plan s r ≡ true
  known_main s r ls lr need = go (stands plan r s) refl
    where
      go : (b : Bool) → stands plan r s ≡ b → (b || is_some (link_into plan s r)) ≡ true
      go true e = refl
      go false e =
          let there : is_in r (row plan.needs s) ≡ true = contains_in r (row plan.needs s) ((ok.needs_are s r ls).1 need) in
          taken_there s r lr ls (ap (λ b. b && not (stands plan r s)) there ∙ ap not e)

  -- what a flow of a site names is known there
  known_within : (s i r : ℕ) → stands plan i s ≡ true → IsWithin plan.flat i r → IsNeeded plan s r → knows plan s r ≡ true
  known_within s i r on (inl lr) need = known_main s r (stands_inside i s on) lr need
  known_within s i r on (inr same) need = known_here s r (ap (λ v. is_in s (row plan.placed v)) same ∙ on)

  operands_known : (s i : ℕ) (flow : Flow) → flow_at plan.flat i ≡ Some flow → stands plan i s ≡ true → All (λ r. knows plan s r ≡ true) (places flow.form)
  operands_known s i flow here on k d l =
      known_within s i (get_or (places flow.form) k d) on
      (all_front (IsWithin plan.flat i) (places flow.form) (clock_reads flow.clock) (ok.flat_is.inner i flow here) k d l)
      (read_there i (get_or (places flow.form) k d) flow on here (Contains-get_or (places flow.form) k d l))

  clock_known_here : (s i : ℕ) (flow : Flow) → flow_at plan.flat i ≡ Some flow → stands plan i s ≡ true → All (λ r. knows plan s r ≡ true) (clock_reads flow.clock)
  clock_known_here s i flow here on k d l =
      known_within s i (get_or (clock_reads flow.clock) k d) on
      (all_back (IsWithin plan.flat i) (places flow.form) (clock_reads flow.clock) (ok.flat_is.inner i flow here) k d l)
      (clock_there i (get_or (clock_reads flow.clock) k d) flow on here (Contains-get_or (clock_reads flow.clock) k d l))

  module _ (clocks : HasMainClocks plan.flat) where
    clock_known_taken : (s i : ℕ) (flow : Flow) → flow_at plan.flat i ≡ Some flow → is_some (link_into plan s i) ≡ true → All (λ r. knows plan s r ≡ true) (clock_reads flow.clock)
    clock_known_taken s i flow here h k d l =
        let t = taken s i h in
        let there = in_contains i (row plan.needs s) (and_first (is_in i (row plan.needs s)) (not (stands plan i s)) t.2) in
        known_main s (get_or (clock_reads flow.clock) k d) t.1 (clocks i flow t.0 here k d l)
        (clock_needed i (get_or (clock_reads flow.clock) k d) flow ((ok.needs_are s i t.1).0 there) here (Contains-get_or (clock_reads flow.clock) k d l))

    clock_known : (s i : ℕ) (flow : Flow) → flow_at plan.flat i ≡ Some flow → knows plan s i ≡ true → All (λ r. knows plan s r ≡ true) (clock_reads flow.clock)
    clock_known s i flow here h = go (stands plan i s) refl h
      where
        go : (b : Bool) → stands plan i s ≡ b → (b || is_some (link_into plan s i)) ≡ true → All (λ r. knows plan s r ≡ true) (clock_reads flow.clock)
        go true on h = clock_known_here s i flow here on
        go false off h = clock_known_taken s i flow here h

-- the parts of a plan fit each other
pub fits : (plan : PlanView) → IsPlan plan → IsCoherent plan
fits plan ok =
    let clocks : HasMainClocks plan.flat = ok.flat_is.main_clocks in
    record {
      ordered = ok.flat_is.ordered;
      sound = ok.flat_is.sound;
      room = ok.room;
      some_sites = ok.some_sites;
      homes = homes_in plan ok;
      stands_home = stands_at_home plan ok;
      stands_in = stands_inside plan ok;
      carries = carries_main plan ok;
      receivers = receivers_in plan ok;
      elsewhere = sent_elsewhere plan ok;
      one_link = λ s i _. one plan ok s i;
      no_link = not_taken plan ok;
      few_links = few plan ok;
      variables_first = ok.flat_is.variables_first;
      input_there = λ i c flow here form. (ok.flat_is.input_there i c flow here form).0;
      needs_clock = clock_known plan ok clocks;
      needs_operands = operands_known plan ok;
    }

-- every run is a job of the machines
pub job_of_run : (job : JobView) → IsJobView job → IsJob job
job_of_run job run = record { is_plan = fits job.plan run.plan_is; few = run.table_is.few; fit = run.fit }
