-- The parts that are made are a plan.
use Rattle.std.proofs.Common.{◌≡◌, ℕ, zero, suc, ◌+◌, ◌<◌, ◌≤◌, inl, inr, Bool, true, false, cond, List, [], ◌∷◌, length, map, get_or, filter, Some, None, refl, sym, ap, ap₂, ◌∙◌, subst, arith}
use Rattle.std.specs.Prelude.{slice_get, slice_index, All, Contains, not, ◌||◌, ◌&&◌, ◌==◌, nat_lt}
use Rattle.std.specs.List.{range_with_len, list_all}
use Rattle.std.specs.List.Sorted.{IsStrictlyIncreasing}
use Rattle.std.proofs.lemmas.Bool.{cases_eq, false≢true, eqb-true, eq-eqb, ltb-true}
use Rattle.std.proofs.lemmas.List.Folds.{list_any_at}
use Rattle.std.proofs.lemmas.List.Kept.{IsStrictlyIncreasing-filter}
use Rattle.std.proofs.lemmas.List.FromFn.{get_or-range_with_len, length-range_with_len}
use Rattle.luflow.specs.declared.form.Flow.{Flow}
use Rattle.luflow.specs.Program.{FlatView, flow_at}
use Rattle.luflow.specs.Flats.{IsFlat}
use Rattle.luworld.specs.declared.link.Link.{Link}
use Rattle.luworld.specs.Needs.{PlanView, IsPlacedAt, IsPlan, IsNeeded, read_there, clock_there, clock_needed, is_in, stands, is_linked, links_of_variable, all_links}
use Rattle.luworld.proofs.Parts.{flat_map_same}
use Rattle.luplace.specs.Placing.{are_somewhere, are_together, bare}
use Rattle.luplace.specs.Marks.{is_marked, marks_at, AreAllMarks, marked_places, sites_at, is_taken, link_of, some_links, links_below}
use Rattle.luflow.specs.Rank.{row}
use Rattle.std.specs.Str.{bytes_eq}
use Rattle.std.proofs.lemmas.Slice.Eq.{bytes_eq-Decides}
use Rattle.std.proofs.lemmas.List.Kept.{AllPairs-from_increasing}
use Rattle.luplace_file.specs.Lawful.{AreSites}

both_ways : (x y : Bool) → (x ≡ true → y ≡ true) → (y ≡ true → x ≡ true) → x ≡ y
both_ways true true f g = refl
both_ways true false f g = sym (f refl)
both_ways false true f g = g refl
both_ways false false f g = refl

contains_in : (x : ℕ) (xs : List ℕ) → Contains xs x → is_in x xs ≡ true
contains_in x xs c = list_any_at (λ y. y == x) xs c.0 x c.1 (eq-eqb (get_or xs c.0 x) x c.2)

in_contains : (x : ℕ) (xs : List ℕ) → is_in x xs ≡ true → Contains xs x
in_contains x [] h = absurd (false≢true h)
in_contains x (y ∷ xs) h = go (y == x) refl h (in_contains x xs)
  where
    go : (b : Bool) → (y == x) ≡ b → (b || is_in x xs) ≡ true → (is_in x xs ≡ true → Contains xs x) → Contains (y ∷ xs) x
    go true e h rest = (0, omega arith, eqb-true y x e)
    go false e h rest = let c = rest h in let l = c.1 in (suc c.0, omega (arith, l), c.2)

in_filter : (p : ℕ → Bool) (r a n : ℕ) → is_in r (filter p (range_with_len a n)) ≡ true → p r ≡ true
in_filter p r a zero h = absurd (false≢true h)
in_filter p r a (suc n) h = go (p a) refl h (in_filter p r (a + 1) n)
  where
    head : (b : Bool) → (a == r) ≡ b → p a ≡ true → (b || is_in r (filter p (range_with_len (a + 1) n))) ≡ true → (is_in r (filter p (range_with_len (a + 1) n)) ≡ true → p r ≡ true) → p r ≡ true
    head true e on h rest = ap p (sym (eqb-true a r e)) ∙ on
    head false e on h rest = rest h

    go : (b : Bool) → p a ≡ b → is_in r (cond b (a ∷ filter p (range_with_len (a + 1) n)) (filter p (range_with_len (a + 1) n))) ≡ true → (is_in r (filter p (range_with_len (a + 1) n)) ≡ true → p r ≡ true) → p r ≡ true
    go true e h rest = head (a == r) refl e h rest
    go false e h rest = rest h

filter_in : (p : ℕ → Bool) (r a n : ℕ) → p r ≡ true → a ≤ r → r < a + n → is_in r (filter p (range_with_len a n)) ≡ true
filter_in p r a zero on le lt = absurd (omega arith)
filter_in p r a (suc n) on le lt = elim (cases_eq a r) [
  | inl e ↦
      ap (λ b. is_in r (cond b (a ∷ filter p (range_with_len (a + 1) n)) (filter p (range_with_len (a + 1) n)))) (ap p e ∙ on)
      ∙ ap (λ b. b || is_in r (filter p (range_with_len (a + 1) n))) (eq-eqb a r e)
  | inr ne ↦ go (p a) (filter_in p r (a + 1) n on (omega arith) (omega arith))
]
  where
    later : (b c : Bool) → c ≡ true → (b || c) ≡ true
    later true c e = refl
    later false c e = e

    go : (b : Bool) → is_in r (filter p (range_with_len (a + 1) n)) ≡ true → is_in r (cond b (a ∷ filter p (range_with_len (a + 1) n)) (filter p (range_with_len (a + 1) n))) ≡ true
    go true h = later (a == r) (is_in r (filter p (range_with_len (a + 1) n))) h
    go false h = h

marked_within : (marks : List Bool) (r : ℕ) → is_marked marks r ≡ true → r < length marks
marked_within [] r h = absurd (false≢true h)
marked_within (m ∷ marks) zero h = omega arith
marked_within (m ∷ marks) (suc r) h = let l = marked_within marks r h in omega (arith, l)

in_marked : (marks : List Bool) (r : ℕ) → is_in r (marked_places marks) ≡ is_marked marks r
in_marked marks r =
    both_ways (is_in r (marked_places marks)) (is_marked marks r) (in_filter (is_marked marks) r 0 (length marks))
    (λ h. let l = marked_within marks r h in filter_in (is_marked marks) r 0 (length marks) h (omega arith) (omega (arith, l)))

past_list : {X : Type 0} (xs : List X) (k : ℕ) → length xs ≤ k → slice_get xs k ≡ None
past_list [] k l = refl
past_list (x ∷ xs) zero l = absurd (omega arith)
past_list (x ∷ xs) (suc k) l = past_list xs k (omega arith)

map_long : {X Y : Type 0} (f : X → Y) (xs : List X) → length (map f xs) ≡ length xs
map_long f [] = refl
map_long f (x ∷ xs) = ap suc (map_long f xs)

row_marked : (rows : List (List Bool)) (s : ℕ) → row (map marked_places rows) s ≡ marked_places (marks_at rows s)
row_marked [] s = refl
row_marked (m ∷ rows) zero = refl
row_marked (m ∷ rows) (suc s) = row_marked rows s

filter_same : (p q : ℕ → Bool) → ((x : ℕ) → p x ≡ q x) → (xs : List ℕ) → filter p xs ≡ filter q xs
filter_same p q e [] = refl
filter_same p q e (x ∷ xs) = ap₂ (λ b ys. cond b (x ∷ ys) ys) (e x) (filter_same p q e xs)

all_in_range : (p : ℕ → Bool) (a n : ℕ) → list_all p (range_with_len a n) ≡ true → (v : ℕ) → a ≤ v → v < a + n → p v ≡ true
all_in_range p a zero h v le lt = absurd (omega arith)
all_in_range p a (suc n) h v le lt = go (p a) refl h (all_in_range p (a + 1) n)
  where
    go : (b : Bool) → p a ≡ b → (b && list_all p (range_with_len (a + 1) n)) ≡ true → (list_all p (range_with_len (a + 1) n) ≡ true → (v : ℕ) → a + 1 ≤ v → v < a + 1 + n → p v ≡ true) → p v ≡ true
    go true e h rest = elim (cases_eq a v) [ inl same ↦ ap p (sym same) ∙ e | inr ne ↦ rest h v (omega arith) (omega arith) ]
    go false e h rest = absurd (false≢true h)

range_increasing : (a n : ℕ) → IsStrictlyIncreasing (range_with_len a n)
range_increasing a n k l =
    let long = length-range_with_len a n in
    let x = get_or-range_with_len a n k 0 (omega arith) in
    let y = get_or-range_with_len a n (k + 1) 0 (omega arith) in
    omega arith

pub needs_in_order : (rows : List (List Bool)) → All IsStrictlyIncreasing (map marked_places rows)
needs_in_order [] k d l = absurd (omega arith)
needs_in_order (m ∷ rows) zero d l = IsStrictlyIncreasing-filter (is_marked m) (range_with_len 0 (length m)) (range_increasing 0 (length m))
needs_in_order (m ∷ rows) (suc k) d l = needs_in_order rows k d (omega arith)

-- what a site needs follows from the flows and where they stand alone
module _ (p q : PlanView) (s : ℕ) (on : (i : ℕ) → stands p i s ≡ true → stands q i s ≡ true) (at : (i : ℕ) (flow : Flow) → flow_at p.flat i ≡ Some flow → flow_at q.flat i ≡ Some flow) where
  needed_too : (r : ℕ) → IsNeeded p s r → IsNeeded q s r
  needed_too x (read_there i r flow there here c) = read_there i r flow (on i there) (at i flow here) c
  needed_too x (clock_there i r flow there here c) = clock_there i r flow (on i there) (at i flow here) c
  needed_too x (clock_needed i r flow need here c) = clock_needed i r flow (needed_too i need) (at i flow here) c

-- the sites of one variable
sites_placed : (count : ℕ) (xs : List ℕ) → nat_lt 0 (length xs) ≡ true → AreSites count xs → IsPlacedAt count xs
sites_placed count xs some are =
    let later = AllPairs-from_increasing xs are.rising in
    record {
      some = ltb-true 0 (length xs) some;
      inside = λ k l. are.known k 0 l;
      in_order = λ j k jk l. later j k 0 jk l;
    }

row_placed : (count : ℕ) (placed : List (List ℕ)) (v : ℕ) → v < length placed → are_somewhere placed ≡ true → All (AreSites count) placed → IsPlacedAt count (row placed v)
row_placed count [] v l some each = absurd (omega arith)
row_placed count (xs ∷ placed) v l some each = go (nat_lt 0 (length xs)) refl some v l (λ h w lw. row_placed count placed w lw h (λ k d lk. each (suc k) d (omega arith)))
  where
    go : (b : Bool) → nat_lt 0 (length xs) ≡ b → (b && are_somewhere placed) ≡ true → (v : ℕ) → v < suc (length placed) → (are_somewhere placed ≡ true → (w : ℕ) → w < length placed → IsPlacedAt count (row placed w)) → IsPlacedAt count (row (xs ∷ placed) v)
    go true e h zero l rest = sites_placed count xs e (each 0 [] (omega arith))
    go true e h (suc v) l rest = rest h v (omega arith)
    go false e h v l rest = absurd (false≢true h)

module _ (flat : FlatView) (names : List (List ℕ)) (placed : List (List ℕ)) (rows : List (List Bool)) (capacity : ℕ) (is_flat : IsFlat flat) (long : length placed ≡ length flat.variables) (marks : AreAllMarks (bare flat [] placed) (length names) rows) where
  abbrev pub made : PlanView
  made = record { flat = flat; names = names; placed = placed; needs = map marked_places rows; links = links_below rows flat.owners placed (length flat.variables); capacity = capacity }

  placed_one : are_somewhere placed ≡ true → All (AreSites (length names)) placed → (v : ℕ) → v < length flat.variables → IsPlacedAt (length names) (row placed v)
  placed_one some each v l = row_placed (length names) placed v (omega (arith, long, l)) some each

  one_row : (together : are_together flat.owners placed ≡ true) (v : ℕ) → v < length flat.variables → row placed (slice_index flat.owners v) ≡ row placed v
  one_row together v l = (bytes_eq-Decides (row placed (slice_index flat.owners v)) (row placed v)).0 (all_in_range (λ u. bytes_eq (row placed (slice_index flat.owners u)) (row placed u)) 0 (length placed) together v (omega arith) (omega (arith, long, l)))

  needs_to : (s r : ℕ) → s < length names → Contains (row (map marked_places rows) s) r → IsNeeded made s r
  needs_to s r ls c =
      let m = marks_at rows s in
      let h = sym (in_marked m r) ∙ ap (is_in r) (sym (row_marked rows s)) ∙ contains_in r (row (map marked_places rows) s) c in
      needed_too (bare flat [] placed) made s (λ i e. e) (λ i flow e. e) r (((marks.each s ls).are r).0 h)

  needs_from : (s r : ℕ) → s < length names → IsNeeded made s r → Contains (row (map marked_places rows) s) r
  needs_from s r ls need =
      let m = marks_at rows s in
      let h = ((marks.each s ls).are r).1 (needed_too made (bare flat [] placed) s (λ i e. e) (λ i flow e. e) r need) in
      in_contains r (row (map marked_places rows) s) (ap (is_in r) (row_marked rows s) ∙ in_marked m r ∙ h)

  links_same : links_below rows flat.owners placed (length flat.variables) ≡ all_links made
  links_same = flat_map_same (λ v. some_links rows flat.owners placed v (length rows)) (links_of_variable made) of_variable (range_with_len 0 (length flat.variables))
    where
      taken : (v s : ℕ) → is_taken rows flat.owners placed v s ≡ is_linked made v s
      taken v s = ap (λ b. b && not (is_in s (sites_at flat.owners placed v))) (sym (ap (is_in v) (row_marked rows s) ∙ in_marked (marks_at rows s) v))

      of_variable : (v : ℕ) → some_links rows flat.owners placed v (length rows) ≡ links_of_variable made v
      of_variable v =
          ap (map (link_of flat.owners placed v)) (filter_same (is_taken rows flat.owners placed v) (is_linked made v) (taken v) (range_with_len 0 (length rows)))
          ∙ ap (λ n. map (link_of flat.owners placed v) (filter (is_linked made v) (range_with_len 0 n))) marks.long

  pub plan_is : 0 < length names → length names ≤ 16 → 1 ≤ capacity → capacity ≤ 1024 → are_somewhere placed ≡ true → All (AreSites (length names)) placed → are_together flat.owners placed ≡ true → IsPlan made
  plan_is some few room small somewhere inside together =
      record {
        flat_is = is_flat;
        some_sites = some;
        few_sites = few;
        room = room;
        small = small;
        placed_len = long;
        placed_is = placed_one somewhere inside;
        together = one_row together;
        needs_len = map_long marked_places rows ∙ marks.long;
        needs_are = λ s r ls. (needs_to s r ls, needs_from s r ls);
        links_are = links_same;
      }

  pub plan_parts : (some : 0 < length names) (few : length names ≤ 16) (room : 1 ≤ capacity) (small : capacity ≤ 1024) (somewhere : are_somewhere placed ≡ true) (inside : All (AreSites (length names)) placed) (together : are_together flat.owners placed ≡ true) (theirs : List (List ℕ)) (needs : List (List ℕ)) (links : List Link) → theirs ≡ names → needs ≡ map marked_places rows → links ≡ links_below rows flat.owners placed (length flat.variables) → IsPlan (record { flat = flat; names = theirs; placed = placed; needs = needs; links = links; capacity = capacity })
  plan_parts some few room small somewhere inside together theirs needs links n d k =
      let whole : PlanView = record { flat = flat; names = theirs; placed = placed; needs = needs; links = links; capacity = capacity } in
      let e : made ≡ whole = cc in
      subst IsPlan e (plan_is some few room small somewhere inside together)
