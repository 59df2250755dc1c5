-- What a pass over the links finds is what a site's parts have.
use Rattle.std.proofs.Common.{◌≡◌, ℕ, zero, suc, ◌+◌, ◌<◌, ◌≤◌, inl, inr, Bool, true, false, cond, List, [], ◌∷◌, ◌++◌, length, take, map, nat_eq, filter, flat_map, Option, Some, None, refl, sym, ap, ap₂, ◌∙◌, subst, arith}
use Rattle.std.specs.Prelude.{slice_get, ◌&&◌, unwrap_or}
use Rattle.std.specs.List.{range_with_len, position_from}
use Rattle.std.specs.Option.{option_map}
use Rattle.std.proofs.lemmas.Bool.{cases_eq, ne_eqb}
use Rattle.std.proofs.lemmas.Option.{same_Some, none-some, slice_get_within}
use Rattle.std.proofs.lemmas.Iterator.Adapters.{position_from-zero}
use Rattle.std.proofs.lemmas.List.{length-take-le}
use Rattle.std.proofs.Math.Seq.{take-length}
use Rattle.luflow.proofs.Solutions.{some_at}
use Rattle.luworld.specs.declared.link.Link.{Link}
use Rattle.luworld.specs.Needs.{PlanView, sites_of, home, is_linked, links_of_variable, IsPlan}
use Rattle.luworld.specs.Jobs.{is_into, link_into, carried, sends}
use Rattle.luworld.proofs.Wired.{Each, each_append, each_at}
use Rattle.lusite_program.specs.Carriers.{LinkRow, or_link, is_out_of, leaves, AreLonger, AreCarriersTo, AreCarriers}
use Rattle.lusite_program.proofs.Ranges.{filter_more}

-- one link more
pub source_more : (p : Link → Bool) (a : ℕ) (xs : List Link) (k : Link) → position_from p a (xs ++ k ∷ []) ≡ or_link (position_from p a xs) (p k) (a + length xs)
source_more p a [] k = let z : a ≡ a + 0 = omega arith in ap (λ n. cond (p k) (Some n) None) z
source_more p a (x ∷ xs) k = go (p x) (source_more p (a + 1) xs k)
  where
    go : (b : Bool) → position_from p (a + 1) (xs ++ k ∷ []) ≡ or_link (position_from p (a + 1) xs) (p k) (a + 1 + length xs) → cond b (Some a) (position_from p (a + 1) (xs ++ k ∷ [])) ≡ or_link (cond b (Some a) (position_from p (a + 1) xs)) (p k) (a + suc (length xs))
    go true h = refl
    go false h = let e : a + 1 + length xs ≡ a + suc (length xs) = omega arith in h ∙ ap (or_link (position_from p (a + 1) xs) (p k)) e

pub take_more : {X : Type 0} (xs : List X) (n : ℕ) (x : X) → slice_get xs n ≡ Some x → take (n + 1) xs ≡ take n xs ++ x ∷ []
take_more [] n x e = absurd (none-some x e)
take_more (y ∷ xs) zero x e = ap (λ z. z ∷ []) (same_Some y x e)
take_more (y ∷ xs) (suc n) x e =
    let c : suc n + 1 ≡ suc (n + 1) = omega arith in
    ap (λ m. take m (y ∷ xs)) c ∙ ap (λ zs. y ∷ zs) (take_more xs n x e)

-- the link by which a site takes a flow, among the first links
pub source_step : (links : List Link) (s i l : ℕ) (k : Link) → slice_get links l ≡ Some k → l < length links → position_from (is_into s i) 0 (take (l + 1) links) ≡ or_link (position_from (is_into s i) 0 (take l links)) (is_into s i k) l
source_step links s i l k e lt =
    let n : 0 + length (take l links) ≡ l = omega (arith, length-take-le l links (omega arith)) in
    ap (position_from (is_into s i) 0) (take_more links l k e) ∙ source_more (is_into s i) 0 (take l links) k
    ∙ ap (or_link (position_from (is_into s i) 0 (take l links)) (is_into s i k)) n

pub source_all : (plan : PlanView) (s i : ℕ) → position_from (is_into s i) 0 (take (length plan.links) plan.links) ≡ link_into plan s i
source_all plan s i = ap (position_from (is_into s i) 0) (take-length plan.links) ∙ sym (position_from-zero (is_into s i) plan.links)

leaves_there : (links : List Link) (s i l : ℕ) (k : Link) → slice_get links l ≡ Some k → leaves links s i l ≡ is_out_of s i k
leaves_there links s i l k e = ap (λ o. unwrap_or (option_map (is_out_of s i) o) false) e

-- a link of a plan goes out of the home of its flow
module _ (plan : PlanView) where
  abbrev FromHome : Link → Type 0
  FromHome k = k.from ≡ home plan k.flow

  some_home : (v : ℕ) (ss : List ℕ) → Each FromHome (map (λ s. record { flow = v; from = home plan v; to = s }) ss)
  some_home v [] = tt
  some_home v (s ∷ ss) = (refl, some_home v ss)

  all_home : (vs : List ℕ) → Each FromHome (flat_map (links_of_variable plan) vs)
  all_home [] = tt
  all_home (v ∷ vs) = each_append FromHome (links_of_variable plan v) (flat_map (links_of_variable plan) vs) (some_home v (filter (is_linked plan v) (range_with_len 0 (sites_of plan)))) (all_home vs)

  pub from_home : IsPlan plan → (l : ℕ) (k : Link) → slice_get plan.links l ≡ Some k → k.from ≡ home plan k.flow
  from_home ok l k e = each_at FromHome plan.links (subst (Each FromHome) (sym ok.links_are) (all_home (range_with_len 0 (length plan.flat.variables)))) l k e

-- two tests that agree on a range leave the same of it
pub filter_same : (p q : ℕ → Bool) (a n : ℕ) → ((k : ℕ) → a ≤ k → k < a + n → p k ≡ q k) → filter p (range_with_len a n) ≡ filter q (range_with_len a n)
filter_same p q a zero h = refl
filter_same p q a (suc n) h =
    ap₂ (λ b xs. cond b (a ∷ xs) xs) (h a (omega arith) (omega arith)) (filter_same p q (a + 1) n (λ k le lt. h k (omega arith) (omega arith)))

and_true : (b : Bool) → (b && true) ≡ b
and_true true = refl
and_true false = refl

and_false : (b : Bool) → (b && false) ≡ false
and_false true = refl
and_false false = refl

filter_all : (p : ℕ → Bool) (xs : List ℕ) → filter (λ l. p l && true) xs ≡ filter p xs
filter_all p [] = refl
filter_all p (x ∷ xs) = ap₂ (λ b ys. cond b (x ∷ ys) ys) (and_true (p x)) (filter_all p xs)

filter_none : (p : ℕ → Bool) (xs : List ℕ) → filter (λ l. p l && false) xs ≡ []
filter_none p [] = refl
filter_none p (x ∷ xs) = ap₂ (λ b ys. cond b (x ∷ ys) ys) (and_false (p x)) (filter_none p xs)

filter_cond : (p : ℕ → Bool) (b : Bool) (xs : List ℕ) → filter (λ l. p l && b) xs ≡ cond b (filter p xs) []
filter_cond p true xs = filter_all p xs
filter_cond p false xs = filter_none p xs

-- a link leaves a site with a flow where it carries the flow and the site is the flow's home
leaves_is : (plan : PlanView) (ok : IsPlan plan) (s i l : ℕ) → l < length plan.links → leaves plan.links s i l ≡ (nat_eq (carried plan l) i && nat_eq (home plan i) s)
leaves_is plan ok s i l lt =
    let w = some_at plan.links l lt in
    let k = w.0 in
    let flow : carried plan l ≡ k.flow = ap (λ o. unwrap_or (option_map (λ (x : Link). x.flow) o) 0) w.1 in
    leaves_there plan.links s i l k w.1
    ∙ out_of_home plan s i k (from_home plan ok l k w.1)
    ∙ ap (λ f. nat_eq f i && nat_eq (home plan i) s) (sym flow)
  where
    out_of_home : (plan : PlanView) (s i : ℕ) (k : Link) → k.from ≡ home plan k.flow → is_out_of s i k ≡ (nat_eq k.flow i && nat_eq (home plan i) s)
    out_of_home plan s i k h = elim (cases_eq k.flow i) [
      | inl same ↦ ap (λ v. nat_eq k.flow i && nat_eq v s) (h ∙ ap (home plan) same)
      | inr other ↦ ap (λ b. b && nat_eq k.from s) (ne_eqb k.flow i other) ∙ sym (ap (λ b. b && nat_eq (home plan i) s) (ne_eqb k.flow i other))
    ]

pub sent_all : (plan : PlanView) (ok : IsPlan plan) (s i : ℕ) → filter (leaves plan.links s i) (range_with_len 0 (length plan.links)) ≡ sends plan s i
sent_all plan ok s i =
    filter_same (leaves plan.links s i) (λ l. nat_eq (carried plan l) i && nat_eq (home plan i) s) 0 (length plan.links) (λ l le lt. leaves_is plan ok s i l (omega arith))
    ∙ filter_cond (λ l. nat_eq (carried plan l) i) (nat_eq (home plan i) s) (range_with_len 0 (length plan.links))

-- one link of the pass
pub pass_step : (links : List Link) (s flows l : ℕ) (k : Link) (sources sources' : List (Option ℕ)) (rows rows' : List LinkRow) → AreCarriersTo links s flows l sources rows → slice_get links l ≡ Some k → l < length links → length sources' ≡ length sources → ((i : ℕ) (x : Option ℕ) → slice_get sources i ≡ Some x → slice_get sources' i ≡ Some (or_link x (nat_eq k.flow i && nat_eq k.to s) l)) → AreLonger rows (λ i. nat_eq k.flow i && nat_eq k.from s) l rows' → AreCarriersTo links s flows (l + 1) sources' rows'
pass_step links s flows l k sources sources' rows rows' so_far e lt len source row = record {
  sources_len = len ∙ so_far.sources_len;
  rows_len = row.len ∙ so_far.rows_len;
  source = λ i li. source i (position_from (is_into s i) 0 (take l links)) (so_far.source i li) ∙ ap Some (sym (source_step links s i l k e lt));
  row = λ i y there.
      let li = slice_get_within rows' i y there in
      let old = some_at rows i (omega (arith, li, row.len)) in
      row.each i old.0 old.1 y there
      ∙ ap₂ (λ xs b. xs ++ cond b (l ∷ []) []) (so_far.row i old.0 old.1) (sym (leaves_there links s i l k e))
      ∙ sym (filter_more (leaves links s i) l);
}

-- what is found for a place, once all links were passed
pub row_found : (plan : PlanView) (ok : IsPlan plan) (s flows i : ℕ) (sources : List (Option ℕ)) (rows : List LinkRow) (row : LinkRow) → AreCarriers plan.links s flows sources rows → slice_get rows i ≡ Some row → row.items ≡ sends plan s i
row_found plan ok s flows i sources rows row all there = all.row i row there ∙ sent_all plan ok s i

pub source_there : (plan : PlanView) (s flows i : ℕ) (sources : List (Option ℕ)) (rows : List LinkRow) → AreCarriers plan.links s flows sources rows → i < flows → slice_get sources i ≡ Some (link_into plan s i)
source_there plan s flows i sources rows all li = all.source i li ∙ ap Some (source_all plan s i)
