-- What a site's program has of the site's flows, and how many these are.
use Rattle.std.proofs.Common.{◌≡◌, ◌≢◌, ℕ, zero, suc, ◌+◌, ◌<◌, ◌≤◌, ◌*◌, ◌^◌, inl, inr, Bool, true, false, cond, List, [], ◌∷◌, ◌++◌, length, map, filter, nat_eq, set, get_or, Some, refl, sym, ap, ◌∙◌, subst, arith}
use Rattle.std.specs.Prelude.{slice_get, slice_index, unwrap_or, ◌&&◌, ◌||◌, is_some}
use Rattle.std.specs.List.{range_with_len}
use Rattle.std.specs.Option.{option_map}
use Rattle.std.proofs.lemmas.Bool.{cases_lt, false≢true}
use Rattle.std.proofs.lemmas.List.{length-append, length-map, map-append}
use Rattle.std.proofs.lemmas.List.Elements.{All-get_or}
use Rattle.std.proofs.lemmas.List.FromFn.{length-range_with_len}
use Rattle.std.proofs.lemmas.Option.{same_Some, slice_get-get_or, slice_get-map, get_or_from_slice_get}
use Rattle.luflow.specs.Program.{flows_of, reads, IsOrdered}
use Rattle.luflow.specs.Variables.{is_output_of}
use Rattle.luflow.proofs.Solutions.{some_at}
use Rattle.luworld.specs.Needs.{PlanView, IsPlan, home, stands}
use Rattle.luworld.specs.Jobs.{knows, link_into, outputs_of, sends, carriers, carried}
use Rattle.luworld.proofs.Fitting.{fits}
use Rattle.luplace.proofs.OwnColumns.{map_range}
use Rattle.lueval_lines.specs.Operations.{IsLonger, form_of}
use Rattle.lueval_lines.proofs.Lines.{few_branches}
use Rattle.lueval_lines.proofs.Spans.{form_same, inside_more, slice_get_front}
use Rattle.lusite_program.specs.declared.program.Part.{Part}
use Rattle.lusite_program.specs.declared.program.SiteFlow.{SiteFlow}
use Rattle.lusite_program.specs.Programs.{SiteProgramView, part_of, part_at, no_part, ranks_of, places_of, clock_at_rank, AreNumbers, HaveSame, IsSiteFlow}
use Rattle.lusite_program.proofs.Ranks.{places_has, rank_in}
use Rattle.lusite_program.proofs.Written.{slice_get-set_same, slice_get-set_other}

pub both : (a b : Bool) → a ≡ true → b ≡ true → (a && b) ≡ true
both true b ea eb = eb
both false b ea eb = absurd (false≢true ea)

-- a filter makes no list longer
pub filter_short : (p : ℕ → Bool) (xs : List ℕ) → length (filter p xs) ≤ length xs
filter_short p [] = omega arith
filter_short p (x ∷ xs) = go (p x) (filter_short p xs)
  where
    go : (b : Bool) → length (filter p xs) ≤ length xs → length (cond b (x ∷ filter p xs) (filter p xs)) ≤ length (x ∷ xs)
    go true h = omega (arith, h)
    go false h = omega (arith, h)

pub sends_short : (plan : PlanView) (s i : ℕ) → length (sends plan s i) ≤ length plan.links
sends_short plan s i = go (nat_eq (home plan i) s)
  where
    go : (b : Bool) → length (cond b (carriers plan i) []) ≤ length plan.links
    go true =
        let a = filter_short (λ l. nat_eq (carried plan l) i) (range_with_len 0 (length plan.links)) in
        let b = length-range_with_len 0 (length plan.links) in
        omega (arith, a, b)
    go false = omega arith

-- a site's part in a flow of its plan
pub part_there : (p : SiteProgramView) (i : ℕ) → i < flows_of p.plan.flat → part_at p i ≡ part_of p.plan p.site i
part_there p i l =
    let e : 0 + i ≡ i = omega arith in
    ap (λ o. unwrap_or o no_part) (map_range (part_of p.plan p.site) 0 (flows_of p.plan.flat) i l) ∙ ap (part_of p.plan p.site) e

-- an element of a filtered range
filtered : (p : ℕ → Bool) (a n k i : ℕ) → slice_get (filter p (range_with_len a n)) k ≡ Some i → (i < a + n) × (p i ≡ true)
filtered p a zero k i e = absurd cc
filtered p a (suc n) k i e = go (p a) refl k e (filtered p (a + 1) n)
  where
    go : (b : Bool) → p a ≡ b → (k : ℕ) → slice_get (cond b (a ∷ filter p (range_with_len (a + 1) n)) (filter p (range_with_len (a + 1) n))) k ≡ Some i → ((k i : ℕ) → slice_get (filter p (range_with_len (a + 1) n)) k ≡ Some i → (i < a + 1 + n) × (p i ≡ true)) → (i < a + suc n) × (p i ≡ true)
    go true e zero is rest = let same : Some a ≡ Some i = is in let x : a ≡ i = cc in (omega (arith, x), ap p (sym x) ∙ e)
    go true e (suc k) is rest = let w = rest k i is in (let l = w.0 in omega (arith, l), w.1)
    go false e k is rest = let w = rest k i is in (let l = w.0 in omega (arith, l), w.1)

pub output_there : (plan : PlanView) (k i : ℕ) → slice_get (outputs_of plan) k ≡ Some i → (i < length plan.flat.variables) × (is_output_of plan.flat i ≡ true)
output_there plan k i e = let w = filtered (is_output_of plan.flat) 0 (length plan.flat.variables) k i e in (let l = w.0 in omega (arith, l), w.1)

-- one more at the end of a list
pushed : {A : Type 0} (P : ℕ → A → Type 0) (xs : List A) (y : A) → P (length xs) y → ((k : ℕ) (x : A) → slice_get xs k ≡ Some x → P k x) → (k : ℕ) (x : A) → slice_get (xs ++ y ∷ []) k ≡ Some x → P k x
pushed P [] y here each zero x e = subst (P 0) (same_Some y x e) here
pushed P [] y here each (suc k) x e = absurd cc
pushed P (z ∷ xs) y here each zero x e = each zero x e
pushed P (z ∷ xs) y here each (suc k) x e = pushed (λ n. P (suc n)) xs y here (λ j w h. each (suc j) w h) k x e

-- more behind a list changes nothing of it
index_front : (xs ys : List ℕ) (i : ℕ) → i < length xs → slice_index (xs ++ ys) i ≡ slice_index xs i
index_front xs ys i l =
    let w = some_at xs i l in
    get_or_from_slice_get (xs ++ ys) i w.0 0 (slice_get_front xs ys i l ∙ w.1) ∙ sym (get_or_from_slice_get xs i w.0 0 w.1)

-- branches and links of other flows behind its own change nothing for a flow
longer_site_flow : (plan : PlanView) (s : ℕ) (old new links more : List ℕ) (p : ℕ) (site_flow : SiteFlow) → IsLonger old new → IsSiteFlow plan s old links p site_flow → IsSiteFlow plan s new (links ++ more) p site_flow
longer_site_flow plan s old new links more p site_flow longer is = record {
  numbers = is.numbers;
  numbered = is.numbered;
  flow = is.flow;
  there = is.there;
  place = is.place;
  form = ap (λ xs. form_of xs site_flow.line.operation) longer.is ∙ form_same old longer.more site_flow.line.operation is.inside ∙ is.form;
  inside = inside_more old new site_flow.line.operation longer is.inside;
  clock = is.clock;
  owner = is.owner;
  own = is.own;
  reported = is.reported;
  from = is.from;
  outs = is.outs;
  linked = let n = length-append links more in let w = is.linked in omega (arith, n, w);
  to = λ j l. index_front links more (site_flow.first + j) (let w = is.linked in omega (arith, w, l)) ∙ is.to j l;
}

-- they stay behind where each is put elsewhere
pub longer_moved : (f : ℕ → ℕ) (old new : List ℕ) → IsLonger old new → IsLonger (map f old) (map f new)
longer_moved f old new longer = record {
  more = map f longer.more;
  is = ap (map f) longer.is ∙ map-append f old longer.more;
  few = let n = length-map longer.more f in let few = longer.few in omega (arith, n, few);
}

pub site_flows_more : (plan : PlanView) (s : ℕ) (old new links more : List ℕ) (site_flows site_flows' : List SiteFlow) (k rank : ℕ) (site_flow : SiteFlow) → IsLonger old new → site_flows' ≡ site_flows ++ site_flow ∷ [] → length site_flows ≡ k → slice_get (ranks_of plan s) k ≡ Some rank → IsSiteFlow plan s new (links ++ more) rank site_flow → ((j p : ℕ) (x : SiteFlow) → slice_get (ranks_of plan s) j ≡ Some p → slice_get site_flows j ≡ Some x → IsSiteFlow plan s old links p x) → (j p : ℕ) (x : SiteFlow) → slice_get (ranks_of plan s) j ≡ Some p → slice_get site_flows' j ≡ Some x → IsSiteFlow plan s new (links ++ more) p x
site_flows_more plan s old new links more site_flows site_flows' k rank site_flow longer is len there last each j p x ep ex =
    let P : ℕ → SiteFlow → Type 0 = λ i y. (q : ℕ) → slice_get (ranks_of plan s) i ≡ Some q → IsSiteFlow plan s new (links ++ more) q y in
    let here : P (length site_flows) site_flow = λ q eq. subst (λ (r : ℕ). IsSiteFlow plan s new (links ++ more) r site_flow) (same_Some rank q (sym there ∙ ap (slice_get (ranks_of plan s)) (sym len) ∙ eq)) last in
    pushed P site_flows site_flow here (λ i y ey q eq. longer_site_flow plan s old new links more q y longer (each i q y eq ey)) j x (ap (λ (ys : List SiteFlow). slice_get ys j) (sym is) ∙ ex) p ep

-- whether its clock is that of the one before it, one flow later
pub same_more : (plan : PlanView) (s : ℕ) (site_flows : List SiteFlow) (next : SiteFlow) (rank : ℕ) → HaveSame plan s site_flows → ((j p : ℕ) → j + 1 ≡ length site_flows → slice_get (ranks_of plan s) j ≡ Some p → next.same ≡ true → clock_at_rank plan p ≡ clock_at_rank plan rank) → slice_get (ranks_of plan s) (length site_flows) ≡ Some rank → (site_flows' : List SiteFlow) → site_flows' ≡ site_flows ++ next ∷ [] → HaveSame plan s site_flows'
same_more plan s site_flows next rank so_far here there site_flows' is j p q x ep eq ex on =
    let P : ℕ → SiteFlow → Type 0 = λ i y. (k : ℕ) → k + 1 ≡ i → (a b : ℕ) → slice_get (ranks_of plan s) k ≡ Some a → slice_get (ranks_of plan s) i ≡ Some b → y.same ≡ true → clock_at_rank plan a ≡ clock_at_rank plan b in
    let last : P (length site_flows) next = λ k ek a b ea eb own. here k a ek ea own ∙ ap (clock_at_rank plan) (same_Some rank b (sym there ∙ eb)) in
    pushed P site_flows next last (λ i y ey k ek a b ea eb own. so_far k a b y ea (ap (slice_get (ranks_of plan s)) ek ∙ eb) (ap (slice_get site_flows) ek ∙ ey) own) (j + 1) x (ap (λ (ys : List SiteFlow). slice_get ys (j + 1)) (sym is) ∙ ex) j refl p q ep eq on

-- a site has few flows, so their merges have few branches
pub few_site_flows : (plan : PlanView) (s k : ℕ) (ranks branches : List ℕ) → IsPlan plan → ranks ≡ ranks_of plan s → k < length ranks → length branches ≤ k * 255 → length branches < 2 ^ 32
few_site_flows plan s k ranks branches is_plan e l h =
    let short = filter_short (λ p. knows plan s (slice_index plan.flat.order p)) (range_with_len 0 (length plan.flat.order)) in
    let n = length-range_with_len 0 (length plan.flat.order) in
    let m = ap length e in
    few_branches plan.flat branches k is_plan.flat_is (omega (arith, short, n, m, l)) h

-- a flow goes out by few links
pub few_sends : (plan : PlanView) (s i : ℕ) → IsPlan plan → length (sends plan s i) ≤ 65536
few_sends plan s i is_plan =
    let n = sends_short plan s i in
    let few = (fits plan is_plan).few_links in
    omega (arith, n, few)

-- the flow of a number, and its rank
pub row_rank : (plan : PlanView) (s k rank : ℕ) → slice_get (ranks_of plan s) k ≡ Some rank → slice_get (places_of plan s) k ≡ Some (slice_index plan.flat.order rank)
row_rank plan s k rank e = slice_get-map (slice_index plan.flat.order) (ranks_of plan s) k ∙ ap (option_map (slice_index plan.flat.order)) e

-- the site's part in it
pub part_rank : (plan : PlanView) (s k rank : ℕ) (parts : List Part) (d : Part) → parts ≡ map (part_of plan s) (places_of plan s) → slice_get (ranks_of plan s) k ≡ Some rank → get_or parts k d ≡ part_of plan s (slice_index plan.flat.order rank)
part_rank plan s k rank parts d e there =
    get_or_from_slice_get parts k (part_of plan s (slice_index plan.flat.order rank)) d
    (ap (λ (ps : List Part). slice_get ps k) e ∙ slice_get-map (part_of plan s) (places_of plan s) k ∙ ap (option_map (part_of plan s)) (row_rank plan s k rank there))

-- a rank of the site's own
pub rank_below : (plan : PlanView) (s k : ℕ) (ranks : List ℕ) → ranks ≡ ranks_of plan s → k < length ranks → (slice_get (ranks_of plan s) k ≡ Some (slice_index ranks k)) × (slice_index ranks k < length plan.flat.order)
rank_below plan s k ranks e l =
    let there : slice_get (ranks_of plan s) k ≡ Some (slice_index ranks k) = ap (λ (rs : List ℕ). slice_get rs k) (sym e) ∙ slice_get-get_or ranks k 0 l in
    (there, rank_in (record { plan = plan; site = s }) k (slice_index ranks k) there)

-- the number of one flow more is noted at its place
pub number_noted : (places numbers : List ℕ) (k : ℕ) → ((i j : ℕ) → i < j → j < length places → slice_index places i ≢ slice_index places j) → k < length places → slice_index places k < length numbers → ((j i : ℕ) → j < k → slice_get places j ≡ Some i → slice_get numbers i ≡ Some j) → (j i : ℕ) → j < k + 1 → slice_get places j ≡ Some i → slice_get (set numbers (slice_index places k) k) i ≡ Some j
number_noted places numbers k once lk within done j i l e =
    let at = get_or_from_slice_get places j i 0 e in
    elim (cases_lt j k) [
      | inl lt ↦ slice_get-set_other numbers (slice_index places k) i k (λ same. once j k lt lk (at ∙ same)) ∙ done j i lt e
      | inr ge ↦
          let here : j ≡ k = omega (arith, l, ge) in
          let place : i ≡ slice_index places k = sym at ∙ ap (slice_index places) here in
          ap (slice_get (set numbers (slice_index places k) k)) place ∙ slice_get-set_same numbers (slice_index places k) k within ∙ ap Some (sym here)
    ]

-- a site knows few flows, each at one place
pub few_places : (plan : PlanView) (s : ℕ) → IsPlan plan → length (places_of plan s) < 65536
few_places plan s is_plan =
    let short = filter_short (λ p. knows plan s (slice_index plan.flat.order p)) (range_with_len 0 (length plan.flat.order)) in
    let n = length-range_with_len 0 (length plan.flat.order) in
    let m = length-map (ranks_of plan s) (slice_index plan.flat.order) in
    let count = is_plan.flat_is.ranked.count in
    let r = length-map plan.flat.flows reads in
    let few = is_plan.flat_is.few in
    omega (arith, short, n, m, count, r, few)

pub few_ranks : (plan : PlanView) (s : ℕ) (ranks : List ℕ) → IsPlan plan → ranks ≡ ranks_of plan s → length ranks ≤ 4096
few_ranks plan s ranks is_plan e =
    let short = filter_short (λ p. knows plan s (slice_index plan.flat.order p)) (range_with_len 0 (length plan.flat.order)) in
    let n = length-range_with_len 0 (length plan.flat.order) in
    let count = is_plan.flat_is.ranked.count in
    let r = length-map plan.flat.flows reads in
    let few = is_plan.flat_is.few in
    let m = ap length e in
    omega (arith, short, n, m, count, r, few)

-- the place of a rank's flow
pub place_below : (plan : PlanView) (p : ℕ) → IsOrdered plan.flat → p < length plan.flat.order → slice_index plan.flat.order p < flows_of plan.flat
place_below plan p ordered lp = All-get_or (λ j. j < flows_of plan.flat) plan.flat.order p 0 lp ordered.only_flows

-- a flow that stands at its home has a number there
pub number_home : (plan : PlanView) (s i : ℕ) (numbers : List ℕ) → IsPlan plan → AreNumbers plan s numbers → i < flows_of plan.flat → home plan i ≡ s → slice_get (places_of plan s) (slice_index numbers i) ≡ Some i
number_home plan s i numbers is_plan are li e =
    let ordered = is_plan.flat_is.ordered in
    let stands_here : stands plan i s ≡ true = subst (λ (h : ℕ). stands plan i h ≡ true) e ((fits plan is_plan).stands_home i li) in
    let w = places_has (record { plan = plan; site = s }) ordered i li (ap (λ b. b || is_some (link_into plan s i)) stands_here) in
    let here : slice_get (places_of plan s) w.0 ≡ Some i = slice_get-get_or (places_of plan s) w.0 0 w.1 ∙ ap Some w.2 in
    ap (slice_get (places_of plan s)) (get_or_from_slice_get numbers i w.0 0 (are w.0 i here)) ∙ here

-- the place of an output
pub output_within : (plan : PlanView) (k i : ℕ) → IsPlan plan → slice_get (outputs_of plan) k ≡ Some i → (i < flows_of plan.flat) × (is_output_of plan.flat i ≡ true)
output_within plan k i is_plan e =
    let first = (fits plan is_plan).variables_first in
    let w = output_there plan k i e in
    (let l = w.0 in omega (arith, first, l), w.1)
