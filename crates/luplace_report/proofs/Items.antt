-- What a site does at an instant, and what passes over a link, counted.
use Rattle.std.proofs.Common.{◌≡◌, ◌≢◌, inl, inr, zero-add, ℕ, zero, suc, ◌+◌, ◌<◌, ◌≤◌, Bool, true, false, cond, List, [], ◌∷◌, length, map, get_or, nat_eq, filter, sum_by, count_by, Some, refl, sym, ap, ap₂, ◌∙◌, subst, arith, length-append}
use Rattle.std.specs.Prelude.{slice_get, All, Contains, not, ◌||◌, ◌&&◌, ◌==◌, nat_lt, unwrap_or, flat_map}
use Rattle.std.specs.List.{range_with_len}
use Rattle.std.specs.Option.{option_map}
use Rattle.std.proofs.lemmas.Bool.{cases_eq, true≢false, eqb-true, eq-eqb, ne_eqb, lt-ltb}
use Rattle.std.proofs.lemmas.List.{length-map}
use Rattle.std.proofs.lemmas.List.Concat.{length-flat_map}
use Rattle.std.proofs.lemmas.List.FromFn.{length-range_with_len, get_or-range_with_len}
use Rattle.std.proofs.lemmas.List.Sums.{sum_by-cons, sum_by-append, length-filter}
use Rattle.std.proofs.lemmas.Option.{slice_get_within, slice_get-get_or, get_or_from_slice_get}
use Rattle.luflow.specs.Program.{flows_of}
use Rattle.luworld.specs.declared.link.Link.{Link}
use Rattle.luworld.specs.Systems.{Compute, Puts, Takes, puts}
use Rattle.luworld.specs.Outline.{Outline, links_of, message_items, compute_items, flow_items, round_cell}
use Rattle.luflow.specs.Rank.{row}
use Rattle.luworld.specs.Needs.{PlanView, stands, home, is_in}
use Rattle.luworld.specs.Jobs.{JobView, IsJobView, outline, streams_of, carried, receiver_of}
use Rattle.luworld.proofs.Fitting.{fits, job_of_run}
use Rattle.luworld.proofs.Outlines.{is_outline}
use Rattle.luplace.specs.Crews.{flows_at}
use Rattle.luplace_report.specs.Table.{received_count, sent_count, item_count, AreItems, ItemsLaw, AreMessages, MessagesLaw}
use Rattle.luplace_report.proofs.Causes.{sent, IsSent, main, not_true, and_second}

-- SUMS

abbrev one_if : Bool → ℕ
one_if b = cond b 1 0

abbrev none_if : Bool → ℕ
none_if b = cond b 0 0

sum_same : {X : Type 0} (f g : X → ℕ) (xs : List X) → All (λ x. f x ≡ g x) xs → sum_by f xs ≡ sum_by g xs
sum_same f g [] h = refl
sum_same f g (x ∷ xs) h =
    let rest = sum_same f g xs (λ k d l. h (suc k) d (omega arith)) in
    sum_by-cons f x xs ∙ ap₂ (λ a b. a + b) (h 0 x (omega arith)) rest ∙ sym (sum_by-cons g x xs)

sum_le : {X : Type 0} (f g : X → ℕ) (xs : List X) → ((x : X) → f x ≤ g x) → sum_by f xs ≤ sum_by g xs
sum_le f g [] h = omega arith
sum_le f g (x ∷ xs) h = omega (arith, sum_by-cons f x xs, sum_by-cons g x xs, h x, sum_le f g xs h)

sum_both : {X : Type 0} (f g : X → ℕ) (xs : List X) → sum_by f xs + sum_by g xs ≡ sum_by (λ x. f x + g x) xs
sum_both f g [] = refl
sum_both f g (x ∷ xs) = omega (arith, sum_by-cons f x xs, sum_by-cons g x xs, sum_by-cons (λ y. f y + g y) x xs, sum_both f g xs)

sum_zero : {X : Type 0} (q : X → Bool) (xs : List X) → sum_by (λ x. none_if (q x)) xs ≡ 0
sum_zero q [] = refl
sum_zero q (x ∷ xs) = omega (arith, sum_by-cons (λ y. none_if (q y)) x xs, none (q x), sum_zero q xs)
  where
    none : (b : Bool) → none_if b ≡ 0
    none true = refl
    none false = refl

everywhere : {X : Type 0} (P : X → Type 0) (xs : List X) → ((x : X) → P x) → All P xs
everywhere P xs h k d l = h (get_or xs k d)

count_some : (i : ℕ) (xs : List ℕ) → Contains xs i → 1 ≤ count_by (nat_eq i) xs
count_some i [] c = absurd (omega (arith, c.1))
count_some i (x ∷ xs) (k, lt, e) = go k lt e (λ j l f. count_some i xs (j, l, f))
  where
    go : (k : ℕ) → k < suc (length xs) → get_or (x ∷ xs) k i ≡ i → ((j : ℕ) → j < length xs → get_or xs j i ≡ i → 1 ≤ count_by (nat_eq i) xs) → 1 ≤ count_by (nat_eq i) (x ∷ xs)
    go zero lt e rest = omega (arith, sum_by-cons (λ y. one_if (nat_eq i y)) x xs, ap one_if (eq-eqb i x (sym e)))
    go (suc j) lt e rest = omega (arith, sum_by-cons (λ y. one_if (nat_eq i y)) x xs, rest j (omega (arith, lt)) e)

-- how often a key is met, summed over the keys, is how many keys are met, where each is met once
module _ (key : ℕ → ℕ) (q : ℕ → Bool) (ys : List ℕ) where
  abbrev met : ℕ → ℕ
  met x = count_by (λ y. nat_eq (key y) x && q y) ys

  abbrev often : List ℕ → ℕ → ℕ
  often xs y = cond (q y) (count_by (nat_eq (key y)) xs) 0

  one_more_met : (x : ℕ) (xs : List ℕ) (y : ℕ) → one_if (nat_eq (key y) x && q y) + often xs y ≡ often (x ∷ xs) y
  one_more_met x xs y = go (q y) (nat_eq (key y) x) refl
    where
      go : (b c : Bool) → nat_eq (key y) x ≡ c → one_if (c && b) + cond b (count_by (nat_eq (key y)) xs) 0 ≡ cond b (count_by (nat_eq (key y)) (x ∷ xs)) 0
      go true c e =
          let a = sum_by-cons (λ z. one_if (nat_eq (key y) z)) x xs in
          let d = ap one_if e in
          let t = taken c in
          omega (arith, a, d, t)
        where
          taken : (c : Bool) → one_if (c && true) ≡ one_if c
          taken true = refl
          taken false = refl
      go false true e = refl
      go false false e = refl

  swap : (xs : List ℕ) → sum_by met xs ≡ sum_by (often xs) ys
  swap [] = sym (sum_zero q ys)
  swap (x ∷ xs) =
      sum_by-cons met x xs
      ∙ ap (λ n. met x + n) (swap xs)
      ∙ sum_both (λ y. one_if (nat_eq (key y) x && q y)) (often xs) ys
      ∙ sum_same (λ y. one_if (nat_eq (key y) x && q y) + often xs y) (often (x ∷ xs)) ys (everywhere (λ y. one_if (nat_eq (key y) x && q y) + often xs y ≡ often (x ∷ xs) y) ys (one_more_met x xs))

  all_met : (xs : List ℕ) → All (λ y. count_by (nat_eq (key y)) xs ≡ 1) ys → sum_by met xs ≡ count_by q ys
  all_met xs once = swap xs ∙ sum_same (often xs) (λ y. one_if (q y)) ys (λ k d l. ap (λ n. cond (q (get_or ys k d)) n 0) (once k d l))

-- what passes and is the one number of a range
past : (q : ℕ → Bool) (x a n : ℕ) → x < a → count_by (λ y. nat_eq y x && q y) (range_with_len a n) ≡ 0
past q x a zero l = refl
past q x a (suc n) l =
    let head = ap (λ b. one_if (b && q a)) (ne_eqb a x (λ e. omega (arith, e))) in
    omega (arith, sum_by-cons (λ y. one_if (nat_eq y x && q y)) a (range_with_len (a + 1) n), head, past q x (a + 1) n (omega arith))

that_one : (q : ℕ → Bool) (x a n : ℕ) → a ≤ x → x < a + n → count_by (λ y. nat_eq y x && q y) (range_with_len a n) ≡ one_if (q x)
that_one q x a zero le lt = absurd (omega arith)
that_one q x a (suc n) le lt = elim (cases_eq a x) [
  | inl e ↦
      let head = ap (λ b. one_if (b && q a)) (eq-eqb a x e) in
      let same = ap (λ y. one_if (q y)) e in
      omega (arith, sum_by-cons (λ y. one_if (nat_eq y x && q y)) a (range_with_len (a + 1) n), head, same, past q x (a + 1) n (omega (arith, e)))
  | inr ne ↦
      let head = ap (λ b. one_if (b && q a)) (ne_eqb a x ne) in
      omega (arith, sum_by-cons (λ y. one_if (nat_eq y x && q y)) a (range_with_len (a + 1) n), head, that_one q x (a + 1) n (omega arith) (omega arith))
]

range_all : (P : ℕ → Type 0) (n : ℕ) → ((y : ℕ) → y < n → P y) → All P (range_with_len 0 n)
range_all P n h k d l =
    let long : k < n = omega (arith, l, length-range_with_len 0 n) in
    let is : get_or (range_with_len 0 n) k d ≡ k = get_or-range_with_len 0 n k d long ∙ zero-add k in
    subst P (sym is) (h k long)

-- counting what passes two tests
count_both : (r c : ℕ → Bool) (xs : List ℕ) → count_by r (filter c xs) ≡ count_by (λ x. c x && r x) xs
count_both r c [] = refl
count_both r c (x ∷ xs) = go (c x) refl (count_both r c xs)
  where
    go : (b : Bool) → c x ≡ b → count_by r (filter c xs) ≡ count_by (λ y. c y && r y) xs → count_by r (cond b (x ∷ filter c xs) (filter c xs)) ≡ count_by (λ y. c y && r y) (x ∷ xs)
    go true e rest = omega (arith, sum_by-cons (λ y. one_if (r y)) x (filter c xs), sum_by-cons (λ y. one_if (c y && r y)) x xs, ap (λ b. one_if (b && r x)) e, rest)
    go false e rest = omega (arith, sum_by-cons (λ y. one_if (c y && r y)) x xs, ap (λ b. one_if (b && r x)) e, rest)

-- counting by number, and by item
by_number : {X : Type 0} (p : X → Bool) (q : ℕ → Bool) (a : ℕ) (xs : List X) → ((k : ℕ) (x : X) → slice_get xs k ≡ Some x → q (a + k) ≡ p x) → count_by q (range_with_len a (length xs)) ≡ count_by p xs
by_number p q a [] h = refl
by_number p q a (x ∷ xs) h =
    let z : a + 0 ≡ a = omega arith in
    let head = ap one_if (ap q (sym z) ∙ h 0 x refl) in
    let rest = by_number p q (a + 1) xs (λ k y at. let s : a + 1 + k ≡ a + suc k = omega arith in ap q s ∙ h (suc k) y at) in
    omega (arith, sum_by-cons (λ y. one_if (q y)) a (range_with_len (a + 1) (length xs)), sum_by-cons (λ y. one_if (p y)) x xs, head, rest)

-- A SITE'S MESSAGES

module _ (job : JobView) (run : IsJobView job) (s : ℕ) where
  abbrev plan : PlanView
  plan = job.plan

  abbrev o : Outline
  o = outline job (streams_of job)

  abbrev order : List ℕ
  order = job.plan.flat.order

  abbrev numbers : List ℕ
  numbers = range_with_len 0 (length job.plan.links)

  -- whether a link touches the site
  abbrev touches : ℕ → Bool
  touches l = nat_eq (home plan (carried plan l)) s || nat_eq (receiver_of plan l) s

  messages_are : (i : ℕ) → length (message_items o s i) ≡ met (carried plan) touches numbers i
  messages_are i = go (nat_eq (home plan i) s) refl
    where
      both_sent : nat_eq (home plan i) s ≡ true → (l : ℕ) → (b : Bool) → nat_eq (carried plan l) i ≡ b → b ≡ (b && touches l)
      both_sent at l true e = sym (ap (λ b. b || nat_eq (receiver_of plan l) s) (ap (λ f. nat_eq (home plan f) s) (eqb-true (carried plan l) i e) ∙ at))
      both_sent at l false e = refl

      both_taken : nat_eq (home plan i) s ≡ false → (l : ℕ) → (b : Bool) → nat_eq (carried plan l) i ≡ b → (b && nat_eq (receiver_of plan l) s) ≡ (b && touches l)
      both_taken off l true e = sym (ap (λ b. b || nat_eq (receiver_of plan l) s) (ap (λ f. nat_eq (home plan f) s) (eqb-true (carried plan l) i e) ∙ off))
      both_taken off l false e = refl

      go : (b : Bool) → nat_eq (home plan i) s ≡ b → length (cond b (map Puts (links_of o i)) (map Takes (filter (λ l. nat_eq (receiver_of plan l) s) (links_of o i)))) ≡ met (carried plan) touches numbers i
      go true at =
          length-map (links_of o i) Puts
          ∙ length-filter (λ l. nat_eq (carried plan l) i) numbers
          ∙ sum_same (λ l. one_if (nat_eq (carried plan l) i)) (λ l. one_if (nat_eq (carried plan l) i && touches l)) numbers
          (everywhere (λ l. one_if (nat_eq (carried plan l) i) ≡ one_if (nat_eq (carried plan l) i && touches l)) numbers (λ l. ap one_if (both_sent at l (nat_eq (carried plan l) i) refl)))
      go false off =
          length-map (filter (λ l. nat_eq (receiver_of plan l) s) (links_of o i)) Takes
          ∙ length-filter (λ l. nat_eq (receiver_of plan l) s) (links_of o i)
          ∙ count_both (λ l. nat_eq (receiver_of plan l) s) (λ l. nat_eq (carried plan l) i) numbers
          ∙ sum_same (λ l. one_if (nat_eq (carried plan l) i && nat_eq (receiver_of plan l) s)) (λ l. one_if (nat_eq (carried plan l) i && touches l)) numbers
          (everywhere (λ l. one_if (nat_eq (carried plan l) i && nat_eq (receiver_of plan l) s) ≡ one_if (nat_eq (carried plan l) i && touches l)) numbers (λ l. ap one_if (both_taken off l (nat_eq (carried plan l) i) refl)))

  all_messages : sum_by (λ i. length (message_items o s i)) order ≡ count_by touches numbers
  all_messages =
      sum_same (λ i. length (message_items o s i)) (met (carried plan) touches numbers) order (everywhere (λ i. length (message_items o s i) ≡ met (carried plan) touches numbers i) order messages_are)
      ∙ all_met (carried plan) touches numbers order
      (range_all (λ l. count_by (nat_eq (carried plan l)) order ≡ 1) (length plan.links) (λ l lt. (is_outline job (job_of_run job run)).linked_once l lt))

  -- a link touches the site as its sender or as its receiver, and not as both
  abbrev ends : Link → Bool
  ends k = (k.from == s) || (k.to == s)

  sent_of : (l : ℕ) (k : Link) → slice_get plan.links l ≡ Some k → IsSent plan (main plan run.plan_is) k
  sent_of l k at =
      let inside = slice_get_within plan.links l k at in
      sent plan run.plan_is k (l, inside, get_or_from_slice_get plan.links l k k at)

  touching : (l : ℕ) (k : Link) → slice_get plan.links l ≡ Some k → touches (0 + l) ≡ ends k
  touching l k at =
      let z : 0 + l ≡ l = omega arith in
      let flow : carried plan l ≡ k.flow = ap (λ p. unwrap_or (option_map (λ (x : Link). x.flow) p) 0) at in
      let to : receiver_of plan l ≡ k.to = ap (λ p. unwrap_or (option_map (λ (x : Link). x.to) p) 0) at in
      let from : home plan (carried plan l) ≡ k.from = ap (home plan) flow ∙ sym (sent_of l k at).3 in
      ap touches z ∙ ap₂ (λ f t. nat_eq f s || nat_eq t s) from to

  apart : (k : Link) → IsSent plan (main plan run.plan_is) k → k.from ≢ k.to
  apart k is same =
      let on : stands plan k.flow k.from ≡ true = ap (stands plan k.flow) is.3 ∙ (fits plan run.plan_is).stands_home k.flow (omega (arith, is.0, run.plan_is.flat_is.variables_first)) in
      let off : stands plan k.flow k.to ≡ false = not_true (stands plan k.flow k.to) (and_second (is_in k.flow (row plan.needs k.to)) (not (stands plan k.flow k.to)) is.2) in
      true≢false (sym on ∙ ap (stands plan k.flow) same ∙ off)

  one_end : (k : Link) → k.from ≢ k.to → one_if (ends k) ≡ one_if (k.from == s) + one_if (k.to == s)
  one_end k other = go (k.from == s) refl (k.to == s) refl
    where
      go : (b : Bool) → (k.from == s) ≡ b → (c : Bool) → (k.to == s) ≡ c → one_if (b || c) ≡ one_if b + one_if c
      go true e true f = absurd (other (eqb-true k.from s e ∙ sym (eqb-true k.to s f)))
      go true e false f = refl
      go false e true f = refl
      go false e false f = refl

  counted : count_by touches numbers ≡ sent_count plan s + received_count plan s
  counted =
      by_number ends touches 0 plan.links touching
      ∙ sum_same (λ k. one_if (ends k)) (λ (k : Link). one_if (k.from == s) + one_if (k.to == s)) plan.links
      (λ l d lt. one_end (get_or plan.links l d) (apart (get_or plan.links l d) (sent_of l (get_or plan.links l d) (slice_get-get_or plan.links l d lt))))
      ∙ sym (sum_both (λ (k : Link). one_if (k.from == s)) (λ (k : Link). one_if (k.to == s)) plan.links)

  -- A SITE'S FLOWS

  once : (i : ℕ) → i < flows_of plan.flat → count_by (nat_eq i) order ≡ 1
  once i lt =
      let most = (is_outline job (job_of_run job run)).ranked_once i in
      let some = count_some i order (run.plan_is.flat_is.ordered.all_flows i lt) in
      omega (arith, most, some)

  stand_there : sum_by (λ i. one_if (stands plan i s)) order ≡ flows_at plan s
  stand_there =
      let n = flows_of plan.flat in
      sum_same (λ i. one_if (stands plan i s)) (met (λ i. i) (λ i. stands plan i s) (range_with_len 0 n)) order
      (λ k d l. sym (that_one (λ i. stands plan i s) (get_or order k d) 0 n (omega arith) (omega (arith, run.plan_is.flat_is.ordered.only_flows k d l))))
      ∙ all_met (λ i. i) (λ i. stands plan i s) (range_with_len 0 n) order (range_all (λ i. count_by (nat_eq i) order ≡ 1) n once)

  -- ALL ITEMS

  abbrev cost : ℕ → ℕ
  cost i = one_if (stands plan i s) + length (message_items o s i)

  all_costs : sum_by cost order ≡ item_count plan s
  all_costs =
      let a = sum_both (λ i. one_if (stands plan i s)) (λ i. length (message_items o s i)) order in
      omega (arith, a, stand_there, all_messages, counted)

  cost_is : (i t : ℕ) → length (flow_items o s i t) ≡ cost i
  cost_is i t = length-append (compute_items o s i t) (message_items o s i) ∙ ap (λ n. n + length (message_items o s i)) (go (stands plan i s))
    where
      go : (b : Bool) → length (cond b (Compute i t ∷ []) []) ≡ one_if b
      go true = refl
      go false = refl

  at_most_cost : (t i : ℕ) → length (round_cell o s t i) ≤ cost i
  at_most_cost t i = go (nat_lt t o.instants) (o.present i t)
    where
      go : (b c : Bool) → length (cond b (cond c (flow_items o s i t) []) (message_items o s i)) ≤ cost i
      go true true = omega (arith, cost_is i t)
      go true false = omega arith
      go false c = omega arith

  items_are : (t : ℕ) → AreItems job s t
  items_are t = record {
    at_most =
        let a = length-flat_map (round_cell o s t) order in
        let b = sum_le (λ i. length (round_cell o s t i)) cost order (at_most_cost t) in
        omega (arith, a, b, all_costs);
    all_true = λ lt there.
        length-flat_map (round_cell o s t) order
        ∙ sum_same (λ i. length (round_cell o s t i)) cost order
        (λ k d l.
        let i = get_or order k d in
        ap₂ (λ b c. length (cond b (cond c (flow_items o s i t) []) (message_items o s i))) (lt-ltb t o.instants lt) (there i (run.plan_is.flat_is.ordered.only_flows k d l)) ∙ cost_is i t)
        ∙ all_costs;
  }

pub items_law : ItemsLaw
items_law job s t run = items_are job run s t

-- A LINK'S MESSAGES

count_flat : {X Y : Type 0} (p : Y → Bool) (f : X → List Y) (xs : List X) → count_by p (flat_map f xs) ≡ sum_by (λ x. count_by p (f x)) xs
count_flat p f [] = refl
count_flat p f (x ∷ xs) = omega (arith, sum_by-append (λ y. one_if (p y)) (f x) (flat_map f xs), sum_by-cons (λ y. count_by p (f y)) x xs, count_flat p f xs)

count_puts : (l : ℕ) (ks : List ℕ) → count_by (puts l) (map Puts ks) ≡ count_by (λ k. nat_eq k l) ks
count_puts l [] = refl
count_puts l (k ∷ ks) = omega (arith, sum_by-cons (λ y. one_if (puts l y)) (Puts k) (map Puts ks), sum_by-cons (λ y. one_if (nat_eq y l)) k ks, count_puts l ks)

count_takes : (l : ℕ) (ks : List ℕ) → count_by (puts l) (map Takes ks) ≡ 0
count_takes l [] = refl
count_takes l (k ∷ ks) = omega (arith, sum_by-cons (λ y. one_if (puts l y)) (Takes k) (map Takes ks), count_takes l ks)

module _ (job : JobView) (run : IsJobView job) (l : ℕ) (inside : l < length job.plan.links) where
  abbrev lined : Outline
  lined = outline job (streams_of job)

  abbrev flow : ℕ
  flow = carried job.plan l

  abbrev sender : ℕ
  sender = home job.plan flow

  -- a flow's links have the link once, or not at all
  among : (i : ℕ) → count_by (λ k. nat_eq k l) (links_of lined i) ≡ one_if (nat_eq flow i)
  among i =
      let carries = λ (k : ℕ). nat_eq (carried job.plan k) i in
      let ks = range_with_len 0 (length job.plan.links) in
      count_both (λ k. nat_eq k l) carries ks
      ∙ sum_same (λ k. one_if (carries k && nat_eq k l)) (λ k. one_if (nat_eq k l && carries k)) ks
      (everywhere (λ k. one_if (carries k && nat_eq k l) ≡ one_if (nat_eq k l && carries k)) ks (λ k. turned (carries k) (nat_eq k l)))
      ∙ that_one carries l 0 (length job.plan.links) (omega arith) (omega (arith, inside))
    where
      turned : (b c : Bool) → one_if (b && c) ≡ one_if (c && b)
      turned true true = refl
      turned true false = refl
      turned false true = refl
      turned false false = refl

  put_messages : (i : ℕ) → count_by (puts l) (message_items lined sender i) ≡ cond (nat_eq (home job.plan i) sender) (one_if (nat_eq flow i)) 0
  put_messages i = go (nat_eq (home job.plan i) sender)
    where
      go : (b : Bool) → count_by (puts l) (cond b (map Puts (links_of lined i)) (map Takes (filter (λ k. nat_eq (receiver_of job.plan k) sender) (links_of lined i)))) ≡ cond b (one_if (nat_eq flow i)) 0
      go true = count_puts l (links_of lined i) ∙ among i
      go false = count_takes l (filter (λ k. nat_eq (receiver_of job.plan k) sender) (links_of lined i))

  put_items : (i t : ℕ) → count_by (puts l) (flow_items lined sender i t) ≡ count_by (puts l) (message_items lined sender i)
  put_items i t = sum_by-append (λ y. one_if (puts l y)) (compute_items lined sender i t) (message_items lined sender i) ∙ ap (λ n. n + count_by (puts l) (message_items lined sender i)) (go (stands job.plan i sender)) ∙ zero-add (count_by (puts l) (message_items lined sender i))
    where
      go : (b : Bool) → count_by (puts l) (cond b (Compute i t ∷ []) []) ≡ 0
      go true = refl
      go false = refl

  few_messages : (i : ℕ) → count_by (puts l) (message_items lined sender i) ≤ one_if (nat_eq flow i)
  few_messages i = let e = put_messages i in let f = go (nat_eq (home job.plan i) sender) in omega (arith, e, f)
    where
      go : (b : Bool) → cond b (one_if (nat_eq flow i)) 0 ≤ one_if (nat_eq flow i)
      go true = omega arith
      go false = omega arith

  few_puts : (t i : ℕ) → count_by (puts l) (round_cell lined sender t i) ≤ one_if (nat_eq flow i)
  few_puts t i = go (nat_lt t lined.instants) (lined.present i t)
    where
      go : (b c : Bool) → count_by (puts l) (cond b (cond c (flow_items lined sender i t) []) (message_items lined sender i)) ≤ one_if (nat_eq flow i)
      go true true = omega (arith, put_items i t, few_messages i)
      go true false = omega arith
      go false c = few_messages i

  all_puts : sum_by (λ i. one_if (nat_eq flow i)) job.plan.flat.order ≡ 1
  all_puts = (is_outline job (job_of_run job run)).linked_once l inside

  present_puts : (t : ℕ) → t < job.inputs.instants → lined.present flow t ≡ true → (i : ℕ) → count_by (puts l) (round_cell lined sender t i) ≡ one_if (nat_eq flow i)
  present_puts t lt there i = go (nat_eq flow i) refl (few_puts t i)
    where
      here : flow ≡ i → count_by (puts l) (round_cell lined sender t flow) ≡ 1
      here e =
          ap₂ (λ b c. count_by (puts l) (cond b (cond c (flow_items lined sender flow t) []) (message_items lined sender flow))) (lt-ltb t lined.instants lt) there
          ∙ put_items flow t
          ∙ put_messages flow
          ∙ ap₂ (λ b c. cond b (one_if c) 0) (eq-eqb sender sender refl) (eq-eqb flow flow refl)

      go : (b : Bool) → nat_eq flow i ≡ b → count_by (puts l) (round_cell lined sender t i) ≤ one_if (nat_eq flow i) → count_by (puts l) (round_cell lined sender t i) ≡ one_if (nat_eq flow i)
      go true e few =
          let same = eqb-true flow i e in
          ap (λ j. count_by (puts l) (round_cell lined sender t j)) (sym same) ∙ here same ∙ sym (ap one_if e)
      go false e few = let none = ap one_if e in omega (arith, few, none)

  messages_are_few : (t : ℕ) → AreMessages job l t
  messages_are_few t = record {
    at_most =
        let a = count_flat (puts l) (round_cell lined sender t) job.plan.flat.order in
        let b = sum_le (λ i. count_by (puts l) (round_cell lined sender t i)) (λ i. one_if (nat_eq flow i)) job.plan.flat.order (few_puts t) in
        omega (arith, a, b, all_puts);
    present = λ lt there.
        count_flat (puts l) (round_cell lined sender t) job.plan.flat.order
        ∙ sum_same (λ i. count_by (puts l) (round_cell lined sender t i)) (λ i. one_if (nat_eq flow i)) job.plan.flat.order
        (everywhere (λ i. count_by (puts l) (round_cell lined sender t i) ≡ one_if (nat_eq flow i)) job.plan.flat.order (present_puts t lt there))
        ∙ all_puts;
  }

pub messages_law : MessagesLaw
messages_law job l t run lt = messages_are_few job run l lt t
