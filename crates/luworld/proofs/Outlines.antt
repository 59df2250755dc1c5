-- What the outline of a run says, by the plan and the streams_of.
use Rattle.std.proofs.Common.{◌≡◌, ◌≢◌, ℕ, zero, suc, ◌+◌, ◌-◌, ◌<◌, ◌≤◌, ◌⊎◌, inl, inr, Bool, true, false, cond, List, [], ◌∷◌, ◌++◌, length, map, take, get_or, nat_eq, filter, flat_map, count_by, Option, Some, None, refl, sym, ap, ap₂, ◌∙◌, subst, arith, zero-add, add-one, append-nil, length-append}
use Rattle.std.specs.Prelude.{slice_get, slice_index, All, Contains, not, ◌||◌, ◌&&◌, ◌==◌, nat_lt, is_some, unwrap_or}
use Rattle.std.specs.List.{range_with_len}
use Rattle.std.specs.Option.{option_map}
use Rattle.std.proofs.lemmas.List.{length-map, get_or-take}
use Rattle.std.proofs.lemmas.List.Sums.{sum_by-cons}
use Rattle.std.proofs.lemmas.List.Elements.{Contains-get_or, All-get_or}
use Rattle.std.proofs.lemmas.Option.{slice_get_within, slice_get-get_or}
use Rattle.std.proofs.lemmas.Bool.{cases_lt, false≢true, true≢false, lt-ltb, ltb-true, eqb-true, eq-eqb, ne_eqb, cases_eq}
use Rattle.luworld.specs.Systems.{Item, Compute, Puts, Takes, puts, takes, IsWired}
use Rattle.luworld.specs.Outline.{Outline, IsOutline, NoFault as NoBreak, message_items, shown_items, messages_from, shows}
use Rattle.luworld.proofs.Passing.{one_if}
use Rattle.luworld.proofs.Wired.{wired}
use Rattle.luflow.specs.declared.data.Datum.{Datum}
use Rattle.luflow.specs.declared.data.Status.{Status}
use Rattle.luflow.specs.declared.data.Status.TheVariants.{Absent, Present}
use Rattle.luflow.specs.declared.form.Flow.{Flow}
use Rattle.luworld.specs.declared.link.Link.{Link}
use Rattle.luworld.specs.Needs.{PlanView, stands, home}
use Rattle.luflow.specs.declared.form.Outcome.{Outcome}
use Rattle.luflow.specs.declared.form.Outcome.TheVariants.{Gives, Faults, Stuck}
use Rattle.luworld.specs.Jobs.{JobView, IsJob, IsCoherent, outline, system_of, script, cell, sends, link_into, listed, carried, carriers, receiver_of, flow_of_link, is_open, NoFault, link_list, messages_of, streams_of}
use Rattle.luflow.specs.Streams.{Mark, Known, Broken, Streams, before, newer, clock_at, is_broken}
use Rattle.luflow.specs.Values.{under, mark_of, value_at}
use Rattle.luflow.specs.Program.{column_of, flow_at, flows_of}
use Rattle.luflow.specs.Solution.{says, clock_of_flow}
use Rattle.luflow.specs.Messages.{presents, once_if, marks, messages}
use Rattle.luflow.proofs.Solutions.{IsSolution-solution, place_in, some_at}
use Rattle.luworld.proofs.Messages.{newer_back}

pub bool_cases : (b : Bool) → (b ≡ true) ⊎ (b ≡ false)
bool_cases true = inl refl
bool_cases false = inr refl

one-add : (n : ℕ) → 1 + n ≡ suc n
one-add n = omega arith

-- a number that stands once in a list
count_none : (f : ℕ) (xs : List ℕ) → ((q : ℕ) → q < length xs → slice_index xs q ≢ f) → count_by (nat_eq f) xs ≡ 0
count_none f [] h = refl
count_none f (x ∷ xs) h =
    let a = sum_by-cons (λ y. one_if (nat_eq f y)) x xs in
    let b = ap one_if (ne_eqb f x (λ e. h 0 (omega arith) (sym e))) in
    omega (arith, a, b, count_none f xs (λ q l. h (suc q) (omega arith)))

count_once : (f : ℕ) (xs : List ℕ) → ((p q : ℕ) → p < length xs → q < length xs → slice_index xs p ≡ slice_index xs q → p ≡ q) → count_by (nat_eq f) xs ≤ 1
count_once f [] h = omega arith
count_once f (x ∷ xs) h =
    let a = sum_by-cons (λ y. one_if (nat_eq f y)) x xs in
    elim (cases_eq f x) [
      | inl e ↦
          let b = ap one_if (eq-eqb f x e) in
          let z = count_none f xs (λ q l same. let w = h 0 (suc q) (omega arith) (omega arith) (sym e ∙ sym same) in omega (arith, w)) in
          omega (arith, a, b, z)
      | inr ne ↦
          let b = ap one_if (ne_eqb f x ne) in
          let ih = count_once f xs (λ p q lp lq e. let w = h (suc p) (suc q) (omega arith) (omega arith) e in omega (arith, w)) in
          omega (arith, a, b, ih)
    ]

count_some : (f : ℕ) (xs : List ℕ) (p : ℕ) → p < length xs → slice_index xs p ≡ f → 1 ≤ count_by (nat_eq f) xs
count_some f [] p l e = absurd (omega arith)
count_some f (x ∷ xs) zero l e = let a = sum_by-cons (λ y. one_if (nat_eq f y)) x xs in let b = ap one_if (eq-eqb f x (sym e)) in omega (arith, a, b)
count_some f (x ∷ xs) (suc p) l e = let a = sum_by-cons (λ y. one_if (nat_eq f y)) x xs in omega (arith, a, count_some f xs p (omega arith) e)

-- an element of a filtered list
filter_all : (p : ℕ → Bool) (xs : List ℕ) (k : ℕ) → k < length (filter p xs) → p (slice_index (filter p xs) k) ≡ true
filter_all p [] k l = absurd (omega arith)
filter_all p (x ∷ xs) k l = go (p x) refl k l (filter_all p xs)
  where
    go : (b : Bool) → p x ≡ b → (k : ℕ) → k < length (cond b (x ∷ filter p xs) (filter p xs)) → ((k : ℕ) → k < length (filter p xs) → p (slice_index (filter p xs) k) ≡ true) → p (slice_index (cond b (x ∷ filter p xs) (filter p xs)) k) ≡ true
    go true e zero l rest = e
    go true e (suc k) l rest = rest k (omega arith)
    go false e k l rest = rest k l

filter_in : (p : ℕ → Bool) (a n k : ℕ) → k < length (filter p (range_with_len a n)) → slice_index (filter p (range_with_len a n)) k < a + n
filter_in p a zero k l = absurd (omega arith)
filter_in p a (suc n) k l = go (p a) k l (filter_in p (a + 1) n)
  where
    go : (b : Bool) (k : ℕ) → k < length (cond b (a ∷ filter p (range_with_len (a + 1) n)) (filter p (range_with_len (a + 1) n))) → ((k : ℕ) → k < length (filter p (range_with_len (a + 1) n)) → slice_index (filter p (range_with_len (a + 1) n)) k < a + 1 + n) → slice_index (cond b (a ∷ filter p (range_with_len (a + 1) n)) (filter p (range_with_len (a + 1) n))) k < a + suc n
    go true zero l rest = omega arith
    go true (suc k) l rest = omega (arith, rest k (omega arith))
    go false k l rest = omega (arith, rest k l)

-- a link that carries a flow
pub flow_of_carried : (plan : PlanView) (l i : ℕ) → l < length plan.links → carried plan l ≡ i → flow_of_link plan l ≡ Some i
flow_of_carried plan l i lt e =
    let k = some_at plan.links l lt in
    let f = ap (option_map (λ (x : Link). x.flow)) k.1 in
    f ∙ ap Some (sym (ap (λ o. unwrap_or o 0) f) ∙ e)

-- a link by which a site sends a flow: it carries the flow, and the site is the flow's home
pub carrier_is : (plan : PlanView) (s i k : ℕ) → k < length (sends plan s i) → (slice_index (sends plan s i) k < length plan.links) × (carried plan (slice_index (sends plan s i) k) ≡ i) × (home plan i ≡ s)
carrier_is plan s i k l = go (nat_eq (home plan i) s) refl l
  where
    go : (b : Bool) → nat_eq (home plan i) s ≡ b → k < length (cond b (carriers plan i) []) → (slice_index (cond b (carriers plan i) []) k < length plan.links) × (carried plan (slice_index (cond b (carriers plan i) []) k) ≡ i) × (home plan i ≡ s)
    go true e l =
        let w = filter_in (λ j. nat_eq (carried plan j) i) 0 (length plan.links) k l in
        (omega (arith, w), eqb-true (carried plan (slice_index (carriers plan i) k)) i (filter_all (λ j. nat_eq (carried plan j) i) (range_with_len 0 (length plan.links)) k l), eqb-true (home plan i) s e)
    go false e l = absurd (omega arith)

-- a flow's items, by the plan's tables
module _ (job : JobView) (σ : Streams) (ok : IsCoherent job.plan) (s t i : ℕ) (li : i < flows_of job.plan.flat) where
  abbrev pub passes : List Item
  passes = cond (stands job.plan i s) (map Puts (sends job.plan s i)) (map Takes (listed (link_into job.plan s i)))

  pub message_is : message_items (outline job σ) s i ≡ passes
  message_is = elim (cases_eq (home job.plan i) s) [
    | inl same ↦
        let own : stands job.plan i s ≡ true = subst (λ (h : ℕ). stands job.plan i h ≡ true) same (ok.stands_home i li) in
        let e = eq-eqb (home job.plan i) s same in
        ap (λ (b : Bool). cond b (map Puts (carriers job.plan i)) (map Takes (filter (λ l. nat_eq (receiver_of job.plan l) s) (carriers job.plan i)))) e
        ∙ ap (λ (b : Bool). map Puts (cond b (carriers job.plan i) [])) (sym e)
        ∙ ap (λ (b : Bool). cond b (map Puts (sends job.plan s i)) (map Takes (listed (link_into job.plan s i)))) (sym own)
    | inr other ↦
        let e = ne_eqb (home job.plan i) s other in
        ap (λ (b : Bool). cond b (map Puts (carriers job.plan i)) (map Takes (filter (λ l. nat_eq (receiver_of job.plan l) s) (carriers job.plan i)))) e
        ∙ ap (map Takes) (ok.one_link s i other)
        ∙ away other e
  ]
    where
      away : home job.plan i ≢ s → nat_eq (home job.plan i) s ≡ false → map Takes (listed (link_into job.plan s i)) ≡ passes
      away other e = elim (bool_cases (stands job.plan i s)) [
        | inl own ↦
            ap (λ (o : Option ℕ). map Takes (listed o)) (ok.no_link s i own)
            ∙ ap (λ (b : Bool). map Puts (cond b (carriers job.plan i) [])) (sym e)
            ∙ ap (λ (b : Bool). cond b (map Puts (sends job.plan s i)) (map Takes (listed (link_into job.plan s i)))) (sym own)
        | inr not_own ↦ ap (λ (b : Bool). cond b (map Puts (sends job.plan s i)) (map Takes (listed (link_into job.plan s i)))) (sym not_own)
      ]

  pub cell_is : cell job σ s t i ≡ cond (nat_lt t job.inputs.instants) (cond (is_open (clock_of_flow job.inputs σ (flow_at job.plan.flat i) t)) (cond (stands job.plan i s) (Compute i t ∷ []) [] ++ passes) []) passes
  unfolding cell
  cell_is = ap (λ (ys : List Item). cond (nat_lt t job.inputs.instants) (cond (is_open (clock_of_flow job.inputs σ (flow_at job.plan.flat i) t)) (cond (stands job.plan i s) (Compute i t ∷ []) [] ++ ys) []) ys) message_is

module _ (job : JobView) (ij : IsJob job) where
  -- a flow of the plan, and what its equation says
  pub says_there : (i t : ℕ) → i < flows_of job.plan.flat → t < job.inputs.instants → (flow : Flow) × (flow_at job.plan.flat i ≡ Some flow) × (streams_of job i t ≡ under (clock_of_flow job.inputs (streams_of job) (flow_at job.plan.flat i) t) (value_at job.inputs (streams_of job) flow.clock flow.form t))
  says_there i t li lt =
      let f = some_at job.plan.flat.flows i li in
      (f.0, f.1, IsSolution-solution job.plan.flat job.inputs ij.is_plan.ordered i t li ∙ ap (λ o. says job.inputs (streams_of job) o t) f.1 ∙ ap (λ o. under (clock_of_flow job.inputs (streams_of job) o t) (value_at job.inputs (streams_of job) f.0.clock f.0.form t)) (sym f.1))

  open_mark : (k : Option Bool) (v : Outcome) (m : Mark) → m ≡ under k v → is_broken m ≡ false → one_if (is_open k) ≡ once_if m
  open_mark None v m e b = absurd (false≢true (sym b ∙ ap is_broken e))
  open_mark (Some false) v m e b = sym (ap once_if e)
  open_mark (Some true) (Faults kind) m e b = absurd (false≢true (sym b ∙ ap is_broken e))
  open_mark (Some true) Stuck m e b = absurd (false≢true (sym b ∙ ap is_broken e))
  open_mark (Some true) (Gives d) m e b = sym (ap once_if e)

  -- where a flow isn't broken, it is mark_of exactly where its clock is true
  once_is : (i t : ℕ) → i < flows_of job.plan.flat → t < job.inputs.instants → is_broken (streams_of job i t) ≡ false → one_if (is_open (clock_of_flow job.inputs (streams_of job) (flow_at job.plan.flat i) t)) ≡ once_if (streams_of job i t)
  once_is i t li lt b =
      let f = says_there i t li lt in
      open_mark (clock_of_flow job.inputs (streams_of job) (flow_at job.plan.flat i) t) (value_at job.inputs (streams_of job) f.0.clock f.0.form t) (streams_of job i t) f.2 b

  pub shows_is : (i t : ℕ) (d : Datum) → i < flows_of job.plan.flat → t ≤ job.inputs.instants → before (streams_of job i) t ≡ Some d → shows (outline job (streams_of job)) i t ≡ presents (streams_of job i) t
  shows_is i zero d li lt h = refl
  shows_is i (suc t) d li lt h =
      let b = newer_back (streams_of job i t) (before (streams_of job i) t) d h in
      ap₂ (λ x y. x + y) (shows_is i t b.1 li (omega arith) b.2) (once_is i t li (omega arith) b.0)

  pub broken_is : (i t : ℕ) → i < flows_of job.plan.flat → t < job.inputs.instants → (outline job (streams_of job)).broken i t ≡ is_broken (streams_of job i t)
  broken_is i t li lt = ap₂ (λ x y. (x && y) && is_broken (streams_of job i t)) (lt-ltb i (flows_of job.plan.flat) li) (lt-ltb t job.inputs.instants lt)

  messages_long : (i a n k : ℕ) → i < flows_of job.plan.flat → a + n ≤ job.inputs.instants → messages_from (outline job (streams_of job)) i a n ≡ length (messages k (map (streams_of job i) (range_with_len a n)))
  messages_long i a zero k li le = refl
  messages_long i a (suc n) k li le = go (streams_of job i a) refl (λ k. messages_long i (a + 1) n k li (omega arith))
    where
      rest : ℕ
      rest = messages_from (outline job (streams_of job)) i (a + 1) n

      sound : is_broken (streams_of job i a) ≡ false → messages_from (outline job (streams_of job)) i a (suc n) ≡ once_if (streams_of job i a) + rest
      sound b =
          ap (λ (b : Bool). cond b 0 (one_if (is_open (clock_of_flow job.inputs (streams_of job) (flow_at job.plan.flat i) a)) + rest)) (broken_is i a li (omega arith) ∙ b)
          ∙ ap (λ x. x + rest) (once_is i a li (omega arith) b)

      go : (m : Mark) → streams_of job i a ≡ m → ((k : ℕ) → rest ≡ length (messages k (map (streams_of job i) (range_with_len (a + 1) n)))) → messages_from (outline job (streams_of job)) i a (suc n) ≡ length (messages k (m ∷ map (streams_of job i) (range_with_len (a + 1) n)))
      go Broken e more = ap (λ (b : Bool). cond b 0 (one_if (is_open (clock_of_flow job.inputs (streams_of job) (flow_at job.plan.flat i) a)) + rest)) (broken_is i a li (omega arith) ∙ ap is_broken e)
      go (Known Absent) e more = sound (ap is_broken e) ∙ ap (λ m. once_if m + rest) e ∙ zero-add rest ∙ more k
      go (Known (Present d)) e more = sound (ap is_broken e) ∙ ap (λ m. once_if m + rest) e ∙ ap (λ x. 1 + x) (more (k + 1)) ∙ one-add (length (messages (k + 1) (map (streams_of job i) (range_with_len (a + 1) n))))

  -- what a link carries is a flow
  pub carries_flow : (l : ℕ) → l < length job.plan.links → carried job.plan l < flows_of job.plan.flat
  carries_flow l lt = omega (arith, ij.is_plan.carries l lt, ij.is_plan.variables_first)

  -- a link's list is as long as the outline says
  pub list_long : (l : ℕ) → l < length job.plan.links → messages_from (outline job (streams_of job)) (carried job.plan l) 0 job.inputs.instants ≡ length (link_list job (streams_of job) l)
  unfolding link_list
  list_long l lt =
      let i = carried job.plan l in
      messages_long i 0 job.inputs.instants 0 (carries_flow l lt) (omega arith)
      ∙ sym (ap (λ o. length (messages_of job (streams_of job) o)) (flow_of_carried job.plan l i lt refl))

  pub is_outline : IsOutline (outline job (streams_of job))
  is_outline =
      let plan = job.plan in
      record {
        room = ij.is_plan.room;
        stands_within = λ flow site e. ij.is_plan.stands_in flow site e;
        home_within = ij.is_plan.homes;
        receiver_within = ij.is_plan.receivers;
        receiver_other = ij.is_plan.elsewhere;
        ranked_once = λ flow. count_once flow plan.flat.order ij.is_plan.ordered.once;
        linked_once = λ l lt.
            let w = place_in plan.flat.order (carried plan l) (ij.is_plan.ordered.all_flows (carried plan l) (carries_flow l lt)) in
            let a = count_once (carried plan l) plan.flat.order ij.is_plan.ordered.once in
            let b = count_some (carried plan l) plan.flat.order w.0 w.1 w.2 in
            omega (arith, a, b);
      }

  pub is_wired : IsWired (system_of job)
  is_wired = wired (outline job (streams_of job)) is_outline

  and_false : (x y b : Bool) → ((x ≡ true) → (y ≡ true) → b ≡ false) → ((x && y) && b) ≡ false
  and_false true true b h = h refl refl
  and_false true false b h = refl
  and_false false y b h = refl

  pub no_break : NoFault job → NoBreak (outline job (streams_of job))
  no_break fine i t = and_false (nat_lt i (flows_of job.plan.flat)) (nat_lt t job.inputs.instants) (is_broken (streams_of job i t)) (λ ei et. fine i t (ltb-true i (flows_of job.plan.flat) ei) (ltb-true t job.inputs.instants et))

  pub not_broken : (i t : ℕ) → is_broken (streams_of job i t) ≡ false → (outline job (streams_of job)).broken i t ≡ false
  not_broken i t e = and_false (nat_lt i (flows_of job.plan.flat)) (nat_lt t job.inputs.instants) (is_broken (streams_of job i t)) (λ _ _. e)
