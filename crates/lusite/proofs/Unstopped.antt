-- A site whose flows are all sound goes through its whole script.
use Rattle.std.proofs.Common.{◌≡◌, ℕ, zero, suc, ◌+◌, ◌<◌, ◌≤◌, Bool, true, false, cond, List, [], ◌∷◌, ◌++◌, length, map, replicate, flat_map, count_by, Option, None, Some, refl, sym, ap, ◌∙◌, subst, arith}
use Rattle.std.specs.Prelude.{slice_get, slice_index, ◌&&◌, nat_le, nat_lt}
use Rattle.std.specs.List.{range_with_len}
use Rattle.std.proofs.lemmas.List.{take_all, get_or-replicate}
use Rattle.std.proofs.lemmas.Bool.{ltb-true}
use Rattle.std.proofs.lemmas.Option.{slice_get_within, get_or_from_slice_get}
use Rattle.luflow.specs.Program.{flow_at, flows_of}
use Rattle.luflow.specs.Solution.{clock_of_flow}
use Rattle.luflow.specs.Streams.{is_broken}
use Rattle.luworld.specs.Systems.{Item, Compute, Puts, Takes, takes, done}
use Rattle.luworld.specs.Outline.{Outline, IsOutline, full_script, script as outline_script, stops, NoStop, messages_from}
use Rattle.luworld.specs.Needs.{stands}
use Rattle.luworld.specs.Jobs.{JobView, IsJob, HasNoStop, cell, endless, is_open, items_before, knows, link_into, listed, outline, round, script, sends, streams_of}
use Rattle.luworld.specs.Sites.{IsSoundAt}
use Rattle.luworld.specs.WorldViews.{IsPassed, lead}
use Rattle.luworld.proofs.Cursor.{before_end, endless_rounds}
use Rattle.luworld.proofs.Cuts.{cut_free}
use Rattle.luworld.proofs.Ended.{done_ends, ended_whole}
use Rattle.luworld.proofs.Outlines.{cell_is, is_outline}
use Rattle.luworld.proofs.Wired.{Each, each_append, each_flat_map}
use Rattle.lusite.proofs.Machine.{there}
use Rattle.lusite.proofs.Offers.{into_is, known_of_link, known_of_own}
use Rattle.lusite.proofs.Passed.{free_front, instant_then, own_size, steps}

-- ---- items that are no stops, in any outline

module _ (plan : Outline) where
  -- the same, with nothing broken
  abbrev unbroken : Outline
  unbroken = record plan { broken = λ _ _. false }

  -- a computation of a flow that doesn't break there, or a take of one that never breaks
  abbrev pub Goes : Item → Type 0
  Goes (Compute flow instant) = plan.broken flow instant ≡ false
  Goes (Puts link) = Unit {0}
  Goes (Takes link) = (instant : ℕ) → plan.broken (plan.flow_of link) instant ≡ false

  messages_same : (flow instant n : ℕ) → ((t : ℕ) → plan.broken flow t ≡ false) → messages_from plan flow instant n ≡ messages_from unbroken flow instant n
  messages_same flow instant zero h = refl
  messages_same flow instant (suc n) h =
      ap (λ (b : Bool). cond b 0 (cond (plan.present flow instant) 1 0 + messages_from plan flow (instant + 1) n)) (h instant)
      ∙ ap (λ (m : ℕ). cond (plan.present flow instant) 1 0 + m) (messages_same flow (instant + 1) n h)

  goes_on : (before : List Item) (item : Item) → Goes item → stops unbroken before item ≡ false → stops plan before item ≡ false
  goes_on before (Compute flow instant) g h = g
  goes_on before (Puts link) g h = refl
  goes_on before (Takes link) g h = ap (λ (n : ℕ). nat_le n (count_by (takes link) before)) (messages_same (plan.flow_of link) 0 plan.instants g) ∙ h

  none_stops : (before items : List Item) → Each Goes items → NoStop unbroken before items → NoStop plan before items
  none_stops before [] g h = tt
  none_stops before (item ∷ items) g h = (goes_on before item g.0 h.0, none_stops (before ++ item ∷ []) items g.1 h.1)

  module _ (ok : IsOutline plan) (site : ℕ) where
    unbroken_ok : IsOutline unbroken
    unbroken_ok = record {
      room = ok.room;
      stands_within = ok.stands_within;
      home_within = ok.home_within;
      receiver_within = ok.receiver_within;
      receiver_other = ok.receiver_other;
      ranked_once = ok.ranked_once;
      linked_once = ok.linked_once;
    }

    unbroken_free : NoStop unbroken [] (full_script plan site)
    unbroken_free =
        let n = length (outline_script unbroken site) in
        let world = replicate (suc site) n in
        let at_end : done world site ≡ n = get_or-replicate (suc site) site n 0 (omega arith) in
        let ended = done_ends unbroken unbroken_ok (λ _ _. refl) world site at_end in
        subst (NoStop unbroken []) (ended_whole unbroken world site ended) ended.no_stop

    pub goes_free : Each Goes (full_script plan site) → NoStop plan [] (full_script plan site)
    goes_free g = none_stops [] (full_script plan site) g unbroken_free

-- ---- a site's items

each_flat_at : {X Y : Type 0} (P : Y → Type 0) (f : X → List Y) (xs : List X) → ((k : ℕ) (x : X) → slice_get xs k ≡ Some x → Each P (f x)) → Each P (flat_map f xs)
each_flat_at P f [] h = tt
each_flat_at P f (x ∷ xs) h = each_append P (f x) (flat_map f xs) (h 0 x refl) (each_flat_at P f xs (λ k y e. h (suc k) y e))

guarded : (x y b : Bool) → (x ≡ true → y ≡ true → b ≡ false) → ((x && y) && b) ≡ false
guarded true true b h = h refl refl
guarded true false b h = refl
guarded false y b h = refl

module _ (job : JobView) (s : ℕ) (ij : IsJob job) (sound : IsSoundAt job s) where
  abbrev plan : Outline
  plan = outline job (streams_of job)

  abbrev Goes' : Item → Type 0
  Goes' = Goes plan

  never_breaks : (i : ℕ) → knows job.plan s i ≡ true → (t : ℕ) → plan.broken i t ≡ false
  never_breaks i known t =
      guarded (nat_lt i (flows_of job.plan.flat)) (nat_lt t job.inputs.instants) (is_broken (streams_of job i t))
      (λ li lt. sound i t known (ltb-true i (flows_of job.plan.flat) li) (ltb-true t job.inputs.instants lt))

  puts_go : (links : List ℕ) → Each Goes' (map Puts links)
  puts_go [] = tt
  puts_go (l ∷ links) = (tt, puts_go links)

  takes_go : (i : ℕ) (o : Option ℕ) → link_into job.plan s i ≡ o → Each Goes' (map Takes (listed o))
  takes_go i None e = tt
  takes_go i (Some l) e =
      (λ t. subst (λ (f : ℕ). plan.broken f t ≡ false) (sym (into_is job.plan s i l e).1) (never_breaks i (known_of_link job.plan s i l e) t), tt)

  -- the items of flow i at t, by whether t is an instant of the table, the flow is present, and it stands here
  items_go : (t i : ℕ) (early open' own : Bool) → stands job.plan i s ≡ own → Each Goes' (cond early (cond open' (cond own (Compute i t ∷ []) [] ++ cond own (map Puts (sends job.plan s i)) (map Takes (listed (link_into job.plan s i)))) []) (cond own (map Puts (sends job.plan s i)) (map Takes (listed (link_into job.plan s i)))))
  items_go t i true true true e = (never_breaks i (known_of_own job.plan s i e) t, puts_go (sends job.plan s i))
  items_go t i true true false e = takes_go i (link_into job.plan s i) refl
  items_go t i true false own e = tt
  items_go t i false open' true e = puts_go (sends job.plan s i)
  items_go t i false open' false e = takes_go i (link_into job.plan s i) refl

  cell_goes : (t p : ℕ) → p < length job.plan.flat.order → Each Goes' (cell job (streams_of job) s t (slice_index job.plan.flat.order p))
  cell_goes t p lp =
      let i = slice_index job.plan.flat.order p in
      subst (Each Goes') (sym (cell_is job (streams_of job) ij.is_plan s t i (there job s ij p lp).2))
      (items_go t i (nat_lt t job.inputs.instants) (is_open (clock_of_flow job.inputs (streams_of job) (flow_at job.plan.flat i) t)) (stands job.plan i s) refl)

  round_goes : (t : ℕ) → Each Goes' (round job (streams_of job) s t)
  round_goes t = each_flat_at Goes' (cell job (streams_of job) s t) job.plan.flat.order
      (λ p i e. subst (λ (j : ℕ). Each Goes' (cell job (streams_of job) s t j)) (get_or_from_slice_get job.plan.flat.order p i 0 e) (cell_goes t p (slice_get_within job.plan.flat.order p i e)))

  endless_goes : Each Goes' (endless job (streams_of job) s)
  endless_goes = subst (Each Goes') (sym (endless_rounds job (streams_of job) s)) (each_flat_map Goes' (round job (streams_of job) s) round_goes (range_with_len 0 (job.inputs.instants + 1)))

  endless_free : NoStop plan [] (endless job (streams_of job) s)
  unfolding endless
  endless_free = goes_free plan (is_outline job ij) s endless_goes

  pub script_whole : script job (streams_of job) s ≡ endless job (streams_of job) s
  unfolding endless
  script_whole = cut_free plan [] (endless job (streams_of job) s) endless_free

  pub no_stop : HasNoStop job s
  no_stop = subst (NoStop plan []) (sym script_whole) endless_free

  -- at the end of its script each status of a flow of its own is passed
  pub all_passed : (p t : ℕ) → p < length job.plan.flat.order → stands job.plan (slice_index job.plan.flat.order p) s ≡ true → t < job.inputs.instants → IsPassed job s (length (script job (streams_of job) s)) p t
  all_passed p t lp own lt =
      let σ = streams_of job in
      let k = items_before job σ s t p (lead job p t) in
      let n = length (endless job σ s) in
      let size = length (cell job σ s t (slice_index job.plan.flat.order p)) in
      let le : k ≤ n = omega (arith, steps job s ij t p (lead job p t), steps job s ij t p size, (own_size job s ij t p lp own lt).0, instant_then job s ij t p job.inputs.instants (length job.plan.flat.order) lt lp (omega arith), before_end job σ s) in
      record {
        done = omega (arith, le, ap length script_whole);
        free = free_front job s ij n k le (subst (NoStop plan []) (sym (take_all n (endless job σ s) (omega arith))) endless_free);
      }
