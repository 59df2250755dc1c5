-- A flow is on a parted cycle exactly where its third vertex reaches itself.
use Rattle.std.proofs.Common.{◌≡◌, ◌≢◌, ℕ, ◌+◌, ◌<◌, ◌⊎◌, inl, inr, ◌↔◌, Bool, true, false, [], ◌∷◌, ◌++◌, length, map, Option, Some, None, refl, sym, ap, ◌∙◌, subst, arith}
use Rattle.std.specs.Prelude.{Contains, not}
use Rattle.std.proofs.lemmas.Bool.{true≢false}
use Rattle.std.proofs.lemmas.Slice.Eq.{bytes_eq-Decides}
use Rattle.std.proofs.lemmas.Option.{slice_get_within}
use Rattle.std.proofs.lemmas.List.Elements.{All-contains, All-append, Contains-append_left, Contains-append_right, Contains-append_cases}
use Rattle.luflow.specs.declared.form.Flow.{Flow}
use Rattle.luflow.specs.Program.{FlatView, flow_at, flows_of, places, clock_reads}
use Rattle.luflow.specs.Flats.{IsFlat, IsWithin}
use Rattle.luflow.specs.Rank.{row}
use Rattle.luworld.specs.Needs.{PlanView, flow_sites}
use Rattle.lubase.specs.Graph.{Graph, row_of, PointsTo, Reaches, IsCycle, one as one_edge, more as more_edges}
use Rattle.luplace.specs.Ways.{named, Reads, Leads, IsParted, NoneParted}
use Rattle.luplace.specs.Ways.{one, more}
use Rattle.luplace.specs.Layers.{reads_in, same_sites, away, first_row, second_row, third_row, AreLayers}
use Rattle.luplace.proofs.Listed.{contains_here, contains_cons, contains_none, contains_map, map_contains, contains_filter, filter_contains}

-- WHAT A FLOW READS

none_named : (r : ℕ) → Contains (named None) r → ⊥
none_named r c = contains_none r c

-- there is a flow that reads, and what it reads is a flow
pub record IsRead (flat : FlatView) (i r : ℕ) : Type 0 where
  pub flow : Flow
  pub there : flow_at flat i ≡ Some flow
  pub names : Contains (places flow.form ++ clock_reads flow.clock) r

pub read_is : (flat : FlatView) (i r : ℕ) → Reads flat i r → IsRead flat i r
read_is flat i r h = go (flow_at flat i) refl h
  where
    go : (o : Option Flow) → flow_at flat i ≡ o → Contains (named o) r → IsRead flat i r
    go None e c = absurd (none_named r c)
    go (Some flow) e c = record { flow = flow; there = e; names = c }

pub reader_inside : (flat : FlatView) (i r : ℕ) → Reads flat i r → i < flows_of flat
reader_inside flat i r h = let w = read_is flat i r h in slice_get_within flat.flows i w.flow w.there

pub reads_inside : (flat : FlatView) → IsFlat flat → (i r : ℕ) → Reads flat i r → r < flows_of flat
reads_inside flat ok i r h =
    let w = read_is flat i r h in
    All-contains (λ x. x < flows_of flat) (places w.flow.form ++ clock_reads w.flow.clock) r
    (All-append (λ x. x < flows_of flat) (places w.flow.form) (clock_reads w.flow.clock) (ok.ordered.places_in i w.flow w.there) (ok.ordered.clocks_in i w.flow w.there))
    w.names

pub reads_within : (flat : FlatView) → IsFlat flat → (i r : ℕ) → Reads flat i r → IsWithin flat i r
reads_within flat ok i r h =
    let w = read_is flat i r h in
    All-contains (IsWithin flat i) (places w.flow.form ++ clock_reads w.flow.clock) r (ok.inner i w.flow w.there) w.names

-- CHAINS

-- a flow itself, or one that it leads to
abbrev pub Comes : FlatView → ℕ → ℕ → Type 0
Comes flat i j = (i ≡ j) ⊎ Leads flat i j

onward : (flat : FlatView) (i j r : ℕ) → Comes flat i j → Reads flat j r → Leads flat i r
onward flat i j r (inl e) h = one i r (subst (λ x. Reads flat x r) (sym e) h)
onward flat i j r (inr l) h = more i j r l h

leads_on : (flat : FlatView) (i j k : ℕ) → Leads flat i j → Leads flat j k → Leads flat i k
leads_on flat i j k l (one _ _ h) = more i j k l h
leads_on flat i j k l (more _ m _ w h) = more i m k (leads_on flat i j m l w) h

lead_comes : (flat : FlatView) (i j k : ℕ) → Leads flat i j → Comes flat j k → Leads flat i k
lead_comes flat i j k l (inl e) = subst (Leads flat i) e l
lead_comes flat i j k l (inr w) = leads_on flat i j k l w

comes_lead : (flat : FlatView) (i j k : ℕ) → Comes flat i j → Leads flat j k → Leads flat i k
comes_lead flat i j k (inl e) w = subst (λ x. Leads flat x k) (sym e) w
comes_lead flat i j k (inr l) w = leads_on flat i j k l w

reader_of_lead : (flat : FlatView) (i j : ℕ) → Leads flat i j → i < flows_of flat
reader_of_lead flat i j (one _ _ h) = reader_inside flat i j h
reader_of_lead flat i j (more _ m _ l h) = reader_of_lead flat i m l

-- SITES

same_from : (plan : PlanView) (i j : ℕ) → same_sites plan i j ≡ true → flow_sites plan i ≡ flow_sites plan j
same_from plan i j e = (bytes_eq-Decides (flow_sites plan i) (flow_sites plan j)).0 e

apart_from : (plan : PlanView) (i j : ℕ) → same_sites plan i j ≡ false → flow_sites plan i ≢ flow_sites plan j
apart_from plan i j e s = true≢false (sym ((bytes_eq-Decides (flow_sites plan i) (flow_sites plan j)).1 s) ∙ e)

pub same_or_apart : (plan : PlanView) (i j : ℕ) → (flow_sites plan i ≡ flow_sites plan j) ⊎ (flow_sites plan i ≢ flow_sites plan j)
same_or_apart plan i j = go (same_sites plan i j) refl
  where
    go : (b : Bool) → same_sites plan i j ≡ b → (flow_sites plan i ≡ flow_sites plan j) ⊎ (flow_sites plan i ≢ flow_sites plan j)
    go true e = inl (same_from plan i j e)
    go false e = inr (apart_from plan i j e)

not_same : (plan : PlanView) (i j : ℕ) → flow_sites plan i ≢ flow_sites plan j → not (same_sites plan i j) ≡ true
not_same plan i j ne = go (same_sites plan i j) refl
  where
    go : (b : Bool) → same_sites plan i j ≡ b → not b ≡ true
    go true e = absurd (ne (same_from plan i j e))
    go false e = refl

same_not : (plan : PlanView) (i j : ℕ) → not (same_sites plan i j) ≡ true → flow_sites plan i ≢ flow_sites plan j
same_not plan i j h = go (same_sites plan i j) refl h
  where
    go : (b : Bool) → same_sites plan i j ≡ b → not b ≡ true → flow_sites plan i ≢ flow_sites plan j
    go true e n = absurd (true≢false (sym n))
    go false e n = apart_from plan i j e

-- a chain from i to j with a read of a flow that stands at other sites
pub record IsCrossing (plan : PlanView) (i j : ℕ) : Type 0 where
  pub from : ℕ
  pub to : ℕ
  pub before : Comes plan.flat i from
  pub reads : Reads plan.flat from to
  pub apart : flow_sites plan from ≢ flow_sites plan to
  pub behind : Comes plan.flat to j

crossing_leads : (plan : PlanView) (i j : ℕ) → IsCrossing plan i j → Leads plan.flat i j
crossing_leads plan i j c = lead_comes plan.flat i c.to j (onward plan.flat i c.from c.to c.before c.reads) c.behind

-- a chain between flows of other sites has such a read
pub crossing_on : (plan : PlanView) (i j : ℕ) → Leads plan.flat i j → flow_sites plan i ≢ flow_sites plan j → IsCrossing plan i j
crossing_on plan i j (one _ _ h) ne = record { from = i; to = j; before = inl refl; reads = h; apart = ne; behind = inl refl }
crossing_on plan i j (more _ m _ l h) ne = go (same_or_apart plan m j) (crossing_on plan i m l)
  where
    go : (flow_sites plan m ≡ flow_sites plan j) ⊎ (flow_sites plan m ≢ flow_sites plan j) → (flow_sites plan i ≢ flow_sites plan m → IsCrossing plan i m) → IsCrossing plan i j
    go (inl s) rest =
        let c = rest (λ e. ne (e ∙ s)) in
        record { from = c.from; to = c.to; before = c.before; reads = c.reads; apart = c.apart; behind = inr (onward plan.flat c.to m j c.behind h) }
    go (inr a) rest = record { from = m; to = j; before = inr l; reads = h; apart = a; behind = inl refl }

-- a flow with a crossing back to itself is on a parted cycle
pub crossing_parts : (plan : PlanView) (i : ℕ) → IsCrossing plan i i → IsParted plan i
crossing_parts plan i c =
    let flat = plan.flat in
    let whole = crossing_leads plan i i c in
    let there : Leads flat i c.from = lead_comes flat i i c.from whole c.before in
    let step : Leads flat c.from c.to = one c.from c.to c.reads in
    let on : Leads flat c.to i = comes_lead flat c.to i i c.behind whole in
    let back : Leads flat c.from i = leads_on flat c.from c.to i step on in
    elim (same_or_apart plan i c.from) [
      | inl s ↦ (c.to, record { there = leads_on flat i c.from c.to there step; back = on }, λ e. c.apart (sym s ∙ e))
      | inr a ↦ (c.from, record { there = there; back = back }, a)
    ]

-- a flow on a parted cycle has a crossing back to itself
pub parted_crosses : (plan : PlanView) (i : ℕ) → IsParted plan i → IsCrossing plan i i
parted_crosses plan i (j, share, apart) =
    let c = crossing_on plan i j share.there apart in
    record { from = c.from; to = c.to; before = c.before; reads = c.reads; apart = c.apart; behind = inr (comes_lead plan.flat c.to j i c.behind share.back) }

-- where no main variable is on a parted cycle, no cycle is parted
pub none_parted : (plan : PlanView) → IsFlat plan.flat → ((v : ℕ) → v < length plan.flat.variables → IsParted plan v → ⊥) → NoneParted plan
none_parted plan ok none i j share = elim (same_or_apart plan i j) [
  | inl s ↦ s
  | inr a ↦ absurd (crossed (crossing_on plan i j share.there a))
]
  where
    crossed : IsCrossing plan i j → ⊥
    crossed c =
        let flat = plan.flat in
        let step : Leads flat c.from c.to = one c.from c.to c.reads in
        let home : Leads flat c.to i = comes_lead flat c.to j i c.behind share.back in
        let back : Leads flat c.to c.from = lead_comes flat c.to i c.from home c.before in
        let parted : IsParted plan c.to = (c.from, record { there = back; back = step }, λ e. c.apart (sym e)) in
        elim (reads_within flat ok c.from c.to c.reads) [
          | inl lt ↦ none c.to lt parted
          | inr same ↦ c.apart (ap (row plan.placed) (sym same))
        ]

-- THE GRAPH

module _ (plan : PlanView) (ok : IsFlat plan.flat) (g : Graph) (layers : AreLayers plan g) where
  abbrev n : ℕ
  n = flows_of plan.flat

  first_edge : (i r : ℕ) → Reads plan.flat i r → PointsTo g i r
  first_edge i r h =
      let li = reader_inside plan.flat i r h in
      record {
        listed = subst (λ xs. Contains xs r) (sym (layers.first i li)) (Contains-append_left (reads_in plan i) (map (λ x. n + x) (away plan i (reads_in plan i))) r h);
        inside = omega (arith, layers.long, reads_inside plan.flat ok i r h);
      }

  cross_edge : (i r : ℕ) → Reads plan.flat i r → flow_sites plan i ≢ flow_sites plan r → PointsTo g i (n + r)
  cross_edge i r h ne =
      let li = reader_inside plan.flat i r h in
      let kept = contains_filter (λ x. not (same_sites plan i x)) r (reads_in plan i) h (not_same plan i r ne) in
      let raised = contains_map (λ x. n + x) r (away plan i (reads_in plan i)) kept in
      record {
        listed = subst (λ xs. Contains xs (n + r)) (sym (layers.first i li)) (Contains-append_right (reads_in plan i) (map (λ x. n + x) (away plan i (reads_in plan i))) (n + r) raised);
        inside = omega (arith, layers.long, reads_inside plan.flat ok i r h);
      }

  second_edge : (i r : ℕ) → Reads plan.flat i r → PointsTo g (n + i) (n + r)
  second_edge i r h =
      let li = reader_inside plan.flat i r h in
      record {
        listed = subst (λ xs. Contains xs (n + r)) (sym (layers.second i li)) (Contains-append_left (map (λ x. n + x) (reads_in plan i)) ((n + n + i) ∷ []) (n + r) (contains_map (λ x. n + x) r (reads_in plan i) h));
        inside = omega (arith, layers.long, reads_inside plan.flat ok i r h);
      }

  turn_edge : (i : ℕ) → i < n → PointsTo g (n + i) (n + n + i)
  turn_edge i li = record {
    listed = subst (λ xs. Contains xs (n + n + i)) (sym (layers.second i li)) (Contains-append_right (map (λ x. n + x) (reads_in plan i)) ((n + n + i) ∷ []) (n + n + i) (contains_here (n + n + i) []));
    inside = omega (arith, layers.long, li);
  }

  third_edge : (i : ℕ) → i < n → PointsTo g (n + n + i) i
  third_edge i li = record {
    listed = subst (λ xs. Contains xs i) (sym (layers.third i li)) (contains_here i []);
    inside = omega (arith, layers.long, li);
  }

  -- FROM FLOWS TO THE GRAPH

  lead_first : (x i j : ℕ) → Reaches g x i → Leads plan.flat i j → Reaches g x j
  lead_first x i j w (one _ _ h) = more_edges x i j w (first_edge i j h)
  lead_first x i j w (more _ m _ l h) = more_edges x m j (lead_first x i m w l) (first_edge m j h)

  lead_second : (x i j : ℕ) → Reaches g x (n + i) → Leads plan.flat i j → Reaches g x (n + j)
  lead_second x i j w (one _ _ h) = more_edges x (n + i) (n + j) w (second_edge i j h)
  lead_second x i j w (more _ m _ l h) = more_edges x (n + m) (n + j) (lead_second x i m w l) (second_edge m j h)

  come_first : (x i j : ℕ) → Reaches g x i → Comes plan.flat i j → Reaches g x j
  come_first x i j w (inl e) = subst (Reaches g x) e w
  come_first x i j w (inr l) = lead_first x i j w l

  come_second : (x i j : ℕ) → Reaches g x (n + i) → Comes plan.flat i j → Reaches g x (n + j)
  come_second x i j w (inl e) = subst (λ y. Reaches g x (n + y)) e w
  come_second x i j w (inr l) = lead_second x i j w l

  crossing_cycle : (i : ℕ) → IsCrossing plan i i → IsCycle g (n + n + i)
  crossing_cycle i c =
      let x : ℕ = n + n + i in
      let li = reader_of_lead plan.flat i i (crossing_leads plan i i c) in
      let a = one_edge x i (third_edge i li) in
      let b = come_first x i c.from a c.before in
      let d = more_edges x c.from (n + c.to) b (cross_edge c.from c.to c.reads c.apart) in
      let e = come_second x c.to i d c.behind in
      more_edges x (n + i) x e (turn_edge i li)

  -- FROM THE GRAPH TO FLOWS

  -- what a way from the third vertex of flow i leads to
  data Arrives (i y : ℕ) : Type 0 where
    in_first : (j : ℕ) → y ≡ j → j < n → Comes plan.flat i j → Arrives i y
    in_second : (j : ℕ) → y ≡ n + j → j < n → IsCrossing plan i j → Arrives i y
    in_third : (j : ℕ) → y ≡ n + n + j → j < n → IsCrossing plan i j → Arrives i y

  from_first : (i j w : ℕ) → Comes plan.flat i j → Contains (first_row plan j) w → Arrives i w
  from_first i j w come c = elim (Contains-append_cases (reads_in plan j) (map (λ x. n + x) (away plan j (reads_in plan j))) w c) [
    | inl h ↦ in_first w refl (reads_inside plan.flat ok j w h) (inr (onward plan.flat i j w come h))
    | inr h ↦
        let m = map_contains (λ x. n + x) w (away plan j (reads_in plan j)) h in
        let k = filter_contains (λ x. not (same_sites plan j x)) m.from (reads_in plan j) m.there in
        in_second m.from m.is (reads_inside plan.flat ok j m.from k.there)
        (record { from = j; to = m.from; before = come; reads = k.there; apart = same_not plan j m.from k.passes; behind = inl refl })
  ]

  from_second : (i j w : ℕ) → j < n → IsCrossing plan i j → Contains (second_row plan j) w → Arrives i w
  from_second i j w lj cross c = elim (Contains-append_cases (map (λ x. n + x) (reads_in plan j)) ((n + n + j) ∷ []) w c) [
    | inl h ↦
        let m = map_contains (λ x. n + x) w (reads_in plan j) h in
        in_second m.from m.is (reads_inside plan.flat ok j m.from m.there)
        (record { from = cross.from; to = cross.to; before = cross.before; reads = cross.reads; apart = cross.apart; behind = inr (onward plan.flat cross.to j m.from cross.behind m.there) })
    | inr h ↦ elim (contains_cons (n + n + j) w [] h) [
      | inl e ↦ in_third j (sym e) lj cross
      | inr none ↦ absurd (contains_none w none)
    ]
  ]

  from_third : (i j w : ℕ) → j < n → Comes plan.flat i j → Contains (third_row j) w → Arrives i w
  from_third i j w lj come c = elim (contains_cons j w [] c) [
    | inl e ↦ in_first j (sym e) lj come
    | inr none ↦ absurd (contains_none w none)
  ]

  step : (i v w : ℕ) → Arrives i v → PointsTo g v w → Arrives i w
  step i v w (in_first j e lj come) p = from_first i j w come (subst (λ xs. Contains xs w) (ap (row_of g) e ∙ layers.first j lj) p.listed)
  step i v w (in_second j e lj cross) p = from_second i j w lj cross (subst (λ xs. Contains xs w) (ap (row_of g) e ∙ layers.second j lj) p.listed)
  step i v w (in_third j e lj cross) p = from_third i j w lj (inr (crossing_leads plan i j cross)) (subst (λ xs. Contains xs w) (ap (row_of g) e ∙ layers.third j lj) p.listed)

  arrives : (i x y : ℕ) → i < n → x ≡ n + n + i → Reaches g x y → Arrives i y
  arrives i x y li e (one_edge _ _ p) = from_third i i y li (inl refl) (subst (λ xs. Contains xs y) (ap (row_of g) e ∙ layers.third i li) p.listed)
  arrives i x y li e (more_edges _ v _ w p) = step i v y (arrives i x v li e w) p

  come_back : (i : ℕ) → i < n → Arrives i (n + n + i) → IsCrossing plan i i
  come_back i li (in_first j e lj come) = absurd (omega arith)
  come_back i li (in_second j e lj cross) = absurd (omega arith)
  come_back i li (in_third j e lj cross) = let s : j ≡ i = omega arith in subst (IsCrossing plan i) s cross

  -- the third vertex of a flow reaches itself exactly where the flow is on a parted cycle
  pub parted_exactly : (i : ℕ) → i < n → IsCycle g (n + n + i) ↔ IsParted plan i
  parted_exactly i li = ((λ w. crossing_parts plan i (come_back i li (arrives i (n + n + i) (n + n + i) li refl w))), (λ p. crossing_cycle i (parted_crosses plan i p)))
