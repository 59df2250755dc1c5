-- There is an order, or a cycle.
use Rattle.std.proofs.Common.{◌≡◌, ◌≢◌, ◌<◌, ◌≤◌, ◌⊎◌, inl, inr, ℕ, zero, suc, List, [], ◌∷◌, ◌++◌, Bool, true, false, true≢false, not, length, get_or, set, replicate, refl, sym, ap, subst, arith}
use Rattle.std.specs.List.{count_by}
use Rattle.std.proofs.lemmas.List.{length-replicate}
use Rattle.std.proofs.lemmas.Option.{none-some}
use Rattle.std.proofs.lemmas.List.Elements.{All-nil}
use Rattle.lubase.specs.Graph.{Graph, row_of, PointsTo, Reaches, one, more, IsCycle, IsOrder, OrderOrCycle}
use Rattle.lubase.specs.Search.{Has, Lacks, IsPassed, IsSearch}
use Rattle.lubase.proofs.Marks.{same_or_not, below_or_not, has_or_lacks, has_not_lacks, fewer_lack}
use Rattle.lubase.proofs.Stepping.{visit_of, points_to, entered_next, placed_last}
use Rattle.lubase.proofs.Ordering.{ordered, target_inside}

pub joined : (g : Graph) (u v w : ℕ) → Reaches g u v → Reaches g v w → Reaches g u w
joined g u v w p (one _ _ edge) = more u v w p edge
joined g u v w p (more _ x _ q edge) = more u x w (joined g u v x p q) edge

-- WHERE EACH VERTEX OF A SET LEADS TO ONE OF THE SET, SOME VERTEX REACHES ITSELF

-- a vertex below a bound that lacks a mark, and that v reaches
abbrev pub Leads : Graph → List Bool → ℕ → ℕ → Type 0
Leads g marks n v = (w : ℕ) × (w < n) × Lacks marks w × Reaches g v w

module _ (g : Graph) (marks : List Bool) where
  -- from the bound n + 1 to n, where n has a mark or leads to one below n
  lower : (n v : ℕ) → Leads g marks (suc n) v → Has marks n ⊎ Leads g marks n n → Leads g marks n v
  lower n v (w, lt, out, way) other =
      elim (same_or_not w n) [
        | inl e ↦ elim other [
          | inl has ↦ absurd (has_not_lacks marks n has (subst (Lacks marks) e out))
          | inr on ↦ (on.0, on.1, on.2, joined g v n on.0 (subst (Reaches g v) e way) on.3)
        ]
        | inr ne ↦ (w, omega (arith, lt, ne), out, way)
      ]

  pub cycle_below : (n : ℕ) → ((v : ℕ) → v < n → Lacks marks v → Leads g marks n v) → (v : ℕ) → v < n → Lacks marks v → (u : ℕ) × IsCycle g u
  cycle_below zero all v lt out = absurd (omega (arith, lt))
  cycle_below (suc n) all v lt out =
      elim (has_or_lacks marks n) [
        | inl has ↦
            let ne : v ≢ n = λ e. has_not_lacks marks n has (subst (Lacks marks) e out) in
            cycle_below n (λ u less open_u. lower n u (all u (omega (arith, less)) open_u) (inl has)) v (omega (arith, lt, ne)) out
        | inr last ↦
            let step = all n (omega arith) last in
            elim (same_or_not step.0 n) [
              | inl e ↦ (n, subst (Reaches g n) e step.3)
              | inr ne ↦
                  let on : Leads g marks n n = (step.0, omega (arith, step.1, ne), step.2, step.3) in
                  cycle_below n (λ u less open_u. lower n u (all u (omega (arith, less)) open_u) (inr on)) step.0 on.1 step.2
            ]
      ]

-- A VERTEX THAT CAN BE PLACED

-- an edge to a vertex that lacks a mark
abbrev pub Waits : Graph → List Bool → ℕ → Type 0
Waits g marks v = (w : ℕ) × PointsTo g v w × Lacks marks w

abbrev pub IsReady : Graph → List Bool → ℕ → Type 0
IsReady g marks v = (k : ℕ) → k < length (row_of g v) → IsPassed marks (row_of g v) k

module _ (g : Graph) (marks : List Bool) (long : length marks ≡ length g) where
  ready_up_to : (v n : ℕ) → n ≤ length (row_of g v) → ((k : ℕ) → k < n → IsPassed marks (row_of g v) k) ⊎ Waits g marks v
  ready_up_to v zero le = inl (λ k lt. absurd (omega (arith, lt)))
  ready_up_to v (suc n) le =
      let row = row_of g v in
      elim (ready_up_to v n (omega (arith, le))) [
        | inr waits ↦ inr waits
        | inl before ↦ elim (has_or_lacks marks (get_or row n 0)) [
          | inl has ↦ inl (λ k lt low. elim (same_or_not k n) [ inl e ↦ subst (λ j. Has marks (get_or row j 0)) (sym e) has | inr ne ↦ before k (omega (arith, lt, ne)) low ])
          | inr lacks ↦ elim (below_or_not (get_or row n 0) (length g)) [
            | inl low ↦ inr (get_or row n 0, points_to g v row n refl (omega (arith, le)) low, lacks)
            | inr past ↦ inl (λ k lt low. elim (same_or_not k n) [ inl e ↦ absurd (omega (arith, low, past, long, ap (λ j. get_or row j 0) e)) | inr ne ↦ before k (omega (arith, lt, ne)) low ])
          ]
        ]
      ]

  -- a vertex below a bound that can be placed, or all that lack a mark wait
  ready_below : (n : ℕ) → ((v : ℕ) × (v < n) × Lacks marks v × IsReady g marks v) ⊎ ((v : ℕ) → v < n → Lacks marks v → Waits g marks v)
  ready_below zero = inr (λ v lt. absurd (omega (arith, lt)))
  ready_below (suc n) =
      elim (ready_below n) [
        | inl found ↦ inl (found.0, omega (arith, found.1), found.2, found.3)
        | inr before ↦ elim (has_or_lacks marks n) [
          | inl has ↦ inr (λ v lt out. elim (same_or_not v n) [ inl e ↦ absurd (has_not_lacks marks n has (subst (Lacks marks) e out)) | inr ne ↦ before v (omega (arith, lt, ne)) out ])
          | inr lacks ↦ elim (ready_up_to n (length (row_of g n)) (omega arith)) [
            | inl ready ↦ inl (n, omega arith, lacks, ready)
            | inr waits ↦ inr (λ v lt out. elim (same_or_not v n) [ inl e ↦ subst (Waits g marks) (sym e) waits | inr ne ↦ before v (omega (arith, lt, ne)) out ])
          ]
        ]
      ]

  all_below : (n : ℕ) → ((v : ℕ) → v < n → Has marks v) ⊎ ((v : ℕ) × (v < n) × Lacks marks v)
  all_below zero = inl (λ v lt. absurd (omega (arith, lt)))
  all_below (suc n) =
      elim (all_below n) [
        | inr found ↦ inr (found.0, omega (arith, found.1), found.2)
        | inl before ↦ elim (has_or_lacks marks n) [
          | inl has ↦ inl (λ v lt. elim (same_or_not v n) [ inl e ↦ subst (Has marks) (sym e) has | inr ne ↦ before v (omega (arith, lt, ne)) ])
          | inr lacks ↦ inr (n, omega arith, lacks)
        ]
      ]

-- ONE VERTEX AFTER ANOTHER

abbrev pub Outcome : Graph → Type 0
Outcome g = ((order : List ℕ) × IsOrder g order) ⊎ ((v : ℕ) × (v < length g) × IsCycle g v)

none_open : (g : Graph) (entered placed : List Bool) (order : List ℕ) → IsSearch g entered placed [] order → (v : ℕ) → Lacks placed v → Lacks entered v
none_open g entered placed order s v lacks =
    elim (has_or_lacks entered v) [ inl has ↦ let found = s.way.listed v has lacks in absurd (none-some found.1 found.2) | inr out ↦ out ]

-- a search that is on no way, with fewer vertices to place
pub record Further (g : Graph) (placed : List Bool) : Type 0 where
  pub entered_now : List Bool
  pub placed_now : List Bool
  pub order : List ℕ
  pub sound : IsSearch g entered_now placed_now [] order
  pub fewer : count_by not placed_now < count_by not placed

further : (g : Graph) (entered placed : List Bool) (order : List ℕ) → IsSearch g entered placed [] order → (v : ℕ) → v < length g → Lacks placed v → IsReady g placed v → Further g placed
further g entered placed order s v lt lacks ready =
    let on_way = entered_next g entered placed [] order v s lt (none_open g entered placed order s v lacks) (λ i x e. absurd (none-some x e)) in
    record {
      entered_now = set entered v true;
      placed_now = set placed v true;
      order = order ++ v ∷ [];
      sound = placed_last g (set entered v true) placed [] order (visit_of v 0) on_way ready;
      fewer = fewer_lack placed v (omega (arith, lt, s.placed_long)) lacks;
    }

-- all are placed, or one more can be, or some vertex reaches itself
next_of : (g : Graph) (entered placed : List Bool) (order : List ℕ) → IsSearch g entered placed [] order → Outcome g ⊎ Further g placed
next_of g entered placed order s =
    elim (all_below g placed s.placed_long (length g)) [
      | inl all ↦ inl (inl (order, ordered g entered placed order s (λ v lt. s.sooner v (all v lt))))
      | inr some ↦ elim (ready_below g placed s.placed_long (length g)) [
        | inl found ↦ inr (further g entered placed order s found.0 found.1 found.2 found.3)
        | inr wait ↦
            let leads : (v : ℕ) → v < length g → Lacks placed v → Leads g placed (length g) v = λ v lt out. let on = wait v lt out in (on.0, on.1.inside, on.2, one v on.0 on.1) in
            let found = cycle_below g placed (length g) leads some.0 some.1 some.2 in
            inl (inr (found.0, target_inside g found.0 found.0 found.1, found.1))
      ]
    ]

grown : (g : Graph) (k : ℕ) (entered placed : List Bool) (order : List ℕ) → IsSearch g entered placed [] order → count_by not placed ≤ k → Outcome g
grown g zero entered placed order s le = elim (next_of g entered placed order s) [ inl found ↦ found | inr on ↦ absurd (omega (arith, le, on.fewer)) ]
grown g (suc k) entered placed order s le =
    elim (next_of g entered placed order s) [ inl found ↦ found | inr on ↦ grown g k on.entered_now on.placed_now on.order on.sound (omega (arith, le, on.fewer)) ]

pub none_marked : (n v : ℕ) → Has (replicate n false) v → ⊥
none_marked zero v has = true≢false (sym has)
none_marked (suc n) zero has = true≢false (sym has)
none_marked (suc n) (suc v) has = none_marked n v has

pub fresh : (g : Graph) → IsSearch g (replicate (length g) false) (replicate (length g) false) [] []
fresh g =
    let n = length g in
    record {
      entered_long = length-replicate n false;
      placed_long = length-replicate n false;
      sooner = λ v has. has;
      placing = record {
        listed = λ v has. absurd (none_marked n v has);
        only = All-nil (Has (replicate n false));
        once = λ i j lt less. absurd (omega (arith, less));
        behind = λ i w lt. absurd (omega (arith, lt));
      };
      way = record {
        listed = λ v has. absurd (none_marked n v has);
        marked = λ i x e. absurd (none-some x e);
        unplaced = λ i x e. absurd (none-some x e);
        inside = λ i x e. absurd (none-some x e);
        apart = λ i j x y lt e. absurd (none-some x e);
        reaches = λ i j x y lt e. absurd (none-some x e);
        passed = λ i x e. absurd (none-some x e);
      };
    }

pub order_or_cycle : OrderOrCycle
order_or_cycle g =
    let marks = replicate (length g) false in
    grown g (count_by not marks) marks marks [] (fresh g) (omega arith)
