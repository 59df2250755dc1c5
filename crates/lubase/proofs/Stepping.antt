-- The steps of a search.
use Rattle.std.proofs.Common.{◌≡◌, ◌≢◌, ◌<◌, ◌≤◌, inl, inr, ℕ, List, [], ◌∷◌, ◌++◌, Bool, true, false, length, get_or, set, take, sym, ◌∙◌, ap, subst, arith, Contains, length-append, length-set}
use Rattle.std.proofs.lemmas.List.{get_or_push, take-append-le, get_or_default}
use Rattle.std.proofs.lemmas.List.Elements.{Contains-push, Contains-append_left, All-push, All-weaker, All-get_or, Contains-get_or}
use Rattle.std.proofs.Math.Seq.{take-append_seam}
use Rattle.std.proofs.Math.ListN.{get_or-append}
use Rattle.lubase.specs.declared.search.Visit.{Visit}
use Rattle.lubase.specs.Graph.{Graph, row_of, PointsTo, Reaches, one, more}
use Rattle.lubase.specs.Search.{Has, Lacks, IsPassed, Each, IsPlacing, IsSearch}
use Rattle.lubase.proofs.Pushed.{at_push, at_left, at_last, each_push, each_front, each_last, pairs_push, pairs_front, pairs_last}
use Rattle.lubase.proofs.Marks.{same_or_not, below_or_not, has_or_lacks, has_not_lacks, has_same, has_kept, has_cases, lacks_other, lacks_cases}

abbrev pub visit_of : ℕ → ℕ → Visit
visit_of v k = record { vertex = v; next = k }

-- the edges of a visit that are behind it
abbrev pub IsThrough : Graph → List Bool → Visit → Type 0
IsThrough g placed x = (k : ℕ) → k < x.next → k < length (row_of g x.vertex) → IsPassed placed (row_of g x.vertex) k

module _ (g : Graph) (entered placed : List Bool) (path : List Visit) (order : List ℕ) where
  -- THE LAST VISIT GOES ON IN ITS ROW

  pub resumed : (x : Visit) (k : ℕ) → IsSearch g entered placed (path ++ x ∷ []) order → IsThrough g placed (visit_of x.vertex k) →
      IsSearch g entered placed (path ++ visit_of x.vertex k ∷ []) order
  resumed x k s through =
      let y : Visit = visit_of x.vertex k in
      let w = s.way in
      record {
        entered_long = s.entered_long;
        placed_long = s.placed_long;
        sooner = s.sooner;
        placing = s.placing;
        way = record {
          listed = λ v has lacks.
              let old = w.listed v has lacks in
              elim (at_push path x old.0 old.1 old.2) [
                | inl h ↦ (old.0, old.1, at_left path (y ∷ []) old.0 old.1 h, old.3)
                | inr h ↦ (length path, y, at_last path y, ap (λ (z : Visit). z.vertex) h.1 ∙ old.3)
              ];
          marked = each_push (λ z. Has entered z.vertex) path y (each_front (λ z. Has entered z.vertex) path x w.marked) (each_last (λ z. Has entered z.vertex) path x w.marked);
          unplaced = each_push (λ z. Lacks placed z.vertex) path y (each_front (λ z. Lacks placed z.vertex) path x w.unplaced) (each_last (λ z. Lacks placed z.vertex) path x w.unplaced);
          inside = each_push (λ z. z.vertex < length g) path y (each_front (λ z. z.vertex < length g) path x w.inside) (each_last (λ z. z.vertex < length g) path x w.inside);
          apart = pairs_push (λ a b. a.vertex ≢ b.vertex) path y (pairs_front (λ a b. a.vertex ≢ b.vertex) path x w.apart) (pairs_last (λ a b. a.vertex ≢ b.vertex) path x w.apart);
          reaches = pairs_push (λ a b. Reaches g a.vertex b.vertex) path y (pairs_front (λ a b. Reaches g a.vertex b.vertex) path x w.reaches) (pairs_last (λ a b. Reaches g a.vertex b.vertex) path x w.reaches);
          passed = each_push (IsThrough g placed) path y (each_front (IsThrough g placed) path x w.passed) through;
        };
      }

  -- A VERTEX IS ENTERED

  pub entered_next : (v : ℕ) → IsSearch g entered placed path order → v < length g → Lacks entered v → Each (λ z. Reaches g z.vertex v) path →
      IsSearch g (set entered v true) placed (path ++ visit_of v 0 ∷ []) order
  entered_next v s within lacks reach =
      let y : Visit = visit_of v 0 in
      let w = s.way in
      let in_marks : v < length entered = omega (arith, within, s.entered_long) in
      let now_entered : List Bool = set entered v true in
      let unplaced : Lacks placed v = elim (has_or_lacks placed v) [ inl has ↦ absurd (has_not_lacks entered v (s.sooner v has) lacks) | inr h ↦ h ] in
      record {
        entered_long = length-set entered v true ∙ s.entered_long;
        placed_long = s.placed_long;
        sooner = λ u has. has_kept entered v u in_marks (s.sooner u has);
        placing = s.placing;
        way = record {
          listed = λ u has out.
              elim (has_cases entered v u has) [
                | inl e ↦ (length path, y, at_last path y, sym e)
                | inr h ↦ let old = w.listed u h out in (old.0, old.1, at_left path (y ∷ []) old.0 old.1 old.2, old.3)
              ];
          marked = each_push (λ z. Has now_entered z.vertex) path y (λ i x e. has_kept entered v x.vertex in_marks (w.marked i x e)) (has_same entered v in_marks);
          unplaced = each_push (λ z. Lacks placed z.vertex) path y w.unplaced unplaced;
          inside = each_push (λ z. z.vertex < length g) path y w.inside within;
          apart = pairs_push (λ a b. a.vertex ≢ b.vertex) path y w.apart (λ i x e same. has_not_lacks entered v (subst (Has entered) same (w.marked i x e)) lacks);
          reaches = pairs_push (λ a b. Reaches g a.vertex b.vertex) path y w.reaches reach;
          passed = each_push (IsThrough g placed) path y w.passed (λ k lt row. absurd (omega (arith, lt)));
        };
      }

  -- what reaches the last vertex reaches what it points to
  pub reach_next : (x : Visit) (v : ℕ) → IsSearch g entered placed (path ++ x ∷ []) order → PointsTo g x.vertex v →
      (k : ℕ) → Each (λ z. Reaches g z.vertex v) (path ++ visit_of x.vertex k ∷ [])
  reach_next x v s edge k =
      each_push (λ z. Reaches g z.vertex v) path (visit_of x.vertex k)
      (λ i z e. more z.vertex x.vertex v (pairs_last (λ a b. Reaches g a.vertex b.vertex) path x s.way.reaches i z e) edge)
      (one x.vertex v edge)

  -- AN EDGE LEADS BACK TO THE WAY

  pub closed : (x : Visit) (v : ℕ) → IsSearch g entered placed (path ++ x ∷ []) order → PointsTo g x.vertex v → Has entered v → Lacks placed v → Reaches g v v
  closed x v s edge has lacks =
      let found = s.way.listed v has lacks in
      let reach = reach_next x v s edge x.next in
      subst (λ u. Reaches g u v) found.3 (reach found.0 found.1 found.2)

  -- THE LAST VERTEX IS PLACED

  listed_now : (v : ℕ) → IsPlacing g placed order → (u : ℕ) → Has (set placed v true) u → Contains (order ++ v ∷ []) u
  listed_now v p u has =
      elim (has_cases placed v u has) [
        | inl e ↦ subst (Contains (order ++ v ∷ [])) (sym e) (Contains-push order v)
        | inr h ↦ Contains-append_left order (v ∷ []) u (p.listed u h)
      ]

  once_now : (v : ℕ) → IsPlacing g placed order → Lacks placed v → (i j : ℕ) → i < j → j < length (order ++ v ∷ []) →
      get_or (order ++ v ∷ []) i 0 ≢ get_or (order ++ v ∷ []) j 0
  once_now v p lacks i j lt within same =
      let in_front : i < length order = omega (arith, lt, within, length-append order (v ∷ [])) in
      let first : get_or (order ++ v ∷ []) i 0 ≡ get_or order i 0 = get_or-append order (v ∷ []) 0 i in_front in
      elim (same_or_not j (length order)) [
        | inl e ↦
            let last : get_or (order ++ v ∷ []) j 0 ≡ v = get_or_push order v 0 j (sym e) in
            let has : Has placed (get_or order i 0) = All-get_or (Has placed) order i 0 in_front p.only in
            has_not_lacks placed v (subst (Has placed) (sym first ∙ same ∙ last) has) lacks
        | inr ne ↦
            let less : j < length order = omega (arith, within, length-append order (v ∷ []), ne) in
            p.once i j lt less (sym first ∙ same ∙ get_or-append order (v ∷ []) 0 j less)
      ]

  behind_now : (v : ℕ) → length placed ≡ length g → IsPlacing g placed order → ((k : ℕ) → k < length (row_of g v) → IsPassed placed (row_of g v) k) →
      (i w : ℕ) → i < length (order ++ v ∷ []) → PointsTo g (get_or (order ++ v ∷ []) i 0) w → Contains (take i (order ++ v ∷ [])) w
  behind_now v long p passed i w within edge =
      elim (same_or_not i (length order)) [
        | inl e ↦
            let last : get_or (order ++ v ∷ []) i 0 ≡ v = get_or_push order v 0 i (sym e) in
            let here : PointsTo g v w = subst (λ u. PointsTo g u w) last edge in
            let k : ℕ = here.listed.0 in
            let at_k : get_or (row_of g v) k 0 ≡ w = get_or_default (row_of g v) k 0 w here.listed.1 ∙ here.listed.2 in
            let low : get_or (row_of g v) k 0 < length placed = omega (arith, at_k, here.inside, long) in
            let has : Has placed w = subst (Has placed) at_k (passed k here.listed.1 low) in
            let whole : take i (order ++ v ∷ []) ≡ order = subst (λ n. take n (order ++ v ∷ []) ≡ order) (sym e) (take-append_seam order (v ∷ [])) in
            subst (λ xs. Contains xs w) (sym whole) (p.listed w has)
        | inr ne ↦
            let less : i < length order = omega (arith, within, length-append order (v ∷ []), ne) in
            let first : get_or (order ++ v ∷ []) i 0 ≡ get_or order i 0 = get_or-append order (v ∷ []) 0 i less in
            subst (λ xs. Contains xs w) (sym (take-append-le i order (v ∷ []) (omega (arith, less)))) (p.behind i w less (subst (λ u. PointsTo g u w) first edge))
      ]

  pub placed_last : (x : Visit) → IsSearch g entered placed (path ++ x ∷ []) order → ((k : ℕ) → k < length (row_of g x.vertex) → IsPassed placed (row_of g x.vertex) k) →
      IsSearch g entered (set placed x.vertex true) path (order ++ x.vertex ∷ [])
  placed_last x s passed =
      let v : ℕ = x.vertex in
      let w = s.way in
      let lacks : Lacks placed v = each_last (λ z. Lacks placed z.vertex) path x w.unplaced in
      let within : v < length g = each_last (λ z. z.vertex < length g) path x w.inside in
      let in_marks : v < length placed = omega (arith, within, s.placed_long) in
      let now_placed : List Bool = set placed v true in
      let other : Each (λ z. z.vertex ≢ v) path = pairs_last (λ a b. a.vertex ≢ b.vertex) path x w.apart in
      record {
        entered_long = s.entered_long;
        placed_long = length-set placed v true ∙ s.placed_long;
        sooner = λ u has. elim (has_cases placed v u has) [ inl e ↦ subst (Has entered) (sym e) (each_last (λ z. Has entered z.vertex) path x w.marked) | inr h ↦ s.sooner u h ];
        placing = record {
          listed = listed_now v s.placing;
          only = All-push (Has now_placed) order v (All-weaker (Has placed) (Has now_placed) (λ u has. has_kept placed v u in_marks has) order s.placing.only) (has_same placed v in_marks);
          once = once_now v s.placing lacks;
          behind = behind_now v s.placed_long s.placing passed;
        };
        way = record {
          listed = λ u has out.
              let split = lacks_cases placed v u in_marks out in
              let old = w.listed u has split.1 in
              elim (at_push path x old.0 old.1 old.2) [
                | inl h ↦ (old.0, old.1, h, old.3)
                | inr h ↦ absurd (split.0 (sym old.3 ∙ sym (ap (λ (z : Visit). z.vertex) h.1)))
              ];
          marked = each_front (λ z. Has entered z.vertex) path x w.marked;
          unplaced = λ i z e. lacks_other placed v z.vertex (other i z e) (w.unplaced i z (at_left path (x ∷ []) i z e));
          inside = each_front (λ z. z.vertex < length g) path x w.inside;
          apart = pairs_front (λ a b. a.vertex ≢ b.vertex) path x w.apart;
          reaches = pairs_front (λ a b. Reaches g a.vertex b.vertex) path x w.reaches;
          passed = λ i z e k lt row low. has_kept placed v (get_or (row_of g z.vertex) k 0) in_marks
              (w.passed i z (at_left path (x ∷ []) i z e) k lt row (omega (arith, low, length-set placed v true)));
        };
      }

-- what stands in a row is pointed to
pub points_to : (g : Graph) (v : ℕ) (row : List ℕ) (k : ℕ) → row ≡ row_of g v → k < length row → get_or row k 0 < length g → PointsTo g v (get_or row k 0)
points_to g v row k e lt low = record { listed = subst (λ xs. Contains xs (get_or row k 0)) e (Contains-get_or row k 0 lt); inside = low }

pub read_mark : (marks : List Bool) (v : ℕ) (r b : Bool) → v < length marks → r ≡ get_or marks v r → r ≡ b → get_or marks v false ≡ b
read_mark marks v r b lt e f = get_or_default marks v false r lt ∙ sym e ∙ f

-- the last visit has looked at the places of its row up to an edge
pub through_row : (g : Graph) (placed : List Bool) (x : Visit) (row : List ℕ) (k n : ℕ) → row ≡ row_of g x.vertex → IsThrough g placed x →
    ((j : ℕ) → x.next ≤ j → j < n → IsPassed placed row j) → k ≤ n → IsThrough g placed (visit_of x.vertex k)
through_row g placed x row k n e before after le j lt within =
    elim (below_or_not j x.next) [
      | inl less ↦ before j less within
      | inr more_on ↦ subst (λ xs. IsPassed placed xs j) e (after j more_on (omega (arith, lt, le)))
    ]
