-- Orders and cycles.
use Rattle.std.proofs.Common.{◌≡◌, ◌<◌, inl, inr, ℕ, List, [], Bool, length, get_or, take, sym, ◌∙◌, subst, arith, Contains}
use Rattle.std.proofs.lemmas.List.{get_or_default, length-take, get_or-take}
use Rattle.std.proofs.lemmas.List.Elements.{All-weaker}
use Rattle.lubase.specs.Graph.{Graph, PointsTo, Reaches, one, more, IsOrder, OrderExcludesCycle}
use Rattle.lubase.specs.Search.{Has, IsPlacing, IsSearch}
use Rattle.lubase.proofs.Marks.{has_or_lacks, below_or_not, has_inside}
use Rattle.std.proofs.lemmas.Option.{none-some}

-- what a placed vertex reaches is placed at a lesser place
reached_before : (g : Graph) (order : List ℕ) → IsOrder g order → (u v : ℕ) → Reaches g u v → (i : ℕ) → i < length order → get_or order i 0 ≡ u →
    (j : ℕ) × (j < i) × (get_or order j 0 ≡ v)
reached_before g order o u v (one _ _ edge) i lt e =
    let found = o.all v edge.inside in
    let there : get_or order found.0 0 ≡ v = get_or_default order found.0 0 v found.1 ∙ found.2 in
    (found.0, o.behind i found.0 lt found.1 (subst (λ x. PointsTo g x (get_or order found.0 0)) (sym e) (subst (PointsTo g u) (sym there) edge)), there)
reached_before g order o u v (more _ w _ way edge) i lt e =
    let first = reached_before g order o u w way i lt e in
    let found = o.all v edge.inside in
    let there : get_or order found.0 0 ≡ v = get_or_default order found.0 0 v found.1 ∙ found.2 in
    let less : first.0 < length order = omega (arith, first.1, lt) in
    let next : found.0 < first.0 = o.behind first.0 found.0 less found.1 (subst (λ x. PointsTo g x (get_or order found.0 0)) (sym first.2) (subst (PointsTo g w) (sym there) edge)) in
    (found.0, omega (arith, next, first.1), there)

pub target_inside : (g : Graph) (u v : ℕ) → Reaches g u v → v < length g
target_inside g u v (one _ _ edge) = edge.inside
target_inside g u v (more _ _ _ way edge) = edge.inside

pub order_excludes_cycle : OrderExcludesCycle
order_excludes_cycle g order v o cycle =
    let found = o.all v (target_inside g v v cycle) in
    let there : get_or order found.0 0 ≡ v = get_or_default order found.0 0 v found.1 ∙ found.2 in
    let before = reached_before g order o v v cycle found.0 found.1 there in
    absurd (omega (arith, before.1, o.once before.0 found.0 (omega (arith, before.1, found.1)) found.1 (before.2 ∙ sym there)))

-- the order of a search that has entered all, and is on no way
pub ordered : (g : Graph) (entered placed : List Bool) (order : List ℕ) → IsSearch g entered placed [] order → ((v : ℕ) → v < length g → Has entered v) → IsOrder g order
ordered g entered placed order s all =
    let p = s.placing in
    let listed : (v : ℕ) → v < length g → Contains order v = λ v lt.
    elim (has_or_lacks placed v) [ inl has ↦ p.listed v has | inr out ↦ let found = s.way.listed v (all v lt) out in absurd (none-some found.1 found.2) ] in
    record {
      all = listed;
      inside = All-weaker (Has placed) (λ v. v < length g) (λ v has. omega (arith, has_inside placed v has, s.placed_long)) order p.only;
      once = λ i j lt less same.
          elim (below_or_not i j) [
            | inl before ↦ absurd (p.once i j before less same)
            | inr after ↦ elim (below_or_not j i) [ inl before ↦ absurd (p.once j i before lt (sym same)) | inr other ↦ omega (arith, after, other) ]
          ];
      behind = λ i j lt less edge.
          let found = p.behind i (get_or order j 0) lt edge in
          earlier p i j lt less found;
    }
  where
    earlier : IsPlacing g placed order → (i j : ℕ) → i < length order → j < length order → Contains (take i order) (get_or order j 0) → j < i
    earlier p i j lt less found =
        let k : ℕ = found.0 in
        let low : k < i = omega (arith, found.1, length-take i order) in
        let same : get_or order k 0 ≡ get_or order j 0 = sym (get_or-take i order k 0 low) ∙ get_or_default (take i order) k 0 (get_or order j 0) found.1 ∙ found.2 in
        elim (below_or_not k j) [
          | inl before ↦ absurd (p.once k j before less same)
          | inr after ↦ omega (arith, after, low)
        ]
