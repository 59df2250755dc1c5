-- Chains of reads are ways of the graph of the same rows.
use Rattle.std.proofs.Common.{◌≡◌, ℕ, zero, suc, ◌<◌, true, List, [], ◌∷◌, length, Vec, Global, refl, sym, ap, ◌∙◌, subst, arith}
use Rattle.std.proofs.lemmas.List.{length-map}
use Rattle.lubase.specs.Graph.{Graph, row_of, PointsTo, Reaches, IsCycle, IsOrder, one as one_edge, more as more_edges}
use Rattle.lubase.proofs.Ordering.{order_excludes_cycle}
use Rattle.luflow.specs.Rank.{has, row, Chain}
use Rattle.luflow.specs.Rank.{one, more}
use Rattle.lucore_laws.specs.Rank.{AreClosed, IsLeastOnCycle}
use Rattle.lucore_laws.proofs.Orders.{contains_from_has, has_from_contains}
use Rattle.lucore_laws.proofs.Reading.{lists_of}
use Rattle.lucore_laws.proofs.RankWalks.{closed_at, SomeCycle}

row_of_lists : (g : Graph) (v : ℕ) → row_of g v ≡ row (lists_of g) v
row_of_lists [] v = refl
row_of_lists (l ∷ g) zero = refl
row_of_lists (l ∷ g) (suc v) = row_of_lists g v

module _ (rows : List (List ℕ)) (g : Graph) (same : lists_of g ≡ rows) where
  same_row : (v : ℕ) → row_of g v ≡ row rows v
  same_row v = row_of_lists g v ∙ ap (λ ls. row ls v) same

  edge_from_read : AreClosed rows → (x y : ℕ) → has (row rows x) y ≡ true → PointsTo g x y
  edge_from_read closed x y h =
      record {
        listed = contains_from_has (row_of g x) y (subst (λ xs. has xs y ≡ true) (sym (same_row x)) h);
        inside = let lt = closed_at rows x y closed h in omega (arith, lt, ap length same, length-map g (λ (v : Vec ℕ Global). v.items));
      }

  read_from_edge : (x y : ℕ) → PointsTo g x y → has (row rows x) y ≡ true
  read_from_edge x y p = subst (λ xs. has xs y ≡ true) (same_row x) (has_from_contains (row_of g x) y p.listed)

  pub way_from_chain : AreClosed rows → (x y : ℕ) → Chain rows x y → Reaches g x y
  way_from_chain closed x y (one _ _ h) = one_edge x y (edge_from_read closed x y h)
  way_from_chain closed x z (more _ y _ c h) = more_edges x y z (way_from_chain closed x y c) (edge_from_read closed y z h)

  pub chain_from_way : (x y : ℕ) → Reaches g x y → Chain rows x y
  chain_from_way x y (one_edge _ _ e) = one x y (read_from_edge x y e)
  chain_from_way x z (more_edges _ y _ w e) = more x y z (chain_from_way x y w) (read_from_edge y z e)

  pub least_from_graph : AreClosed rows → (x : ℕ) → IsCycle g x → ((u : ℕ) → u < x → ¬ IsCycle g u) → IsLeastOnCycle rows x
  least_from_graph closed x cycle least =
      record { cycle = chain_from_way x x cycle; least = λ y lt c. least y lt (way_from_chain closed y y c) }

  pub never_sorted : AreClosed rows → (order : List ℕ) → SomeCycle rows → IsOrder g order → ⊥
  never_sorted closed order (x, c) o = order_excludes_cycle g order x o (way_from_chain closed x x c)
