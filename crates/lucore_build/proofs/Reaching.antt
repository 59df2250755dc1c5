-- What the main node reaches, by the links of the graph of calls.
use Rattle.std.proofs.Common.{◌≡◌, ℕ, zero, suc, ◌+◌, ◌<◌, ◌≤◌, ⊎_elim, List, [], ◌∷◌, length, map, Some, sym, ap, ◌∙◌, subst, arith, All, Bool, get_or, ◌↔◌}
use Rattle.std.specs.Prelude.{slice_get, option_map, Contains}
use Rattle.std.proofs.lemmas.Bool.{cases_lt}
use Rattle.std.proofs.lemmas.List.Elements.{All-nil, All-cons, All-head, All-tail, All-append, Contains-append_left, Contains-append_right}
use Rattle.std.proofs.lemmas.Option.{slice_get-map, slice_get-get_or, slice_get_within, slice_get_past}
use Rattle.lutree.specs.Tree.{NodeTree, ProgramTree}
use Rattle.lustat_rules.specs.Naming.{called_by, node_place}
use Rattle.lubase.specs.Graph.{Graph, row_of, items_of}
use Rattle.lubase.specs.Search.{Has}
use Rattle.lubase.specs.Reach.{link, IsWithin, IsReached, along}
use Rattle.lutype.specs.CallGraph.{places_called}
use Rattle.lutype.proofs.CallPlaces.{means, found_of}
use Rattle.lutype.proofs.CallWays.{AreRows}
use Rattle.lucore_laws.proofs.Names.{contains_at, contains_get, all_of}
use Rattle.lucore_build.specs.Listed.{links_from, AreClosed}

contains_map : {A B : Type 0} (f : A → B) (xs : List A) (x : A) → Contains xs x → Contains (map f xs) (f x)
contains_map f xs x c =
    let a = contains_at xs x c in
    contains_get (map f xs) (f x) a.0 (slice_get-map f xs a.0 ∙ ap (option_map f) a.1)

-- each edge has its link
linked : (u : ℕ) (g : Graph) (v w : ℕ) → Contains (row_of g v) w → Contains (links_from u g) (link (u + v) w)
linked u [] v w c = absurd (omega (arith, c.1))
linked u (row ∷ g) zero w c =
    let z : u ≡ u + 0 = omega arith in
    Contains-append_left (map (link u) row.items) (links_from (suc u) g) (link (u + 0) w) (subst (λ m. Contains (map (link u) row.items) (link m w)) z (contains_map (link u) row.items w c))
linked u (row ∷ g) (suc v) w c =
    let z : suc u + v ≡ u + suc v = omega arith in
    Contains-append_right (map (link u) row.items) (links_from (suc u) g) (link (u + suc v) w) (subst (λ m. Contains (links_from (suc u) g) (link m w)) z (linked (suc u) g v w c))

row_links : (size u : ℕ) → u < size → (xs : List ℕ) → All (λ w. w < size) xs → All (IsWithin size) (map (link u) xs)
row_links size u lt [] all = All-nil (IsWithin size)
row_links size u lt (x ∷ xs) all =
    All-cons (IsWithin size) (link u x) (map (link u) xs) (record { from = lt; to = All-head (λ w. w < size) x xs all })
    (row_links size u lt xs (All-tail (λ w. w < size) x xs all))

-- where all rows are of vertices, so are the links
links_within : (size u : ℕ) (g : Graph) → u + length g ≤ size → ((v : ℕ) → All (λ w. w < size) (row_of g v)) → All (IsWithin size) (links_from u g)
links_within size u [] le rows = All-nil (IsWithin size)
links_within size u (row ∷ g) le rows =
    All-append (IsWithin size) (map (link u) row.items) (links_from (suc u) g)
    (row_links size u (omega (arith, le)) row.items (rows 0))
    (links_within size (suc u) g (omega (arith, le)) (λ v. rows (suc v)))

module _ (p : ProgramTree) (g : Graph) (s : AreRows p g) where
  called_inside : (n : NodeTree) → All (λ w. w < length p.nodes) (places_called p n)
  called_inside n =
      all_of (λ w. w < length p.nodes) (places_called p n) (λ i j e.
      let f = found_of (node_place p) (called_by n) j (contains_get (places_called p n) j i e) in
      let m = means p f.name j f.found in
      slice_get_within p.nodes j m.node m.there)

  rows_inside : (v : ℕ) → All (λ w. w < length p.nodes) (row_of g v)
  rows_inside v =
      ⊎_elim
      (λ (lt : v < length p.nodes).
      let n : NodeTree = get_or p.nodes v unnamed in
      let there : slice_get p.nodes v ≡ Some n = slice_get-get_or p.nodes v unnamed lt in
      subst (All (λ w. w < length p.nodes)) (sym (s.rows v n there)) (called_inside n))
      (λ (le : length p.nodes ≤ v).
      let none : row_of g v ≡ [] = ap items_of (slice_get_past g v (omega (arith, le, s.long))) in
      subst (All (λ w. w < length p.nodes)) (sym none) (All-nil (λ w. w < length p.nodes)))
      (cases_lt v (length p.nodes))
    where
      unnamed : NodeTree
      unnamed = record { name = []; inputs = []; outputs = []; locals = []; equations = [] }

  pub within : (size : ℕ) → size ≡ length g → All (IsWithin size) (links_from 0 g)
  within size is =
      let same : length p.nodes ≡ size = sym s.long ∙ sym is in
      subst (λ n. All (IsWithin n) (links_from 0 g)) same (links_within (length p.nodes) 0 g (omega (arith, s.long)) rows_inside)

  pub start_inside : (size place : ℕ) → size ≡ length g → place < length p.nodes → All (λ v. v < size) (place ∷ [])
  start_inside size place is lt = All-cons (λ v. v < size) place [] (omega (arith, is, lt, s.long)) (All-nil (λ v. v < size))

  -- marks that say what is reached go with calls
  pub closed : (starts : List ℕ) (marks : List Bool) → ((v : ℕ) → Has marks v ↔ IsReached starts (links_from 0 g) v) → AreClosed p marks
  closed starts marks exact i j n there has called =
      let edge : Contains (row_of g i) j = subst (λ row. Contains row j) (sym (s.rows i n there)) called in
      let z : 0 + i ≡ i = omega arith in
      (exact j).1 (along i j ((exact i).0 has) (subst (λ m. Contains (links_from 0 g) (link m j)) z (linked 0 g i j edge)))
