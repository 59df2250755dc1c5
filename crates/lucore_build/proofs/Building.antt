-- Lists that are made in an order in which calls go backward.
use Rattle.std.proofs.Common.{◌≡◌, ℕ, zero, suc, ◌+◌, ◌<◌, ◌≤◌, ◌⊎◌, inl, inr, ⊎_elim, List, [], ◌∷◌, length, take, Option, Some, None, refl, sym, ap, ◌∙◌, subst, arith, Bool, set}
use Rattle.std.specs.Prelude.{slice_get, unwrap_or, Contains, ◌≢◌}
use Rattle.std.proofs.lemmas.Bool.{cases_lt}
use Rattle.std.proofs.lemmas.List.{get_or-take, length-take}
use Rattle.std.proofs.lemmas.Option.{same_Some, slice_get-get_or, slice_get_past}
use Rattle.lutree.specs.Tree.{NodeTree, ProgramTree}
use Rattle.luflow.specs.declared.form.Flow.{Flow}
use Rattle.lustat_rules.specs.Naming.{Call, calls_in, called_by, node_place, IsCallOrder}
use Rattle.lubase.specs.Search.{Has}
use Rattle.lutype.proofs.CallPlaces.{found_in}
use Rattle.lucore_laws.specs.Layout.{list_at, list_of, node_flows, node_owners, AreLists}
use Rattle.lucore_laws.proofs.Names.{all_of}
use Rattle.lucore_laws.proofs.Same.{nodes_same, called_in}
use Rattle.lucore_build.specs.Listed.{AreClosed, AreBuilt, IsNodeList}

-- a place of an order, from what it has up to another place
place_before : (order : List ℕ) (k j : ℕ) → Contains (take k order) j → (i : ℕ) × (i < k) × (slice_get order i ≡ Some j)
place_before order k j found =
    let low : found.0 < k = omega (arith, found.1, length-take k order) in
    let inside : found.0 < length order = omega (arith, found.1, length-take k order) in
    (found.0, low, slice_get-get_or order found.0 j inside ∙ ap Some (sym (get_or-take k order found.0 j low) ∙ found.2))

set_here : {A : Type 0} (xs : List A) (i : ℕ) (x : A) → i < length xs → slice_get (set xs i x) i ≡ Some x
set_here [] i x lt = absurd (omega (arith, lt))
set_here (y ∷ xs) zero x lt = refl
set_here (y ∷ xs) (suc i) x lt = set_here xs i x (omega (arith, lt))

set_other : {A : Type 0} (xs : List A) (i j : ℕ) (x : A) → j ≢ i → slice_get (set xs i x) j ≡ slice_get xs j
set_other [] i j x other = refl
set_other (y ∷ xs) zero zero x other = absurd (other refl)
set_other (y ∷ xs) zero (suc j) x other = refl
set_other (y ∷ xs) (suc i) zero x other = refl
set_other (y ∷ xs) (suc i) (suc j) x other = set_other xs i j x (λ e. other (ap suc e))

same_or_not : (i j : ℕ) → (i ≡ j) ⊎ (i ≢ j)
same_or_not zero zero = inl refl
same_or_not zero (suc j) = inr (λ e. omega (arith, e))
same_or_not (suc i) zero = inr (λ e. omega (arith, e))
same_or_not (suc i) (suc j) = ⊎_elim (λ (e : i ≡ j). inl (ap suc e)) (λ (o : i ≢ j). inr (λ e. o (omega (arith, e)))) (same_or_not i j)

-- nothing is built at first
pub none_built : (p : ProgramTree) (order : List ℕ) (marks : List Bool) (built : List (List Flow)) → AreBuilt p order marks 0 built
none_built p order marks built lists are m i lt at has = absurd (omega (arith, lt))

module _ (p : ProgramTree) (order : List ℕ) (marks : List Bool) (calls : IsCallOrder p order) (closed : AreClosed p marks) (k i : ℕ) (built : List (List Flow)) (are_built : AreBuilt p order marks k built) (at : slice_get order k ≡ Some i) where
  module _ (n : NodeTree) (there : slice_get p.nodes i ≡ Some n) (has : Has marks i) where
    called_same : (lists : List (List Flow)) → AreLists p lists → (f : List ℕ) → Contains (called_by n) f → list_of p built f ≡ list_of p lists f
    called_same lists are f called = go (node_place p f) refl
      where
        go : (o : Option ℕ) → node_place p f ≡ o → list_of p built f ≡ list_of p lists f
        go None e = ap (list_at built) e ∙ sym (ap (list_at lists) e)
        go (Some j) e =
            let m = place_before order k j (calls.after k i j n f at there called e) in
            let marked = closed i j n there has (found_in (node_place p) (called_by n) f j e called) in
            ap (list_at built) e ∙ ap (λ (o : Option (List Flow)). unwrap_or o []) (are_built lists are m.0 j m.1 m.2 marked) ∙ sym (ap (list_at lists) e)

    -- what the lists so far make of the next node is right
    pub node_right : IsNodeList p n (node_flows p built n) (node_owners p built n)
    node_right lists are =
        nodes_same p built lists n
        (λ j q here. all_of (λ (c : Call). list_of p built c.node ≡ list_of p lists c.node) (calls_in q.right)
        (λ m c at_c. called_same lists are c.node (called_in n.equations j m q c here at_c)))

    pub one_built : (list : List Flow) → list ≡ node_flows p built n → i < length built → AreBuilt p order marks (k + 1) (set built i list)
    one_built list is inside lists are m j lt at_m marked =
        ⊎_elim
        (λ (e : j ≡ i).
        subst (λ x. slice_get (set built i list) x ≡ slice_get lists x) (sym e)
        (set_here built i list inside ∙ ap Some (is ∙ (node_right lists are).0) ∙ sym (are.each i n there)))
        (λ (o : j ≢ i).
        set_other built i j list o
        ∙ ⊎_elim
        (λ (low : m < k). are_built lists are m j low at_m marked)
        (λ (high : k ≤ m).
        let e : m ≡ k = omega (arith, lt, high) in
        absurd (o (same_Some j i (sym at_m ∙ ap (slice_get order) e ∙ at))))
        (cases_lt m k))
        (same_or_not j i)

  -- a node without a mark needs no list, and a place of no node has none
  pub none_more : length built ≡ length p.nodes → (i < length p.nodes → Has marks i → ⊥) → AreBuilt p order marks (k + 1) built
  none_more long lacks lists are m j lt at_m marked =
      ⊎_elim
      (λ (low : m < k). are_built lists are m j low at_m marked)
      (λ (high : k ≤ m).
      let e : m ≡ k = omega (arith, lt, high) in
      let same : j ≡ i = same_Some j i (sym at_m ∙ ap (slice_get order) e ∙ at) in
      ⊎_elim
      (λ (inside : i < length p.nodes). absurd (lacks inside (subst (Has marks) same marked)))
      (λ (past : length p.nodes ≤ i).
      slice_get_past built j (omega (arith, past, long, same)) ∙ sym (slice_get_past lists j (omega (arith, past, same, are.count))))
      (cases_lt i (length p.nodes)))
      (cases_lt m k)
