-- Orders of calls.
use Rattle.std.proofs.Common.{◌≡◌, ◌<◌, ℕ, zero, suc, Bool, true, false, if◌then◌else◌, List, [], ◌∷◌, Some, length, refl, sym, ap, subst, take, ◌∙◌, arith}
use Rattle.std.specs.Prelude.{slice_get, option_map, Contains}
use Rattle.std.specs.Str.{bytes_eq}
use Rattle.std.proofs.lemmas.Option.{none-some, same_Some, slice_get_within, slice_get-get_or}
use Rattle.std.proofs.lemmas.List.{length-take, get_or-take}
use Rattle.lutree.specs.Tree.{NodeTree, ProgramTree}
use Rattle.lustat_rules.specs.Scope.{first_named, node_called}
use Rattle.lustat_rules.specs.Naming.{Reaches, place_of_first, node_place, IsCallOrder, CallOrderLaw}

-- the node of a name, and its place
pub record PlaceOf (ns : List NodeTree) (f : List ℕ) (n : NodeTree) : Type 0 where
  pub place : ℕ
  pub at_place : place_of_first ns f ≡ Some place
  pub node : slice_get ns place ≡ Some n

place_by : (m : NodeTree) (ns : List NodeTree) (f : List ℕ) (n : NodeTree) (same : Bool) → same ≡ bytes_eq m.name f → (first_named ns f ≡ Some n → PlaceOf ns f n) →
    (if same then Some m else first_named ns f) ≡ Some n → PlaceOf (m ∷ ns) f n
place_by m ns f n true b rest e =
    record { place = 0; at_place = subst (λ t. (if t then Some 0 else option_map suc (place_of_first ns f)) ≡ Some 0) b refl; node = e }
place_by m ns f n false b rest e =
    let found = rest e in
    record {
      place = suc found.place;
      at_place = subst (λ t. (if t then Some 0 else option_map suc (place_of_first ns f)) ≡ Some (suc found.place)) b (ap (option_map suc) found.at_place);
      node = found.node;
    }

place_among : (ns : List NodeTree) (f : List ℕ) (n : NodeTree) → first_named ns f ≡ Some n → PlaceOf ns f n
place_among [] f n e = absurd (none-some n e)
place_among (m ∷ ns) f n e = place_by m ns f n (bytes_eq m.name f) refl (place_among ns f n) e

pub place_of : (p : ProgramTree) (f : List ℕ) (n : NodeTree) → node_called p f ≡ Some n → PlaceOf p.nodes f n
place_of p f n e = place_among p.nodes f n e

-- a place of an order, from what it has up to another place
place_before : (order : List ℕ) (k j : ℕ) → Contains (take k order) j → (i : ℕ) × (i < k) × (slice_get order i ≡ Some j)
place_before order k j found =
    let low : found.0 < k = omega (arith, found.1, length-take k order) in
    let inside : found.0 < length order = omega (arith, found.1, length-take k order) in
    (found.0, low, slice_get-get_or order found.0 j inside ∙ ap Some (sym (get_or-take k order found.0 j low) ∙ found.2))

module _ (p : ProgramTree) (order : List ℕ) (o : IsCallOrder p order) where
  -- what a node that stands in the order reaches stands before it
  before : (f g : List ℕ) → Reaches p f g → (k i j : ℕ) → slice_get order k ≡ Some i → node_place p f ≡ Some i → node_place p g ≡ Some j →
      (l : ℕ) × (l < k) × (slice_get order l ≡ Some j)
  before f g (Reaches.one _ _ (n, e, has)) k i j at_k of_f of_g =
      let here = place_of p f n e in
      let same : here.place ≡ i = same_Some here.place i (sym here.at_place ∙ of_f) in
      place_before order k j (o.after k i j n g at_k (subst (λ a. slice_get p.nodes a ≡ Some n) same here.node) has of_g)
  before f h (Reaches.more _ g _ way (n, e, has)) k i j at_k of_f of_h =
      let here = place_of p g n e in
      let first = before f g way k i here.place at_k of_f here.at_place in
      let next = place_before order first.0 j (o.after first.0 here.place j n h first.2 here.node has of_h) in
      (next.0, omega (arith, next.1, first.1), next.2)

  no_round : (m k i : ℕ) (f : List ℕ) → k < m → Reaches p f f → node_place p f ≡ Some i → slice_get order k ≡ Some i → ⊥
  no_round zero k i f lt way of_f at_k = absurd (omega (arith, lt))
  no_round (suc m) k i f lt way of_f at_k =
      let less = before f f way k i i at_k of_f of_f in
      no_round m less.0 i f (omega (arith, lt, less.1)) way of_f less.2

  caller : (f g : List ℕ) → Reaches p f g → (n : NodeTree) × (node_called p f ≡ Some n)
  caller f g (Reaches.one _ _ (n, e, has)) = (n, e)
  caller f h (Reaches.more _ g _ way call) = caller f g way

  pub never_round : (f : List ℕ) → ¬ Reaches p f f
  never_round f way =
      let n = caller f f way in
      let here = place_of p f n.0 n.1 in
      let there = o.all here.place (slice_get_within p.nodes here.place n.0 here.node) in
      no_round (suc there.0) there.0 here.place f (omega arith) way here.at_place (slice_get-get_or order there.0 here.place there.1 ∙ ap Some there.2)

pub call_order : CallOrderLaw
call_order p order f o = never_round p order o f
