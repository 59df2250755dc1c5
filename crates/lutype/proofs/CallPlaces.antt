-- The nodes that names mean, and what a list finds.
use Rattle.std.proofs.Common.{◌≡◌, ◌≢◌, ◌≤◌, ◌⊎◌, inl, inr, ℕ, zero, suc, Bool, true, false, if◌then◌else◌, List, [], ◌∷◌, Option, Some, None, refl, sym, ap, subst, ◌∙◌, arith, true≢false}
use Rattle.std.specs.Prelude.{slice_get, option_map, Contains}
use Rattle.std.specs.List.{filter_map, cons_option}
use Rattle.std.specs.Str.{bytes_eq}
use Rattle.std.proofs.lemmas.Option.{none-some, same_Some}
use Rattle.std.proofs.lemmas.Map.Made.{Contains-tail}
use Rattle.std.proofs.lemmas.Slice.Eq.{bytes_eq-Decides}
use Rattle.lutree.specs.Tree.{NodeTree, ProgramTree}
use Rattle.lustat_rules.specs.Scope.{first_named}
use Rattle.lustat_rules.specs.Naming.{place_of_first, node_place}
use Rattle.lubase.proofs.Marks.{same_or_not}

-- WHAT A NAME MEANS

-- the node at the place that a name means
pub record Means (ns : List NodeTree) (f : List ℕ) (i : ℕ) : Type 0 where
  pub node : NodeTree
  pub there : slice_get ns i ≡ Some node
  pub named : node.name ≡ f
  pub called : first_named ns f ≡ Some node

means_by : (m : NodeTree) (ns : List NodeTree) (f : List ℕ) (i : ℕ) (b : Bool) → bytes_eq m.name f ≡ b → ((j : ℕ) → place_of_first ns f ≡ Some j → Means ns f j) →
    (if b then Some 0 else option_map suc (place_of_first ns f)) ≡ Some i → Means (m ∷ ns) f i
means_by m ns f i true e rest at =
    record {
      node = m;
      there = subst (λ k. slice_get (m ∷ ns) k ≡ Some m) (same_Some 0 i at) refl;
      named = (bytes_eq-Decides m.name f).0 e;
      called = subst (λ b. (if b then Some m else first_named ns f) ≡ Some m) (sym e) refl;
    }
means_by m ns f i false e rest at = by_place (place_of_first ns f) refl at where
  by_place : (o : Option ℕ) → place_of_first ns f ≡ o → option_map suc o ≡ Some i → Means (m ∷ ns) f i
  by_place None same past = absurd (none-some i past)
  by_place (Some j) same found =
      let there = rest j same in
      record {
        node = there.node;
        there = subst (λ k. slice_get (m ∷ ns) k ≡ Some there.node) (same_Some (suc j) i found) there.there;
        named = there.named;
        called = subst (λ b. (if b then Some m else first_named ns f) ≡ Some there.node) (sym e) there.called;
      }

means_among : (ns : List NodeTree) (f : List ℕ) (i : ℕ) → place_of_first ns f ≡ Some i → Means ns f i
means_among [] f i at = absurd (none-some i at)
means_among (m ∷ ns) f i at = means_by m ns f i (bytes_eq m.name f) refl (means_among ns f) at

pub means : (p : ProgramTree) (f : List ℕ) (i : ℕ) → node_place p f ≡ Some i → Means p.nodes f i
means p f i at = means_among p.nodes f i at

-- the place that the name of a node means is no later one than the node's own
pub record Meant (ns : List NodeTree) (f : List ℕ) (i : ℕ) : Type 0 where
  pub place : ℕ
  pub at_place : place_of_first ns f ≡ Some place
  pub first : place ≤ i

meant_here : (m : NodeTree) (ns : List NodeTree) (f : List ℕ) (i : ℕ) → bytes_eq m.name f ≡ true → Meant (m ∷ ns) f i
meant_here m ns f i e = record { place = 0; at_place = subst (λ b. (if b then Some 0 else option_map suc (place_of_first ns f)) ≡ Some 0) (sym e) refl; first = omega arith }

meant_by : (m : NodeTree) (ns : List NodeTree) (f : List ℕ) (i : ℕ) (b : Bool) → bytes_eq m.name f ≡ b → Meant ns f i → Meant (m ∷ ns) f (suc i)
meant_by m ns f i true e rest = meant_here m ns f (suc i) e
meant_by m ns f i false e rest =
    record {
      place = suc rest.place;
      at_place = subst (λ b. (if b then Some 0 else option_map suc (place_of_first ns f)) ≡ Some (suc rest.place)) (sym e) (ap (option_map suc) rest.at_place);
      first = omega (arith, rest.first);
    }

pub meant : (ns : List NodeTree) (i : ℕ) (n : NodeTree) → slice_get ns i ≡ Some n → Meant ns n.name i
meant [] i n there = absurd (none-some n there)
meant (m ∷ ns) zero n there = meant_here m ns n.name 0 ((bytes_eq-Decides m.name n.name).1 (ap (λ (x : NodeTree). x.name) (same_Some m n there)))
meant (m ∷ ns) (suc i) n there = meant_by m ns n.name i (bytes_eq m.name n.name) refl (meant ns i n there)

-- WHAT A LIST FINDS

name_or_not : (x y : List ℕ) → (x ≡ y) ⊎ (x ≢ y)
name_or_not x y = by_test (bytes_eq x y) refl where
  by_test : (b : Bool) → bytes_eq x y ≡ b → (x ≡ y) ⊎ (x ≢ y)
  by_test true e = inl ((bytes_eq-Decides x y).0 e)
  by_test false e = inr (λ same. true≢false (sym ((bytes_eq-Decides x y).1 same) ∙ e))

-- an element for which something is found
pub record Found (look : List ℕ → Option ℕ) (xs : List (List ℕ)) (j : ℕ) : Type 0 where
  pub name : List ℕ
  pub among : Contains xs name
  pub found : look name ≡ Some j

more_found : (look : List ℕ → Option ℕ) (x : List ℕ) (xs : List (List ℕ)) (j : ℕ) → Found look xs j → Found look (x ∷ xs) j
more_found look x xs j h = record { name = h.name; among = (suc h.among.0, omega (arith, h.among.1), h.among.2); found = h.found }

found_by : (look : List ℕ → Option ℕ) (x : List ℕ) (xs : List (List ℕ)) (j : ℕ) (o : Option ℕ) → look x ≡ o → (Contains (filter_map look xs) j → Found look xs j) →
    Contains (cons_option o (filter_map look xs)) j → Found look (x ∷ xs) j
found_by look x xs j None e rest h = more_found look x xs j (rest h)
found_by look x xs j (Some k) e rest h =
    elim (same_or_not k j) [
      | inl same ↦ record { name = x; among = (0, omega arith, refl); found = e ∙ ap Some same }
      | inr other ↦ more_found look x xs j (rest (Contains-tail k (filter_map look xs) j other h))
    ]

pub found_of : (look : List ℕ → Option ℕ) (xs : List (List ℕ)) (j : ℕ) → Contains (filter_map look xs) j → Found look xs j
found_of look [] j has = absurd (omega (arith, has.1))
found_of look (x ∷ xs) j has = found_by look x xs j (look x) refl (found_of look xs j) has

pub found_in : (look : List ℕ → Option ℕ) (xs : List (List ℕ)) (x : List ℕ) (j : ℕ) → look x ≡ Some j → Contains xs x → Contains (filter_map look xs) j
found_in look [] x j e has = absurd (omega (arith, has.1))
found_in look (y ∷ xs) x j e has = elim (name_or_not y x) [
  | inl same ↦ here (subst (λ z. look z ≡ Some j) (sym same) e)
  | inr other ↦ later (look y) (found_in look xs x j e (Contains-tail y xs x other has))
] where
  here : look y ≡ Some j → Contains (cons_option (look y) (filter_map look xs)) j
  here f = subst (λ o. Contains (cons_option o (filter_map look xs)) j) (sym f) (0, omega arith, refl)

  later : (o : Option ℕ) → Contains (filter_map look xs) j → Contains (cons_option o (filter_map look xs)) j
  later None h = h
  later (Some k) h = (suc h.0, omega (arith, h.1), h.2)
