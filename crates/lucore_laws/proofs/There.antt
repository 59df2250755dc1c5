-- A program has lists and sizes. Its lists are made in rounds, each from the lists of the round before; by induction along calls
-- each list stays as it is from some round on.
use Rattle.std.proofs.Common.{◌≡◌, ℕ, zero, suc, ◌+◌, ◌≤◌, List, [], ◌∷◌, length, map, Option, Some, None, refl, sym, ap, ◌∙◌, subst, arith}
use Rattle.std.specs.Prelude.{slice_get, slice_index, option_map, unwrap_or, Contains}
use Rattle.std.proofs.lemmas.List.{length-map}
use Rattle.std.proofs.lemmas.Option.{same_Some, slice_get-map}
use Rattle.lutree.specs.Tree.{NodeTree, ProgramTree}
use Rattle.luflow.specs.declared.form.Flow.{Flow}
use Rattle.lustat_rules.specs.Scope.{node_called}
use Rattle.lustat_rules.specs.Naming.{Call, Calls, Reaches, calls_in, called_by, node_place}
use Rattle.lustat_rules.specs.Accepted.{Rule}
use Rattle.lucore_laws.specs.Layout.{list_at, list_of, node_flows, node_owners, main_variables, types_of, AreLists}
use Rattle.lucore_laws.specs.ListLaws.{ListsLaw, FlatListLaw}
use Rattle.lucore_laws.specs.Sizes.{size_at, size_of, AreSizes, SizesLaw}
use Rattle.lucore_laws.proofs.Names.{all_of, contains_at, contains_get, is_some_at, placed}
use Rattle.lucore_laws.proofs.Same.{nodes_same, no_place, called_in}
use Rattle.lucore_laws.proofs.Counting.{node_counted}
use Rattle.lucore_laws.proofs.ByCalls.{by_calls, none_reaches}

module _ {A : Type 0} (Q : ℕ → A → Type 0) (more : (k m : ℕ) (x : A) → k ≤ m → Q k x → Q m x) where
  abbrev AllFrom : ℕ → List A → Type 0
  AllFrom k xs = (i : ℕ) (x : A) → slice_get xs i ≡ Some x → Q k x

  from_both : (y : A) (ys : List A) (j k : ℕ) → Q j y → AllFrom k ys → AllFrom (j + k) (y ∷ ys)
  from_both y ys j k here rest zero x e = subst (Q (j + k)) (same_Some y x e) (more j (j + k) y (omega arith) here)
  from_both y ys j k here rest (suc i) x e = more k (j + k) x (omega arith) (rest i x e)

  -- what holds of each element from some number on holds of all of them from one number on
  from_one : (xs : List A) → ((i : ℕ) (x : A) → slice_get xs i ≡ Some x → (k : ℕ) × Q k x) → (k : ℕ) × AllFrom k xs
  from_one [] h = (0, λ i x e. cc)
  from_one (y ∷ ys) h =
      let here = h 0 y refl in
      let rest = from_one ys (λ i x e. h (suc i) x e) in
      (here.0 + rest.0, from_both y ys here.0 rest.0 here.1 rest.1)

module _ (p : ProgramTree) where
  rounds : ℕ → List (List Flow)
  rounds zero = []
  rounds (suc k) = map (node_flows p (rounds k)) p.nodes

  in_round : (k i : ℕ) (n : NodeTree) → slice_get p.nodes i ≡ Some n → slice_get (rounds (suc k)) i ≡ Some (node_flows p (rounds k) n)
  unfolding rounds
  in_round k i n e = slice_get-map (node_flows p (rounds k)) p.nodes i ∙ ap (option_map (node_flows p (rounds k))) e

  length_round : (k : ℕ) → length (rounds (suc k)) ≡ length p.nodes
  unfolding rounds
  length_round k = length-map p.nodes (node_flows p (rounds k))

  -- from round k on the list of the node called f stays
  abbrev Stays : ℕ → List ℕ → Type 0
  Stays k f = (m : ℕ) → k ≤ m → list_of p (rounds (suc m)) f ≡ list_of p (rounds m) f

  -- and what the lists make of a node
  abbrev NodeStays : ℕ → NodeTree → Type 0
  NodeStays k n = (m : ℕ) → k ≤ m → node_flows p (rounds (suc m)) n ≡ node_flows p (rounds m) n

  node_stays : (n : NodeTree) → ((g : List ℕ) → Contains (called_by n) g → (k : ℕ) × Stays k g) → (k : ℕ) × NodeStays k n
  node_stays n h =
      let all = from_one Stays (λ k m f le stays r more. stays r (omega (arith, le, more))) (called_by n) (λ i g e. h g (contains_get (called_by n) g i e)) in (
        all.0,
        λ m le.
            (nodes_same p (rounds (suc m)) (rounds m) n
            (λ j q here. all_of (λ (c : Call). list_of p (rounds (suc m)) c.node ≡ list_of p (rounds m) c.node) (calls_in q.right)
            (λ k c there. let at = contains_at (called_by n) c.node (called_in n.equations j k q c here there) in all.1 at.0 c.node at.1 m le))).0,
      )

  step : (f : List ℕ) → ((g : List ℕ) → Calls p f g → (k : ℕ) × Stays k g) → (k : ℕ) × Stays k f
  step f h = go (node_called p f) refl
    where
      go : (o : Option NodeTree) → node_called p f ≡ o → (k : ℕ) × Stays k f
      go None e = (0, λ m le. ap (list_at (rounds (suc m))) (no_place p f e) ∙ sym (ap (list_at (rounds m)) (no_place p f e)))
      go (Some n) e = (suc stays.0, later)
        where
          stays : (k : ℕ) × NodeStays k n
          stays = node_stays n (λ g has. h g (n, e, has))

          named : (k : ℕ) → list_of p (rounds (suc k)) f ≡ node_flows p (rounds k) n
          named k =
              let here = placed p f n e in
              ap (list_at (rounds (suc k))) here.at_place ∙ ap (λ (o : Option (List Flow)). unwrap_or o []) (in_round k here.place n here.node)

          later : Stays (suc stays.0) f
          later zero le = absurd (omega (arith, le))
          later (suc m) le = named (suc m) ∙ stays.1 m (omega (arith, le)) ∙ sym (named m)

  -- lists that one more round leaves as they are
  pub has_lists : ((f : List ℕ) → ¬ Reaches p f f) → (lists : List (List Flow)) × AreLists p lists
  has_lists never =
      let all = from_one NodeStays (λ k m n le stays r more. stays r (omega (arith, le, more))) p.nodes (λ i n e. node_stays n (λ g has. by_calls p never (λ f. (k : ℕ) × Stays k f) step g)) in
      (rounds (suc all.0), record { count = length_round all.0; each = λ i n e. in_round all.0 i n e ∙ ap Some (sym (all.1 i n e all.0 (omega arith))) })

size_there : (lists : List (List Flow)) (i : ℕ) → length (unwrap_or (slice_get lists i) []) ≡ slice_index (map length lists) i
size_there [] i = refl
size_there (l ∷ lists) zero = refl
size_there (l ∷ lists) (suc i) = size_there lists i

-- the size at a place is the length of the list there
size_same : (lists : List (List Flow)) (place : Option ℕ) → length (list_at lists place) ≡ size_at (map length lists) place
size_same lists None = refl
size_same lists (Some i) = size_there lists i

-- the lengths of lists are sizes
pub lengths : (p : ProgramTree) (lists : List (List Flow)) → AreLists p lists → AreSizes p (map length lists)
lengths p lists are =
    record {
      count = length-map lists length ∙ are.count;
      each = λ i n e.
          slice_get-map length lists i ∙ ap (option_map length) (are.each i n e)
          ∙ ap Some (node_counted p lists (map length lists) n (λ j q here. all_of (λ (c : Call). length (list_of p lists c.node) ≡ size_of p (map length lists) c.node) (calls_in q.right) (λ k c there. size_same lists (node_place p c.node))));
    }

pub lists_law : ListsLaw
lists_law p main keeps = has_lists p (none_reaches p (λ i n e. keeps.nodes i n e))

pub flat_list_law : FlatListLaw
flat_list_law p main accepted =
    let out = lists_law p main (accepted Rule.recursive_node) in
    let keeps = accepted Rule.no_main in
    let n = is_some_at (node_called p main) keeps.program in (
      record { types = types_of p; flows = node_flows p out.0 n.0; order = []; owners = node_owners p out.0 n.0; variables = main_variables n.0 },
      record { lists = out.0; are_lists = out.1; node = n.0; is_main = n.1; flows = refl; owners = refl; variables = refl; types = refl },
    )

pub sizes_law : SizesLaw
sizes_law p main keeps = let lists = lists_law p main keeps in (map length lists.0, lengths p lists.0 lists.1)
