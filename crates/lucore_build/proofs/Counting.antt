-- Counts of all nodes, made along an order of calls.
use Rattle.std.proofs.Common.{◌≡◌, ◌≢◌, ◌<◌, ◌≤◌, ◌⊎◌, inl, inr, ◌+◌, ℕ, zero, suc, List, [], ◌∷◌, Option, Some, None, length, map, take, get_or, set, refl, sym, ap, subst, ◌∙◌, arith}
use Rattle.std.specs.Prelude.{◌↔◌, slice_get, slice_index, Contains, Bool, IsTrue}
use Rattle.std.proofs.lemmas.Bool.{cases_eq}
use Rattle.std.proofs.lemmas.List.{ext_get_or, length-map, length-set, get_or-map, get_or-set_same, get_or-set_other, take_more}
use Rattle.std.proofs.lemmas.List.Elements.{Contains-append_cases}
use Rattle.std.proofs.lemmas.Option.{slice_get_within, get_or_from_slice_get}
use Rattle.lutree.specs.Tree.{NodeTree, ProgramTree}
use Rattle.lustat_rules.specs.Naming.{called_by, node_place, IsCallOrder}
use Rattle.lustat_rules.specs.Accepted.{Rule, Keeps}
use Rattle.lutype.proofs.CallPlaces.{means}
use Rattle.lucore_laws.specs.Sizes.{size_at, size_of, node_size, AreSizes}
use Rattle.lucore_laws.proofs.Counting as counting
use Rattle.lucore_build.specs.Counted.{capped, AreCounted, IsTooLarge, IsTooLong}
use Rattle.lucore_build.proofs.Capped.{capped_twice, large_to, large_from}
use Rattle.lucore_build.proofs.Alike.{node_alike}

-- the first k nodes of an order are counted
pub record Until (p : ProgramTree) (order : List ℕ) (k : ℕ) (counts : List ℕ) : Type 0 where
  pub long : length counts ≡ length p.nodes
  pub counted : (sizes : List ℕ) → AreSizes p sizes → (j : ℕ) → Contains (take k order) j → j < length p.nodes → slice_index counts j ≡ capped (slice_index sizes j)

-- the size of a node, by its place
size_there : (p : ProgramTree) (sizes : List ℕ) → AreSizes p sizes → (i : ℕ) (n : NodeTree) → slice_get p.nodes i ≡ Some n → slice_index sizes i ≡ node_size p sizes n
size_there p sizes are i n there = get_or_from_slice_get sizes i (node_size p sizes n) 0 (are.each i n there)

-- what stands up to a place stands before it or at it
up_to : (order : List ℕ) (k i j : ℕ) → slice_get order k ≡ Some i → Contains (take (k + 1) order) j → Contains (take k order) j ⊎ (j ≡ i)
up_to order k i j at_k has = go (Contains-append_cases (take k order) (get_or order k i ∷ []) j (subst (λ xs. Contains xs j) (take_more order k i (slice_get_within order k i at_k)) has)) where
  go : Contains (take k order) j ⊎ Contains (get_or order k i ∷ []) j → Contains (take k order) j ⊎ (j ≡ i)
  go (inl before) = inl before
  go (inr here) = inr (sym (only (get_or order k i) j here) ∙ get_or_from_slice_get order k i i at_k) where
    only : (x y : ℕ) → Contains (x ∷ []) y → x ≡ y
    only x y (zero, lt, e) = e
    only x y (suc m, lt, e) = absurd (omega (arith, lt))

-- a name that a node calls has one count by sizes and by counts
called_alike : (p : ProgramTree) (order : List ℕ) (k i : ℕ) (counts sizes : List ℕ) (n : NodeTree) → IsCallOrder p order → Until p order k counts → AreSizes p sizes →
    slice_get order k ≡ Some i → slice_get p.nodes i ≡ Some n → (f : List ℕ) → Contains (called_by n) f → capped (size_of p counts f) ≡ capped (size_of p sizes f)
called_alike p order k i counts sizes n o until are at_k there f has = go (node_place p f) refl where
  go : (place : Option ℕ) → node_place p f ≡ place → capped (size_of p counts f) ≡ capped (size_of p sizes f)
  go None e = ap (λ x. capped (size_at counts x)) e ∙ sym (ap (λ x. capped (size_at sizes x)) e)
  go (Some j) e =
      let lt : j < length p.nodes = slice_get_within p.nodes j (means p f j e).node (means p f j e).there in
      let before = o.after k i j n f at_k there has e in
      ap (λ x. capped (size_at counts x)) e ∙ ap capped (until.counted sizes are j before lt) ∙ capped_twice (slice_index sizes j)
      ∙ sym (ap (λ x. capped (size_at sizes x)) e)

-- one more node
pub until_more : (p : ProgramTree) (order : List ℕ) (k i x : ℕ) (counts : List ℕ) (n : NodeTree) → IsCallOrder p order → Until p order k counts →
    slice_get order k ≡ Some i → slice_get p.nodes i ≡ Some n → x ≡ capped (node_size p counts n) → Until p order (k + 1) (set counts i x)
until_more p order k i x counts n o until at_k there is =
    record {
      long = length-set counts i x ∙ until.long;
      counted = λ sizes are j has lt. at sizes are j lt (cases_eq j i) (up_to order k i j at_k has);
    } where
      within : i < length counts
      within = let lt : i < length p.nodes = slice_get_within p.nodes i n there in omega (arith, lt, until.long)

      at : (sizes : List ℕ) → AreSizes p sizes → (j : ℕ) → j < length p.nodes → (j ≡ i) ⊎ (j ≢ i) → Contains (take k order) j ⊎ (j ≡ i) →
          slice_index (set counts i x) j ≡ capped (slice_index sizes j)
      at sizes are j lt (inl same) has =
          ap (slice_index (set counts i x)) same ∙ get_or-set_same counts i x 0 within ∙ is
          ∙ node_alike p counts sizes n (called_alike p order k i counts sizes n o until are at_k there)
          ∙ ap capped (sym (size_there p sizes are i n there)) ∙ ap (λ j. capped (slice_index sizes j)) (sym same)
      at sizes are j lt (inr other) (inl before) = get_or-set_other counts i j x 0 other ∙ until.counted sizes are j before lt
      at sizes are j lt (inr other) (inr same) = absurd (other same)

-- a place of no node
pub until_past : (p : ProgramTree) (order : List ℕ) (k i : ℕ) (counts : List ℕ) → Until p order k counts →
    slice_get order k ≡ Some i → length p.nodes ≤ i → Until p order (k + 1) counts
until_past p order k i counts until at_k past =
    record { long = until.long; counted = λ sizes are j has lt. at sizes are j lt (up_to order k i j at_k has) } where
      at : (sizes : List ℕ) → AreSizes p sizes → (j : ℕ) → j < length p.nodes → Contains (take k order) j ⊎ (j ≡ i) → slice_index counts j ≡ capped (slice_index sizes j)
      at sizes are j lt (inl before) = until.counted sizes are j before lt
      at sizes are j lt (inr same) = absurd (omega (arith, lt, past, same))

-- all nodes
pub until_all : (p : ProgramTree) (order counts : List ℕ) → IsCallOrder p order → (k : ℕ) → take k order ≡ order → Until p order k counts →
    (sizes : List ℕ) → AreSizes p sizes → counts ≡ map capped sizes
until_all p order counts o k all until sizes are =
    let long : length counts ≡ length (map capped sizes) = until.long ∙ sym are.count ∙ sym (length-map sizes capped) in
    ext_get_or 0 counts (map capped sizes) long
    (λ i lt.
    let inside : i < length p.nodes = omega (arith, lt, until.long) in
    let sized : i < length sizes = omega (arith, inside, are.count) in
    until.counted sizes are i (subst (λ xs. Contains xs i) (sym all) (o.all i inside)) inside ∙ sym (get_or-map capped sizes i 0 0 sized))

-- THE MAIN NODE

-- the count of the node that a name means is that of its size
count_of : (p : ProgramTree) (f : List ℕ) (counts sizes : List ℕ) → AreSizes p sizes → counts ≡ map capped sizes → size_of p counts f ≡ capped (size_of p sizes f)
count_of p f counts sizes are same = go (node_place p f) refl where
  go : (place : Option ℕ) → node_place p f ≡ place → size_of p counts f ≡ capped (size_of p sizes f)
  go None e = ap (size_at counts) e ∙ sym (ap (λ x. capped (size_at sizes x)) e)
  go (Some j) e =
      let lt : j < length p.nodes = slice_get_within p.nodes j (means p f j e).node (means p f j e).there in
      let sized : j < length sizes = omega (arith, lt, are.count) in
      ap (size_at counts) e ∙ ap (λ xs. slice_index xs j) same ∙ get_or-map capped sizes j 0 0 sized ∙ sym (ap (λ x. capped (size_at sizes x)) e)

-- whether the count is more than 4,096 says whether the size is
pub is_too_large : (p : ProgramTree) (main counts : List ℕ) (x : ℕ) (large : Bool) → AreCounted p counts → x ≡ size_of p counts main →
    (IsTrue large ↔ (4096 < x)) → IsTooLarge p main large
is_too_large p main counts x large (sizes, are, same) is tells =
    let e = is ∙ count_of p main counts sizes are same in
    let n = size_of p sizes main in (
      sizes,
      are,
      (
        λ yes. large_to n (subst (λ x. 4096 < x) e (tells.0 yes)),
        λ lt. tells.1 (subst (λ x. 4096 < x) (sym e) (large_from n lt)),
      ),
    )

-- and whether the flat list is longer
pub is_too_long : (p : ProgramTree) (main : List ℕ) (large : Bool) → Keeps p main Rule.recursive_node → IsTooLarge p main large → IsTooLong p main large
is_too_long p main large keeps (sizes, are, tells) flat out =
    subst (λ n. IsTrue large ↔ (4096 < n)) (sym (counting.count_law p main flat sizes keeps out are)) tells
