-- Where the variables of the listed instances stand.
use Rattle.std.proofs.Common.{◌≡◌, ◌≤◌, ℕ, zero, suc, ◌+◌, List, [], ◌∷◌, ◌++◌, length, map, Option, Some, None, refl, sym, ap, ◌∙◌, subst, arith, append_assoc}
use Rattle.std.specs.Prelude.{slice_get, slice_index, option_map, option_and_then, All, Contains}
use Rattle.std.proofs.lemmas.List.{append-nil}
use Rattle.std.proofs.lemmas.List.Elements.{All-append, All-cons, All-nil}
use Rattle.std.proofs.lemmas.Option.{slice_get-map}
use Rattle.lutree.specs.Tree.{NodeTree, ProgramTree}
use Rattle.luflow.specs.declared.form.Flow.{Flow}
use Rattle.lusource.specs.Names.{variables_of, place_of}
use Rattle.lusource.specs.Source.{Path}
use Rattle.lusource.specs.Instances.{instance_at}
use Rattle.lustat_rules.specs.Scope.{node_called}
use Rattle.lustat_rules.specs.Naming.{Call, calls_in, called_by, node_place}
use Rattle.lutype.proofs.CallPlaces.{means}
use Rattle.lucore_laws.specs.Layout.{list_of, AreLists}
use Rattle.lucore_laws.specs.Sizes.{size_at, size_of, node_size}
use Rattle.lucore_laws.proofs.Names.{all_at, all_of, all_imp, contains_at, mapped_some}
use Rattle.lucore_laws.proofs.Same.{called_in as among}
use Rattle.lucore_laws.proofs.Spots.{Spot, place_named, node_spots, spots_in}
use Rattle.lucore_laws.proofs.ListInstances.{spot_place, spot_node, spot_named, flow_place}
use Rattle.lucore_build.specs.Counted.{capped}
use Rattle.luinside.specs.declared.starts.CallStart.{CallStart}
use Rattle.luinside.specs.declared.listing.Instance.{Instance}
use Rattle.luinside.specs.Starts.{node_starts, starts_in, AreBounds}
use Rattle.luinside.specs.Listing.{each_call, of_node, all_from}
use Rattle.luinside.proofs.Within.{Inside, within_node, start_node, named_node}
use Rattle.luinside.proofs.Bounds.{exact}
use Rattle.luinside.proofs.Fits.{start_of, fits_node}
use Rattle.luinside.proofs.Going.{inner_of}

-- what a list of values has, an element has
unmapped : {A B : Type 0} (f : A → B) (xs : List A) (k : ℕ) (y : B) → slice_get (map f xs) k ≡ Some y → (x : A) × (slice_get xs k ≡ Some x) × (f x ≡ y)
unmapped f xs k y e = mapped_some f (slice_get xs k) y (sym (slice_get-map f xs k) ∙ e)

-- the call of a node at a number, by the nodes that its text calls
pub start_at : (p : ProgramTree) (counts : List ℕ) (n : NodeTree) (k : ℕ) (g : List ℕ) → slice_get (called_by n) k ≡ Some g → (c : CallStart) × (slice_get (node_starts p counts n) k ≡ Some c) × (c.node ≡ node_place p g)
start_at p counts n k g e =
    unmapped start_node (node_starts p counts n) k (node_place p g)
    (ap (λ l. slice_get l k) (named_node p counts n) ∙ slice_get-map (node_place p) (called_by n) k ∙ ap (option_map (node_place p)) e)

module _ (p : ProgramTree) (lists : List (List Flow)) (are : AreLists p lists) where
  -- From an instance of the node called f on: at this path there is an instance of the node at place i of the text, which begins at place o of the list.
  pub record Stands (f : List ℕ) (rest : Path) (i o : ℕ) : Type 0 where
    pub node : NodeTree
    pub is_node : slice_get p.nodes i ≡ Some node
    pub at_path : instance_at p f rest ≡ Some node
    pub flow : (y : List ℕ) → flow_place p lists f rest y ≡ o + place_of (variables_of node) y

  stands_here : (f : List ℕ) (i : ℕ) (n : NodeTree) → node_called p f ≡ Some n → slice_get p.nodes i ≡ Some n → Stands f [] i 0
  stands_here f i n called there = record {
    node = n;
    is_node = there;
    at_path = called;
    flow = λ y. let z : place_of (variables_of n) y ≡ 0 + place_of (variables_of n) y = omega arith in ap (λ o. place_named o y) called ∙ z;
  }

  stands_inside : (f : List ℕ) (k : ℕ) (spot : Spot) (rest : Path) (i o : ℕ) → slice_get (spots_in p lists (node_called p f)) k ≡ Some spot → Stands spot.node rest i o → Stands f (k ∷ rest) i (spot.at + o)
  stands_inside f k spot rest i o spotted h =
      let named = spot_named p lists (node_called p f) k ∙ ap (option_map spot_node) spotted in
      record {
        node = h.node;
        is_node = h.is_node;
        at_path = ap (option_and_then (λ g. instance_at p g rest)) named ∙ h.at_path;
        flow = λ y.
            let v = place_of (variables_of h.node) y in
            let z : spot.at + (o + v) ≡ spot.at + o + v = omega arith in
            ap (λ s. spot_place s (λ spot. spot.at + flow_place p lists spot.node rest y)) spotted ∙ ap (λ n. spot.at + n) (h.flow y) ∙ z;
      }

  -- an instance of a list that begins at place s of a flat list, at this path there
  pub record Found (f : List ℕ) (path : Path) (s : ℕ) (x : Instance) : Type 0 where
    pub rest : Path
    pub at : ℕ
    pub path_is : x.path ≡ path ++ rest
    pub start_is : x.start ≡ s + at
    pub stands : Stands f rest x.node at

  module _ (counts sizes : List ℕ) (same : counts ≡ map capped sizes) (bounds : AreBounds p counts) (counted : (f : List ℕ) → length (list_of p lists f) ≡ size_of p sizes f) where
    -- a list is as long as its count says, if that is small
    long : (f : List ℕ) → size_of p counts f ≤ 4096 → length (list_of p lists f) ≡ size_of p counts f
    long f le = counted f ∙ exact counts sizes same (node_place p f) le

    module _ (f : List ℕ) (i : ℕ) (at_place : node_place p f ≡ Some i) (small : slice_index counts i ≤ 4096) where
      abbrev n : NodeTree
      n = (means p f i at_place).node

      there : slice_get p.nodes i ≡ Some n
      there = (means p f i at_place).there

      called : node_called p f ≡ Some n
      called = (means p f i at_place).called

      pub ends : (k : ℕ) (c : CallStart) → slice_get (node_starts p counts n) k ≡ Some c → c.at + size_at counts c.node ≤ slice_index counts i
      ends k c e =
          let b = bounds i n there small in
          let h = all_at (Inside p counts (node_size p counts n)) (node_starts p counts n) k c (within_node p counts n) e in
          omega (arith, b, h)

      pub called_small : (g : List ℕ) → Contains (called_by n) g → length (list_of p lists g) ≡ size_of p counts g
      called_small g has =
          let at = contains_at (called_by n) g has in
          let c = start_at p counts n at.0 g at.1 in
          let e = ends at.0 c.0 c.1 in
          let size = ap (size_at counts) c.2 in
          long g (omega (arith, e, size, small))

      starts_are : map (start_of p) (node_spots p lists n) ≡ node_starts p counts n
      starts_are =
          fits_node p lists counts n
          (λ j q here. all_of (λ (c : Call). length (list_of p lists c.node) ≡ size_of p counts c.node) (calls_in q.right)
          (λ k c at. called_small c.node (among n.equations j k q c here at)))

      -- the spot of a call
      pub record Spotted (k j : ℕ) (c : CallStart) : Type 0 where
        pub spot : Spot
        pub spotted : slice_get (spots_in p lists (node_called p f)) k ≡ Some spot
        pub at_is : spot.at ≡ c.at
        pub is_place : node_place p spot.node ≡ Some j
        pub few : slice_index counts j ≤ 4096

      spotted : (k j : ℕ) (c : CallStart) → slice_get (node_starts p counts n) k ≡ Some c → c.node ≡ Some j → Spotted k j c
      spotted k j c e is =
          let s = unmapped (start_of p) (node_spots p lists n) k c (ap (λ l. slice_get l k) starts_are ∙ e) in
          let fits = ends k c e in
          let size = ap (size_at counts) is in
          record {
            spot = s.0;
            spotted = ap (λ o. slice_get (spots_in p lists o) k) called ∙ s.1;
            at_is = ap (λ (c : CallStart). c.at) s.2;
            is_place = ap (λ (c : CallStart). c.node) s.2 ∙ is;
            few = omega (arith, fits, size, small);
          }

    -- what an instance has, each of its calls has
    lifted : (f : List ℕ) (i : ℕ) (at_place : node_place p f ≡ Some i) (small : slice_index counts i ≤ 4096) (path : Path) (s k j : ℕ) (c : CallStart) → (h : Spotted f i at_place small k j c)
        → (x : Instance) → Found h.spot.node (path ++ k ∷ []) (s + c.at) x → Found f path s x
    lifted f i at_place small path s k j c h x found =
        let at_is = h.at_is in
        let start = found.start_is in
        record {
          rest = k ∷ found.rest;
          at = h.spot.at + found.at;
          path_is = found.path_is ∙ append_assoc path (k ∷ []) found.rest;
          start_is = omega (arith, at_is, start);
          stands = stands_inside f k h.spot found.rest x.node found.at h.spotted found.stands;
        }

    here_found : (f : List ℕ) (i : ℕ) (path : Path) (s : ℕ) → node_place p f ≡ Some i → Found f path s (record { path = path; node = i; start = s })
    here_found f i path s at_place =
        let m = means p f i at_place in
        record { rest = []; at = 0; path_is = sym (append-nil path); start_is = omega arith; stands = stands_here f i m.node m.called m.there }

    each_found : (P : Instance → Type 0) (inner : ℕ → CallStart → List Instance) (k : ℕ) (cs : List CallStart) → ((m : ℕ) (c : CallStart) → slice_get cs m ≡ Some c → All P (inner (k + m) c)) → All P (each_call inner k cs)
    each_found P inner k [] h = All-nil P
    each_found P inner k (c ∷ cs) h =
        let z : k + 0 ≡ k = omega arith in
        All-append P (inner k c) (each_call inner (suc k) cs) (subst (λ n. All P (inner n c)) z (h 0 c refl))
        (each_found P inner (suc k) cs (λ m d e. let y : k + suc m ≡ suc k + m = omega arith in subst (λ n. All P (inner n d)) y (h (suc m) d e)))

    pub all_found : (d : ℕ) (f : List ℕ) (i : ℕ) (path : Path) (s : ℕ) → node_place p f ≡ Some i → slice_index counts i ≤ 4096 → All (Found f path s) (all_from p counts d path i s)
    all_found zero f i path s at_place small = All-cons (Found f path s) (record { path = path; node = i; start = s }) [] (here_found f i path s at_place) (All-nil _)
    all_found (suc d) f i path s at_place small =
        All-cons (Found f path s) (record { path = path; node = i; start = s }) (each_call (inner_of p counts d path s) 0 (starts_in p counts (slice_get p.nodes i))) (here_found f i path s at_place)
        (subst (λ o. All (Found f path s) (each_call (inner_of p counts d path s) 0 (starts_in p counts o))) (sym (there f i at_place small))
        (each_found (Found f path s) (inner_of p counts d path s) 0 (node_starts p counts (n f i at_place small))
        (λ k c e.
        let z : 0 + k ≡ k = omega arith in
        subst (λ k. All (Found f path s) (inner_of p counts d path s k c)) (sym z) (one (λ g j path' s' at few. all_found d g j path' s' at few) k c e c.node refl))))
      where
        one : ((g : List ℕ) (j : ℕ) (path' : Path) (s' : ℕ) → node_place p g ≡ Some j → slice_index counts j ≤ 4096 → All (Found g path' s') (all_from p counts d path' j s'))
            → (k : ℕ) (c : CallStart) → slice_get (node_starts p counts (n f i at_place small)) k ≡ Some c → (o : Option ℕ) → c.node ≡ o → All (Found f path s) (of_node o (λ j. all_from p counts d (path ++ k ∷ []) j (s + c.at)))
        one rest k c e None is = All-nil _
        one rest k c e (Some j) is =
            let h = spotted f i at_place small k j c e is in
            all_imp (Found h.spot.node (path ++ k ∷ []) (s + c.at)) (Found f path s) (all_from p counts d (path ++ k ∷ []) j (s + c.at)) (lifted f i at_place small path s k j c h)
            (rest h.spot.node j (path ++ k ∷ []) (s + c.at) h.is_place h.few)
