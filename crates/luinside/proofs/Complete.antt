-- All paths at which there is an instance are listed, each once and in order.
use Rattle.std.proofs.Common.{◌≡◌, ◌<◌, ◌≤◌, ⊎_elim, inl, inr, ℕ, zero, suc, ◌+◌, List, [], ◌∷◌, ◌++◌, length, take, get_or, Option, Some, None, refl, sym, ap, ◌∙◌, subst, arith, append_assoc}
use Rattle.std.specs.Prelude.{slice_get, option_and_then, All, Contains}
use Rattle.std.proofs.lemmas.Bool.{cases_lt}
use Rattle.std.proofs.lemmas.List.{append-nil, map-append, length-take, get_or-take, take_all}
use Rattle.std.proofs.lemmas.List.Elements.{All-append, All-cons, All-nil, Contains-append_left, Contains-append_right}
use Rattle.std.proofs.lemmas.Option.{same_Some, slice_get-get_or}
use Rattle.lutree.specs.Tree.{NodeTree, ProgramTree}
use Rattle.lusource.specs.Names.{AreDistinct}
use Rattle.lusource.specs.Source.{Path}
use Rattle.lusource.specs.Instances.{called_in, instance_at}
use Rattle.lustat_rules.specs.Scope.{node_called}
use Rattle.lustat_rules.specs.Naming.{called_by, node_place, IsCallOrder}
use Rattle.lustat_rules.proofs.Calling as calling
use Rattle.lutype.proofs.CallPlaces.{means}
use Rattle.lucore_laws.proofs.Names.{all_at, all_imp, contains_get}
use Rattle.luinside.specs.declared.starts.CallStart.{CallStart}
use Rattle.luinside.specs.declared.listing.Instance.{Instance}
use Rattle.luinside.specs.Starts.{node_starts, starts_in}
use Rattle.luinside.specs.Listing.{each_call, of_node, all_from}
use Rattle.luinside.specs.Listed.{paths, ComesBefore}
use Rattle.luinside.proofs.Standing.{start_at}
use Rattle.luinside.proofs.Going.{inner_of}

-- the first step of a path
pub record Step (p : ProgramTree) (f : List ℕ) (k : ℕ) (rest : Path) (node : NodeTree) : Type 0 where
  pub name : List ℕ
  pub named : slice_get (called_in (node_called p f)) k ≡ Some name
  pub then : instance_at p name rest ≡ Some node

step : (p : ProgramTree) (f : List ℕ) (k : ℕ) (rest : Path) (node : NodeTree) → instance_at p f (k ∷ rest) ≡ Some node → Step p f k rest node
step p f k rest node e = go (slice_get (called_in (node_called p f)) k) refl e
  where
    go : (o : Option (List ℕ)) → slice_get (called_in (node_called p f)) k ≡ o → option_and_then (λ g. instance_at p g rest) o ≡ Some node → Step p f k rest node
    go None at h = cc
    go (Some g) at h = record { name = g; named = at; then = h }

-- a name from which there is an instance is that of a node
pub placed : (p : ProgramTree) (f : List ℕ) (rest : Path) (node : NodeTree) → instance_at p f rest ≡ Some node → (i : ℕ) × (node_place p f ≡ Some i)
placed p f [] node e = let h = calling.place_of p f node e in (h.place, h.at_place)
placed p f (k ∷ rest) node e = go (node_called p f) refl (step p f k rest node e).named
  where
    go : (o : Option NodeTree) → node_called p f ≡ o → slice_get (called_in o) k ≡ Some (step p f k rest node e).name → (i : ℕ) × (node_place p f ≡ Some i)
    go None at h = cc
    go (Some n) at h = let h = calling.place_of p f n at in (h.place, h.at_place)

-- what there is of a call is there among all
contains_each : (inner : ℕ → CallStart → List Instance) (k : ℕ) (cs : List CallStart) (m : ℕ) (c : CallStart) (y : Path) → slice_get cs m ≡ Some c → Contains (paths (inner (k + m) c)) y → Contains (paths (each_call inner k cs)) y
contains_each inner k [] m c y e has = cc
contains_each inner k (d ∷ cs) zero c y e has =
    let z : k + 0 ≡ k = omega arith in
    let here = subst (λ c. Contains (paths (inner k c)) y) (sym (same_Some d c e)) (subst (λ n. Contains (paths (inner n c)) y) z has) in
    subst (λ l. Contains l y) (sym (map-append (λ (x : Instance). x.path) (inner k d) (each_call inner (suc k) cs))) (Contains-append_left (paths (inner k d)) (paths (each_call inner (suc k) cs)) y here)
contains_each inner k (d ∷ cs) (suc m) c y e has =
    let z : k + suc m ≡ suc k + m = omega arith in
    let rest = contains_each inner (suc k) cs m c y e (subst (λ n. Contains (paths (inner n c)) y) z has) in
    subst (λ l. Contains l y) (sym (map-append (λ (x : Instance). x.path) (inner k d) (each_call inner (suc k) cs))) (Contains-append_right (paths (inner k d)) (paths (each_call inner (suc k) cs)) y rest)

module _ (p : ProgramTree) (counts : List ℕ) where
  head_there : (path : Path) (i s : ℕ) (xs : List Instance) → Contains (paths (record { path = path; node = i; start = s } ∷ xs)) (path ++ [])
  head_there path i s xs = (0, omega arith, sym (append-nil path))

  pub all_listed : (d : ℕ) (f : List ℕ) (i : ℕ) (path : Path) (s : ℕ) (rest : Path) (node : NodeTree) → node_place p f ≡ Some i → instance_at p f rest ≡ Some node → length rest ≤ d → Contains (paths (all_from p counts d path i s)) (path ++ rest)
  all_listed zero f i path s [] node at_place e le = head_there path i s []
  all_listed zero f i path s (k ∷ rest) node at_place e le = absurd (omega (arith, le))
  all_listed (suc d) f i path s [] node at_place e le = head_there path i s (each_call (inner_of p counts d path s) 0 (starts_in p counts (slice_get p.nodes i)))
  all_listed (suc d) f i path s (k ∷ rest) node at_place e le =
      let m = means p f i at_place in
      let next = step p f k rest node e in
      let inner = inner_of p counts d path s in
      let c = start_at p counts m.node k next.name (ap (λ o. slice_get (called_in o) k) (sym m.called) ∙ next.named) in
      let at = placed p next.name rest node next.then in
      let deep = all_listed d next.name at.0 (path ++ k ∷ []) (s + c.0.at) rest node at.1 next.then (omega (arith, le)) in
      let there = subst (Contains (paths (all_from p counts d (path ++ k ∷ []) at.0 (s + c.0.at)))) (append_assoc path (k ∷ []) rest) deep in
      let here = subst (λ o. Contains (paths (of_node o (λ j. all_from p counts d (path ++ k ∷ []) j (s + c.0.at)))) (path ++ k ∷ rest)) (sym (c.2 ∙ at.1)) there in
      let z : k ≡ 0 + k = omega arith in
      let among = contains_each inner 0 (node_starts p counts m.node) k c.0 (path ++ k ∷ rest) c.1 (subst (λ n. Contains (paths (inner n c.0)) (path ++ k ∷ rest)) z here) in
      let all = subst (λ o. Contains (paths (each_call inner 0 (starts_in p counts o))) (path ++ k ∷ rest)) (sym m.there) among in
      (suc all.0, omega (arith, all.1), all.2)

-- THE LENGTH OF A PATH

module _ (p : ProgramTree) (order : List ℕ) (o : IsCallOrder p order) where
  place_before : (k j : ℕ) → Contains (take k order) j → (i : ℕ) × (i < k) × (slice_get order i ≡ Some j)
  place_before k j found =
      let low : found.0 < k = omega (arith, found.1, length-take k order) in
      let inside : found.0 < length order = omega (arith, found.1, length-take k order) in
      (found.0, low, slice_get-get_or order found.0 j inside ∙ ap Some (sym (get_or-take k order found.0 j low) ∙ found.2))

  -- no path is longer than there are nodes before
  deep : (m : ℕ) (f : List ℕ) (i : ℕ) (rest : Path) (node : NodeTree) → node_place p f ≡ Some i → Contains (take m order) i → instance_at p f rest ≡ Some node → length rest < m
  deep m f i [] node at_place has e = let h = (place_before m i has).1 in omega (arith, h)
  deep m f i (k ∷ rest) node at_place has e =
      let here = place_before m i has in
      let mean = means p f i at_place in
      let next = step p f k rest node e in
      let among = contains_get (called_by mean.node) next.name k (ap (λ o. slice_get (called_in o) k) (sym mean.called) ∙ next.named) in
      let at = placed p next.name rest node next.then in
      let before = o.after here.0 i at.0 mean.node next.name here.2 mean.there among at.1 in
      let le = deep here.0 next.name at.0 rest node at.1 before next.then in
      let lt = here.1 in
      omega (arith, le, lt)

  pub short : (f : List ℕ) (i : ℕ) (rest : Path) (node : NodeTree) → node_place p f ≡ Some i → i < length p.nodes → instance_at p f rest ≡ Some node → length rest < length order
  short f i rest node at_place inside e = deep (length order) f i rest node at_place (subst (λ l. Contains l i) (sym (take_all (length order) order (omega arith))) (o.all i inside)) e

-- THE ORDER

irreflexive : (a : Path) → ComesBefore a a → ⊥
irreflexive [] h = h
irreflexive (i ∷ a) (inl lt) = omega (arith, lt)
irreflexive (i ∷ a) (inr (e, h)) = irreflexive a h

before_inside : (path : Path) (j : ℕ) (b : Path) → ComesBefore path (path ++ j ∷ b)
before_inside [] j b = tt
before_inside (i ∷ path) j b = inr (refl, before_inside path j b)

before_later : (path : Path) (k j : ℕ) (a b : Path) → k < j → ComesBefore (path ++ k ∷ a) (path ++ j ∷ b)
before_later [] k j a b lt = inl lt
before_later (i ∷ path) k j a b lt = inr (refl, before_later path k j a b lt)

abbrev Ahead : Instance → Instance → Type 0
Ahead x y = ComesBefore x.path y.path

abbrev pub Increasing : List Instance → Type 0
Increasing [] = Unit {0}
Increasing (x ∷ xs) = All (Ahead x) xs × Increasing xs

joined : (xs ys : List Instance) → Increasing xs → Increasing ys → ((x y : Instance) (i j : ℕ) → slice_get xs i ≡ Some x → slice_get ys j ≡ Some y → Ahead x y) → Increasing (xs ++ ys)
joined [] ys h h' all = h'
joined (x ∷ xs) ys h h' all = (
  All-append (Ahead x) xs ys h.0 (λ j d lt. all x (get_or ys j d) 0 j refl (slice_get-get_or ys j d lt)),
  joined xs ys h.1 h' (λ a b i j e f. all a b (suc i) j e f),
)

-- a path that goes on by call k
abbrev By : Path → ℕ → Instance → Type 0
By path k x = (rest : Path) × (x.path ≡ path ++ k ∷ rest)

abbrev From : Path → Instance → Type 0
From path x = (rest : Path) × (x.path ≡ path ++ rest)

-- by a call from k on
abbrev Later : Path → ℕ → Instance → Type 0
Later path k x = (j : ℕ) × (k ≤ j) × By path j x

module _ (p : ProgramTree) (counts : List ℕ) where
  later_each : (path : Path) (inner : ℕ → CallStart → List Instance) (k : ℕ) (cs : List CallStart) → ((k : ℕ) (c : CallStart) → All (By path k) (inner k c)) → All (Later path k) (each_call inner k cs)
  later_each path inner k [] h = All-nil _
  later_each path inner k (c ∷ cs) h =
      All-append (Later path k) (inner k c) (each_call inner (suc k) cs) (all_imp (By path k) (Later path k) (inner k c) (λ x by. (k, omega arith, by)) (h k c))
      (all_imp (Later path (suc k)) (Later path k) (each_call inner (suc k) cs) (λ x by. (by.0, (let le = by.1 in omega (arith, le)), by.2)) (later_each path inner (suc k) cs h))

  by_node : (path : Path) (k : ℕ) (o : Option ℕ) (inner : ℕ → List Instance) → ((j : ℕ) → All (From (path ++ k ∷ [])) (inner j)) → All (By path k) (of_node o inner)
  by_node path k None inner h = All-nil _
  by_node path k (Some j) inner h = all_imp (From (path ++ k ∷ [])) (By path k) (inner j) (λ x by. (by.0, by.1 ∙ append_assoc path (k ∷ []) by.0)) (h j)

  from_path : (d : ℕ) (path : Path) (i s : ℕ) → All (From path) (all_from p counts d path i s)
  from_path zero path i s = All-cons (From path) (record { path = path; node = i; start = s }) [] ([], sym (append-nil path)) (All-nil _)
  from_path (suc d) path i s =
      let cs = starts_in p counts (slice_get p.nodes i) in
      let inner = inner_of p counts d path s in
      let by = λ (k : ℕ) (c : CallStart). by_node path k c.node (λ j. all_from p counts d (path ++ k ∷ []) j (s + c.at)) (λ j. from_path d (path ++ k ∷ []) j (s + c.at)) in
      All-cons (From path) (record { path = path; node = i; start = s }) (each_call inner 0 cs) ([], sym (append-nil path))
      (all_imp (Later path 0) (From path) (each_call inner 0 cs) (λ x by. (by.0 ∷ by.2.0, by.2.1)) (later_each path inner 0 cs by))

  increasing_each : (path : Path) (inner : ℕ → CallStart → List Instance) (k : ℕ) (cs : List CallStart) → ((k : ℕ) (c : CallStart) → All (By path k) (inner k c)) → ((k : ℕ) (c : CallStart) → Increasing (inner k c))
      → Increasing (each_call inner k cs)
  increasing_each path inner k [] by h = tt
  increasing_each path inner k (c ∷ cs) by h =
      joined (inner k c) (each_call inner (suc k) cs) (h k c) (increasing_each path inner (suc k) cs by h)
      (λ x y i j e f.
      let a = all_at (By path k) (inner k c) i x (by k c) e in
      let b = all_at (Later path (suc k)) (each_call inner (suc k) cs) j y (later_each path inner (suc k) cs by) f in
      let le = b.1 in
      subst (λ q. ComesBefore q y.path) (sym a.1) (subst (λ q. ComesBefore (path ++ k ∷ a.0) q) (sym b.2.1) (before_later path k b.0 a.0 b.2.0 (omega (arith, le)))))

  increasing_node : (o : Option ℕ) (inner : ℕ → List Instance) → ((j : ℕ) → Increasing (inner j)) → Increasing (of_node o inner)
  increasing_node None inner h = tt
  increasing_node (Some j) inner h = h j

  pub increasing : (d : ℕ) (path : Path) (i s : ℕ) → Increasing (all_from p counts d path i s)
  increasing zero path i s = (All-nil _, tt)
  increasing (suc d) path i s =
      let cs = starts_in p counts (slice_get p.nodes i) in
      let inner = inner_of p counts d path s in
      let by = λ (k : ℕ) (c : CallStart). by_node path k c.node (λ j. all_from p counts d (path ++ k ∷ []) j (s + c.at)) (λ j. from_path d (path ++ k ∷ []) j (s + c.at)) in
      let x : Instance = record { path = path; node = i; start = s } in (
        all_imp (Later path 0) (Ahead x) (each_call inner 0 cs) (λ y by. subst (ComesBefore path) (sym by.2.1) (before_inside path by.0 by.2.0)) (later_each path inner 0 cs by),
        increasing_each path inner 0 cs by (λ k c. increasing_node c.node (λ j. all_from p counts d (path ++ k ∷ []) j (s + c.at)) (λ j. increasing d (path ++ k ∷ []) j (s + c.at))),
      )

abbrev pub IsOrdered : List Instance → Type 0
IsOrdered list = (i j : ℕ) (a b : Path) → i < j → slice_get (paths list) i ≡ Some a → slice_get (paths list) j ≡ Some b → ComesBefore a b

head_before : (x : Instance) (xs : List Instance) (j : ℕ) (b : Path) → All (Ahead x) xs → slice_get (paths xs) j ≡ Some b → ComesBefore x.path b
head_before x [] j b all e = cc
head_before x (y ∷ xs) zero b all e = subst (ComesBefore x.path) (same_Some y.path b e) (all_at (Ahead x) (y ∷ xs) 0 y all refl)
head_before x (y ∷ xs) (suc j) b all e = head_before x xs j b (λ i d lt. all (suc i) d (omega (arith, lt))) e

pub ordered : (list : List Instance) → Increasing list → IsOrdered list
ordered [] h i j a b lt e f = cc
ordered (x ∷ xs) h i zero a b lt e f = absurd (omega (arith, lt))
ordered (x ∷ xs) h zero (suc j) a b lt e f = subst (λ q. ComesBefore q b) (same_Some x.path a e) (head_before x xs j b h.0 f)
ordered (x ∷ xs) h (suc i) (suc j) a b lt e f = ordered xs h.1 i j a b (omega (arith, lt)) e f

pub once : (list : List Instance) → IsOrdered list → AreDistinct (paths list)
once list h i j x e f =
    ⊎_elim (λ (l : i < j). absurd (irreflexive x (h i j x x l e f)))
    (λ (g : j ≤ i). ⊎_elim (λ (l : j < i). absurd (irreflexive x (h j i x x l f e))) (λ (g' : i ≤ j). omega arith) (cases_lt j i)) (cases_lt i j)
