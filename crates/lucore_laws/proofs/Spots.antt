-- Where the instances of a node's calls stand in its list.
use Rattle.std.proofs.Common.{◌≡◌, ℕ, ◌+◌, List, [], ◌∷◌, ◌++◌, length, Option, Some, None, refl, arith, length-append}
use Rattle.std.specs.Prelude.{slice_get}
use Rattle.lutree.specs.declared.expr.Pattern.{Pattern}
use Rattle.lutree.specs.declared.expr.Condition.{Condition}
use Rattle.lutree.specs.declared.expr.Infix.TheVariants.{Data as Data2, Arrow, FollowedBy}
use Rattle.lutree.specs.Tree.{Tree, Trees, EquationTree, NodeTree, ProgramTree}
use Rattle.lutree.specs.Tree as tree
use Rattle.luflow.specs.declared.form.Flow.{Flow}
use Rattle.luflow.specs.Streams.{Stream, Ticks}
use Rattle.lusource.specs.Names.{variables_of, place_of, clock_of}
use Rattle.lustat_rules.specs.Scope.{node_called}
use Rattle.lusource.specs.Source.{Named, SourceStreams, condition, first_pattern, next_patterns, calls, calls_in, sites, sites_in, branch_sites}
use Rattle.lucore_laws.specs.Layout.{Walking, behind, walk, walk_right, left_clock, variable_count}
use Rattle.lucore_laws.proofs.Open.{nothing}

-- the called node, and the place of its instance's first variable
pub record Spot : Type 0 where
  pub node : List ℕ
  pub at : ℕ

-- the instances of an operand, and behind it those of the rest
abbrev pub spots_after : Walking → (ℕ → List Spot) → (ℕ → List Spot) → ℕ → List Spot
spots_after a first rest s = first s ++ rest (behind s (a s))

abbrev pub no_spots : ℕ → List Spot
no_spots s = []

abbrev pub spot_at : List ℕ → ℕ → List Spot
spot_at f s = record { node = f; at = s } ∷ []

module _ (p : ProgramTree) (lists : List (List Flow)) (node : NodeTree) where
  abbrev mutual
    pub spots : Tree → Option Condition → ℕ → List Spot
    spots (tree.number n) k = no_spots
    spots (tree.truth b) k = no_spots
    spots (tree.label x) k = no_spots
    spots (tree.variable x) k = no_spots
    spots (tree.unary op a) k = spots_after (walk p lists node a k) (spots a k) no_spots
    spots (tree.binary (Data2 op) a b) k =
        spots_after (walk p lists node a k) (spots a k) (spots_after (walk p lists node b k) (spots b k) no_spots)
    spots (tree.binary Arrow a b) k =
        spots_after (walk p lists node a k) (spots a k) (spots_after (walk p lists node b k) (spots b k) no_spots)
    spots (tree.binary FollowedBy a b) k =
        spots_after (walk p lists node a k) (spots a k) (spots_after (walk p lists node b k) (spots b k) no_spots)
    spots (tree.choice c a b) k =
        spots_after (walk p lists node c k) (spots c k) (spots_after (walk p lists node a k) (spots a k) (spots_after (walk p lists node b k) (spots b k) no_spots))
    spots (tree.when a c) k = spots_after (walk p lists node a (clock_of node c.variable)) (spots a (clock_of node c.variable)) no_spots
    spots (tree.current x) k = no_spots
    spots (tree.merge c ps all) k = spots_branches c ps all no_spots
    spots (tree.call f all) k = spots_all all k (spot_at f)

    pub spots_all : Trees → Option Condition → (ℕ → List Spot) → ℕ → List Spot
    spots_all tree.none k rest = rest
    spots_all (tree.more a all) k rest = spots_after (walk p lists node a k) (spots a k) (spots_all all k rest)

    pub spots_branches : List ℕ → List Pattern → Trees → (ℕ → List Spot) → ℕ → List Spot
    spots_branches c ps tree.none rest = rest
    spots_branches c ps (tree.more a all) rest =
        spots_after (walk p lists node a (condition c (first_pattern ps))) (spots a (condition c (first_pattern ps))) (spots_branches c (next_patterns ps) all rest)

  abbrev pub equation_spots : List EquationTree → ℕ → List Spot
  equation_spots [] s = []
  equation_spots (q ∷ qs) s =
      spots q.right (left_clock p lists node q) s ++ equation_spots qs (s + length (walk_right p lists node q s).inner)

  abbrev pub node_spots : List Spot
  node_spots = equation_spots node.equations (variable_count p lists node)

  long_after : (a : Walking) (first rest : ℕ → List Spot) (m n : ℕ) → ((s : ℕ) → length (first s) ≡ m) → ((s : ℕ) → length (rest s) ≡ n) → (s : ℕ) → length (spots_after a first rest s) ≡ m + n
  long_after a first rest m n f g s =
      let e = f s in
      let e' = g (behind s (a s)) in
      omega (arith, length-append (first s) (rest (behind s (a s))))

  none_long : (s : ℕ) → length (no_spots s) ≡ 0
  none_long s = refl

  one_after : (a : Walking) (first : ℕ → List Spot) (m : ℕ) → ((s : ℕ) → length (first s) ≡ m) → (s : ℕ) → length (spots_after a first no_spots s) ≡ m
  one_after a first m f s = let e = long_after a first no_spots m 0 f none_long s in omega (arith, e)

  two_after : (a b : Walking) (first second : ℕ → List Spot) (m n : ℕ) → ((s : ℕ) → length (first s) ≡ m) → ((s : ℕ) → length (second s) ≡ n) → (s : ℕ) → length (spots_after a first (spots_after b second no_spots) s) ≡ m + n
  two_after a b first second m n f g s = long_after a first (spots_after b second no_spots) m n f (one_after b second n g) s

  mutual
    pub length-spots : (e : Tree) (k : Option Condition) (s : ℕ) → length (spots e k s) ≡ calls e
    length-spots (tree.number n) k s = refl
    length-spots (tree.truth b) k s = refl
    length-spots (tree.label x) k s = refl
    length-spots (tree.variable x) k s = refl
    length-spots (tree.unary op a) k s = one_after (walk p lists node a k) (spots a k) (calls a) (length-spots a k) s
    length-spots (tree.binary (Data2 op) a b) k s =
        two_after (walk p lists node a k) (walk p lists node b k) (spots a k) (spots b k) (calls a) (calls b) (length-spots a k) (length-spots b k) s
    length-spots (tree.binary Arrow a b) k s =
        two_after (walk p lists node a k) (walk p lists node b k) (spots a k) (spots b k) (calls a) (calls b) (length-spots a k) (length-spots b k) s
    length-spots (tree.binary FollowedBy a b) k s =
        two_after (walk p lists node a k) (walk p lists node b k) (spots a k) (spots b k) (calls a) (calls b) (length-spots a k) (length-spots b k) s
    length-spots (tree.choice c a b) k s =
        long_after (walk p lists node c k) (spots c k) (spots_after (walk p lists node a k) (spots a k) (spots_after (walk p lists node b k) (spots b k) no_spots)) (calls c) (calls a + calls b) (length-spots c k)
        (two_after (walk p lists node a k) (walk p lists node b k) (spots a k) (spots b k) (calls a) (calls b) (length-spots a k) (length-spots b k)) s
    length-spots (tree.when a c) k s =
        one_after (walk p lists node a (clock_of node c.variable)) (spots a (clock_of node c.variable)) (calls a) (length-spots a (clock_of node c.variable)) s
    length-spots (tree.current x) k s = refl
    length-spots (tree.merge c ps all) k s =
        let e = length-spots_branches c ps all no_spots 0 none_long s in
        omega (arith, e)
    length-spots (tree.call f all) k s = length-spots_all all k (spot_at f) 1 (λ s. refl) s

    pub length-spots_all : (all : Trees) (k : Option Condition) (rest : ℕ → List Spot) (n : ℕ) → ((s : ℕ) → length (rest s) ≡ n) → (s : ℕ) → length (spots_all all k rest s) ≡ calls_in all + n
    length-spots_all tree.none k rest n h s = let e = h s in omega (arith, e)
    length-spots_all (tree.more a all) k rest n h s =
        let e = long_after (walk p lists node a k) (spots a k) (spots_all all k rest) (calls a) (calls_in all + n) (length-spots a k) (length-spots_all all k rest n h) s in
        omega (arith, e)

    pub length-spots_branches : (c : List ℕ) (ps : List Pattern) (all : Trees) (rest : ℕ → List Spot) (n : ℕ) → ((s : ℕ) → length (rest s) ≡ n) → (s : ℕ) → length (spots_branches c ps all rest s) ≡ calls_in all + n
    length-spots_branches c ps tree.none rest n h s = let e = h s in omega (arith, e)
    length-spots_branches c ps (tree.more a all) rest n h s =
        let k = condition c (first_pattern ps) in
        let e = long_after (walk p lists node a k) (spots a k) (spots_branches c (next_patterns ps) all rest) (calls a) (calls_in all + n) (length-spots a k) (length-spots_branches c (next_patterns ps) all rest n h) s in
        omega (arith, e)

module _ (p : ProgramTree) (node : NodeTree) (base : Ticks) (var : Named) (inner : ℕ → Named) where
  mutual
    pub length-sites : (e : Tree) (k : Option Condition) (i : ℕ) → length (sites p node base var inner e k i) ≡ calls e
    length-sites (tree.number n) k i = refl
    length-sites (tree.truth b) k i = refl
    length-sites (tree.label x) k i = refl
    length-sites (tree.variable x) k i = refl
    length-sites (tree.unary op a) k i = length-sites a k i
    length-sites (tree.binary op a b) k i =
        let ha = length-sites a k i in
        let hb = length-sites b k (i + calls a) in
        omega (arith, length-append (sites p node base var inner a k i) (sites p node base var inner b k (i + calls a)))
    length-sites (tree.choice c a b) k i =
        let hc = length-sites c k i in
        let ha = length-sites a k (i + calls c) in
        let hb = length-sites b k (i + calls c + calls a) in
        omega (arith, length-append (sites p node base var inner c k i) (sites p node base var inner a k (i + calls c) ++ sites p node base var inner b k (i + calls c + calls a)), length-append (sites p node base var inner a k (i + calls c)) (sites p node base var inner b k (i + calls c + calls a)))
    length-sites (tree.when a c) k i = length-sites a (clock_of node c.variable) i
    length-sites (tree.current x) k i = refl
    length-sites (tree.merge c ps all) k i = length-branch_sites c ps all i
    length-sites (tree.call f all) k i =
        let h = length-sites_in all k i in
        simp (length-append) (omega arith)

    pub length-sites_in : (all : Trees) (k : Option Condition) (i : ℕ) → length (sites_in p node base var inner all k i) ≡ calls_in all
    length-sites_in tree.none k i = refl
    length-sites_in (tree.more a all) k i =
        let ha = length-sites a k i in
        let hb = length-sites_in all k (i + calls a) in
        omega (arith, length-append (sites p node base var inner a k i) (sites_in p node base var inner all k (i + calls a)))

    pub length-branch_sites : (c : List ℕ) (ps : List Pattern) (all : Trees) (i : ℕ) → length (branch_sites p node base var inner c ps all i) ≡ calls_in all
    length-branch_sites c ps tree.none i = refl
    length-branch_sites c ps (tree.more a all) i =
        let k = condition c (first_pattern ps) in
        let ha = length-sites a k i in
        let hb = length-branch_sites c (next_patterns ps) all (i + calls a) in
        omega (arith, length-append (sites p node base var inner a k i) (branch_sites p node base var inner c (next_patterns ps) all (i + calls a)))

-- THE STREAMS OF ALL PATHS

abbrev pub place_named : Option NodeTree → List ℕ → ℕ
place_named None x = 0
place_named (Some node) x = place_of (variables_of node) x

abbrev pub spots_in : ProgramTree → List (List Flow) → Option NodeTree → List Spot
spots_in p lists None = []
spots_in p lists (Some node) = node_spots p lists node

-- of an instance of the node called f, whose list has these streams: a variable's own stream, and the streams of the instances
abbrev pub of_spot : Option Spot → (Spot → Stream) → Stream
of_spot None f = nothing
of_spot (Some spot) f = f spot

abbrev pub streams_of : ProgramTree → List (List Flow) → List ℕ → (ℕ → Stream) → SourceStreams
streams_of p lists f τ [] x = τ (place_named (node_called p f) x)
streams_of p lists f τ (i ∷ path) x =
    of_spot (slice_get (spots_in p lists (node_called p f)) i) (λ spot. streams_of p lists spot.node (λ y. τ (spot.at + y)) path x)
