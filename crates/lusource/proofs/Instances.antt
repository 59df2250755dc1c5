-- The instances of a solution are those of the program's text.
use Rattle.std.proofs.Common.{◌≡◌, ℕ, ◌+◌, List, [], ◌∷◌, ◌++◌, map, Option, Some, None, refl, sym, ap, ◌∙◌, subst}
use Rattle.std.specs.Prelude.{slice_get, option_map, option_and_then, flat_map}
use Rattle.std.proofs.lemmas.List.{map-append}
use Rattle.std.proofs.lemmas.Option.{slice_get-map}
use Rattle.lutree.specs.declared.expr.Pattern.{Pattern}
use Rattle.lutree.specs.declared.expr.Condition.{Condition}
use Rattle.lutree.specs.Tree.{Tree, Trees, EquationTree, NodeTree, ProgramTree}
use Rattle.lutree.specs.Tree as tree
use Rattle.luflow.specs.Streams.{Stream, Ticks, base_clock}
use Rattle.lustat_rules.specs.Scope.{node_called}
use Rattle.lustat_rules.specs.Naming.{Call, calls_in, calls_in_all}
use Rattle.lusource.specs.Names.{clock_of}
use Rattle.lusource.specs.Source.{Named, CallInstance, Path, SourceStreams, InstanceHolds, If, HoldsAt, calls, condition, first_pattern, next_patterns, given_streams, left_clock, sites, sites_in, branch_sites, all_sites, sites_of}
use Rattle.lusource.specs.Instances.{called_in, instance_at, CalledLaw, InstanceLaw}

abbrev pub site_node : CallInstance → List ℕ
site_node site = site.node

abbrev call_node : Call → List ℕ
call_node c = c.node

-- two lists of sites, one behind the other
joined : (A B : List CallInstance) (X Y : List Call) → map site_node A ≡ map call_node X → map site_node B ≡ map call_node Y → map site_node (A ++ B) ≡ map call_node (X ++ Y)
joined A B X Y a b =
    map-append site_node A B ∙ ap (λ l. l ++ map site_node B) a ∙ ap (λ l. map call_node X ++ l) b ∙ sym (map-append call_node X Y)

module _ (program : ProgramTree) (node : NodeTree) (base : Ticks) (var : Named) (inner : ℕ → Named) where
  abbrev S : Tree → Option Condition → ℕ → List CallInstance
  S e k i = sites program node base var inner e k i

  mutual
    called : (e : Tree) (k : Option Condition) (i : ℕ) → map site_node (S e k i) ≡ map call_node (calls_in e)
    called (tree.number n) k i = refl
    called (tree.truth b) k i = refl
    called (tree.label x) k i = refl
    called (tree.variable x) k i = refl
    called (tree.unary op a) k i = called a k i
    called (tree.binary op a b) k i =
        joined (S a k i) (S b k (i + calls a)) (calls_in a) (calls_in b) (called a k i) (called b k (i + calls a))
    called (tree.choice c a b) k i =
        joined (S c k i) (S a k (i + calls c) ++ S b k (i + calls c + calls a)) (calls_in c) (calls_in a ++ calls_in b) (called c k i)
        (joined (S a k (i + calls c)) (S b k (i + calls c + calls a)) (calls_in a) (calls_in b) (called a k (i + calls c)) (called b k (i + calls c + calls a)))
    called (tree.when a c) k i = called a (clock_of node c.variable) i
    called (tree.current x) k i = refl
    called (tree.merge c ps all) k i = called_branches c ps all i
    called (tree.call f all) k i =
        joined (sites_in program node base var inner all k i) _ (calls_in_all all) _ (called_all all k i) refl

    called_all : (all : Trees) (k : Option Condition) (i : ℕ) → map site_node (sites_in program node base var inner all k i) ≡ map call_node (calls_in_all all)
    called_all tree.none k i = refl
    called_all (tree.more a all) k i =
        joined (S a k i) (sites_in program node base var inner all k (i + calls a)) (calls_in a) (calls_in_all all) (called a k i) (called_all all k (i + calls a))

    called_branches : (c : List ℕ) (ps : List Pattern) (all : Trees) (i : ℕ) → map site_node (branch_sites program node base var inner c ps all i) ≡ map call_node (calls_in_all all)
    called_branches c ps tree.none i = refl
    called_branches c ps (tree.more a all) i =
        let k = condition c (first_pattern ps) in
        let rest = branch_sites program node base var inner c (next_patterns ps) all (i + calls a) in
        joined (S a k i) rest (calls_in a) (calls_in_all all) (called a k i) (called_branches c (next_patterns ps) all (i + calls a))

  called_here : (qs : List EquationTree) (i : ℕ) → map site_node (all_sites program node base var inner qs i) ≡ flat_map (λ (q : EquationTree). map call_node (calls_in q.right)) qs
  called_here [] i = refl
  called_here (q ∷ qs) i =
      let k = left_clock program node base var inner q in
      map-append site_node (S q.right k i) (all_sites program node base var inner qs (i + calls q.right))
      ∙ ap (λ l. l ++ map site_node (all_sites program node base var inner qs (i + calls q.right))) (called q.right k i)
      ∙ ap (λ l. map call_node (calls_in q.right) ++ l) (called_here qs (i + calls q.right))

pub called_law : CalledLaw
called_law program None base var inner = refl
called_law program (Some node) base var inner = called_here program node base var inner node.equations 0

-- an instance of a node stands at a path
abbrev Stands : ProgramTree → NodeTree → SourceStreams → Path → Type 0
Stands program node σ path =
    (base : Ticks) × (given : List Stream) × InstanceHolds program node base given (σ path) (λ i. σ (path ++ i ∷ []))

one_call : (program : ProgramTree) (node : NodeTree) (path : Path) (σ : SourceStreams) (P : Type 0) (o : Option CallInstance) → ((site : CallInstance) → HoldsAt program site.node site.base site.arguments σ path → instance_at program site.node path ≡ Some node → P) → If o (λ site. HoldsAt program site.node site.base site.arguments σ path) → option_and_then (λ g. instance_at program g path) (option_map site_node o) ≡ Some node → P
one_call program node path σ P None rest h e = cc
one_call program node path σ P (Some site) rest h e = rest site h e

holds : (program : ProgramTree) (node : NodeTree) (path : Path) (f : List ℕ) (base : Ticks) (given : List Stream) (σ : SourceStreams) → HoldsAt program f base given σ path → instance_at program f path ≡ Some node → Stands program node σ path
holds program node [] f base given σ h e =
    (base, given, subst (λ o. If o (λ node. InstanceHolds program node base given (σ []) (λ i. σ (i ∷ [])))) e h)
holds program node (i ∷ path) f base given σ h e =
    let o = node_called program f in
    let ss = sites_of program o base (σ []) (λ i. σ (i ∷ [])) in
    let named : slice_get (called_in o) i ≡ option_map site_node (slice_get ss i) =
    ap (λ l. slice_get l i) (sym (called_law program o base (σ []) (λ i. σ (i ∷ [])))) ∙ slice_get-map site_node ss i in
    one_call program node path (λ rest. σ (i ∷ rest)) (Stands program node σ (i ∷ path)) (slice_get ss i)
    (λ site here there. holds program node path site.node site.base site.arguments (λ rest. σ (i ∷ rest)) here there)
    h
    (ap (option_and_then (λ g. instance_at program g path)) (sym named) ∙ e)

pub instance_law : InstanceLaw
instance_law program main inputs σ path node solves there =
    holds program node path main (base_clock inputs) (given_streams inputs) σ (solves path) there
