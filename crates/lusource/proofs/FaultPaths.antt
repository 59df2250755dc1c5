-- The operators that are at fault stand in instances.
use Rattle.std.proofs.Common.{◌≡◌, ℕ, zero, suc, ◌+◌, ◌<◌, ◌≤◌, ◌⊎◌, inl, inr, List, [], ◌∷◌, ◌++◌, length, Option, Some, None, refl, sym, ap, ◌∙◌, subst, arith, length-append}
use Rattle.std.specs.Prelude.{slice_get, option_map, option_and_then}
use Rattle.std.proofs.lemmas.Option.{slice_get_within, slice_get-map}
use Rattle.lutree.specs.declared.expr.Pattern.{Pattern}
use Rattle.lutree.specs.declared.expr.Condition.{Condition}
use Rattle.lutree.specs.declared.expr.Prefix.TheVariants.{Data as Data1, Pre}
use Rattle.lutree.specs.declared.expr.Infix.TheVariants.{Data as Data2, Arrow, FollowedBy}
use Rattle.lutree.specs.Tree.{Tree, Trees, EquationTree, NodeTree, ProgramTree}
use Rattle.lutree.specs.Tree as tree
use Rattle.luflow.specs.declared.form.FaultKind.{FaultKind}
use Rattle.luflow.specs.Streams.{Stream, Ticks, base_clock}
use Rattle.lustat_rules.specs.Scope.{node_called}
use Rattle.lusource.specs.Names.{clock_of}
use Rattle.lusource.specs.Source.{Named, CallInstance, Path, SourceStreams, InstanceHolds, If, HoldsAt, calls, calls_in, condition, first_pattern, next_patterns, ticks, values, given_streams, left_clock, sites, sites_in, branch_sites, all_sites, sites_of}
use Rattle.lusource.specs.Instances.{called_in, instance_at}
use Rattle.lusource.specs.Faults as faults
use Rattle.lusource.specs.FaultPaths.{CallStands, StandsIn, NoCall, FaultPathsLaw}
use Rattle.lusource.proofs.Instances.{site_node, called_law}

get_left : {A : Type 0} (xs ys : List A) (j : ℕ) (x : A) → slice_get xs j ≡ Some x → slice_get (xs ++ ys) j ≡ Some x
get_left [] ys j x e = cc
get_left (y ∷ xs) ys zero x e = e
get_left (y ∷ xs) ys (suc j) x e = get_left xs ys j x e

get_right : {A : Type 0} (xs ys : List A) (j : ℕ) → slice_get (xs ++ ys) (length xs + j) ≡ slice_get ys j
get_right [] ys j = let z : 0 + j ≡ j = omega arith in ap (slice_get ys) z
get_right (x ∷ xs) ys j =
    let z : length (x ∷ xs) + j ≡ suc (length xs + j) = omega arith in
    ap (slice_get (x ∷ xs ++ ys)) z ∙ get_right xs ys j

both : {P Q P' Q' : Type 0} → (P → P') → (Q → Q') → P ⊎ Q → P' ⊎ Q'
both f g (inl h) = inl (f h)
both f g (inr h) = inr (g h)

module _ (program : ProgramTree) (node : NodeTree) (base : Ticks) (var : Named) (inner : ℕ → Named) (t : ℕ) (kind : FaultKind) (C : List ℕ → Ticks → ℕ → Type 0) where
  abbrev S : Tree → Option Condition → ℕ → List CallInstance
  S e k i = sites program node base var inner e k i

  abbrev SI : Trees → Option Condition → ℕ → List CallInstance
  SI all k i = sites_in program node base var inner all k i

  abbrev SB : List ℕ → List Pattern → Trees → ℕ → List CallInstance
  SB c ps all i = branch_sites program node base var inner c ps all i

  abbrev F : Tree → Option Condition → ℕ → Type 0
  F = faults.Fails program node base var inner t kind C

  abbrev Own : Tree → Option Condition → ℕ → Type 0
  Own = faults.Fails program node base var inner t kind NoCall

  -- one of these calls fails, of which the first has number i
  abbrev Call : List CallInstance → ℕ → Type 0
  Call xs i = (j : ℕ) × (site : CallInstance) × (slice_get xs j ≡ Some site) × C site.node site.base (i + j)

  call_left : (xs ys : List CallInstance) (i : ℕ) → Call xs i → Call (xs ++ ys) i
  call_left xs ys i h = (h.0, h.1, get_left xs ys h.0 h.1 h.2, h.3)

  call_right : (xs ys : List CallInstance) (i n : ℕ) → length xs ≡ n → Call ys (i + n) → Call (xs ++ ys) i
  call_right xs ys i n l h =
      let z : i + n + h.0 ≡ i + (length xs + h.0) = omega (arith, l) in
      (length xs + h.0, h.1, get_right xs ys h.0 ∙ h.2, subst (C h.1.node h.1.base) z h.3)

  joined : (xs ys : List CallInstance) (m n : ℕ) → length xs ≡ m → length ys ≡ n → length (xs ++ ys) ≡ m + n
  joined xs ys m n h g = omega (arith, length-append xs ys, h, g)

  mutual
    long : (e : Tree) (k : Option Condition) (i : ℕ) → length (S e k i) ≡ calls e
    long (tree.number n) k i = refl
    long (tree.truth b) k i = refl
    long (tree.label x) k i = refl
    long (tree.variable x) k i = refl
    long (tree.unary op a) k i = long a k i
    long (tree.binary op a b) k i = joined (S a k i) (S b k (i + calls a)) (calls a) (calls b) (long a k i) (long b k (i + calls a))
    long (tree.choice c a b) k i =
        let ia = i + calls c in
        let ib = i + calls c + calls a in
        joined (S c k i) (S a k ia ++ S b k ib) (calls c) (calls a + calls b) (long c k i) (joined (S a k ia) (S b k ib) (calls a) (calls b) (long a k ia) (long b k ib))
    long (tree.when a c) k i = long a (clock_of node c.variable) i
    long (tree.current x) k i = refl
    long (tree.merge c ps all) k i = long_branches c ps all i
    long (tree.call f all) k i = joined (SI all k i) _ (calls_in all) 1 (long_in all k i) refl

    long_in : (all : Trees) (k : Option Condition) (i : ℕ) → length (SI all k i) ≡ calls_in all
    long_in tree.none k i = refl
    long_in (tree.more a all) k i = joined (S a k i) (SI all k (i + calls a)) (calls a) (calls_in all) (long a k i) (long_in all k (i + calls a))

    long_branches : (c : List ℕ) (ps : List Pattern) (all : Trees) (i : ℕ) → length (SB c ps all i) ≡ calls_in all
    long_branches c ps tree.none i = refl
    long_branches c ps (tree.more a all) i =
        let k = condition c (first_pattern ps) in
        let qs = next_patterns ps in
        joined (S a k i) (SB c qs all (i + calls a)) (calls a) (calls_in all) (long a k i) (long_branches c qs all (i + calls a))

  mutual
    -- an expression fails by an operator of its own, or by a call
    split : (e : Tree) (k : Option Condition) (i : ℕ) → F e k i → Own e k i ⊎ Call (S e k i) i
    split (tree.number n) k i h = absurd h
    split (tree.truth b) k i h = absurd h
    split (tree.label x) k i h = absurd h
    split (tree.variable x) k i h = absurd h
    split (tree.unary (Data1 op) a) k i (inl h) = inl (inl h)
    split (tree.unary (Data1 op) a) k i (inr h) = both inr (λ c. c) (split a k i h)
    split (tree.unary Pre a) k i h = split a k i h
    split (tree.binary (Data2 op) a b) k i (inl h) = inl (inl h)
    split (tree.binary (Data2 op) a b) k i (inr (inl h)) =
        both (λ x. inr (inl x)) (call_left (S a k i) (S b k (i + calls a)) i) (split a k i h)
    split (tree.binary (Data2 op) a b) k i (inr (inr h)) =
        both (λ x. inr (inr x)) (call_right (S a k i) (S b k (i + calls a)) i (calls a) (long a k i)) (split b k (i + calls a) h)
    split (tree.binary Arrow a b) k i (inl h) = both inl (call_left (S a k i) (S b k (i + calls a)) i) (split a k i h)
    split (tree.binary Arrow a b) k i (inr h) =
        both inr (call_right (S a k i) (S b k (i + calls a)) i (calls a) (long a k i)) (split b k (i + calls a) h)
    split (tree.binary FollowedBy a b) k i (inl h) = both inl (call_left (S a k i) (S b k (i + calls a)) i) (split a k i h)
    split (tree.binary FollowedBy a b) k i (inr h) =
        both inr (call_right (S a k i) (S b k (i + calls a)) i (calls a) (long a k i)) (split b k (i + calls a) h)
    split (tree.choice c a b) k i (inl h) =
        both inl (call_left (S c k i) (S a k (i + calls c) ++ S b k (i + calls c + calls a)) i) (split c k i h)
    split (tree.choice c a b) k i (inr (inl h)) =
        let ia = i + calls c in
        let ib = i + calls c + calls a in
        both (λ x. inr (inl x)) (λ x. call_right (S c k i) (S a k ia ++ S b k ib) i (calls c) (long c k i) (call_left (S a k ia) (S b k ib) ia x)) (split a k ia h)
    split (tree.choice c a b) k i (inr (inr h)) =
        let ia = i + calls c in
        let ib = i + calls c + calls a in
        both (λ x. inr (inr x)) (λ x. call_right (S c k i) (S a k ia ++ S b k ib) i (calls c) (long c k i) (call_right (S a k ia) (S b k ib) ia (calls a) (long a k ia) x)) (split b k ib h)
    split (tree.when a c) k i h = split a (clock_of node c.variable) i h
    split (tree.current x) k i h = absurd h
    split (tree.merge c ps all) k i h = split_branches c ps all i h
    split (tree.call f all) k i (inl h) = both inl (call_left (SI all k i) _ i) (split_any all k i h)
    split (tree.call f all) k i (inr h) =
        let site : CallInstance = record { node = f; base = ticks base var k; arguments = values program node base var inner all k i } in
        let z : i + calls_in all ≡ i + calls_in all + 0 = omega arith in
        inr (call_right (SI all k i) (site ∷ []) i (calls_in all) (long_in all k i) (0, site, refl, subst (C f (ticks base var k)) z h))

    split_any : (all : Trees) (k : Option Condition) (i : ℕ) → faults.AnyFails program node base var inner t kind C all k i → faults.AnyFails program node base var inner t kind NoCall all k i ⊎ Call (SI all k i) i
    split_any tree.none k i h = absurd h
    split_any (tree.more a all) k i (inl h) = both inl (call_left (S a k i) (SI all k (i + calls a)) i) (split a k i h)
    split_any (tree.more a all) k i (inr h) =
        both inr (call_right (S a k i) (SI all k (i + calls a)) i (calls a) (long a k i)) (split_any all k (i + calls a) h)

    split_branches : (c : List ℕ) (ps : List Pattern) (all : Trees) (i : ℕ) → faults.BranchFails program node base var inner t kind C c ps all i → faults.BranchFails program node base var inner t kind NoCall c ps all i ⊎ Call (SB c ps all i) i
    split_branches c ps tree.none i h = absurd h
    split_branches c ps (tree.more a all) i (inl h) =
        let k = condition c (first_pattern ps) in
        both inl (call_left (S a k i) (SB c (next_patterns ps) all (i + calls a)) i) (split a k i h)
    split_branches c ps (tree.more a all) i (inr h) =
        let k = condition c (first_pattern ps) in
        both inr (call_right (S a k i) (SB c (next_patterns ps) all (i + calls a)) i (calls a) (long a k i)) (split_branches c (next_patterns ps) all (i + calls a) h)

  abbrev AS : List EquationTree → ℕ → List CallInstance
  AS = all_sites program node base var inner

  abbrev Calling : List EquationTree → ℕ → List ℕ → Type 0
  Calling qs i v = (j : ℕ) × (site : CallInstance) × (slice_get (AS qs i) j ≡ Some site) × C site.node site.base (i + j) × CallStands qs i v (i + j)

  -- and so does an equation
  pub split_equations : (qs : List EquationTree) (i : ℕ) (v : List ℕ) → faults.EquationFails program node base var inner t kind C qs i v → faults.EquationFails program node base var inner t kind NoCall qs i v ⊎ Calling qs i v
  split_equations [] i v h = absurd h
  split_equations (q ∷ qs) i v (inl h) =
      let k = left_clock program node base var inner q in
      let xs = S q.right k i in
      let ys = AS qs (i + calls q.right) in
      both (λ x. inl (h.0, x)) (λ (c : Call xs i).
      let lt = slice_get_within xs c.0 c.1 c.2 in
      let l = long q.right k i in
      let lo : i ≤ i + c.0 = omega arith in
      let hi : i + c.0 < i + calls q.right = omega (arith, lt, l) in
      (c.0, c.1, get_left xs ys c.0 c.1 c.2, c.3, inl (h.0, lo, hi))) (split q.right k i h.1)
  split_equations (q ∷ qs) i v (inr h) =
      let k = left_clock program node base var inner q in
      let xs = S q.right k i in
      let ys = AS qs (i + calls q.right) in
      both inr (λ (c : Calling qs (i + calls q.right) v).
      let l = long q.right k i in
      let z : i + calls q.right + c.0 ≡ i + (length xs + c.0) = omega (arith, l) in
      (length xs + c.0, c.1, get_right xs ys c.0 ∙ c.2, subst (C c.1.node c.1.base) z c.3, inr (subst (CallStands qs (i + calls q.right) v) z c.4))) (split_equations qs (i + calls q.right) v h)

-- an operator of an instance at a path from an instance of the node called f on
abbrev Located : ProgramTree → ℕ → FaultKind → List ℕ → SourceStreams → List ℕ → Type 0
Located program t kind f σ v =
    (path : Path) × (node : NodeTree) × (base : Ticks) × (given : List Stream) × (w : List ℕ)
    × (instance_at program f path ≡ Some node)
    × InstanceHolds program node base given (σ path) (λ i. σ (path ++ i ∷ []))
    × faults.EquationFails program node base (σ path) (λ i. σ (path ++ i ∷ [])) t kind NoCall node.equations 0 w
    × StandsIn program f v w path

located : (program : ProgramTree) (t : ℕ) (kind : FaultKind) (depth : ℕ) (f : List ℕ) (base : Ticks) (given : List Stream) (σ : SourceStreams) (v : List ℕ) → ((path : Path) → HoldsAt program f base given σ path) → faults.FailsWithin program t kind depth f base σ v → Located program t kind f σ v
located program t kind zero f base given σ v holds h = absurd h
located program t kind (suc depth) f base given σ v holds h =
    here (λ g k gs i w hs c. located program t kind depth g k gs (λ path. σ (i ∷ path)) w hs c) (node_called program f) refl h
  where
    C : List ℕ → Ticks → ℕ → Type 0
    C g k i = (w : List ℕ) × faults.FailsWithin program t kind depth g k (λ path. σ (i ∷ path)) w

    inner : ℕ → Named
    inner i = σ (i ∷ [])

    here : ((g : List ℕ) (k : Ticks) (gs : List Stream) (i : ℕ) (w : List ℕ) → ((path : Path) → HoldsAt program g k gs (λ path. σ (i ∷ path)) path) → faults.FailsWithin program t kind depth g k (λ path. σ (i ∷ path)) w → Located program t kind g (λ path. σ (i ∷ path)) w)
        → (o : Option NodeTree) → node_called program f ≡ o → faults.There o (λ node. faults.EquationFails program node base (σ []) (λ i. σ (i ∷ [])) t kind (λ g k i. (w : List ℕ) × faults.FailsWithin program t kind depth g k (λ path. σ (i ∷ path)) w) node.equations 0 v)
        → Located program t kind f σ v
    here rest None found h = absurd h
    here rest (Some node) found h =
        at_call (split_equations program node base (σ []) (λ i. σ (i ∷ [])) t kind (λ g k i. (w : List ℕ) × faults.FailsWithin program t kind depth g k (λ path. σ (i ∷ path)) w) node.equations 0 v h)
      where
        ss : List CallInstance
        ss = all_sites program node base (σ []) (λ i. σ (i ∷ [])) node.equations 0

        at_call : faults.EquationFails program node base (σ []) (λ i. σ (i ∷ [])) t kind NoCall node.equations 0 v ⊎ ((j : ℕ) × (site : CallInstance) × (slice_get (all_sites program node base (σ []) (λ i. σ (i ∷ [])) node.equations 0) j ≡ Some site) × ((w : List ℕ) × faults.FailsWithin program t kind depth site.node site.base (λ path. σ ((0 + j) ∷ path)) w) × CallStands node.equations 0 v (0 + j)) → Located program t kind f σ v
        at_call (inl own) =
            ([], node, base, given, v, found, subst (λ o. If o (λ node. InstanceHolds program node base given (σ []) (λ i. σ (i ∷ [])))) found (holds []), own, refl)
        at_call (inr (j, site, e, c, stands)) =
            let z : 0 + j ≡ j = omega arith in
            let all = λ (o : Option NodeTree). sites_of program o base (σ []) (λ i. σ (i ∷ [])) in
            let e' : slice_get (all (node_called program f)) j ≡ Some site = ap (λ o. slice_get (all o) j) found ∙ e in
            let c' = subst (λ n. (w : List ℕ) × faults.FailsWithin program t kind depth site.node site.base (λ path. σ (n ∷ path)) w) z c in
            let below : (path : Path) → HoldsAt program site.node site.base site.arguments (λ path. σ (j ∷ path)) path = λ path.
            subst (λ o. If o (λ site. HoldsAt program site.node site.base site.arguments (λ rest. σ (j ∷ rest)) path)) e' (holds (j ∷ path)) in
            let r = rest site.node site.base site.arguments j c'.0 below c'.1 in
            let named : slice_get (called_in (node_called program f)) j ≡ Some site.node =
            ap (λ l. slice_get l j) (sym (called_law program (node_called program f) base (σ []) (λ i. σ (i ∷ []))))
            ∙ slice_get-map site_node (all (node_called program f)) j ∙ ap (option_map site_node) e' in (
              j ∷ r.0,
              r.1,
              r.2,
              r.3,
              r.4,
              ap (option_and_then (λ g. instance_at program g r.0)) named ∙ r.5,
              r.6,
              r.7,
              subst (λ o. faults.There o (λ node. CallStands node.equations 0 v j)) (sym found) (subst (CallStands node.equations 0 v) z stands),
            )

pub fault_paths : FaultPathsLaw
fault_paths program main inputs σ v t kind solves (depth, h) =
    located program t kind depth main (base_clock inputs) (given_streams inputs) σ v solves h
