-- Facts of worked chains.
use Rattle.std.proofs.Common.{◌≡◌, ◌⊎◌, inl, inr, ◌<◌, ℕ, zero, suc, Bool, true, List, [], ◌∷◌, Option, Some, None, sym, ap, subst, take, refl, arith}
use Rattle.std.specs.Prelude.{unwrap_or, codes, Contains, All, slice_get}
use Rattle.std.proofs.lemmas.Option.{same_Some, none-some, slice_get_within, get_or_from_slice_get}
use Rattle.lutree.specs.declared.expr.Infix.TheVariants.{Arrow, FollowedBy}
use Rattle.lutree.specs.declared.expr.Pattern.TheVariants as patterns
use Rattle.lutree.specs.Tree.{Tree, NodeTree, ProgramTree}
use Rattle.lutree.specs.Tree as tree
use Rattle.lustat_rules.specs.Scope.{Clock, clock_of, node_called}
use Rattle.lustat_rules.specs.Naming.{Calls, Reaches, called_by, node_place}
use Rattle.lustat_rules.specs.Clocks.{on, Ends}
use Rattle.lustat_rules.specs.Classes.{StartsWith}
use Rattle.lustat_rules.specs.Vectors.{delay, x}
use Rattle.lustat_rules.specs.Chains.{chained, calling, straight}
use Rattle.lustat_rules.proofs.Worked.{none_is_some, nothing_in}
use Rattle.lustat_rules.proofs.Calling.{place_of}

-- CLOCKS

-- the clock of l is on w, and that of w on l
pub turns : {k : Clock} → Ends chained k → (k ≡ on (codes "l") (patterns.Truth true)) ⊎ (k ≡ on (codes "w") (patterns.Truth true)) → ⊥
turns Ends.at_base e = elim e [ inl f ↦ none_is_some f | inr f ↦ none_is_some f ]
turns (Ends.after c k h r) e =
    elim e [
      | inl f ↦
          let l : c.variable ≡ codes "l" = ap (λ (o : Clock). (unwrap_or o c).variable) f in
          let there : clock_of chained (codes "l") ≡ Some k = subst (λ v. clock_of chained v ≡ Some k) l h in
          turns r (inr (sym (ap (λ (o : Option Clock). unwrap_or o None) there)))
      | inr f ↦
          let w : c.variable ≡ codes "w" = ap (λ (o : Clock). (unwrap_or o c).variable) f in
          let there : clock_of chained (codes "w") ≡ Some k = subst (λ v. clock_of chained v ≡ Some k) w h in
          turns r (inl (sym (ap (λ (o : Option Clock). unwrap_or o None) there)))
    ]

-- the constant that an expression starts with
abbrev pub start_of : Tree → Bool → Bool
start_of (tree.binary Arrow (tree.truth b) e) d = b
start_of (tree.binary FollowedBy (tree.truth b) e) d = b
start_of e d = d

pub starts_so : {sign : Bool} {e : Tree} → StartsWith (patterns.Truth sign) e → start_of e sign ≡ sign
starts_so (StartsWith.arrow e) = refl
starts_so (StartsWith.followed e) = refl

-- CALLS

-- what is true of each node is true of the node that is called
pub of_called : (P : NodeTree → Type 0) (p : ProgramTree) (f : List ℕ) (n : NodeTree) → All P p.nodes → node_called p f ≡ Some n → P n
of_called P p f n all e =
    let here = place_of p f n e in
    subst P (get_or_from_slice_get p.nodes here.place n n here.node) (all here.place n (slice_get_within p.nodes here.place n here.node))

-- what is reached is called by some node
pub last_caller : (p : ProgramTree) (f g : List ℕ) → Reaches p f g → (h : List ℕ) × Calls p h g
last_caller p f g (Reaches.one _ _ call) = (f, call)
last_caller p f g (Reaches.more _ h _ way call) = (h, call)

single_is : (a f : List ℕ) → Contains (a ∷ []) f → a ≡ f
single_is a f (zero, lt, e) = e
single_is a f (suc k, lt, e) = absurd (omega (arith, lt))

pub behind : (k i j : ℕ) (n : NodeTree) (f : List ℕ) → slice_get (2 ∷ 1 ∷ 0 ∷ []) k ≡ Some i → slice_get straight.nodes i ≡ Some n → Contains (called_by n) f →
    node_place straight f ≡ Some j → Contains (take k (2 ∷ 1 ∷ 0 ∷ [])) j
behind zero i j n f e at has there =
    let same : 2 ≡ i = same_Some 2 i e in
    let node : delay x ≡ n = same_Some (delay x) n (subst (λ a. slice_get straight.nodes a ≡ Some n) (sym same) at) in
    absurd (nothing_in f (subst (λ m. Contains (called_by m) f) (sym node) has))
behind (suc zero) i j n f e at has there =
    let same : 1 ≡ i = same_Some 1 i e in
    let node : calling (codes "g") (codes "delay") ≡ n = same_Some (calling (codes "g") (codes "delay")) n (subst (λ a. slice_get straight.nodes a ≡ Some n) (sym same) at) in
    let name : codes "delay" ≡ f = single_is (codes "delay") f (subst (λ m. Contains (called_by m) f) (sym node) has) in
    let place : 2 ≡ j = same_Some 2 j (subst (λ a. node_place straight a ≡ Some j) (sym name) there) in
    subst (Contains (2 ∷ [])) place (0, omega arith, refl)
behind (suc (suc zero)) i j n f e at has there =
    let same : 0 ≡ i = same_Some 0 i e in
    let node : calling (codes "f") (codes "g") ≡ n = same_Some (calling (codes "f") (codes "g")) n (subst (λ a. slice_get straight.nodes a ≡ Some n) (sym same) at) in
    let name : codes "g" ≡ f = single_is (codes "g") f (subst (λ m. Contains (called_by m) f) (sym node) has) in
    let place : 1 ≡ j = same_Some 1 j (subst (λ a. node_place straight a ≡ Some j) (sym name) there) in
    subst (Contains (2 ∷ 1 ∷ [])) place (1, omega arith, refl)
behind (suc (suc (suc k))) i j n f e at has there = absurd (none-some i e)

pub placed : (i : ℕ) → i < 3 → Contains (2 ∷ 1 ∷ 0 ∷ []) i
placed zero lt = (2, omega arith, refl)
placed (suc zero) lt = (1, omega arith, refl)
placed (suc (suc zero)) lt = (0, omega arith, refl)
placed (suc (suc (suc i))) lt = absurd (omega (arith, lt))
