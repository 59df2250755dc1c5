-- Equations that begin with the constant of a pattern.
use Rattle.std.proofs.Common.{◌≡◌, ◌∙◌, inl, inr, ◌↔◌, ℕ, zero, suc, Bool, true, List, [], ◌∷◌, ◌++◌, Option, Some, None, IsTrue, refl, sym, ap, subst, arith, Contains}
use Rattle.std.specs.Option.{unwrap_or}
use Rattle.std.specs.Prelude.{slice_get}
use Rattle.std.proofs.lemmas.Option.{same_Some, none-some}
use Rattle.std.proofs.lemmas.List.Elements.{Contains-push, Contains-push_cases, Contains-append_left, Contains-append_right, Contains-append_cases}
use Rattle.lutree.specs.declared.expr.Infix.TheVariants.{Arrow, FollowedBy}
use Rattle.lutree.specs.declared.expr.Pattern.{Pattern}
use Rattle.lutree.specs.declared.expr.Pattern.TheVariants as patterns
use Rattle.lutree.specs.declared.expr.Condition.{Condition}
use Rattle.lutree.specs.Tree.{Tree, EquationTree, NodeTree, equation_view, node_view}
use Rattle.lutree.specs.Tree as tree
use Rattle.lustat_rules.specs.Scope.{Clock, clock_of}
use Rattle.lustat_rules.specs.Clocks.{base}
use Rattle.lustat_rules.specs.Classes.{StartsWith, IsTrueAtFirst}
use Rattle.lustat_init.specs.Beginnings.{Begun, pattern_of, start_of, begun_by, begun_of, all_begun, IsBegun, AreMarked}
use Rattle.lustat_init.specs.Currents.{IsStarted}

-- EXPRESSIONS

starts : (p : Pattern) (e : Tree) → StartsWith p e → start_of e ≡ Some p
starts (patterns.Truth b) _ (StartsWith.arrow e) = refl
starts (patterns.Truth b) _ (StartsWith.followed e) = refl
starts (patterns.Label l) _ (StartsWith.arrow e) = refl
starts (patterns.Label l) _ (StartsWith.followed e) = refl

is_constant : (a : Tree) (p : Pattern) → pattern_of a ≡ Some p → a ≡ tree.constant_of p
is_constant (tree.truth b) p e = ap tree.constant_of (same_Some (patterns.Truth b) p e)
is_constant (tree.label l) p e = ap tree.constant_of (same_Some (patterns.Label l) p e)
is_constant a p e = absurd (none-some p e)

starts_with : (p : Pattern) (e : Tree) → start_of e ≡ Some p → StartsWith p e
starts_with p (tree.binary Arrow a e) h = let P : Tree → Type 0 = λ t. StartsWith p (tree.binary Arrow t e) in subst P (sym (is_constant a p h)) (StartsWith.arrow e)
starts_with p (tree.binary FollowedBy a e) h = let P : Tree → Type 0 = λ t. StartsWith p (tree.binary FollowedBy t e) in subst P (sym (is_constant a p h)) (StartsWith.followed e)
starts_with p e h = absurd (none-some p h)

-- EQUATIONS

nothing : {X : Type 0} (x : X) → Contains [] x → ⊥
nothing x h = omega (arith, h.1)

begun_here : (left : List (List ℕ)) (o : Option Pattern) (b : Begun) → Contains (begun_by left o) b → (left ≡ b.name ∷ []) × (o ≡ Some b.pattern)
begun_here [] o b h = absurd (nothing b h)
begun_here (x ∷ []) None b h = absurd (nothing b h)
begun_here (x ∷ []) (Some p) b h =
    let one : Begun = record { name = x; pattern = p } in
    elim (Contains-push_cases [] one b h) [
      | inl none ↦ absurd (nothing b none)
      | inr same ↦ (ap (λ (c : Begun). c.name ∷ []) same, ap (λ (c : Begun). Some c.pattern) same)
    ]
begun_here (x ∷ (y ∷ left)) o b h = absurd (nothing b h)

here_begun : (left : List (List ℕ)) (o : Option Pattern) (b : Begun) → left ≡ b.name ∷ [] → o ≡ Some b.pattern → Contains (begun_by left o) b
here_begun left o b e f =
    subst (λ l. Contains (begun_by l o) b) (sym e) (subst (λ s. Contains (begun_by (b.name ∷ []) s) b) (sym f) (Contains-push [] b))

begun_there : (qs : List EquationTree) (b : Begun) → Contains (all_begun qs) b → (q : EquationTree) × Contains qs q × (q.left ≡ b.name ∷ []) × StartsWith b.pattern q.right
begun_there [] b h = absurd (nothing b h)
begun_there (q ∷ qs) b h =
    elim (Contains-append_cases (begun_of q) (all_begun qs) b h) [
      | inl here ↦
          let both = begun_here q.left (start_of q.right) b here in
          (q, Contains-append_left (q ∷ []) qs q (Contains-push [] q), both.0, starts_with b.pattern q.right both.1)
      | inr rest ↦ let r = begun_there qs b rest in (r.0, Contains-append_right (q ∷ []) qs r.0 r.1, r.2, r.3)
    ]

there_begun : (qs : List EquationTree) (b : Begun) (q : EquationTree) → Contains qs q → q.left ≡ b.name ∷ [] → StartsWith b.pattern q.right → Contains (all_begun qs) b
there_begun [] b q h e s = absurd (nothing q h)
there_begun (r ∷ qs) b q h e s =
    elim (Contains-append_cases (r ∷ []) qs q h) [
      | inl here ↦
          elim (Contains-push_cases [] r q here) [
            | inl none ↦ absurd (nothing q none)
            | inr same ↦ Contains-append_left (begun_of r) (all_begun qs) b
                (subst (λ (p : EquationTree). Contains (begun_of p) b) (sym same) (here_begun q.left (start_of q.right) b e (starts b.pattern q.right s)))
          ]
      | inr rest ↦ Contains-append_right (begun_of r) (all_begun qs) b (there_begun qs b q rest e s)
    ]

-- a clock is true at first where its variable begins so
pub at_first : (n : NodeTree) (c : Condition) (b : Bool) → (IsTrue b ↔ IsBegun (all_begun n.equations) (Some c)) → IsTrue b ↔ IsTrueAtFirst n c
at_first n c b same = (
  λ h. begun_there n.equations (record { name = c.variable; pattern = c.pattern }) (same.0 h),
  λ t. same.1 (there_begun n.equations (record { name = c.variable; pattern = c.pattern }) t.0 t.1 t.2 t.3),
)

-- MARKS

pub marked_push : (P : Clock → Type 0) (bs : List Bool) (ks : List Clock) (b : Bool) (k : Clock) → AreMarked P bs ks → (IsTrue b ↔ P k) → AreMarked P (bs ++ b ∷ []) (ks ++ k ∷ [])
marked_push P [] [] b k h one = (one, tt)
marked_push P [] (j ∷ ks) b k h one = absurd h
marked_push P (a ∷ bs) [] b k h one = absurd h
marked_push P (a ∷ bs) (j ∷ ks) b k h one = (h.0, marked_push P bs ks b k h.1 one)

-- the mark of the clock at a place
marked_at : (P : Clock → Type 0) (bs : List Bool) (ks : List Clock) (i : ℕ) (k : Clock) → AreMarked P bs ks → slice_get ks i ≡ Some k → (b : Bool) × (slice_get bs i ≡ Some b) × (IsTrue b ↔ P k)
marked_at P [] [] i k h at = absurd (none-some k at)
marked_at P [] (j ∷ ks) i k h at = absurd h
marked_at P (a ∷ bs) [] i k h at = absurd h
marked_at P (a ∷ bs) (j ∷ ks) zero k h at = (a, refl, subst (λ c. IsTrue a ↔ P c) (same_Some j k at) h.0)
marked_at P (a ∷ bs) (j ∷ ks) (suc i) k h at = marked_at P bs ks i k h.1 at

-- there is none behind the last clock
some_none : (k : Clock) → Some k ≡ None → ⊥
some_none k e = cc

marked_none : (P : Clock → Type 0) (bs : List Bool) (ks : List Clock) (i : ℕ) → AreMarked P bs ks → slice_get ks i ≡ None → slice_get bs i ≡ None
marked_none P [] [] i h at = refl
marked_none P [] (j ∷ ks) i h at = absurd h
marked_none P (a ∷ bs) [] i h at = absurd h
marked_none P (a ∷ bs) (j ∷ ks) zero h at = absurd (some_none j at)
marked_none P (a ∷ bs) (j ∷ ks) (suc i) h at = marked_none P bs ks i h.1 at

-- VARIABLES

no_clock : (c : Condition) → None ≡ Some (Some c) → ⊥
no_clock c e = cc

no_base : (c : Condition) → Some base ≡ Some (Some c) → ⊥
no_base c e = cc

same_condition : (c d : Condition) → Some (Some c) ≡ Some (Some d) → c ≡ d
same_condition c d e = cc

-- what is no variable has no clock
pub stray_started : (n : NodeTree) (x : List ℕ) → clock_of n x ≡ None → IsStarted n x
stray_started n x at = record { clock = λ c has. absurd (no_clock c (sym at ∙ has)) }

-- what the mark of its declared clock says of a variable
pub is_started : (n : NodeTree) (x : List ℕ) (marks : List Bool) (clocks : List Clock) (i : ℕ) (b : Bool) → AreMarked (IsBegun (all_begun n.equations)) marks clocks
    → clock_of n x ≡ slice_get clocks i → b ≡ unwrap_or (slice_get marks i) true → IsTrue b ↔ IsStarted n x
is_started n x marks clocks i b marked at e = by_clock (clock_of n x) refl
  where
    by_clock : (o : Option Clock) → clock_of n x ≡ o → IsTrue b ↔ IsStarted n x
    by_clock None none = (
      λ h. stray_started n x none,
      λ h. e ∙ ap (λ o. unwrap_or o true) (marked_none (IsBegun (all_begun n.equations)) marks clocks i marked (sym at ∙ none)),
    )
    by_clock (Some None) is =
        let m = marked_at (IsBegun (all_begun n.equations)) marks clocks i None marked (sym at ∙ is) in
        (λ h. record { clock = λ c has. absurd (no_base c (sym is ∙ has)) }, λ h. e ∙ ap (λ o. unwrap_or o true) m.1 ∙ m.2.1 tt)
    by_clock (Some (Some c)) is =
        let m = marked_at (IsBegun (all_begun n.equations)) marks clocks i (Some c) marked (sym at ∙ is) in
        let reported : b ≡ m.0 = e ∙ ap (λ o. unwrap_or o true) m.1 in
        let here = at_first n c m.0 m.2 in (
          λ h. record { clock = λ d has. subst (IsTrueAtFirst n) (same_condition c d (sym is ∙ has)) (here.0 (sym reported ∙ h)) },
          λ h. reported ∙ here.1 (h.clock c is),
        )
