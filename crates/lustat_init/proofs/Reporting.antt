-- The least classes say whether a node has classes.
use Rattle.std.proofs.Common.{◌≡◌, inl, inr, ◌∙◌, ℕ, Bool, true, false, List, [], ◌∷◌, ◌++◌, Some, None, IsTrue, refl, sym, ap, subst, true≢false, All, Contains}
use Rattle.std.specs.Bool.{IsFalse}
use Rattle.std.specs.Option.{IfSome}
use Rattle.std.proofs.lemmas.List.Elements.{All-weaker, All-contains, All-contains_itself, Contains-append_left, Contains-append_right, Contains-append_cases, Contains-push, Contains-push_cases}
use Rattle.lutree.specs.Tree.{DeclarationTree, EquationTree, NodeTree}
use Rattle.lustat_rules.specs.Scope.{Clock, declarations_of, names_of, IsInput, IsOutput}
use Rattle.lustat_rules.specs.Clocks.{clocks_in}
use Rattle.lustat_rules.specs.Classes.{Classes, NeedsMet, IsRaised, IsHeld, SamplersAreZero, Meets, HasClasses, IsLeast}
use Rattle.lustat_rules.proofs.Raising.{least_meets}
use Rattle.lustat_init.specs.Assigned.{IsCaused}
use Rattle.lustat_init.specs.Judged.{clock_names_of, clock_names, sampler_names, clock_variables, IsFree, KeepsClasses, LeastReports}
use Rattle.lustat_init.proofs.Spreading.{nothing}

is_false : (b : Bool) → (IsTrue b → ⊥) → IsFalse b
is_false true h = absurd (h refl)
is_false false h = refl

-- the name of a declared clock
named_clock : (ds : List DeclarationTree) (d : DeclarationTree) (x : List ℕ) → Contains ds d → Contains (clock_names_of d.clock) x → Contains (clock_names ds) x
named_clock [] d x h is = absurd (nothing d h)
named_clock (e ∷ ds) d x h is =
    elim (Contains-append_cases (e ∷ []) ds d h) [
      | inl here ↦
          elim (Contains-push_cases [] e d here) [
            | inl none ↦ absurd (nothing d none)
            | inr same ↦ Contains-append_left (clock_names_of e.clock) (clock_names ds) x (subst (λ (f : DeclarationTree). Contains (clock_names_of f.clock) x) (sym same) is)
          ]
      | inr rest ↦ Contains-append_right (clock_names_of e.clock) (clock_names ds) x (named_clock ds d x rest is)
    ]

clock_named : (ds : List DeclarationTree) (x : List ℕ) → Contains (clock_names ds) x → (d : DeclarationTree) × Contains ds d × Contains (clock_names_of d.clock) x
clock_named [] x h = absurd (nothing x h)
clock_named (e ∷ ds) x h =
    elim (Contains-append_cases (clock_names_of e.clock) (clock_names ds) x h) [
      | inl here ↦ (e, Contains-append_left (e ∷ []) ds e (Contains-push [] e), here)
      | inr rest ↦ let r = clock_named ds x rest in (r.0, Contains-append_right (e ∷ []) ds r.0 r.1, r.2)
    ]

-- what an equation names as a clock
named_sampler : (qs : List EquationTree) (q : EquationTree) (x : List ℕ) → Contains qs q → Contains (clocks_in q.right) x → Contains (sampler_names qs) x
named_sampler [] q x h is = absurd (nothing q h)
named_sampler (p ∷ qs) q x h is =
    elim (Contains-append_cases (p ∷ []) qs q h) [
      | inl here ↦
          elim (Contains-push_cases [] p q here) [
            | inl none ↦ absurd (nothing q none)
            | inr same ↦ Contains-append_left (clocks_in p.right) (sampler_names qs) x (subst (λ (r : EquationTree). Contains (clocks_in r.right) x) (sym same) is)
          ]
      | inr rest ↦ Contains-append_right (clocks_in p.right) (sampler_names qs) x (named_sampler qs q x rest is)
    ]

sampler_named : (qs : List EquationTree) (x : List ℕ) → Contains (sampler_names qs) x → (q : EquationTree) × Contains qs q × Contains (clocks_in q.right) x
sampler_named [] x h = absurd (nothing x h)
sampler_named (p ∷ qs) x h =
    elim (Contains-append_cases (clocks_in p.right) (sampler_names qs) x h) [
      | inl here ↦ (p, Contains-append_left (p ∷ []) qs p (Contains-push [] p), here)
      | inr rest ↦ let r = sampler_named qs x rest in (r.0, Contains-append_right (p ∷ []) qs r.0 r.1, r.2)
    ]

declared_name : (ds : List DeclarationTree) (x : List ℕ) → Contains (names_of ds) x → (d : DeclarationTree) × Contains ds d × (d.name ≡ x)
declared_name [] x h = absurd (nothing x h)
declared_name (e ∷ ds) x h =
    elim (Contains-append_cases (e.name ∷ []) (names_of ds) x h) [
      | inl here ↦
          elim (Contains-push_cases [] e.name x here) [ inl none ↦ absurd (nothing x none) | inr same ↦ (e, Contains-append_left (e ∷ []) ds e (Contains-push [] e), same) ]
      | inr rest ↦ let r = declared_name ds x rest in (r.0, Contains-append_right (e ∷ []) ds r.0 r.1, r.2)
    ]

module _ (n : NodeTree) (a : Classes) where
  -- with the rules met, what is of class 1 is free
  clock_held : (k : Clock) (x : List ℕ) → Contains (clock_names_of k) x → IfSome k (λ c. IsFalse (a c.variable)) → IsTrue (a x) → ⊥
  clock_held None x h zero one = nothing x h
  clock_held (Some c) x h zero one =
      elim (Contains-push_cases [] c.variable x h) [ inl none ↦ nothing x none | inr same ↦ true≢false (sym one ∙ ap a (sym same) ∙ zero) ]

  met_free : Meets a n → (x : List ℕ) → IsTrue (a x) → IsFree n x
  met_free m x one =
      record {
        input = λ is.
            let d = declared_name n.inputs x is in
            let held = All-contains (IsHeld a n) (declarations_of n) d.0 m.held (Contains-append_left n.inputs (n.outputs ++ n.locals) d.0 d.1) in
            true≢false (sym one ∙ ap a (sym d.2) ∙ held.input (subst (IsInput n) (sym d.2) is));
        output = λ is.
            let d = declared_name n.outputs x is in
            let held = All-contains (IsHeld a n) (declarations_of n) d.0 m.held
            (Contains-append_right n.inputs (n.outputs ++ n.locals) d.0 (Contains-append_left n.outputs n.locals d.0 d.1)) in
            true≢false (sym one ∙ ap a (sym d.2) ∙ held.output (subst (IsOutput n) (sym d.2) is));
        clock = λ is.
            elim (Contains-append_cases (clock_names (declarations_of n)) (sampler_names n.equations) x is) [
              | inl declared ↦
                  let d = clock_named (declarations_of n) x declared in
                  let held = All-contains (IsHeld a n) (declarations_of n) d.0 m.held d.1 in
                  clock_held d.0.clock x d.2 held.clock one
              | inr sampled ↦
                  let q = sampler_named n.equations x sampled in
                  true≢false (sym one ∙ All-contains (λ y. IsFalse (a y)) (clocks_in q.0.right) x (All-contains (SamplersAreZero a) n.equations q.0 m.sampled q.1) q.2)
            ];
      }

  keeps_met : Meets a n → (q : EquationTree) → Contains n.equations q → KeepsClasses a n q
  keeps_met m q among =
      record {
        needs = All-contains (λ (p : EquationTree). NeedsMet a p.right) n.equations q m.needs among;
        held = λ one.
            All-weaker (λ x. IsTrue (a x)) (IsFree n) (met_free m) q.left (All-contains (IsRaised a) n.equations q m.raised among one);
      }

module _ (n : NodeTree) (a : Classes) (least : IsLeast a n) (caused : IsCaused a n) where
  -- with all equations kept, what is of class 1 is free
  free : All (KeepsClasses a n) n.equations → (x : List ℕ) → IsTrue (a x) → IsFree n x
  free keeps x h =
      let q = caused x h in
      All-contains (IsFree n) q.0.left x ((All-contains (KeepsClasses a n) n.equations q.0 keeps q.1).held q.3) q.2

  held_clock : All (KeepsClasses a n) n.equations → (k : Clock) → ((x : List ℕ) → Contains (clock_names_of k) x → Contains (clock_variables n) x) → IfSome k (λ c. IsFalse (a c.variable))
  held_clock keeps None in_names = tt
  held_clock keeps (Some c) in_names = is_false (a c.variable) (λ h. (free keeps c.variable h).clock (in_names c.variable (Contains-push [] c.variable)))

  meets : All (KeepsClasses a n) n.equations → Meets a n
  meets keeps =
      record {
        raised = least.raised;
        needs = All-weaker (KeepsClasses a n) (λ (q : EquationTree). NeedsMet a q.right) (λ q k. k.needs) n.equations keeps;
        held = All-weaker (Contains (declarations_of n)) (IsHeld a n)
            (λ d among. record {
              input = λ is. is_false (a d.name) (λ h. (free keeps d.name h).input is);
              output = λ is. is_false (a d.name) (λ h. (free keeps d.name h).output is);
              clock = held_clock keeps d.clock (λ x is. Contains-append_left (clock_names (declarations_of n)) (sampler_names n.equations) x (named_clock (declarations_of n) d x among is));
            })
            (declarations_of n) (All-contains_itself (declarations_of n));
        sampled = All-weaker (Contains n.equations) (SamplersAreZero a)
            (λ q among.
            All-weaker (Contains (clocks_in q.right)) (λ x. IsFalse (a x))
            (λ x is.
            is_false (a x) (λ h. (free keeps x h).clock (Contains-append_right (clock_names (declarations_of n)) (sampler_names n.equations) x (named_sampler n.equations q x among is))))
            (clocks_in q.right) (All-contains_itself (clocks_in q.right)))
            n.equations (All-contains_itself n.equations);
      }

  pub reports : LeastReports n a
  reports =
      record {
        kept = meets;
        broken = λ q among breaks has. breaks (keeps_met n a (least_meets n a least has) q among);
      }

-- in a node with classes each equation keeps the rules, with the least ones
pub keeps_all_met : (n : NodeTree) (a : Classes) → IsLeast a n → HasClasses n → (q : EquationTree) → Contains n.equations q → KeepsClasses a n q
keeps_all_met n a least has q among = keeps_met n a (least_meets n a least has) q among
