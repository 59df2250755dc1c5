-- What acceptance gives of a node.
use Rattle.std.proofs.Common.{◌≡◌, ℕ, zero, suc, ◌+◌, ◌<◌, ◌⊎◌, inl, inr, ⊎_elim, Bool, true, false, List, [], ◌∷◌, ◌++◌, length, map, get_or, Some, None, refl, sym, ap, ◌∙◌, subst, arith}
use Rattle.std.specs.Prelude.{slice_get, option_map, flat_map, Contains, All, IfSome}
use Rattle.std.specs.Str.{bytes_eq}
use Rattle.std.proofs.lemmas.List.Elements.{Contains-append_left, Contains-append_right, Contains-append_cases}
use Rattle.std.proofs.lemmas.Option.{slice_get_within, slice_get-get_or, slice_get-map, same_Some}
use Rattle.std.proofs.lemmas.Slice.Eq.{bytes_eq-Decides}
use Rattle.lutree.specs.declared.expr.Condition.{Condition}
use Rattle.lutree.specs.Tree.{DeclarationTree, EquationTree, NodeTree, ProgramTree}
use Rattle.lusource.specs.Names.{variables_of, AreDistinct}
use Rattle.lustat_rules.specs.Scope.{names_of, declarations_of, node_called}
use Rattle.lustat_rules.specs.Scope as rules
use Rattle.lustat_rules.specs.Naming.{PatternKnown, Call, names_in, calls_in, called_by, DefinesAnew, Reaches}
use Rattle.lustat_rules.specs.Clocks.{HasClock, ClocksAgree, HasUnclockedOutputs}
use Rattle.lustat_rules.specs.Accepted.{Rule, IsAccepted}
use Rattle.lucore_laws.specs.ListLaws.{DefineSomething}
use Rattle.lucore_laws.proofs.Names.{get-front, get-behind, contains_at, contains_get, all_at, all_imp, distinct, get-names, mapped_some, first_at, known_in, node_name, placed}
use Rattle.lucore_laws.proofs.Well.{Known, IsWell, Ruled, right_well}
use Rattle.lucore_laws.proofs.ByCalls.{none_reaches}

-- the nodes that a node calls
abbrev pub Below : NodeTree → List ℕ → Type 0
Below n g = Contains (called_by n) g

pub record NodeFacts (p : ProgramTree) (n : NodeTree) : Type 0 where
  pub apart : AreDistinct (variables_of n)
  pub rights : (j : ℕ) (q : EquationTree) → slice_get n.equations j ≡ Some q → IsWell p n (Below n) q.right (length q.left)
  pub lefts : (j : ℕ) (q : EquationTree) → slice_get n.equations j ≡ Some q → All (Known p n (Below n)) q.left
  pub anew : (j : ℕ) (q : EquationTree) → slice_get n.equations j ≡ Some q → DefinesAnew n j q
  pub defined : (i : ℕ) (x : List ℕ) → slice_get (variables_of n) i ≡ Some x → rules.IsInput n x ⊎ Contains (rules.lefts_of n.equations) x
  pub some : (j : ℕ) (q : EquationTree) → slice_get n.equations j ≡ Some q → 0 < length q.left
  pub agree : (j : ℕ) (q : EquationTree) → slice_get n.equations j ≡ Some q → ClocksAgree n q
  pub clocks : (x : List ℕ) (c : Condition) → HasClock n x (Some c) → Known p n (Below n) c.variable
  pub inputs : (j : ℕ) (d : DeclarationTree) → slice_get n.inputs j ≡ Some d → d.clock ≡ None
  pub outputs : (f : List ℕ) (callee : NodeTree) → Below n f → node_called p f ≡ Some callee → (j : ℕ) (d : DeclarationTree) → slice_get callee.outputs j ≡ Some d → d.clock ≡ None

called_here : (qs : List EquationTree) (j : ℕ) (q : EquationTree) (g : List ℕ) → slice_get qs j ≡ Some q → Contains (map (λ (c : Call). c.node) (calls_in q.right)) g → Contains (flat_map (λ (q : EquationTree). map (λ (c : Call). c.node) (calls_in q.right)) qs) g
called_here [] j q g e c = cc
called_here (r ∷ qs) zero q g e c =
    let same : r ≡ q = same_Some r q e in
    Contains-append_left (map (λ (c : Call). c.node) (calls_in r.right)) (flat_map (λ (q : EquationTree). map (λ (c : Call). c.node) (calls_in q.right)) qs) g (subst (λ (q : EquationTree). Contains (map (λ (c : Call). c.node) (calls_in q.right)) g) (sym same) c)
called_here (r ∷ qs) (suc j) q g e c =
    Contains-append_right (map (λ (c : Call). c.node) (calls_in r.right)) (flat_map (λ (q : EquationTree). map (λ (c : Call). c.node) (calls_in q.right)) qs) g (called_here qs j q g e c)

called_where : (qs : List EquationTree) (g : List ℕ) → Contains (flat_map (λ (q : EquationTree). map (λ (c : Call). c.node) (calls_in q.right)) qs) g → (j : ℕ) × (q : EquationTree) × (slice_get qs j ≡ Some q) × Contains (map (λ (c : Call). c.node) (calls_in q.right)) g
called_where [] g c = absurd (omega (arith, c.1))
called_where (r ∷ qs) g c =
    ⊎_elim (λ (h : Contains (map (λ (c : Call). c.node) (calls_in r.right)) g). (0, r, refl, h))
    (λ (h : Contains (flat_map (λ (q : EquationTree). map (λ (c : Call). c.node) (calls_in q.right)) qs) g). let t = called_where qs g h in (suc t.0, t.1, t.2, t.3))
    (Contains-append_cases (map (λ (c : Call). c.node) (calls_in r.right)) (flat_map (λ (q : EquationTree). map (λ (c : Call). c.node) (calls_in q.right)) qs) g c)

same_or_not : (f g : List ℕ) → (f ≡ g) ⊎ (¬ (f ≡ g))
same_or_not f g = go (bytes_eq f g) refl
  where
    go : (b : Bool) → bytes_eq f g ≡ b → (f ≡ g) ⊎ (¬ (f ≡ g))
    go true e = inl ((bytes_eq-Decides f g).0 e)
    go false e = inr (λ same. let yes = (bytes_eq-Decides f g).1 same in let no : true ≡ false = sym yes ∙ e in cc)

module _ (p : ProgramTree) (main : List ℕ) (accepted : IsAccepted p main) (some : DefineSomething p) where
  pub never_round : (f : List ℕ) → ¬ Reaches p f f
  never_round = none_reaches p (λ i n e. (accepted Rule.recursive_node).nodes i n e)

  module _ (i : ℕ) (n : NodeTree) (here : slice_get p.nodes i ≡ Some n) where
    declared_at : (j : ℕ) (x : List ℕ) → slice_get (variables_of n) j ≡ Some x → (d : DeclarationTree) × (slice_get (declarations_of n) j ≡ Some d) × (d.name ≡ x)
    declared_at j x e = mapped_some (λ (d : DeclarationTree). d.name) (slice_get (declarations_of n) j) x (sym (get-names (declarations_of n) j) ∙ e)

    apart : AreDistinct (variables_of n)
    apart =
        distinct (variables_of n) (λ j x e.
        let d = declared_at j x e in
        subst (rules.IsNew (variables_of n) j) d.2 ((accepted Rule.duplicate_name).declarations i j n d.0 here d.1).first)

    known : (xs : List (List ℕ)) → All (rules.IsVariable n) xs → All (Known p n (Below n)) xs
    known xs h = all_imp (rules.IsVariable n) (Known p n (Below n)) xs (λ x v. known_in n x v) h

    ruled : (j : ℕ) (q : EquationTree) → slice_get n.equations j ≡ Some q → All (Ruled p n (Below n)) (calls_in q.right)
    ruled j q e k d lt =
        let c = get_or (calls_in q.right) k d in
        record {
          known = (accepted Rule.unknown_node).equations i j n q here e k d lt;
          arity = ((accepted Rule.wrong_arity).equations i j n q here e).arguments k d lt;
          below = called_here n.equations j q c.node e (contains_get (map (λ (c : Call). c.node) (calls_in q.right)) c.node k (slice_get-map (λ (c : Call). c.node) (calls_in q.right) k ∙ ap (option_map (λ (c : Call). c.node)) (slice_get-get_or (calls_in q.right) k d lt)));
        }

    rights : (j : ℕ) (q : EquationTree) → slice_get n.equations j ≡ Some q → IsWell p n (Below n) q.right (length q.left)
    rights j q e =
        let a = (accepted Rule.wrong_arity).equations i j n q here e in
        right_well p n (Below n) q.right (length q.left) (known (names_in q.right) ((accepted Rule.unknown_name).equations i j n q here e).right) (ruled j q e) a.inner a.values

    input_there : (j : ℕ) (d : DeclarationTree) → slice_get n.inputs j ≡ Some d → slice_get (declarations_of n) j ≡ Some d
    input_there j d e = get-front n.inputs (n.outputs ++ n.locals) j (slice_get_within n.inputs j d e) ∙ e

    output_there : (j : ℕ) (d : DeclarationTree) → slice_get n.outputs j ≡ Some d → slice_get (declarations_of n) (length n.inputs + j) ≡ Some d
    output_there j d e =
        get-behind n.inputs (n.outputs ++ n.locals) (length n.inputs) j refl ∙ get-front n.outputs n.locals j (slice_get_within n.outputs j d e) ∙ e

    pub unclocked_outputs : (¬ (n.name ≡ main)) → (j : ℕ) (d : DeclarationTree) → slice_get n.outputs j ≡ Some d → d.clock ≡ None
    unclocked_outputs other j d e =
        ((accepted Rule.clocked_parameter).declarations i (length n.inputs + j) n d here (output_there j d e)).1
        (contains_get (names_of n.outputs) d.name j (get-names n.outputs j ∙ ap (option_map (λ (d : DeclarationTree). d.name)) e))
        other

  outputs : (i : ℕ) (n : NodeTree) → slice_get p.nodes i ≡ Some n → (f : List ℕ) (callee : NodeTree) → Below n f → node_called p f ≡ Some callee → (j : ℕ) (d : DeclarationTree) → slice_get callee.outputs j ≡ Some d → d.clock ≡ None
  outputs i n here f callee below found j d e =
      ⊎_elim
      (λ (same : f ≡ main).
      let w = called_where n.equations f below in
      let at = contains_at (map (λ (c : Call). c.node) (calls_in w.1.right)) f w.3 in
      let c = mapped_some (λ (c : Call). c.node) (slice_get (calls_in w.1.right) at.0) f (sym (slice_get-map (λ (c : Call). c.node) (calls_in w.1.right) at.0) ∙ at.1) in
      let h = all_at (λ (c : Call). c.node ≡ main → IfSome (rules.node_called p c.node) HasUnclockedOutputs) (calls_in w.1.right) at.0 c.0 ((accepted Rule.clocked_parameter).equations i w.0 n w.1 here w.2) c.1 in
      let h' = subst (λ o. IfSome o HasUnclockedOutputs) (ap (rules.node_called p) c.2 ∙ found) (h (c.2 ∙ same)) in
      all_at (λ (d : DeclarationTree). d.clock ≡ None) callee.outputs j d h' e)
      (λ (other : ¬ (f ≡ main)).
      let at = placed p f callee found in
      unclocked_outputs at.place callee at.node (λ same. other (sym (node_name p f callee found) ∙ same)) j d e)
      (same_or_not f main)

  pub node_facts : (i : ℕ) (n : NodeTree) → slice_get p.nodes i ≡ Some n → NodeFacts p n
  node_facts i n here =
      record {
        apart = apart i n here;
        rights = rights i n here;
        lefts = λ j q e. known i n here q.left ((accepted Rule.unknown_name).equations i j n q here e).left;
        anew = λ j q e. (accepted Rule.defined_twice).equations i j n q here e;
        defined = λ j x e.
            let d = declared_at i n here j x e in
            subst (λ x. rules.IsInput n x ⊎ Contains (rules.lefts_of n.equations) x) d.2 ((accepted Rule.undefined).declarations i j n d.0 here d.1);
        some = λ j q e. some i j n q here e;
        agree = λ j q e. (accepted Rule.clock_mismatch).equations i j n q here e;
        clocks = λ x c h.
            let d = mapped_some (λ (d : DeclarationTree). d.clock) (rules.meaning n x) (Some c) h in
            let k = ((accepted Rule.unknown_name).declarations i _ n d.0 here (first_at (declarations_of n) x d.0 d.1)).clock in
            known_in n c.variable (subst (λ o. IfSome o (λ (c : Condition). rules.IsVariable n c.variable × PatternKnown p c.pattern)) d.2 k).0;
        inputs = λ j d e.
            ((accepted Rule.clocked_parameter).declarations i j n d here (input_there i n here j d e)).0 (contains_get (names_of n.inputs) d.name j (get-names n.inputs j ∙ ap (option_map (λ (d : DeclarationTree). d.name)) e));
        outputs = outputs i n here;
      }

  pub facts : (f : List ℕ) (n : NodeTree) → node_called p f ≡ Some n → NodeFacts p n
  facts f n e = let at = placed p f n e in node_facts at.place n at.node
