-- What acceptance gives of a node's types, clocks and classes.
use Rattle.std.proofs.Common.{◌≡◌, ℕ, false, List, Option, Some, subst}
use Rattle.std.specs.Prelude.{slice_get, All, IfSome}
use Rattle.std.proofs.lemmas.Option.{same_Some}
use Rattle.lutree.specs.declared.expr.Condition.{Condition}
use Rattle.lutree.specs.Tree.{DeclarationTree, EquationTree, NodeTree, ProgramTree}
use Rattle.lusource.specs.Names.{variables_of, place_of}
use Rattle.lustat_rules.specs.Scope.{declarations_of, node_called}
use Rattle.lustat_rules.specs.Scope as rules
use Rattle.lustat_rules.specs.Parts.{EachPart}
use Rattle.lustat_rules.specs.Naming.{PatternKnown, PartKnown, TypeKnown}
use Rattle.lustat_rules.specs.Typing.{IsWellTyped, IsWholeMerge, MergesWhole}
use Rattle.lustat_rules.specs.Clocks.{HasClock, IsTypedClock, NamesClocks, Ends, clocks_in}
use Rattle.lustat_rules.specs.Classes.{Classes, Meets, IsHeld, SamplersAreZero, ClockIsTrueAtFirst, currents_in}
use Rattle.lustat_rules.specs.Accepted.{Rule, IsAccepted}
use Rattle.lucore_laws.proofs.Names.{all_at, mapped_some, first_at, placed}
use Rattle.lucore_laws.proofs.Fitting.{condition_pattern, IsSampled}
use Rattle.lucore_laws.proofs.Parts.{IsGoodPart, good_parts}

pub record Ruling (p : ProgramTree) (n : NodeTree) : Type 0 where
  pub class : Classes
  pub meets : Meets class n
  pub typed : (j : ℕ) (q : EquationTree) → slice_get n.equations j ≡ Some q → IsWellTyped p n q
  pub zeros : (j : ℕ) (q : EquationTree) → slice_get n.equations j ≡ Some q → All (λ x. class x ≡ false) (clocks_in q.right)
  pub parts : (j : ℕ) (q : EquationTree) → slice_get n.equations j ≡ Some q → EachPart (IsGoodPart n) q.right
  pub known : (j : ℕ) (q : EquationTree) → slice_get n.equations j ≡ Some q → EachPart (PartKnown p) q.right
  pub starts : (j : ℕ) (q : EquationTree) → slice_get n.equations j ≡ Some q → All (ClockIsTrueAtFirst n) (currents_in q.right)
  pub sampled : (x : List ℕ) (c : Condition) → HasClock n x (Some c) → IsSampled n c
  pub types : (j : ℕ) (d : DeclarationTree) → slice_get (declarations_of n) j ≡ Some d → TypeKnown p d
  pub above : (x : List ℕ) (c : Condition) → HasClock n x (Some c) → (j : Option Condition) × HasClock n c.variable j
  pub zero : (x : List ℕ) (c : Condition) → HasClock n x (Some c) → class c.variable ≡ false

-- the clock variable of a chain has a clock
ends_clock : (n : NodeTree) (k : Option Condition) → Ends n k → (c : Condition) → k ≡ Some c → (j : Option Condition) × HasClock n c.variable j
ends_clock n _ Ends.at_base c e = cc
ends_clock n _ (Ends.after d k has rest) c e = (k, subst (λ (c : Condition). HasClock n c.variable k) (same_Some d c e) has)

some_at : {A : Type 0} (o : Option A) (P : A → Type 0) (x : A) → o ≡ Some x → IfSome o P → P x
some_at o P x e h = subst (λ o. IfSome o P) e h

-- the declaration of a variable with a clock
declared : (n : NodeTree) (x : List ℕ) (c : Condition) → HasClock n x (Some c) → (d : DeclarationTree) × (slice_get (declarations_of n) (place_of (variables_of n) x) ≡ Some d) × (d.clock ≡ Some c)
declared n x c h =
    let d = mapped_some (λ (d : DeclarationTree). d.clock) (rules.meaning n x) (Some c) h in
    (d.0, first_at (declarations_of n) x d.0 d.1, d.2)

pub node_ruling : (p : ProgramTree) (main : List ℕ) → IsAccepted p main → (i : ℕ) (n : NodeTree) → slice_get p.nodes i ≡ Some n → Ruling p n
node_ruling p main accepted i n here =
    let classes = (accepted Rule.maybe_nil).nodes i n here in
    let known = λ (j : ℕ) (q : EquationTree) (e : slice_get n.equations j ≡ Some q). ((accepted Rule.unknown_name).equations i j n q here e).parts in
    let is_clock = λ (x : List ℕ) (c : Condition) (h : HasClock n x (Some c)). (accepted Rule.not_a_clock).declarations i (place_of (variables_of n) x) n (declared n x c h).0 here (declared n x c h).1 in
    record {
      class = classes.0;
      meets = classes.1;
      typed = λ j q e.
          (accepted Rule.type_mismatch).equations i j n q here e ((accepted Rule.unknown_name).equations i j n q here e) ((accepted Rule.unknown_node).equations i j n q here e) ((accepted Rule.wrong_arity).equations i j n q here e) ((accepted Rule.bad_merge).equations i j n q here e);
      zeros = λ j q e. all_at (SamplersAreZero classes.0) n.equations j q classes.1.sampled e;
      parts = λ j q e. good_parts p n q.right (known j q e) ((accepted Rule.bad_merge).equations i j n q here e) ((accepted Rule.not_a_clock).equations i j n q here e);
      known = known;
      starts = λ j q e. (accepted Rule.current_may_be_nil).equations i j n q here e;
      sampled = λ x c h.
          let d = declared n x c h in
          let at = place_of (variables_of n) x in (
            some_at d.0.clock (IsTypedClock n) c d.2 (is_clock x c h).typed,
            condition_pattern p c.pattern (some_at d.0.clock (λ (c : Condition). rules.IsVariable n c.variable × PatternKnown p c.pattern) c d.2 ((accepted Rule.unknown_name).declarations i at n d.0 here d.1).clock).1,
          );
      types = λ j d e. ((accepted Rule.unknown_name).declarations i j n d here e).type;
      above = λ x c h. ends_clock n (declared n x c h).0.clock (is_clock x c h).ends c (declared n x c h).2;
      zero = λ x c h.
          let d = declared n x c h in
          some_at d.0.clock (λ (c : Condition). classes.0 c.variable ≡ false) c d.2 (all_at (IsHeld classes.0 n) (declarations_of n) (place_of (variables_of n) x) d.0 classes.1.held d.1).clock;
    }

pub ruling : (p : ProgramTree) (main : List ℕ) → IsAccepted p main → (f : List ℕ) (n : NodeTree) → node_called p f ≡ Some n → Ruling p n
ruling p main accepted f n e = let at = placed p f n e in node_ruling p main accepted at.place n at.node
