-- From what is kept and broken in memory to what the view of a program keeps and breaks.
use Rattle.std.proofs.Common.{◌≡◌, ◌∙◌, ℕ, zero, suc, Bool, List, [], ◌∷◌, ◌⊎◌, inl, inr, map, Option, Some, IsTrue, refl, sym, ap, subst}
use Rattle.lutree.specs.declared.program.DeclaredName.{DeclaredName}
use Rattle.lutree.specs.declared.program.TypeDeclaration.{TypeDeclaration}
use Rattle.std.specs.Prelude.{slice_get}
use Rattle.std.specs.Option.{option_map}
use Rattle.std.proofs.lemmas.Option.{slice_get-map}
use Rattle.lutree.specs.declared.program.Node.{Node}
use Rattle.lutree.specs.declared.program.Program.{Program}
use Rattle.lutree.specs.Tree.{TypeTree, DeclarationTree, EquationTree, NodeTree, type_view, declaration_view, equation_view, node_view, program_view}
use Rattle.lustat_rules.specs.Scope.{declarations_of}
use Rattle.lustat_rules.specs.Accepted.{Rule, TypeKeeps, NameKeeps, NodeKeeps, DeclarationKeeps, EquationKeeps, Breaks}
use Rattle.lustat_rules.specs.declared.error.StatError.{StatError}
use Rattle.lustat_rules.specs.Reported.{rule_of}
use Rattle.lustat_rules.specs.Faults.{declared_in, lesser_of, IsJudged, FaultAmong, KeptAmong, ProgramKept, ProgramFault, TypeKept, TypeFault, NameKept, NameFault, AllOfTypeKept, InTypeFault, NodeKept, NodeFault, DeclarationKept, DeclarationFault, EquationKept, EquationFault, AllOfNodeKept, InNodeFault, IsFault, AreKept}
use Rattle.lustat_rules.proofs.Judging.{judged_joined, judged_same}
use Rattle.lustat_rules.specs.Stages.{BrokenInType, KeptInType, BrokenInside, KeptInside, BrokenIn, KeptIn}
use Rattle.lustat_rules.proofs.Declared.{view_of_declared}

-- the item that is seen so
pub view_item : {A B : Type 0} (f : A → B) (xs : List A) (i : ℕ) (y : B) → slice_get (map f xs) i ≡ Some y → (x : A) × (slice_get xs i ≡ Some x) × (f x ≡ y)
view_item f [] i y h = absurd (cc)
view_item f (x ∷ xs) zero y h = (x, refl, (let same : f x ≡ y = cc in same))
view_item f (x ∷ xs) (suc i) y h = view_item f xs i y h

pub item_view : {A B : Type 0} (f : A → B) (xs : List A) (i : ℕ) (x : A) → slice_get xs i ≡ Some x → slice_get (map f xs) i ≡ Some (f x)
item_view f xs i x h = slice_get-map f xs i ∙ ap (option_map f) h

-- what is kept in memory is kept
pub kept_everywhere : (asked : Rule → Bool) (p : Program) (main : List ℕ) → ProgramKept asked p main → KeptAmong p.types (AllOfTypeKept asked p main) → KeptAmong p.nodes (AllOfNodeKept asked p main)
    → AreKept asked p main
kept_everywhere asked p main whole types nodes rule one =
    record {
      program = whole rule one;
      types = λ i t at. type_kept i t (view_item type_view p.types i t at);
      names = λ i j t x at there. name_kept i j t x (view_item type_view p.types i t at) there;
      nodes = λ i n at. node_kept i n (view_item node_view p.nodes i n at);
      declarations = λ i j n d at there. declaration_kept i j n d (view_item node_view p.nodes i n at) there;
      equations = λ i j n q at there. equation_kept i j n q (view_item node_view p.nodes i n at) there;
    }
  where
    type_kept : (i : ℕ) (t : TypeTree) → (u : TypeDeclaration) × (slice_get p.types i ≡ Some u) × (type_view u ≡ t) → TypeKeeps (program_view p) main rule i t
    type_kept i t v = subst (λ t. TypeKeeps (program_view p) main rule i t) v.2 ((types i v.0 v.1).own rule one)

    name_kept : (i j : ℕ) (t : TypeTree) (x : List ℕ) → (u : TypeDeclaration) × (slice_get p.types i ≡ Some u) × (type_view u ≡ t) → slice_get t.names j ≡ Some x → NameKeeps (program_view p) main rule i t j x
    name_kept i j t x v there =
        let here : slice_get (map (λ (y : DeclaredName). y.name) v.0.names) j ≡ Some x = subst (λ (u : TypeTree). slice_get u.names j ≡ Some x) (sym v.2) there in
        let w = view_item (λ (y : DeclaredName). y.name) v.0.names j x here in
        subst (λ u. NameKeeps (program_view p) main rule i u j x) v.2
        (subst (λ y. NameKeeps (program_view p) main rule i (type_view v.0) j y) w.2 ((types i v.0 v.1).names j w.0 w.1 rule one))

    node_kept : (i : ℕ) (n : NodeTree) → (m : Node) × (slice_get p.nodes i ≡ Some m) × (node_view m ≡ n) → NodeKeeps (program_view p) main rule i n
    node_kept i n v = subst (λ n. NodeKeeps (program_view p) main rule i n) v.2 ((nodes i v.0 v.1).node rule one)

    declaration_kept : (i j : ℕ) (n : NodeTree) (d : DeclarationTree) → (m : Node) × (slice_get p.nodes i ≡ Some m) × (node_view m ≡ n) → slice_get (declarations_of n) j ≡ Some d → DeclarationKeeps (program_view p) main rule n j d
    declaration_kept i j n d v there =
        let here : slice_get (declarations_of (node_view v.0)) j ≡ Some d = subst (λ m. slice_get (declarations_of m) j ≡ Some d) (sym v.2) there in
        let w = view_item declaration_view (declared_in v.0) j d (ap (λ l. slice_get l j) (view_of_declared v.0) ∙ here) in
        subst (λ m. DeclarationKeeps (program_view p) main rule m j d) v.2
        (subst (λ d. DeclarationKeeps (program_view p) main rule (node_view v.0) j d) w.2 ((nodes i v.0 v.1).declarations j w.0 w.1 rule one))

    equation_kept : (i j : ℕ) (n : NodeTree) (q : EquationTree) → (m : Node) × (slice_get p.nodes i ≡ Some m) × (node_view m ≡ n) → slice_get n.equations j ≡ Some q → EquationKeeps (program_view p) main rule n j q
    equation_kept i j n q v there =
        let here : slice_get (map equation_view v.0.equations) j ≡ Some q = subst (λ (m : NodeTree). slice_get m.equations j ≡ Some q) (sym v.2) there in
        let w = view_item equation_view v.0.equations j q here in
        subst (λ m. EquationKeeps (program_view p) main rule m j q) v.2
        (subst (λ q. EquationKeeps (program_view p) main rule (node_view v.0) j q) w.2 ((nodes i v.0 v.1).equations j w.0 w.1 rule one))

-- a rule that a refusal reports, of those that were asked for, is broken
pub record IsBroken (asked : Rule → Bool) (p : Program) (main : List ℕ) (e : StatError) : Type 0 where
  pub rule : Rule
  pub reported : rule_of e ≡ Some rule
  pub one : IsTrue (asked rule)
  pub broken : Breaks (program_view p) main rule

-- a fault in memory breaks its rule
pub broken_somewhere : (asked : Rule → Bool) (p : Program) (main : List ℕ) (e : StatError) → IsFault asked p main e → IsBroken asked p main e
broken_somewhere asked p main e (inl f) = record { rule = f.rule; reported = f.reported; one = f.one; broken = Breaks.program f.broken }
broken_somewhere asked p main e (inr (inl h)) = in_type h.0 h.1 h.2 h.3
  where
    in_type : (i : ℕ) (t : TypeDeclaration) → slice_get p.types i ≡ Some t → InTypeFault asked p main i t e → IsBroken asked p main e
    in_type i t at (inl f) = record { rule = f.rule; reported = f.reported; one = f.one; broken = Breaks.enumeration i (type_view t) (item_view type_view p.types i t at) f.broken }
    in_type i t at (inr g) =
        let f = g.3 in
        record {
          rule = f.rule;
          reported = f.reported;
          one = f.one;
          broken = Breaks.name i g.0 (type_view t) g.1.name (item_view type_view p.types i t at) (item_view (λ (y : DeclaredName). y.name) t.names g.0 g.1 g.2) f.broken;
        }
broken_somewhere asked p main e (inr (inr h)) = inside h.0 h.1 h.2 h.3
  where
    inside : (i : ℕ) (n : Node) → slice_get p.nodes i ≡ Some n → InNodeFault asked p main i n e → IsBroken asked p main e
    inside i n at (inl f) = record { rule = f.rule; reported = f.reported; one = f.one; broken = Breaks.node i (node_view n) (item_view node_view p.nodes i n at) f.broken }
    inside i n at (inr (inl g)) =
        let f = g.3 in
        record {
          rule = f.rule;
          reported = f.reported;
          one = f.one;
          broken = Breaks.declaration i g.0 (node_view n) (declaration_view g.1) (item_view node_view p.nodes i n at)
              (sym (ap (λ l. slice_get l g.0) (view_of_declared n)) ∙ item_view declaration_view (declared_in n) g.0 g.1 g.2) f.broken;
        }
    inside i n at (inr (inr g)) =
        let f = g.3 in
        record {
          rule = f.rule;
          reported = f.reported;
          one = f.one;
          broken = Breaks.equation i g.0 (node_view n) (equation_view g.1) (item_view node_view p.nodes i n at) (item_view equation_view n.equations g.0 g.1 g.2) f.broken;
        }

-- from the types, the nodes and the program as a whole to all of the program
pub judged_program : (asked : Rule → Bool) (p : Program) (main : List ℕ) (whole found reported : Option StatError) → reported ≡ lesser_of whole found
    → IsJudged (ProgramFault asked p main) (ProgramKept asked p main) whole
    → IsJudged (BrokenIn p (BrokenInType (TypeFault asked p main) (NameFault asked p main)) (BrokenInside (NodeFault asked p main) (DeclarationFault asked p main) (EquationFault asked p main)))
    (KeptIn p (KeptInType (TypeKept asked p main) (NameKept asked p main)) (KeptInside (NodeKept asked p main) (DeclarationKept asked p main) (EquationKept asked p main))) found
    → IsJudged (IsFault asked p main) (AreKept asked p main) reported
judged_program asked p main whole found reported is of_program of_places =
    let S : StatError → Type 0 = ProgramFault asked p main in
    let T : StatError → Type 0 = λ e. FaultAmong p.types (InTypeFault asked p main) e ⊎ FaultAmong p.nodes (InNodeFault asked p main) e in
    let P : Type 0 = ProgramKept asked p main in
    let Q : Type 0 = KeptIn p (KeptInType (TypeKept asked p main) (NameKept asked p main)) (KeptInside (NodeKept asked p main) (DeclarationKept asked p main) (EquationKept asked p main)) in
    judged_same (λ e. S e ⊎ T e) (IsFault asked p main) (P × Q) (AreKept asked p main) reported
    (λ e h. h) (λ e h. h)
    (λ h.
    kept_everywhere asked p main h.0 (λ i t at. let k = h.1.0 i t at in record { own = k.0; names = k.1 })
    (λ i n at. let k = h.1.1 i n at in record { node = k.0; declarations = k.1.0; equations = k.1.1 }))
    (judged_joined S T P Q whole found reported is of_program of_places)
