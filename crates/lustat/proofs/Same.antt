-- What is reported of a program goes by its tree and its places alone, and is one thing.
use Rattle.std.proofs.Common.{◌≡◌, ◌∙◌, ◌<◌, ◌≤◌, ◌⊎◌, inl, inr, ℕ, nat_eq, Bool, if◌then◌else◌, List, ◌++◌, map, Option, Some, None, refl, sym, ap, subst, arith}
use Rattle.std.specs.Prelude.{slice_get}
use Rattle.std.proofs.lemmas.List.{map-append}
use Rattle.std.proofs.lemmas.Option.{same_Some}
use Rattle.lutree.specs.declared.program.DeclaredName.{DeclaredName}
use Rattle.lutree.specs.declared.program.TypeDeclaration.{TypeDeclaration}
use Rattle.lutree.specs.declared.program.Declaration.{Declaration}
use Rattle.lutree.specs.declared.program.Equation.{Equation}
use Rattle.lutree.specs.declared.program.Node.{Node}
use Rattle.lutree.specs.declared.program.Program.{Program}
use Rattle.lutree.specs.Tree.{TypeTree, DeclarationTree, EquationTree, NodeTree, ProgramTree, type_view, declaration_view, equation_view, node_view, program_view}
use Rattle.lutree.specs.Places.{TypePlaces, NodePlaces, ProgramPlaces, declaration_places, type_places, node_places, places_view}
use Rattle.lustat_rules.specs.Accepted.{Rule, ProgramKeeps, TypeKeeps, NameKeeps, NodeKeeps, DeclarationKeeps, EquationKeeps, Keeps, Breaks, stage, IsRefused, duplicate_name, unknown_name, unknown_node, type_mismatch, wrong_arity, undefined, defined_twice, recursive_node, no_main, bad_merge, clock_mismatch, not_a_clock, clocked_parameter, hidden_clock, maybe_nil, current_may_be_nil}
use Rattle.lustat_rules.specs.Accepted as breaks
use Rattle.lustat_rules.specs.Naming.{Reaches}
use Rattle.lustat_rules.specs.declared.error.StatError.{StatError}
use Rattle.lustat_rules.specs.declared.error.StatError.TheVariants.{DuplicateName, UnknownName, UnknownNode, TypeMismatch, WrongArity, Undefined, DefinedTwice, RecursiveNode, ClockMismatch, NotAClock, ClockedParameter, HiddenClock, MaybeNil, CurrentMayBeNil, NoMain, BadMerge, OutOfMemory}
use Rattle.lustat_rules.specs.Reported.{rule_of, byte_of, number_of, number_reported, RuleReported, ReportsRule}
use Rattle.lustat_rules.specs.Faults.{declared_in, FaultAt, FaultAmong, TypeFault, NameFault, InTypeFault, NodeFault, DeclarationFault, EquationFault, InNodeFault, IsFault}
use Rattle.lustat_rules.specs.Least.{IsLeastFault}
use Rattle.lustat_rules.proofs.Keeping.{view_item, item_view}
use Rattle.lutype.specs.CallGraph.{NoneRecursiveBefore}
use Rattle.lutype.specs.First.{IsRecursionFault, IsNameFault}
use Rattle.lustat_clocks.specs.Asked.{is_asked as is_clock_rule}
use Rattle.lutype.specs.Asked.{is_asked as is_name_rule}
use Rattle.lustat_init.specs.Faults.{IsFault as IsClassFault, EquationSays, is_asked as is_class_rule}
use Rattle.lustat_init.specs.Faults as class
use Rattle.lustat_init.specs.Judged.{KeepsClasses}
use Rattle.lustat_rules.specs.Classes.{IsLeast, CurrentsStart}
use Rattle.lustat.specs.First.{stage_reported, IsReportedFirst}
use Rattle.lustat.specs.First.IsReportedFirst.{memory, names, clocks, classes}

-- AT THE SAME PLACE OF TWO LISTS

pub record Partner {A U V : Type 0} (f : A → U) (g : A → V) (ys : List A) (j : ℕ) (x : A) : Type 0 where
  pub item : A
  pub there : slice_get ys j ≡ Some item
  pub one : f x ≡ f item
  pub other : g x ≡ g item

partner : {A U V : Type 0} (f : A → U) (g : A → V) (xs ys : List A) → map f xs ≡ map f ys → map g xs ≡ map g ys → (j : ℕ) (x : A) → slice_get xs j ≡ Some x → Partner f g ys j x
partner {U = U} {V = V} f g xs ys e h j x at =
    let seen : slice_get (map f ys) j ≡ Some (f x) = ap (λ (us : List U). slice_get us j) (sym e) ∙ item_view f xs j x at in
    let (y, there, is) = view_item f ys j (f x) seen in
    let both : Some (g x) ≡ Some (g y) = sym (item_view g xs j x at) ∙ ap (λ (vs : List V). slice_get vs j) h ∙ item_view g ys j y there in
    record { item = y; there = there; one = sym is; other = same_Some (g x) (g y) both }

-- FAULTS AT ONE PLACE

fault_along : (asked : Rule → Bool) (b c : ℕ) (K L : Rule → Type 0) (e : StatError) → b ≡ c → ((r : Rule) → L r → K r) → FaultAt asked b K e → FaultAt asked c L e
fault_along asked b c K L e same implies h = record { rule = h.rule; reported = h.reported; one = h.one; at = h.at ∙ same; broken = λ kept. h.broken (implies h.rule kept) }

among_along : {A : Type 0} (xs ys : List A) (F G : ℕ → A → StatError → Type 0) (e : StatError) → ((j : ℕ) (x : A) → slice_get xs j ≡ Some x → F j x e → (y : A) × (slice_get ys j ≡ Some y) × G j y e) → FaultAmong xs F e
    → FaultAmong ys G e
among_along xs ys F G e step (j, x, at, fault) = let (y, there, found) = step j x at fault in (j, y, there, found)

-- two types with one tree and one list of places
pub record AlikeTypes (t u : TypeDeclaration) : Type 0 where
  pub tree : type_view t ≡ type_view u
  pub places : type_places t ≡ type_places u

-- two nodes with one tree and one list of places
pub record Alike (n m : Node) : Type 0 where
  pub tree : node_view n ≡ node_view m
  pub places : node_places n ≡ node_places m

declarations_alike : (n m : Node) → Alike n m → (map declaration_view (declared_in n) ≡ map declaration_view (declared_in m)) × (declaration_places (declared_in n) ≡ declaration_places (declared_in m))
declarations_alike n m h =
    let V : Node → List DeclarationTree = λ k. (node_view k).inputs ++ ((node_view k).outputs ++ (node_view k).locals) in
    let P : Node → List ℕ = λ k. (node_places k).inputs ++ ((node_places k).outputs ++ (node_places k).locals) in
    let seen : (k : Node) → map declaration_view (declared_in k) ≡ V k =
    λ k. map-append declaration_view k.inputs (k.outputs ++ k.locals) ∙ ap (λ (ds : List DeclarationTree). (node_view k).inputs ++ ds) (map-append declaration_view k.outputs k.locals) in
    let placed : (k : Node) → declaration_places (declared_in k) ≡ P k =
    λ k. map-append (λ (d : Declaration). d.byte) k.inputs (k.outputs ++ k.locals) ∙ ap (λ (ds : List ℕ). (node_places k).inputs ++ ds) (map-append (λ (d : Declaration). d.byte) k.outputs k.locals) in (
      seen n ∙ ap (λ (t : NodeTree). t.inputs ++ (t.outputs ++ t.locals)) h.tree ∙ sym (seen m),
      placed n ∙ ap (λ (t : NodePlaces). t.inputs ++ (t.outputs ++ t.locals)) h.places ∙ sym (placed m),
    )

module _ (p q : Program) (main : List ℕ) (trees : program_view p ≡ program_view q) (places : places_view p ≡ places_view q) where
  node_at : (j : ℕ) (n : Node) → slice_get p.nodes j ≡ Some n → (m : Node) × (slice_get q.nodes j ≡ Some m) × Alike n m
  node_at j n at =
      let h = partner node_view node_places p.nodes q.nodes (ap (λ (t : ProgramTree). t.nodes) trees) (ap (λ (t : ProgramPlaces). t.nodes) places) j n at in
      (h.item, h.there, record { tree = h.one; places = h.other })

  type_at : (j : ℕ) (t : TypeDeclaration) → slice_get p.types j ≡ Some t → (u : TypeDeclaration) × (slice_get q.types j ≡ Some u) × AlikeTypes t u
  type_at j t at =
      let h = partner type_view type_places p.types q.types (ap (λ (t : ProgramTree). t.types) trees) (ap (λ (t : ProgramPlaces). t.types) places) j t at in
      (h.item, h.there, record { tree = h.one; places = h.other })

  module _ (asked : Rule → Bool) (e : StatError) where
    type_fault : (j : ℕ) (t u : TypeDeclaration) → AlikeTypes t u → TypeFault asked p main j t e → TypeFault asked q main j u e
    type_fault j t u h = fault_along asked t.byte u.byte _ _ e (ap (λ (a : TypePlaces). a.name) h.places)
        (λ r kept. subst (λ (a : ProgramTree). TypeKeeps a main r j (type_view t)) (sym trees) (subst (λ (a : TypeTree). TypeKeeps (program_view q) main r j a) (sym h.tree) kept))

    name_fault : (i : ℕ) (t u : TypeDeclaration) → AlikeTypes t u → FaultAmong t.names (NameFault asked p main i t) e → FaultAmong u.names (NameFault asked q main i u) e
    name_fault i t u h = among_along t.names u.names (NameFault asked p main i t) (NameFault asked q main i u) e
        (λ j x at fault.
        let s = partner (λ (y : DeclaredName). y.name) (λ (y : DeclaredName). y.byte) t.names u.names (ap (λ (a : TypeTree). a.names) h.tree) (ap (λ (a : TypePlaces). a.names) h.places) j x at in (
          s.item,
          s.there,
          fault_along asked x.byte s.item.byte _ _ e s.other
              (λ r kept. subst (λ (a : ProgramTree). NameKeeps a main r i (type_view t) j x.name) (sym trees)
              (subst (λ (a : TypeTree). NameKeeps (program_view q) main r i a j x.name) (sym h.tree)
              (subst (λ (y : List ℕ). NameKeeps (program_view q) main r i (type_view u) j y) (sym s.one) kept))) fault,
        ))

    in_type_fault : (j : ℕ) (t u : TypeDeclaration) → AlikeTypes t u → InTypeFault asked p main j t e → InTypeFault asked q main j u e
    in_type_fault j t u h (inl own) = inl (type_fault j t u h own)
    in_type_fault j t u h (inr found) = inr (name_fault j t u h found)

    node_fault : (j : ℕ) (n m : Node) → Alike n m → NodeFault asked p main j n e → NodeFault asked q main j m e
    node_fault j n m h = fault_along asked n.byte m.byte _ _ e (ap (λ (t : NodePlaces). t.name) h.places)
        (λ r kept. subst (λ (t : ProgramTree). NodeKeeps t main r j (node_view n)) (sym trees) (subst (λ (t : NodeTree). NodeKeeps (program_view q) main r j t) (sym h.tree) kept))

    declaration_fault : (n m : Node) → Alike n m → FaultAmong (declared_in n) (DeclarationFault asked p main n) e → FaultAmong (declared_in m) (DeclarationFault asked q main m) e
    declaration_fault n m h = among_along (declared_in n) (declared_in m) (DeclarationFault asked p main n) (DeclarationFault asked q main m) e
        (λ j d at fault.
        let (seen, placed) = declarations_alike n m h in
        let s = partner declaration_view (λ (d : Declaration). d.byte) (declared_in n) (declared_in m) seen placed j d at in (
          s.item,
          s.there,
          fault_along asked d.byte s.item.byte _ _ e s.other
              (λ r kept. subst (λ (t : ProgramTree). DeclarationKeeps t main r (node_view n) j (declaration_view d)) (sym trees)
              (subst (λ (t : NodeTree). DeclarationKeeps (program_view q) main r t j (declaration_view d)) (sym h.tree)
              (subst (λ (t : DeclarationTree). DeclarationKeeps (program_view q) main r (node_view m) j t) (sym s.one) kept))) fault,
        ))

    equation_fault : (n m : Node) → Alike n m → FaultAmong n.equations (EquationFault asked p main n) e → FaultAmong m.equations (EquationFault asked q main m) e
    equation_fault n m h = among_along n.equations m.equations (EquationFault asked p main n) (EquationFault asked q main m) e
        (λ j d at fault.
        let s = partner equation_view (λ (d : Equation). d.byte) n.equations m.equations (ap (λ (t : NodeTree). t.equations) h.tree) (ap (λ (t : NodePlaces). t.equations) h.places) j d at in (
          s.item,
          s.there,
          fault_along asked d.byte s.item.byte _ _ e s.other
              (λ r kept. subst (λ (t : ProgramTree). EquationKeeps t main r (node_view n) j (equation_view d)) (sym trees)
              (subst (λ (t : NodeTree). EquationKeeps (program_view q) main r t j (equation_view d)) (sym h.tree)
              (subst (λ (t : EquationTree). EquationKeeps (program_view q) main r (node_view m) j t) (sym s.one) kept))) fault,
        ))

    in_node_fault : (j : ℕ) (n m : Node) → Alike n m → InNodeFault asked p main j n e → InNodeFault asked q main j m e
    in_node_fault j n m h (inl own) = inl (node_fault j n m h own)
    in_node_fault j n m h (inr (inl found)) = inr (inl (declaration_fault n m h found))
    in_node_fault j n m h (inr (inr found)) = inr (inr (equation_fault n m h found))

    fault_of : IsFault asked p main e → IsFault asked q main e
    fault_of (inl own) = inl (fault_along asked 0 0 _ _ e refl (λ r kept. subst (λ (t : ProgramTree). ProgramKeeps t main r) (sym trees) kept) own)
    fault_of (inr (inl found)) = inr (inl (among_along p.types q.types (InTypeFault asked p main) (InTypeFault asked q main) e
        (λ j t at fault. let (u, there, h) = type_at j t at in (u, there, in_type_fault j t u h fault)) found))
    fault_of (inr (inr found)) = inr (inr (among_along p.nodes q.nodes (InNodeFault asked p main) (InNodeFault asked q main) e
        (λ j n at fault. let (m, there, h) = node_at j n at in (m, there, in_node_fault j n m h fault)) found))

  recursion_of : (e : StatError) → IsRecursionFault p e → IsRecursionFault q e
  recursion_of e a =
      let (m, there, h) = node_at a.place a.node a.there in
      record {
        place = a.place;
        node = m;
        there = there;
        recursive = subst (λ (t : ProgramTree). Reaches t m.name m.name) trees (subst (λ (t : NodeTree). Reaches (program_view p) t.name t.name) h.tree a.recursive);
        first = subst (λ (t : ProgramTree). NoneRecursiveBefore t a.place) trees a.first;
        reported = a.reported ∙ ap (λ (t : NodePlaces). RecursiveNode t.name) h.places;
      }

  name_of : (e : StatError) → IsNameFault p main e → IsNameFault q main e
  name_of e (inl own) = inl (fault_of is_name_rule e own)
  name_of e (inr recursion) = inr (recursion_of e recursion)

  says_along : (n m : Node) (a b : Equation) → node_view n ≡ node_view m → equation_view a ≡ equation_view b → (r : Rule) → EquationSays m b r → EquationSays n a r
  says_along n m a b h k maybe_nil kept = λ classes least.
      subst (λ (t : EquationTree). KeepsClasses classes (node_view n) t) (sym k)
      (subst (λ (t : NodeTree). KeepsClasses classes t (equation_view b)) (sym h) (kept classes (subst (λ (t : NodeTree). IsLeast classes t) h least)))
  says_along n m a b h k current_may_be_nil kept =
      subst (λ (t : EquationTree). CurrentsStart (node_view n) t) (sym k) (subst (λ (t : NodeTree). CurrentsStart t (equation_view b)) (sym h) kept)
  says_along n m a b h k _ kept = tt

  class_of : (e : StatError) → IsClassFault p.nodes e → IsClassFault q.nodes e
  class_of e = among_along p.nodes q.nodes (λ _ n. class.InNodeFault n) (λ _ n. class.InNodeFault n) e
      (λ i n at fault.
      let (m, there, h) = node_at i n at in (
        m,
        there,
        among_along n.equations m.equations (λ _ d. class.EquationFault n d) (λ _ d. class.EquationFault m d) e
            (λ j d here found.
            let s = partner equation_view (λ (d : Equation). d.byte) n.equations m.equations (ap (λ (t : NodeTree). t.equations) h.tree) (ap (λ (t : NodePlaces). t.equations) h.places) j d here in
            (s.item, s.there, fault_along is_class_rule d.byte s.item.byte _ _ e s.other (says_along n m d s.item h.tree s.one) found)) fault,
      ))

least_along : (F G : StatError → Type 0) (e : StatError) → ((f : StatError) → F f → G f) → ((f : StatError) → G f → F f) → IsLeastFault F e → IsLeastFault G e
least_along F G e to back h = (to e h.0, λ f fault. h.1 f (back f fault))

-- what is reported of a program is reported of each with its tree and its places
pub reported_along : (p q : Program) (main : List ℕ) (e : StatError) → program_view p ≡ program_view q → places_view p ≡ places_view q → IsReportedFirst p main e → IsReportedFirst q main e
reported_along p q main e trees places (memory h) = memory h
reported_along p q main e trees places (names s h) = names s (least_along (IsNameFault p main) (IsNameFault q main) e (name_of p q main trees places) (name_of q p main (sym trees) (sym places)) h)
reported_along p q main e trees places (clocks s h) =
    clocks s (least_along (IsFault is_clock_rule p main) (IsFault is_clock_rule q main) e (fault_of p q main trees places is_clock_rule) (fault_of q p main (sym trees) (sym places) is_clock_rule) h)
reported_along p q main e trees places (classes s h) =
    classes s (least_along (IsClassFault p.nodes) (IsClassFault q.nodes) e (class_of p q main trees places) (class_of q p main (sym trees) (sym places)) h)

-- ONE REFUSAL

-- the refusal of a number, at a byte
made : ℕ → ℕ → StatError
made n b =
    if nat_eq n 10 then DuplicateName b else if nat_eq n 11 then UnknownName b else if nat_eq n 12 then UnknownNode b else if nat_eq n 13 then TypeMismatch b
    else if nat_eq n 14 then WrongArity b else if nat_eq n 15 then Undefined b else if nat_eq n 16 then DefinedTwice b else if nat_eq n 17 then RecursiveNode b
    else if nat_eq n 18 then NoMain else if nat_eq n 19 then BadMerge b else if nat_eq n 20 then ClockMismatch b else if nat_eq n 21 then NotAClock b else if nat_eq n 22 then ClockedParameter b
    else if nat_eq n 23 then HiddenClock b else if nat_eq n 30 then MaybeNil b else if nat_eq n 31 then CurrentMayBeNil b else OutOfMemory

made_again : (e : StatError) → made (number_of e) (byte_of e) ≡ e
unfolding made
made_again (DuplicateName byte) = refl
made_again (UnknownName byte) = refl
made_again (UnknownNode byte) = refl
made_again (TypeMismatch byte) = refl
made_again (WrongArity byte) = refl
made_again (Undefined byte) = refl
made_again (DefinedTwice byte) = refl
made_again (RecursiveNode byte) = refl
made_again NoMain = refl
made_again (BadMerge byte) = refl
made_again (ClockMismatch byte) = refl
made_again (NotAClock byte) = refl
made_again (ClockedParameter byte) = refl
made_again (HiddenClock byte) = refl
made_again (MaybeNil byte) = refl
made_again (CurrentMayBeNil byte) = refl
made_again OutOfMemory = refl

same_error : (e f : StatError) → (byte_of e ≡ byte_of f) × (number_of e ≡ number_of f) → e ≡ f
same_error e f h = sym (made_again e) ∙ ap (λ (n : ℕ). made n (byte_of e)) h.1 ∙ ap (made (number_of f)) h.0 ∙ made_again f

at_most_both : (a b m n : ℕ) → (a < b) ⊎ ((a ≡ b) × (m ≤ n)) → (b < a) ⊎ ((b ≡ a) × (n ≤ m)) → (a ≡ b) × (m ≡ n)
at_most_both a b m n (inl h) (inl k) = absurd (omega (arith, h, k))
at_most_both a b m n (inl h) (inr k) = absurd (omega (arith, h, k.0))
at_most_both a b m n (inr h) (inl k) = absurd (omega (arith, h.0, k))
at_most_both a b m n (inr h) (inr k) = (h.0, omega (arith, h.1, k.1))

-- there is one least fault
one_least : (F : StatError → Type 0) (e f : StatError) → IsLeastFault F e → IsLeastFault F f → e ≡ f
one_least F e f h k = same_error e f (at_most_both (byte_of e) (byte_of f) (number_of e) (number_of f) (h.1 f k.0) (k.1 e h.0))

broken_kept : (tree : ProgramTree) (main : List ℕ) (r : Rule) → Breaks tree main r → Keeps tree main r → ⊥
broken_kept tree main r (breaks.program never) keeps = never keeps.program
broken_kept tree main r (breaks.enumeration i t at never) keeps = never (keeps.types i t at)
broken_kept tree main r (breaks.name i j t x at there never) keeps = never (keeps.names i j t x at there)
broken_kept tree main r (breaks.node i n at never) keeps = never (keeps.nodes i n at)
broken_kept tree main r (breaks.declaration i j n d at there never) keeps = never (keeps.declarations i j n d at there)
broken_kept tree main r (breaks.equation i j n q at there never) keeps = never (keeps.equations i j n q at there)

-- of two refusals that are reported neither is of a stage before the other's
not_earlier : (tree : ProgramTree) (main : List ℕ) (e f : StatError) → ReportsRule 3 tree main e → ReportsRule 3 tree main f → 0 < stage_reported e → stage_reported e < stage_reported f → ⊥
not_earlier tree main e f reported other some less = by_rules (rule_of e) (rule_of f) refl refl reported other
  where
    by_rules : (a b : Option Rule) → rule_of e ≡ a → rule_of f ≡ b → RuleReported 3 tree main a → RuleReported 3 tree main b → ⊥
    by_rules None b is also h k = let none = ap number_reported is in absurd (omega (arith, some, none))
    by_rules (Some r) None is also h k = let none = ap number_reported also in absurd (omega (arith, less, none))
    by_rules (Some r) (Some s) is also h k =
        let one = ap number_reported is in
        let two = ap number_reported also in
        broken_kept tree main r h.1.broken (k.1.before r (omega (arith, one, two, less)))

-- two refusals that are reported of one program are one, where memory lasts
pub one_reported : (p : Program) (main : List ℕ) (e f : StatError) → ReportsRule 3 (program_view p) main e → ReportsRule 3 (program_view p) main f → IsReportedFirst p main e → IsReportedFirst p main f
    → (e ≡ OutOfMemory → ⊥) → (f ≡ OutOfMemory → ⊥) → e ≡ f
one_reported p main e f tells also (memory h) y ne nf = absurd (ne h)
one_reported p main e f tells also (names s h) (memory k) ne nf = absurd (nf k)
one_reported p main e f tells also (names s h) (names t k) ne nf = one_least (IsNameFault p main) e f h k
one_reported p main e f tells also (names s h) (clocks t k) ne nf = absurd (not_earlier (program_view p) main e f tells also (omega (arith, s)) (omega (arith, s, t)))
one_reported p main e f tells also (names s h) (classes t k) ne nf = absurd (not_earlier (program_view p) main e f tells also (omega (arith, s)) (omega (arith, s, t)))
one_reported p main e f tells also (clocks s h) (memory k) ne nf = absurd (nf k)
one_reported p main e f tells also (clocks s h) (names t k) ne nf = absurd (not_earlier (program_view p) main f e also tells (omega (arith, t)) (omega (arith, s, t)))
one_reported p main e f tells also (clocks s h) (clocks t k) ne nf = one_least (IsFault is_clock_rule p main) e f h k
one_reported p main e f tells also (clocks s h) (classes t k) ne nf = absurd (not_earlier (program_view p) main e f tells also (omega (arith, s)) (omega (arith, s, t)))
one_reported p main e f tells also (classes s h) (memory k) ne nf = absurd (nf k)
one_reported p main e f tells also (classes s h) (names t k) ne nf = absurd (not_earlier (program_view p) main f e also tells (omega (arith, t)) (omega (arith, s, t)))
one_reported p main e f tells also (classes s h) (clocks t k) ne nf = absurd (not_earlier (program_view p) main f e also tells (omega (arith, t)) (omega (arith, s, t)))
one_reported p main e f tells also (classes s h) (classes t k) ne nf = one_least (IsClassFault p.nodes) e f h k
