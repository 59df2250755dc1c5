-- The rows of the nodes.
use Rattle.std.proofs.Common.{◌≡◌, ◌∙◌, ◌<◌, ◌≤◌, ◌+◌, ◌⊎◌, inl, inr, ℕ, zero, suc, Bool, List, [], ◌∷◌, ◌++◌, map, length, Option, Some, IsTrue, All, Contains, refl, sym, ap, subst, arith, true≢false}
use Rattle.std.specs.Prelude.{slice_get, unwrap_or, Vec}
use Rattle.std.specs.Global.{Global}
use Rattle.std.proofs.lemmas.Bool.{cases_lt}
use Rattle.std.proofs.lemmas.List.{length-map, length_push, map-append}
use Rattle.std.proofs.lemmas.List.Elements.{All-weaker, All-contains, All-contains_itself}
use Rattle.std.proofs.lemmas.Option.{slice_get_within}
use Rattle.lutree.specs.declared.program.Equation.{Equation}
use Rattle.lutree.specs.declared.program.Node.{Node}
use Rattle.lutree.specs.declared.program.Program.{Program}
use Rattle.lutree.specs.Tree.{EquationTree, NodeTree, equation_view, node_view, program_view}
use Rattle.lustat_rules.specs.Scope.{IsVariable}
use Rattle.lustat_rules.specs.Classes.{Classes, Meets, HasClasses, CurrentsStart}
use Rattle.lustat_rules.specs.Accepted.{Rule, duplicate_name, unknown_name, unknown_node, type_mismatch, wrong_arity, undefined, defined_twice, recursive_node, no_main, bad_merge, clock_mismatch, not_a_clock, clocked_parameter, hidden_clock, maybe_nil, current_may_be_nil, Keeps, Breaks, Passes}
use Rattle.lustat_rules.specs.declared.error.StatError.{StatError}
use Rattle.lustat_rules.specs.Reported.{rule_of}
use Rattle.lustat_rules.proofs.Keeping.{view_item, item_view}
use Rattle.lustat_init.specs.Assigned.{assigned, LeftsKnown}
use Rattle.lustat_init.specs.Judged.{KeepsClasses}
use Rattle.lustat_init.specs.Faults.{is_asked, KeepsLeast, EquationSays, AreKept, IsFault, ReportsBroken}
use Rattle.lustat_init.specs.Rows.{Rows, plain, row_at, GiveLeast, GiveLeastBelow, AreClasses, LeftsLaw}
use Rattle.lustat_init.proofs.Leasts.{contained_at, at_contained}
use Rattle.lustat_init.proofs.Reporting.{reports, keeps_all_met}

-- A ROW MORE

row_kept : (rows : Rows) (row : List Bool) (i : ℕ) → i < length rows → row_at (rows ++ row ∷ []) i ≡ row_at rows i
row_kept [] row i lt = absurd (omega (arith, lt))
row_kept (r ∷ rows) row zero lt = refl
row_kept (r ∷ rows) row (suc i) lt = row_kept rows row i (omega (arith, lt))

row_new : (rows : Rows) (row : List Bool) → row_at (rows ++ row ∷ []) (length rows) ≡ row
row_new [] row = refl
row_new (r ∷ rows) row = row_new rows row

-- a node has a row
pub row_within : (nodes : List Node) (rows : List (Vec Bool Global)) (i : ℕ) (n : Node) → length (plain rows) ≡ length nodes → slice_get nodes i ≡ Some n → i < length rows
row_within nodes rows i n long at =
    let lt = slice_get_within nodes i n at in
    omega (arith, lt, long, length-map rows (λ (r : Vec Bool Global). r.items))

-- a row in memory
pub row_in : (rows : List (Vec Bool Global)) (i : ℕ) (row : Vec Bool Global) → slice_get rows i ≡ Some row → row_at (plain rows) i ≡ row.items
row_in rows i row at = ap (λ (o : Option (List Bool)). unwrap_or o []) (item_view (λ (r : Vec Bool Global). r.items) rows i row at)

pub no_rows : (nodes : List Node) → GiveLeastBelow 0 nodes []
no_rows nodes = record { long = refl; each = λ i n lt. absurd (omega (arith, lt)) }

same_node : (m n : Node) → Some m ≡ Some n → m ≡ n
same_node m n e = cc

row_more : (nodes : List Node) (rows : Rows) (row : List Bool) (k : ℕ) (n : Node) → slice_get nodes k ≡ Some n
    → GiveLeastBelow k nodes rows → GiveLeast (node_view n) row → GiveLeastBelow (k + 1) nodes (rows ++ row ∷ [])
row_more nodes rows row k n here below least =
    record { long = length_push rows row ∙ ap (λ l. l + 1) below.long; each = λ i m lt at. by_place i m lt at (cases_lt i k) }
  where
    by_place : (i : ℕ) (m : Node) → i < k + 1 → slice_get nodes i ≡ Some m → (i < k) ⊎ (k ≤ i) → GiveLeast (node_view m) (row_at (rows ++ row ∷ []) i)
    by_place i m lt at (inl less) =
        subst (GiveLeast (node_view m)) (sym (row_kept rows row i (let long = below.long in omega (arith, less, long)))) (below.each i m less at)
    by_place i m lt at (inr le) =
        let same : i ≡ k = omega (arith, lt, le) in
        let item : n ≡ m = same_node n m (sym here ∙ ap (slice_get nodes) (sym same) ∙ at) in
        let own : row_at (rows ++ row ∷ []) i ≡ row = ap (row_at (rows ++ row ∷ [])) (same ∙ sym below.long) ∙ row_new rows row in
        subst (GiveLeast (node_view m)) (sym own) (subst (λ (x : Node). GiveLeast (node_view x) row) item least)

pub one_row_more : (nodes : List Node) (rows new : List (Vec Bool Global)) (row : Vec Bool Global) (k : ℕ) (n : Node) → slice_get nodes k ≡ Some n → new ≡ rows ++ row ∷ []
    → GiveLeastBelow k nodes (plain rows) → GiveLeast (node_view n) row.items → GiveLeastBelow (k + 1) nodes (plain new)
one_row_more nodes rows new row k n here is below least =
    let pushed : plain new ≡ plain rows ++ row.items ∷ [] = ap plain is ∙ map-append (λ (r : Vec Bool Global). r.items) rows (row ∷ []) in
    subst (GiveLeastBelow (k + 1) nodes) (sym pushed) (row_more nodes (plain rows) row.items k n here below least)

-- WHAT IS KNOWN OF A PROGRAM THAT IS NAMED

pub lefts : LeftsLaw
lefts p main named =
    All-weaker (Contains p.nodes) LeftsKnown (λ n among. node_lefts n (contained_at p.nodes n among)) p.nodes (All-contains_itself p.nodes)
  where
    node_lefts : (n : NodeTree) → (i : ℕ) × (slice_get p.nodes i ≡ Some n) → LeftsKnown n
    node_lefts n at =
        All-weaker (Contains n.equations) (λ (q : EquationTree). All (IsVariable n) q.left)
        (λ q among. let there = contained_at n.equations q among in ((named unknown_name refl).equations at.0 there.0 n q at.1 there.1).left)
        n.equations (All-contains_itself n.equations)

-- what is said of all items at their places is said of all
pub all_from_places : {X : Type 0} (P : X → Type 0) (xs : List X) → ((i : ℕ) (x : X) → slice_get xs i ≡ Some x → P x) → All P xs
all_from_places P xs h = All-weaker (Contains xs) P (λ x among. let at = contained_at xs x among in h at.0 x at.1) xs (All-contains_itself xs)

-- what holds of all views
pub all_of_views : (P : NodeTree → Type 0) (nodes : List Node) → All P (map node_view nodes) → All (λ (n : Node). P (node_view n)) nodes
all_of_views P nodes all = all_from_places (λ (n : Node). P (node_view n)) nodes
    (λ i n at. All-contains P (map node_view nodes) (node_view n) all (at_contained (map node_view nodes) (node_view n) i (item_view node_view nodes i n at)))

-- WHERE ALL IS KEPT

module _ (p : Program) (rows : Rows) (least : GiveLeastBelow (length p.nodes) p.nodes rows) (kept : AreKept p.nodes) where
  abbrev nodes : List Node
  nodes = p.nodes

  equation_least : (i : ℕ) (m : Node) → slice_get nodes i ≡ Some m → (j : ℕ) (q : EquationTree) → slice_get (node_view m).equations j ≡ Some q → KeepsLeast (node_view m) q
  equation_least i m at j q there =
      let w = view_item equation_view m.equations j q there in
      subst (KeepsLeast (node_view m)) w.2 (kept i m at j w.0 w.1 maybe_nil refl)

  equation_starts : (i : ℕ) (m : Node) → slice_get nodes i ≡ Some m → (j : ℕ) (q : EquationTree) → slice_get (node_view m).equations j ≡ Some q → CurrentsStart (node_view m) q
  equation_starts i m at j q there =
      let w = view_item equation_view m.equations j q there in
      subst (CurrentsStart (node_view m)) w.2 (kept i m at j w.0 w.1 current_may_be_nil refl)

  node_meets : (i : ℕ) (m : Node) → slice_get nodes i ≡ Some m → Meets (assigned (node_view m) (row_at rows i)) (node_view m)
  node_meets i m at =
      let n = node_view m in
      let a : Classes = assigned n (row_at rows i) in
      let given = least.each i m (slice_get_within nodes i m at) at in
      (reports n a given.least given.caused).kept
      (all_from_places (KeepsClasses a n) n.equations (λ j q there. equation_least i m at j q there a given.least))

  pub classes_kept : AreClasses (program_view p) rows
  classes_kept =
      record {
        long = least.long ∙ sym (length-map nodes node_view);
        meets = λ i n at.
            let v = view_item node_view nodes i n at in
            subst (λ (t : NodeTree). Meets (assigned t (row_at rows i)) t) v.2 (node_meets i v.0 v.1);
      }

  nodes_have : (main : List ℕ) → Keeps (program_view p) main maybe_nil
  nodes_have main =
      record {
        program = tt;
        types = λ i t at. tt;
        names = λ i j t x at there. tt;
        nodes = λ i n at. (assigned n (row_at rows i), classes_kept.meets i n at);
        declarations = λ i j n d at there. tt;
        equations = λ i j n q at there. tt;
      }

  currents_start : (main : List ℕ) → Keeps (program_view p) main current_may_be_nil
  currents_start main =
      record {
        program = tt;
        types = λ i t at. tt;
        names = λ i j t x at there. tt;
        nodes = λ i n at. tt;
        declarations = λ i j n d at there. tt;
        equations = λ i j n q at there. starts i j n q (view_item node_view nodes i n at) there;
      }
    where
      starts : (i j : ℕ) (n : NodeTree) (q : EquationTree) → (m : Node) × (slice_get nodes i ≡ Some m) × (node_view m ≡ n) → slice_get n.equations j ≡ Some q → CurrentsStart n q
      starts i j n q v there =
          let here : slice_get (node_view v.0).equations j ≡ Some q = subst (λ (t : NodeTree). slice_get t.equations j ≡ Some q) (sym v.2) there in
          subst (λ t. CurrentsStart t q) v.2 (equation_starts i v.0 v.1 j q here)

  pub all_pass : (main : List ℕ) → Passes (program_view p) main 3
  all_pass main maybe_nil third = nodes_have main
  all_pass main current_may_be_nil third = currents_start main
  all_pass main duplicate_name third = absurd (omega (arith, third))
  all_pass main unknown_name third = absurd (omega (arith, third))
  all_pass main unknown_node third = absurd (omega (arith, third))
  all_pass main type_mismatch third = absurd (omega (arith, third))
  all_pass main wrong_arity third = absurd (omega (arith, third))
  all_pass main undefined third = absurd (omega (arith, third))
  all_pass main defined_twice third = absurd (omega (arith, third))
  all_pass main recursive_node third = absurd (omega (arith, third))
  all_pass main no_main third = absurd (omega (arith, third))
  all_pass main bad_merge third = absurd (omega (arith, third))
  all_pass main clock_mismatch third = absurd (omega (arith, third))
  all_pass main not_a_clock third = absurd (omega (arith, third))
  all_pass main clocked_parameter third = absurd (omega (arith, third))
  all_pass main hidden_clock third = absurd (omega (arith, third))

-- WHERE SOMETHING IS BROKEN

-- in a node with classes each equation keeps the rules with the least classes
least_kept : (n : NodeTree) (q : EquationTree) → Contains n.equations q → (¬ KeepsLeast n q) → ¬ HasClasses n
least_kept n q among breaks has = breaks (λ a least. keeps_all_met n a least has q among)

broken_rule : (p : Program) (main : List ℕ) (e : StatError) (i : ℕ) (m : Node) (j : ℕ) (q : Equation) → slice_get p.nodes i ≡ Some m → slice_get m.equations j ≡ Some q
    → (rule : Rule) → IsTrue (is_asked rule) → rule_of e ≡ Some rule → (¬ EquationSays m q rule) → ReportsBroken (program_view p) main e
broken_rule p main e i m j q at there maybe_nil one reported = λ no.
    let here = item_view equation_view m.equations j q there in
    record {
      rule = maybe_nil;
      reported = reported;
      third = refl;
      broken = Breaks.node i (node_view m) (item_view node_view p.nodes i m at)
          (least_kept (node_view m) (equation_view q) (at_contained (node_view m).equations (equation_view q) j here) no);
    }
broken_rule p main e i m j q at there current_may_be_nil one reported = λ no.
    record {
      rule = current_may_be_nil;
      reported = reported;
      third = refl;
      broken = Breaks.equation i j (node_view m) (equation_view q) (item_view node_view p.nodes i m at) (item_view equation_view m.equations j q there) no;
    }
broken_rule p main e i m j q at there duplicate_name one reported = absurd (true≢false (sym one))
broken_rule p main e i m j q at there unknown_name one reported = absurd (true≢false (sym one))
broken_rule p main e i m j q at there unknown_node one reported = absurd (true≢false (sym one))
broken_rule p main e i m j q at there type_mismatch one reported = absurd (true≢false (sym one))
broken_rule p main e i m j q at there wrong_arity one reported = absurd (true≢false (sym one))
broken_rule p main e i m j q at there undefined one reported = absurd (true≢false (sym one))
broken_rule p main e i m j q at there defined_twice one reported = absurd (true≢false (sym one))
broken_rule p main e i m j q at there recursive_node one reported = absurd (true≢false (sym one))
broken_rule p main e i m j q at there no_main one reported = absurd (true≢false (sym one))
broken_rule p main e i m j q at there bad_merge one reported = absurd (true≢false (sym one))
broken_rule p main e i m j q at there clock_mismatch one reported = absurd (true≢false (sym one))
broken_rule p main e i m j q at there not_a_clock one reported = absurd (true≢false (sym one))
broken_rule p main e i m j q at there clocked_parameter one reported = absurd (true≢false (sym one))
broken_rule p main e i m j q at there hidden_clock one reported = absurd (true≢false (sym one))

pub reported_broken : (p : Program) (main : List ℕ) (e : StatError) → IsFault p.nodes e → ReportsBroken (program_view p) main e
reported_broken p main e h =
    let g = h.3 in
    let f = g.3 in
    broken_rule p main e h.0 h.1 g.0 g.1 h.2 g.2 f.rule f.one f.reported f.broken
