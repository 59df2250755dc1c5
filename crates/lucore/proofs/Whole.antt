-- The list of an accepted program with its order of ranks is the flat program of its source.
use Rattle.std.proofs.Common.{◌≡◌, ℕ, zero, suc, ◌<◌, ◌≤◌, List, [], ◌∷◌, length, map, Option, Some, None, sym, ap, ◌∙◌, subst, arith, true, refl}
use Rattle.std.specs.Prelude.{slice_get, unwrap_or, All}
use Rattle.std.specs.Option.{option_map}
use Rattle.std.proofs.lemmas.List.{length-map}
use Rattle.std.proofs.lemmas.List.Elements.{All-append, All-nil}
use Rattle.std.proofs.lemmas.Option.{same_Some, slice_get-map}
use Rattle.lutree.specs.Tree.{NodeTree, ProgramTree}
use Rattle.luflow.specs.declared.form.Form.{Form}
use Rattle.luflow.specs.declared.form.Form.TheVariants.{Input, Constant, Copied, Unary, Binary, If, Pre, Arrow, When, Current, Merge}
use Rattle.luflow.specs.declared.form.Flow.{Flow}
use Rattle.luflow.specs.Program.{FlatView, InputsView, IsOrdered, flows_of, places, form_reads, clock_reads, reads}
use Rattle.luflow.specs.Rank.{IsRankOrder, Chain, one, more, has, row, reads_of}
use Rattle.luflow.specs.declared.variable.Role.TheVariants as role
use Rattle.luflow.specs.Variables.{inputs_of}
use Rattle.luflow.specs.Tables.{FitsProgram}
use Rattle.luflow.specs.Flats.{IsFlat}
use Rattle.luflow.proofs.Fitting.{as_many}
use Rattle.lusource.specs.Agreement.{Agrees}
use Rattle.lusource.proofs.Meanings.{one_meaning}
use Rattle.lustat_rules.specs.Accepted.{Rule, IsAccepted}
use Rattle.lucore_laws.specs.Layout.{variables_as, IsLaidOut}
use Rattle.lucore_laws.specs.ListLaws.{DefineSomething, IsClosed, HasColumns}
use Rattle.lucore_laws.specs.CausalityLaws.{HasCycle}
use Rattle.lucore_laws.proofs.ToFlat.{to_flat}
use Rattle.lucore_laws.proofs.Closed as closing
use Rattle.lucore_laws.proofs.NodeFaults.{faults_reported, faults_found}
use Rattle.lucore_laws.proofs.Whole as meaning
use Rattle.lucore_laws.proofs.Flats as flats
use Rattle.lucore_laws.proofs.Roles.{variable_of, inputs_are}
use Rattle.lucore_laws.specs.Rank.{AreClosed}
use Rattle.lucore.specs.Result.{IsFlatOf}
use Rattle.lucore.proofs.RankOrders.{is_ordered}

-- what holds of all operands holds of those that are read
form_reads_all : (P : ℕ → Type 0) (form : Form) → All P (places form) → All P (form_reads form)
form_reads_all P (Input c) all = all
form_reads_all P (Constant d) all = all
form_reads_all P (Copied a) all = all
form_reads_all P (Unary op a) all = all
form_reads_all P (Binary op a b) all = all
form_reads_all P (If c a b) all = all
form_reads_all P (Pre a) all = All-nil P
form_reads_all P (Arrow a b) all = all
form_reads_all P (When a) all = all
form_reads_all P (Current a) all = all
form_reads_all P (Merge c xs) all = all

-- the reads of flows whose operands are places
reads_closed : (flows : List Flow)
    → ((i : ℕ) (flow : Flow) → slice_get flows i ≡ Some flow → All (λ r. r < length flows) (places flow.form))
    → ((i : ℕ) (flow : Flow) → slice_get flows i ≡ Some flow → All (λ r. r < length flows) (clock_reads flow.clock))
    → AreClosed (map reads flows)
reads_closed flows places_in clocks_in x =
    let P : ℕ → Type 0 = λ r. r < length (map reads flows) in
    subst (All P) (sym (ap (λ (o : Option (List ℕ)). unwrap_or o []) (slice_get-map reads flows x))) (go (slice_get flows x) refl)
  where
    len : length (map reads flows) ≡ length flows
    len = length-map flows reads

    go : (o : Option Flow) → slice_get flows x ≡ o → All (λ r. r < length (map reads flows)) (unwrap_or (option_map reads o) [])
    go None e = All-nil _
    go (Some flow) e =
        subst (λ n. All (λ r. r < n) (reads flow)) (sym len)
        (All-append (λ r. r < length flows) (form_reads flow.form) (clock_reads flow.clock)
        (form_reads_all (λ r. r < length flows) flow.form (places_in x flow e))
        (clocks_in x flow e))

has_inside : (rows : List (List ℕ)) (x y : ℕ) → has (row rows x) y ≡ true → x < length rows
has_inside [] x y h = cc
has_inside (r ∷ rows) zero y h = omega arith
has_inside (r ∷ rows) (suc x) y h = let lt = has_inside rows x y h in omega arith

-- a chain begins at a place
pub chain_inside : (rows : List (List ℕ)) (x y : ℕ) → Chain rows x y → x < length rows
chain_inside rows x y (one x' y' h) = has_inside rows x y h
chain_inside rows x z (more x' y z' c h) = chain_inside rows x y c

-- each equation of an accepted program has a variable on its left side
pub define_something : (p : ProgramTree) (main : List ℕ) → IsAccepted p main → DefineSomething p
define_something p main accepted i j node q n e = ((accepted Rule.wrong_arity).equations i j node q n e).some

module _ (p : ProgramTree) (main : List ℕ) (flat : FlatView) (accepted : IsAccepted p main) (out : IsLaidOut p main flat) where
  pub closed : IsClosed flat
  closed = closing.closed p main flat accepted (define_something p main accepted) out

  pub rows_closed : AreClosed (reads_of flat)
  rows_closed = reads_closed flat.flows closed.places_in closed.clocks_in

  ordered : IsRankOrder (reads_of flat) flat.order → IsOrdered flat
  ordered ranked = is_ordered flat ranked closed.places_in closed.clocks_in

  -- where no flow lies on a cycle, no occurrence does
  causal : ((x : ℕ) → ¬ Chain (reads_of flat) x x) → ¬ HasCycle p main
  causal straight cycle =
      let flows = to_flat p main flat accepted (define_something p main accepted) out cycle in
      straight flows.0 flows.1

  -- a table of its inputs has their columns
  columns : (inputs : InputsView) → FitsProgram flat inputs → HasColumns p main inputs
  columns inputs fits node is =
      let same : out.node ≡ node = same_Some out.node node (sym out.is_main ∙ is) in
      let many = as_many (inputs_of flat.variables) inputs.columns fits in
      let are : inputs_of flat.variables ≡ variables_as role.Input out.node.inputs = ap inputs_of out.variables ∙ inputs_are out.node in
      let long : length (variables_as role.Input out.node.inputs) ≡ length out.node.inputs = length-map out.node.inputs (variable_of role.Input) in
      let count : length out.node.inputs ≡ length inputs.columns = sym long ∙ ap length (sym are) ∙ many in
      subst (λ (n : NodeTree). length n.inputs ≤ length inputs.columns) same (omega (arith, count))

  pub whole : flows_of flat ≤ 4096 → IsRankOrder (reads_of flat) flat.order → ((x : ℕ) → ¬ Chain (reads_of flat) x x) → IsFlatOf p main flat
  whole few ranked straight =
      let something = define_something p main accepted in
      let is_flat : IsFlat flat = flats.is_flat p main flat accepted something out (ordered ranked) ranked few in
      let agrees : (inputs : InputsView) → HasColumns p main inputs → Agrees p main inputs flat = λ inputs columns. meaning.agrees p main inputs flat accepted something out (ordered ranked) columns in
      record {
        accepted = accepted;
        causal = causal straight;
        laid_out = out;
        is_flat = is_flat;
        columns = columns;
        agrees = agrees;
        one_meaning = λ inputs columns. one_meaning p main inputs flat is_flat.ordered (agrees inputs columns) (meaning.instances_law p main flat accepted something out is_flat.ordered);
        faults = λ inputs σ τ source solves i v t kind x fault owner there. faults_reported p main inputs flat accepted something out is_flat.ordered σ τ source solves i v t kind x fault owner there;
        all_faults = λ inputs σ τ source solves name t kind fault.
            let h = faults_found p main inputs flat accepted something out is_flat.ordered σ τ source solves name t kind fault in
            (h.0, h.3);
      }
