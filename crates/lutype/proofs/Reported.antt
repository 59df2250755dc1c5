-- What the check of names reports.
use Rattle.std.proofs.Common.{◌≡◌, ◌↔◌, ◌<◌, ◌≤◌, inl, inr, ⊎_elim, ℕ, List, length, Option, Some, IsTrue, refl, sym, ap, ◌∙◌, subst, arith, true≢false}
use Rattle.std.proofs.lemmas.List.{length-map}
use Rattle.std.proofs.lemmas.Option.{slice_get_within, same_Some}
use Rattle.std.specs.Prelude.{slice_get}
use Rattle.lutree.specs.declared.program.Node.{Node}
use Rattle.lutree.specs.declared.program.Program.{Program}
use Rattle.lutree.specs.Tree.{NodeTree, ProgramTree, node_view, program_view}
use Rattle.lustat_rules.specs.Naming.{Reaches}
use Rattle.lustat_rules.specs.Accepted.{Rule, duplicate_name, unknown_name, unknown_node, type_mismatch, wrong_arity, undefined, defined_twice, recursive_node, no_main, bad_merge, clock_mismatch, not_a_clock, clocked_parameter, hidden_clock, maybe_nil, current_may_be_nil, stage, Keeps, Breaks, IsNamed, IsRefused}
use Rattle.lustat_rules.specs.declared.error.StatError.{StatError}
use Rattle.lustat_rules.specs.declared.error.StatError.TheVariants.{RecursiveNode}
use Rattle.lustat_rules.specs.Reported.{byte_of, number_of, RuleReported, ReportsRule}
use Rattle.lustat_rules.specs.Faults.{lesser_of, IsAtMost, IsJudged, IsFault, AreKept}
use Rattle.lustat_rules.proofs.Judging.{judged_joined}
use Rattle.lustat_rules.proofs.Stages.{stage_least}
use Rattle.lustat_rules.proofs.Keeping.{broken_somewhere, view_item, item_view}
use Rattle.lubase.proofs.Marks.{below_or_not}
use Rattle.lutype.specs.CallGraph.{IsRecursive, NoneRecursiveBefore}
use Rattle.lutype.specs.Asked.{is_asked}
use Rattle.lutype.specs.First.{IsRecursionFault, IsNameFault, IsReportedFirst}

stage_of : (rule : Rule) → IsTrue (is_asked rule) → stage rule ≤ 1
stage_of duplicate_name one = omega arith
stage_of unknown_name one = omega arith
stage_of unknown_node one = omega arith
stage_of type_mismatch one = omega arith
stage_of wrong_arity one = omega arith
stage_of undefined one = omega arith
stage_of defined_twice one = omega arith
stage_of recursive_node one = absurd (true≢false (sym one))
stage_of no_main one = omega arith
stage_of bad_merge one = omega arith
stage_of clock_mismatch one = absurd (true≢false (sym one))
stage_of not_a_clock one = absurd (true≢false (sym one))
stage_of clocked_parameter one = absurd (true≢false (sym one))
stage_of hidden_clock one = absurd (true≢false (sym one))
stage_of maybe_nil one = absurd (true≢false (sym one))
stage_of current_may_be_nil one = absurd (true≢false (sym one))

not_recursive : (p : Program) (main : List ℕ) → ((f : List ℕ) → ¬ Reaches (program_view p) f f) → Keeps (program_view p) main recursive_node
not_recursive p main straight = record {
  program = tt;
  types = λ i t at. tt;
  names = λ i j t x at there. tt;
  nodes = λ i n at. straight n.name;
  declarations = λ i j n d at there. tt;
  equations = λ i j n q at there. tt;
}

pub named_from : (p : Program) (main : List ℕ) → AreKept is_asked p main → ((f : List ℕ) → ¬ Reaches (program_view p) f f) → IsNamed (program_view p) main
named_from p main kept straight duplicate_name first = kept duplicate_name refl
named_from p main kept straight unknown_name first = kept unknown_name refl
named_from p main kept straight unknown_node first = kept unknown_node refl
named_from p main kept straight type_mismatch first = kept type_mismatch refl
named_from p main kept straight wrong_arity first = kept wrong_arity refl
named_from p main kept straight undefined first = kept undefined refl
named_from p main kept straight defined_twice first = kept defined_twice refl
named_from p main kept straight recursive_node first = not_recursive p main straight
named_from p main kept straight no_main first = kept no_main refl
named_from p main kept straight bad_merge first = kept bad_merge refl
named_from p main kept straight clock_mismatch first = absurd (omega (arith, first))
named_from p main kept straight not_a_clock first = absurd (omega (arith, first))
named_from p main kept straight clocked_parameter first = absurd (omega (arith, first))
named_from p main kept straight hidden_clock first = absurd (omega (arith, first))
named_from p main kept straight maybe_nil first = absurd (omega (arith, first))
named_from p main kept straight current_may_be_nil first = absurd (omega (arith, first))

refused_first : (p : ProgramTree) (main : List ℕ) (rule : Rule) → stage rule ≤ 1 → Breaks p main rule → IsRefused p main rule
refused_first p main rule le broken = record { broken = broken; before = λ other lt. absurd (let least = stage_least other in omega (arith, lt, le, least)) }

pub reported_asked : (p : Program) (main : List ℕ) (e : StatError) → IsFault is_asked p main e → ReportsRule 1 (program_view p) main e
reported_asked p main e fault =
    let b = broken_somewhere is_asked p main e fault in
    subst (RuleReported 1 (program_view p) main) (sym b.reported) (stage_of b.rule b.one, refused_first (program_view p) main b.rule (stage_of b.rule b.one) b.broken)

reported_recursive : (p : Program) (main : List ℕ) (place byte : ℕ) → IsRecursive (program_view p) place → ReportsRule 1 (program_view p) main (RecursiveNode byte)
reported_recursive p main place byte h =
    let one : stage recursive_node ≤ 1 = omega arith in
    (one, refused_first (program_view p) main recursive_node one (Breaks.node place h.0 h.1 (λ no. no h.2)))

pub reported_alone : (p : Program) (main : List ℕ) (e : StatError) → IsJudged (IsFault is_asked p main) (AreKept is_asked p main) (Some e) → ((f : List ℕ) → ¬ Reaches (program_view p) f f)
    → ReportsRule 1 (program_view p) main e × IsReportedFirst p main e
reported_alone p main e h straight =
    let least : (f : StatError) → IsNameFault p main f → IsAtMost e f = λ f fault. ⊎_elim {C = IsAtMost e f} (λ own. h.1 f own) (λ r. absurd (straight r.node.name r.recursive)) fault in
    (reported_asked p main e h.0, inr (inl h.0, least))

-- of two places of recursion faults neither is before the other
not_before : (p : Program) (e f : StatError) (a : IsRecursionFault p e) (b : IsRecursionFault p f) → a.place < b.place → ⊥
not_before p e f a b lt = b.first a.place (node_view a.node) lt (item_view node_view p.nodes a.place a.node a.there) a.recursive

-- there is one recursion fault at most
one_recursion : (p : Program) (e f : StatError) → IsRecursionFault p e → IsRecursionFault p f → e ≡ f
one_recursion p e f a b =
    let one : a.place ≡ b.place = elim (below_or_not a.place b.place) [
      | inl lt ↦ absurd (not_before p e f a b lt)
      | inr past ↦ elim (below_or_not b.place a.place) [ inl lt ↦ absurd (not_before p f e b a lt) | inr other ↦ omega (arith, past, other) ]
    ] in
    let same : a.node ≡ b.node = same_Some a.node b.node (sym a.there ∙ ap (slice_get p.nodes) one ∙ b.there) in
    a.reported ∙ ap (λ (n : Node). RecursiveNode n.byte) same ∙ sym b.reported

-- the fault of the first recursive node
pub recursion_at : (p : Program) (place byte : ℕ) → IsRecursive (program_view p) place → NoneRecursiveBefore (program_view p) place → ((node : Node) → slice_get p.nodes place ≡ Some node → byte ≡ node.byte) → IsRecursionFault p (RecursiveNode byte)
recursion_at p place byte recursive first at =
    let (node, there, seen) = view_item node_view p.nodes place recursive.0 recursive.1 in
    record {
      place = place;
      node = node;
      there = there;
      recursive = subst (λ (n : NodeTree). Reaches (program_view p) n.name n.name) (sym seen) recursive.2;
      first = first;
      reported = ap RecursiveNode (at node there);
    }

-- it is the only one
pub recursion_told : (p : Program) (fault : StatError) → IsRecursionFault p fault → (e : StatError) → (Some fault ≡ Some e) ↔ IsRecursionFault p e
recursion_told p fault here e = (λ is. subst (IsRecursionFault p) (same_Some fault e is) here, λ other. ap Some (one_recursion p fault e here other))

-- the fault of recursion among others
pub reported_with : (p : Program) (main : List ℕ) (place byte : ℕ) (found : Option StatError) (r : StatError) → IsJudged (IsFault is_asked p main) (AreKept is_asked p main) found
    → IsRecursive (program_view p) place → NoneRecursiveBefore (program_view p) place → ((node : Node) → slice_get p.nodes place ≡ Some node → byte ≡ node.byte)
    → Some r ≡ lesser_of found (Some (RecursiveNode byte)) → ReportsRule 1 (program_view p) main r × IsReportedFirst p main r
reported_with p main place byte found r judged recursive first at is =
    let fault : IsRecursionFault p (RecursiveNode byte) = recursion_at p place byte recursive first at in
    let own : IsJudged (IsRecursionFault p) (Unit {0}) (Some (RecursiveNode byte)) =
    (fault, λ f other. let e = one_recursion p (RecursiveNode byte) f fault other in inr (ap byte_of e, (let n = ap number_of e in omega (arith, n)))) in
    let both = judged_joined (IsFault is_asked p main) (IsRecursionFault p) (AreKept is_asked p main) (Unit {0}) found (Some (RecursiveNode byte)) (Some r) is judged own in (
      ⊎_elim {C = ReportsRule 1 (program_view p) main r} (reported_asked p main r) (λ (o : IsRecursionFault p r). subst (ReportsRule 1 (program_view p) main) (sym o.reported) (reported_recursive p main place o.node.byte recursive)) both.0,
      inr both,
    )

pub recursive_within : (p : Program) (scopes : List Node) (place : ℕ) → scopes ≡ p.nodes → IsRecursive (program_view p) place → place < length scopes
recursive_within p scopes place same h =
    let lt = slice_get_within (program_view p).nodes place h.0 h.1 in
    omega (arith, lt, length-map p.nodes node_view, ap length same)
