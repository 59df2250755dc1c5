-- All faults of the first stage that has any, and the first of them.
use Rattle.std.proofs.Common.{◌≡◌, ◌≢◌, ◌∙◌, ◌≤◌, ◌<◌, ◌⊎◌, inl, inr, ⊎_elim, ℕ, zero, suc, Bool, ◌&&◌, ◌||◌, nat_eq, nat_lt, true, List, [], ◌∷◌, length, get_or, Option, Some, None, IsTrue, All, Contains, refl, sym, ap, subst, arith, true≢false}
use Rattle.std.specs.Prelude.{IfSome, slice_get}
use Rattle.std.proofs.lemmas.Bool.{cases_lt}
use Rattle.std.proofs.lemmas.Bool.Decides.{nat_tests}
use Rattle.std.proofs.lemmas.List.Elements.{All-head}
use Rattle.lutree.specs.declared.program.Program.{Program}
use Rattle.lutree.specs.Tree.{program_view}
use Rattle.lustat_rules.specs.Accepted.{Rule, duplicate_name, unknown_name, unknown_node, type_mismatch, wrong_arity, undefined, defined_twice, recursive_node, no_main, bad_merge, clock_mismatch, not_a_clock, clocked_parameter, hidden_clock, maybe_nil, current_may_be_nil, stage, Passes, IsAccepted}
use Rattle.lustat_rules.specs.declared.error.StatError.{StatError}
use Rattle.lustat_rules.specs.Reported.{byte_of, number_of}
use Rattle.lustat_rules.specs.Faults.{is_before, IsAtMost, IsFault, AreKept}
use Rattle.lustat_rules.specs.Least.{IsLeastFault}
use Rattle.lustat_rules.proofs.Keeping.{broken_somewhere}
use Rattle.lustat_rules.specs.AllFaults.{AreAllFaults}
use Rattle.lutype.specs.Asked.{is_asked as is_name_rule}
use Rattle.lutype.specs.First.{IsRecursionFault, IsNameFault}
use Rattle.lustat_clocks.specs.Asked.{is_asked}
use Rattle.lustat_init.specs.Faults.{IsFault as IsClassFault}
use Rattle.lustat_init.proofs.Rowing.{reported_broken}
use Rattle.lustat.specs.First.{stage_reported, IsReportedFirst}
use Rattle.lustat.specs.AllFaults.{AreOfFirstStage, AreTold}
use Rattle.lustat.proofs.First.{stage_of_reported, first_of_clocks, first_of_classes}

-- where there is a fault the list isn't empty
pub has_any : (F : StatError → Type 0) (xs : List StatError) (e : StatError) → F e → AreAllFaults F xs → xs ≢ []
has_any F xs e fault h empty = let has : Contains [] e = subst (λ l. Contains l e) empty (h.all e fault) in let lt = has.1 in absurd (omega (arith, lt))

before_at_most : (a b m n : ℕ) → IsTrue (nat_lt a b || (nat_eq a b && nat_lt m n)) → (a < b) ⊎ ((a ≡ b) × (m ≤ n))
before_at_most a b m n h = go (cases_lt a b)
  where
    go : (a < b) ⊎ (b ≤ a) → (a < b) ⊎ ((a ≡ b) × (m ≤ n))
    go (inl lt) = inl lt
    go (inr le) = inr (grind (arith, nat_tests), grind (arith, nat_tests))

-- the first is the least
first_is_least : (F : StatError → Type 0) (x : StatError) (xs : List StatError) → AreAllFaults F (x ∷ xs) → IsLeastFault F x
first_is_least F x xs h = (All-head F x xs h.only, λ f fault. at_most f (h.all f fault))
  where
    place : (f : StatError) (k : ℕ) → k < length (x ∷ xs) → get_or (x ∷ xs) k f ≡ f → IsAtMost x f
    place f zero lt is = inr (ap byte_of is, (let n = ap number_of is in omega (arith, n)))
    place f (suc k) lt is =
        subst (IsAtMost x) is (before_at_most (byte_of x) (byte_of (get_or (x ∷ xs) (suc k) f)) (number_of x) (number_of (get_or (x ∷ xs) (suc k) f)) (h.ascend 0 (suc k) f (omega arith) lt))

    at_most : (f : StatError) → Contains (x ∷ xs) f → IsAtMost x f
    at_most f has = place f has.0 has.1 has.2

first_stage : (rule : Rule) → IsTrue (is_name_rule rule) → stage rule ≡ 1
first_stage duplicate_name one = refl
first_stage unknown_name one = refl
first_stage unknown_node one = refl
first_stage type_mismatch one = refl
first_stage wrong_arity one = refl
first_stage undefined one = refl
first_stage defined_twice one = refl
first_stage recursive_node one = absurd (true≢false (sym one))
first_stage no_main one = refl
first_stage bad_merge one = refl
first_stage clock_mismatch one = absurd (true≢false (sym one))
first_stage not_a_clock one = absurd (true≢false (sym one))
first_stage clocked_parameter one = absurd (true≢false (sym one))
first_stage hidden_clock one = absurd (true≢false (sym one))
first_stage maybe_nil one = absurd (true≢false (sym one))
first_stage current_may_be_nil one = absurd (true≢false (sym one))

first_of_all_names : (p : Program) (main : List ℕ) (e : StatError) → IsLeastFault (IsNameFault p main) e → IsReportedFirst p main e
first_of_all_names p main e least =
    IsReportedFirst.names
    (⊎_elim {C = stage_reported e ≡ 1}
    (λ (own : IsFault is_name_rule p main e). let b = broken_somewhere is_name_rule p main e own in stage_of_reported e b.rule b.reported ∙ first_stage b.rule b.one)
    (λ (r : IsRecursionFault p e). ap stage_reported r.reported)
    least.0)
    least

-- the first of all faults of a stage is reported first
first_of_stage : (p : Program) (main : List ℕ) (x : StatError) (xs : List StatError) → AreOfFirstStage p main (x ∷ xs) → IsReportedFirst p main x
first_of_stage p main x xs (AreOfFirstStage.names h) = first_of_all_names p main x (first_is_least (IsNameFault p main) x xs h)
first_of_stage p main x xs (AreOfFirstStage.clocks named h) = first_of_clocks p main x (first_is_least (IsFault is_asked p main) x xs h)
first_of_stage p main x xs (AreOfFirstStage.classes named clocked h) =
    let least = first_is_least (IsClassFault p.nodes) x xs h in
    first_of_classes p main x (reported_broken p main x least.0) least

-- WHAT IS TOLD

pub told_accepted : (p : Program) (main : List ℕ) (xs : List StatError) → AreTold p main xs → xs ≡ [] → IsAccepted (program_view p) main
told_accepted p main xs told empty = ⊎_elim {C = IsAccepted (program_view p) main} (λ a. a.1) (λ b. absurd (b.0 empty)) told

pub told_refused : (p : Program) (main : List ℕ) (xs : List StatError) → AreTold p main xs → xs ≢ [] → AreOfFirstStage p main xs
told_refused p main xs told some = ⊎_elim {C = AreOfFirstStage p main xs} (λ a. absurd (some a.0)) (λ b. b.1) told

pub told_first : (p : Program) (main : List ℕ) (xs : List StatError) → AreTold p main xs → IfSome (slice_get xs 0) (IsReportedFirst p main)
told_first p main [] told = tt
told_first p main (x ∷ xs) told = ⊎_elim {C = IsReportedFirst p main x} (λ a. absurd (let no : (x ∷ xs) ≡ [] = a.0 in let k : ⊥ = cc in k)) (λ b. first_of_stage p main x xs b.1) told

-- the rules of clocks, by stage
pub passes_clocks : (p : Program) (main : List ℕ) → AreKept is_asked p main → Passes (program_view p) main 2
passes_clocks p main kept rule second = kept rule (subst (λ n. IsTrue (nat_eq n 2)) (sym second) refl)
