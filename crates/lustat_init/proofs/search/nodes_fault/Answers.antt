use Rattle.std.proofs.lemmas.Option.{slice_get_within}
use Rattle.std.proofs.lemmas.Result.{IfOk-weaker}
use Rattle.lustat_rules.specs.Faults.{IsJudged}
use Rattle.lustat_rules.proofs.Judging.{judged_same}
use Rattle.lustat_rules.specs.Stages.{KeptInType, KeptInside, BrokenIn, KeptIn}
use Rattle.lustat_init.specs.Faults.{EquationKept, AreKept, IsFault}
use Rattle.lustat_init.proofs.Surveyed.{InType, InNode, only_nodes, all_nodes}
use Rattle.lustat_init.proofs.search.nodes_fault.Goals as goal

pub invariant_of-least_fault : goal.invariant_of-least_fault
invariant_of-least_fault c =
    record {
      least = record { long = c.requires.long; each = λ i n at. (c.requires.each i n (slice_get_within c.args.catalog.now.nodes i n at) at).least };
    }

pub returns : goal.returns
returns c =
    let p = c.args.catalog.now in
    let P : Type 0 = KeptIn p (KeptInType (λ _ _. Unit {0}) (λ _ _ _ _. Unit {0})) (KeptInside (λ _ _. Unit {0}) (λ _ _ _. Unit {0}) (λ n _ q. EquationKept n q)) in
    IfOk-weaker c.least_fault.result (IsJudged (BrokenIn p InType InNode) P) (IsJudged (IsFault p.nodes) (AreKept p.nodes))
    (λ o judged. judged_same (BrokenIn p InType InNode) (IsFault p.nodes) P (AreKept p.nodes) o
    (only_nodes p)
    (all_nodes p)
    (λ h i n at. (h.1 i n at).1.1)
    judged)
    c.least_fault.ensures
