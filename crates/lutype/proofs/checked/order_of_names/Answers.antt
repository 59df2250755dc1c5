use Rattle.std.proofs.Common.{refl, subst, List, ℕ}
use Rattle.lutree.specs.Tree.{program_view}
use Rattle.lustat_rules.specs.Naming.{Reaches, IsCallOrder}
use Rattle.lustat_rules.specs.Faults.{IsJudged, IsFault, AreKept}
use Rattle.lutype.specs.CallAnswer.{IfSorted, IfRecursive}
use Rattle.lutype.specs.CallGraph.{IsRecursive, NoneRecursiveBefore}
use Rattle.lutype.specs.Asked.{is_asked}
use Rattle.lutype.proofs.Reported.{named_from, reported_alone, reported_with, recursive_within}
use Rattle.lutype.proofs.checked.order_of_names.Goals as goal

pub returns-in-None-clause-order : goal.returns-in-None-clause-order
returns-in-None-clause-order c =
    let p = c.args.catalog.now in
    let main = c.args.main.now in
    let judged = subst (IsJudged (IsFault is_asked p main) (AreKept is_asked p main)) c.in-None.is c.in_ok-found.ensures in
    record {
      names = named_from p main judged.0 (subst (λ o. IfSorted o (λ _. (f : List ℕ) → ¬ Reaches (program_view p) f f)) c.in-Sorted.is c.in_ok-order.ensures.straight);
      calls = subst (λ o. IfSorted o (IsCallOrder (program_view p))) c.in-Sorted.is c.in_ok-order.ensures.order;
    }

pub returns-in-Some-clause-reported : goal.returns-in-Some-clause-reported
returns-in-Some-clause-reported c =
    let main = c.args.main.now in
    let e = c.in-Some.fault in
    let judged = subst (IsJudged (IsFault is_asked c.args.catalog.now main) (AreKept is_asked c.args.catalog.now main)) c.in-Some.is c.in_ok-found.ensures in
    let straight = subst (λ o. IfSorted o (λ _. (f : List ℕ) → ¬ Reaches (program_view c.args.catalog.now) f f)) c.in-Sorted.is c.in_ok-order.ensures.straight in
    (reported_alone c.args.catalog.now main e judged straight).0

pub returns-in-Some-clause-first : goal.returns-in-Some-clause-first
returns-in-Some-clause-first c =
    let main = c.args.main.now in
    let e = c.in-Some.fault in
    let judged = subst (IsJudged (IsFault is_asked c.args.catalog.now main) (AreKept is_asked c.args.catalog.now main)) c.in-Some.is c.in_ok-found.ensures in
    let straight = subst (λ o. IfSorted o (λ _. (f : List ℕ) → ¬ Reaches (program_view c.args.catalog.now) f f)) c.in-Sorted.is c.in_ok-order.ensures.straight in
    (reported_alone c.args.catalog.now main e judged straight).1

pub byte_of_node-byte-requires : goal.byte_of_node-byte-requires
byte_of_node-byte-requires c =
    recursive_within c.args.catalog.now c.args.catalog.now.nodes c.in-Recursive.place refl
    (subst (λ o. IfRecursive o (IsRecursive (program_view c.args.catalog.now))) c.in-Recursive.is c.in_ok-order.ensures.recursive)

pub returns-in-Recursive-clause-reported : goal.returns-in-Recursive-clause-reported
returns-in-Recursive-clause-reported c =
    let p = c.args.catalog.now in
    let main = c.args.main.now in
    let recursive = subst (λ o. IfRecursive o (IsRecursive (program_view p))) c.in-Recursive.is c.in_ok-order.ensures.recursive in
    let first = subst (λ o. IfRecursive o (NoneRecursiveBefore (program_view p))) c.in-Recursive.is c.in_ok-order.ensures.first in
    (reported_with p main c.in-Recursive.place c.byte_of_node-byte.result c.in_ok-found.found c.with_recursion.result c.in_ok-found.ensures recursive first c.byte_of_node-byte.ensures c.with_recursion.ensures).0

pub returns-in-Recursive-clause-first : goal.returns-in-Recursive-clause-first
returns-in-Recursive-clause-first c =
    let p = c.args.catalog.now in
    let main = c.args.main.now in
    let recursive = subst (λ o. IfRecursive o (IsRecursive (program_view p))) c.in-Recursive.is c.in_ok-order.ensures.recursive in
    let first = subst (λ o. IfRecursive o (NoneRecursiveBefore (program_view p))) c.in-Recursive.is c.in_ok-order.ensures.first in
    (reported_with p main c.in-Recursive.place c.byte_of_node-byte.result c.in_ok-found.found c.with_recursion.result c.in_ok-found.ensures recursive first c.byte_of_node-byte.ensures c.with_recursion.ensures).1
