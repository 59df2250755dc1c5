use Rattle.std.proofs.Common.{List, ℕ, refl, subst}
use Rattle.lutree.specs.Tree.{program_view}
use Rattle.lustat_rules.specs.Naming.{Reaches}
use Rattle.lustat_rules.specs.declared.error.StatError.TheVariants.{RecursiveNode}
use Rattle.lutype.specs.CallAnswer.{IfSorted, IfRecursive}
use Rattle.lutype.specs.CallGraph.{IsRecursive, NoneRecursiveBefore}
use Rattle.lutype.proofs.Reported.{recursion_at, recursion_told, recursive_within}
use Rattle.lutype.proofs.survey.recursion_fault.Goals as goal

pub returns-in-Sorted : goal.returns-in-Sorted
returns-in-Sorted c = λ e.
    let p = c.args.catalog.now in
    let straight = subst (λ o. IfSorted o (λ _. (f : List ℕ) → ¬ Reaches (program_view p) f f)) c.in-Sorted.is c.in_ok-_order.ensures.straight in
    (λ is. absurd (cc), λ r. absurd (straight r.node.name r.recursive))

pub byte_of_node-byte-requires : goal.byte_of_node-byte-requires
byte_of_node-byte-requires c =
    recursive_within c.args.catalog.now c.args.catalog.now.nodes c.in-Recursive.place refl
    (subst (λ o. IfRecursive o (IsRecursive (program_view c.args.catalog.now))) c.in-Recursive.is c.in_ok-_order.ensures.recursive)

pub returns-in-Recursive : goal.returns-in-Recursive
returns-in-Recursive c = λ e.
    let p = c.args.catalog.now in
    let recursive = subst (λ o. IfRecursive o (IsRecursive (program_view p))) c.in-Recursive.is c.in_ok-_order.ensures.recursive in
    let first = subst (λ o. IfRecursive o (NoneRecursiveBefore (program_view p))) c.in-Recursive.is c.in_ok-_order.ensures.first in
    let byte = c.byte_of_node-byte.result in
    recursion_told p (RecursiveNode byte) (recursion_at p c.in-Recursive.place byte recursive first c.byte_of_node-byte.ensures) e
