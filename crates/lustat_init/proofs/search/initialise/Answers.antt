use Rattle.std.proofs.Common.{List, Bool, All, length, sym, subst}
use Rattle.std.specs.Prelude.{Vec}
use Rattle.std.specs.Global.{Global}
use Rattle.lutree.specs.declared.program.Node.{Node}
use Rattle.lutree.specs.Tree.{node_view}
use Rattle.lustat_rules.specs.Faults.{IsJudged}
use Rattle.lustat_init.specs.Assigned.{LeftsKnown}
use Rattle.lustat_init.specs.Faults.{AreKept, IsFault}
use Rattle.lustat_init.specs.Rows.{plain, GiveLeastBelow}
use Rattle.lustat_init.proofs.Rowing.{all_of_views, classes_kept, all_pass, reported_broken}
use Rattle.lustat_init.proofs.search.initialise.Goals as goal

pub rows_of-requires : goal.rows_of-requires
rows_of-requires c =
    subst (λ (ns : List Node). All (λ (n : Node). LeftsKnown (node_view n)) ns) (sym c.scopes.ensures) (all_of_views LeftsKnown c.args.catalog.now.nodes c.requires)

pub nodes_fault-requires : goal.nodes_fault-requires
nodes_fault-requires c =
    let nodes : List Node = c.args.catalog.now.nodes in
    let least = subst (λ (ns : List Node). GiveLeastBelow (length ns) ns (plain c.in_ok-rows.rows.items)) c.scopes.ensures c.in_ok-rows.ensures in
    subst (λ (rs : List (Vec Bool Global)). GiveLeastBelow (length nodes) nodes (plain rs)) (sym c.deref.ensures.value) least

pub returns-in-None-clause-classes : goal.returns-in-None-clause-classes
returns-in-None-clause-classes c =
    let nodes : List Node = c.args.catalog.now.nodes in
    let kept = subst (IsJudged (IsFault nodes) (AreKept nodes)) c.in-None.is c.in_ok-nodes_fault.ensures in
    let least = subst (λ (ns : List Node). GiveLeastBelow (length ns) ns (plain c.in_ok-rows.rows.items)) c.scopes.ensures c.in_ok-rows.ensures in
    classes_kept c.args.catalog.now (plain c.in_ok-rows.rows.items) least kept.0

pub returns-in-None-clause-passes : goal.returns-in-None-clause-passes
returns-in-None-clause-passes c = λ main.
    let nodes : List Node = c.args.catalog.now.nodes in
    let kept = subst (IsJudged (IsFault nodes) (AreKept nodes)) c.in-None.is c.in_ok-nodes_fault.ensures in
    let least = subst (λ (ns : List Node). GiveLeastBelow (length ns) ns (plain c.in_ok-rows.rows.items)) c.scopes.ensures c.in_ok-rows.ensures in
    all_pass c.args.catalog.now (plain c.in_ok-rows.rows.items) least kept.0 main

pub returns-in-Some-clause-broken : goal.returns-in-Some-clause-broken
returns-in-Some-clause-broken c = λ main.
    let nodes : List Node = c.args.catalog.now.nodes in
    let judged = subst (IsJudged (IsFault nodes) (AreKept nodes)) c.in-Some.is c.in_ok-nodes_fault.ensures in
    reported_broken c.args.catalog.now main c.in-Some.fault judged.0
