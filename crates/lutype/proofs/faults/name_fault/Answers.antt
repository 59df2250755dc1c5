use Rattle.std.proofs.Common.{refl}
use Rattle.lutree.specs.Tree.{program_view, node_view}
use Rattle.lustat_rules.specs.Accepted.{Rule, NodeKeeps, duplicate_name}
use Rattle.lustat_rules.specs.declared.error.StatError.TheVariants.{DuplicateName}
use Rattle.lustat_rules.proofs.Judging.{judged_reported}
use Rattle.lutype.proofs.Places.{name_judged}
use Rattle.lutype.proofs.faults.name_fault.Goals as goal

pub returns : goal.returns
returns c = λ main.
    let n = c.args.node.now in
    let K : Rule → Type 0 = λ rule. NodeKeeps (program_view c.args.catalog.now) main rule c.args.place (node_view n) in
    name_judged n.byte K c.reported.result tt tt tt tt tt tt tt tt
    (judged_reported duplicate_name n.byte (K duplicate_name) c.is_new_node-is_new.result (DuplicateName n.byte) c.reported.result c.reported.ensures refl refl c.is_new_node-is_new.ensures)
