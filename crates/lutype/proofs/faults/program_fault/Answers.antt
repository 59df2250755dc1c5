use Rattle.std.proofs.Common.{refl}
use Rattle.lutree.specs.Tree.{program_view}
use Rattle.lustat_rules.specs.Accepted.{ProgramKeeps, no_main}
use Rattle.lustat_rules.specs.declared.error.StatError.TheVariants.{NoMain}
use Rattle.lustat_rules.proofs.Judging.{judged_reported}
use Rattle.lutype.proofs.Places.{program_judged}
use Rattle.lutype.proofs.faults.program_fault.Goals as goal

pub returns : goal.returns
returns c =
    let K = ProgramKeeps (program_view c.args.catalog.now) c.args.main.now in
    program_judged 0 K c.reported.result tt tt tt tt tt tt tt tt
    (judged_reported no_main 0 (K no_main) c.has_main.result NoMain c.reported.result c.reported.ensures refl refl c.has_main.ensures)
