use Rattle.lustat_rules.proofs.Keeping.{judged_program}
use Rattle.lutype.specs.Asked.{is_asked}
use Rattle.lutype.proofs.search.least_fault.Goals as goal

pub returns : goal.returns
returns c =
    judged_program is_asked c.args.catalog.now c.args.main.now c.program_fault.result c.in_ok-of_places.of_places c.lesser.result c.lesser.ensures c.program_fault.ensures c.in_ok-of_places.ensures
