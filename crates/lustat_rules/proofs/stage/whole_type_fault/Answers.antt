use Rattle.lustat_rules.specs.declared.error.StatError.{StatError}
use Rattle.lustat_rules.specs.Faults.{FaultAmong, KeptAmong}
use Rattle.lustat_rules.proofs.Judging.{judged_joined}
use Rattle.lustat_rules.proofs.stage.whole_type_fault.Goals as goal

pub returns : goal.returns
returns g c =
    let s = c.args.stage.now in
    let i = c.args.place in
    let t = c.args.declaration.now in
    let S : StatError → Type 0 = g.S.Stage.breaks_type s i t in
    let T : StatError → Type 0 = FaultAmong t.names (g.S.Stage.breaks_name s i t) in
    let P : Type 0 = g.S.Stage.keeps_type s i t in
    let Q : Type 0 = KeptAmong t.names (g.S.Stage.keeps_name s i t) in
    judged_joined S T P Q c.type_fault-of_type.result c.names_fault-of_names.result c.lesser.result c.lesser.ensures c.type_fault-of_type.ensures c.names_fault-of_names.ensures
