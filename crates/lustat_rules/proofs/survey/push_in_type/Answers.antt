use Rattle.std.proofs.lemmas.Result.{IfOk-weaker}
use Rattle.lustat_rules.specs.declared.error.StatError.{StatError}
use Rattle.lustat_rules.specs.Faults.{FaultAmong}
use Rattle.lustat_rules.specs.Stages.{BrokenInType}
use Rattle.lustat_rules.specs.AllFaults.{Gains}
use Rattle.lustat_rules.proofs.Gaining.{gains_then}
use Rattle.lustat_rules.proofs.survey.push_in_type.Goals as goal

pub returns : goal.returns
returns g c =
    let s = c.args.survey.now in
    let i = c.args.place in
    let t = c.args.declaration.now in
    let a = c.args.found.now.items in
    let b = c.push_type_faults.new.found.items in
    let d = c.push_of_names.new.found.items in
    let S : StatError → Type 0 = g.S.Stage.breaks_type s i t in
    let T : StatError → Type 0 = FaultAmong t.names (g.S.Stage.breaks_name s i t) in
    IfOk-weaker c.push_of_names.result (λ _. Gains T b d) (λ _. Gains (BrokenInType (g.S.Stage.breaks_type s) (g.S.Stage.breaks_name s) i t) a d)
    (λ _ later. gains_then S T a b d c.in_ok-push_type_faults.ensures later)
    c.push_of_names.ensures
