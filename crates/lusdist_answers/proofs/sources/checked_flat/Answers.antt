use Rattle.std.proofs.Common.{ℕ, List, refl, subst}
use Rattle.lutree.specs.declared.program.Program.{Program}
use Rattle.lutree.specs.Tree.{program_view}
use Rattle.lucore.specs.Result.{Refuses}
use Rattle.lusdist_call.specs.Refused.IsReportedOf.{rule, flat}
use Rattle.lusdist_answers.proofs.sources.checked_flat.Goals as goal

pub returns-in-Err-clause-reported : goal.returns-in-Err-clause-reported
returns-in-Err-clause-reported c = rule c.in-Err.e c.args.program.now refl c.in-Err.ensures.reported refl refl c.in-Err.ensures.first

pub returns-clause-reported : goal.returns-clause-reported
returns-clause-reported c =
    let e = c.in-Err-flatten.e in
    let checked = c.in-Ok.checked in
    let same = subst (λ (g : Program). Refuses (program_view g) checked.main e) c.in-Ok.ensures.program c.in-Err-flatten.ensures.refuses in
    flat e refl c.in-Ok.ensures.accepted (subst (λ (name : List ℕ). Refuses (program_view c.args.program.now) name e) c.in-Ok.ensures.main same)
