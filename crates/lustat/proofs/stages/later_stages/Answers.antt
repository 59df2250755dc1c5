use Rattle.std.proofs.Common.{◌≡◌, List, ℕ, Option, Some, None, subst}
use Rattle.lutree.specs.declared.program.Program.{Program}
use Rattle.lustat_rules.specs.declared.error.StatError.{StatError}
use Rattle.lustat_rules.specs.Faults.{IsJudged, IsFault, AreKept}
use Rattle.lustat_clocks.specs.Asked.{is_asked}
use Rattle.lustat.proofs.Reporting.{reported_by_clocks}
use Rattle.lustat.proofs.First.{first_of_clocks}
use Rattle.lustat.proofs.stages.later_stages.Goals as goal

-- what the search for clocks finds
abbrev Judged : Program → List ℕ → Option StatError → Type 0
Judged p main = IsJudged (IsFault is_asked p main) (AreKept is_asked p main)

-- it finds it in the program, with the name of its main node
of_typed : (seen p : Program) (said main : List ℕ) (o : Option StatError) → seen ≡ p → said ≡ main → Judged seen said o → Judged p main o
of_typed seen p said main o same named judged = subst (λ m. Judged p m o) named (subst (λ (x : Program). Judged x said o) same judged)

pub returns-in-Some-clause-reported : goal.returns-in-Some-clause-reported
returns-in-Some-clause-reported c =
    let found = subst (Judged c.catalog.result.now c.main-main.result.now) c.in-Some.is c.in_ok-fault.ensures in
    let judged = of_typed c.catalog.result.now c.args.typed.now.program c.main-main.result.now c.args.typed.now.main (Some c.in-Some.fault) c.catalog.ensures.catalog c.main-main.ensures found in
    reported_by_clocks c.args.typed.now.program c.args.typed.now.main c.in-Some.fault c.catalog.ensures.names judged.0

pub returns-in-Some-clause-first : goal.returns-in-Some-clause-first
returns-in-Some-clause-first c =
    let found = subst (Judged c.catalog.result.now c.main-main.result.now) c.in-Some.is c.in_ok-fault.ensures in
    let judged = of_typed c.catalog.result.now c.args.typed.now.program c.main-main.result.now c.args.typed.now.main (Some c.in-Some.fault) c.catalog.ensures.catalog c.main-main.ensures found in
    first_of_clocks c.args.typed.now.program c.args.typed.now.main c.in-Some.fault judged

pub classes_of-requires : goal.classes_of-requires
classes_of-requires c =
    let found = subst (Judged c.catalog.result.now c.main-main.result.now) c.in-None.is c.in_ok-fault.ensures in
    (of_typed c.catalog.result.now c.args.typed.now.program c.main-main.result.now c.args.typed.now.main None c.catalog.ensures.catalog c.main-main.ensures found).0
