use Rattle.std.proofs.Common.{None, refl}
use Rattle.std.proofs.lemmas.Result.{IfOk-weaker}
use Rattle.lutree.specs.Tree.{program_view}
use Rattle.lustat_rules.specs.Accepted.{Rule, ProgramKeeps}
use Rattle.lustat_rules.specs.Faults.{IsJudged, ProgramFault, ProgramKept, TypeFault, TypeKept, NameFault, NameKept, NodeFault, NodeKept, DeclarationFault, DeclarationKept, EquationFault, EquationKept, IsFault, AreKept}
use Rattle.lustat_rules.specs.Stages.{BrokenInType, KeptInType, BrokenInside, KeptInside, BrokenIn, KeptIn}
use Rattle.lustat_rules.proofs.Keeping.{judged_program}
use Rattle.lustat_clocks.specs.Asked.{is_asked}
use Rattle.lustat_clocks.proofs.Places.{silent_judged}
use Rattle.lustat_clocks.proofs.search.clock_fault.Goals as goal

pub returns : goal.returns
returns c =
    let p = c.args.catalog.now in
    let main = c.args.main.now in
    let whole : IsJudged (ProgramFault is_asked p main) (ProgramKept is_asked p main) None = silent_judged 0 (λ (rule : Rule). ProgramKeeps (program_view p) main rule) tt tt tt tt in
    IfOk-weaker c.least_fault.result
    (IsJudged
    (BrokenIn p (BrokenInType (TypeFault is_asked p main) (NameFault is_asked p main)) (BrokenInside (NodeFault is_asked p main) (DeclarationFault is_asked p main) (EquationFault is_asked p main)))
    (KeptIn p (KeptInType (TypeKept is_asked p main) (NameKept is_asked p main)) (KeptInside (NodeKept is_asked p main) (DeclarationKept is_asked p main) (EquationKept is_asked p main))))
    (IsJudged (IsFault is_asked p main) (AreKept is_asked p main))
    (λ o judged. judged_program is_asked p main None o o refl whole judged)
    c.least_fault.ensures
