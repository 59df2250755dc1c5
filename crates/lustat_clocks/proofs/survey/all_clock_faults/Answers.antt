use Rattle.std.proofs.Common.{inl, inr, ⊎_elim}
use Rattle.std.specs.Prelude.{Vec}
use Rattle.std.specs.Global.{Global}
use Rattle.std.proofs.lemmas.Result.{IfOk-weaker}
use Rattle.lutree.specs.Tree.{program_view}
use Rattle.lustat_rules.specs.Accepted.{Rule, ProgramKeeps}
use Rattle.lustat_rules.specs.declared.error.StatError.{StatError}
use Rattle.lustat_rules.specs.Faults.{TypeFault, NameFault, NodeFault, DeclarationFault, EquationFault, IsFault}
use Rattle.lustat_rules.specs.Stages.{BrokenInType, BrokenInside, BrokenIn}
use Rattle.lustat_rules.specs.AllFaults.{AreAllFaults}
use Rattle.lustat_rules.proofs.Ordering.{all_faults_same}
use Rattle.lustat_clocks.specs.Asked.{is_asked}
use Rattle.lustat_clocks.proofs.Places.{silent_judged}
use Rattle.lustat_clocks.proofs.survey.all_clock_faults.Goals as goal

pub returns : goal.returns
returns c =
    let p = c.args.catalog.now in
    let main = c.args.main.now in
    let B : StatError → Type 0 = BrokenIn p (BrokenInType (TypeFault is_asked p main) (NameFault is_asked p main)) (BrokenInside (NodeFault is_asked p main) (DeclarationFault is_asked p main) (EquationFault is_asked p main)) in
    let silent = (silent_judged 0 (λ (rule : Rule). ProgramKeeps (program_view p) main rule) tt tt tt tt).1 in
    IfOk-weaker c.all_faults.result (λ (xs : Vec StatError Global). AreAllFaults B xs.items) (λ (xs : Vec StatError Global). AreAllFaults (IsFault is_asked p main) xs.items)
    (λ xs h. all_faults_same B (IsFault is_asked p main) xs.items (λ e b. inr b) (λ e w. ⊎_elim {C = B e} (λ whole. absurd (silent e whole)) (λ b. b) w) h)
    c.all_faults.ensures
