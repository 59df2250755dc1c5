use Rattle.std.proofs.Common.{◌≡◌, ◌⊎◌, Some, Contains}
use Rattle.std.specs.Prelude.{Vec}
use Rattle.std.specs.Global.{Global}
use Rattle.std.proofs.lemmas.Result.{IfOk-weaker}
use Rattle.lutree.specs.Tree.{program_view}
use Rattle.lustat_rules.specs.Accepted.{ProgramKeeps, no_main}
use Rattle.lustat_rules.specs.declared.error.StatError.{StatError}
use Rattle.lustat_rules.specs.Faults.{ProgramFault, ProgramKept, TypeFault, NameFault, NodeFault, DeclarationFault, EquationFault}
use Rattle.lustat_rules.specs.Stages.{BrokenInType, BrokenInside, BrokenIn}
use Rattle.lustat_rules.specs.AllFaults.{AreAllFaults, Gains}
use Rattle.lustat_rules.proofs.Gaining.{gains_same, gains_then}
use Rattle.lustat_rules.proofs.Ordering.{all_of_gained}
use Rattle.lustat_rules.proofs.Telling.{gains_only}
use Rattle.lutype.specs.Asked.{is_asked}
use Rattle.lutype.specs.First.{IsRecursionFault, IsNameFault}
use Rattle.lutype.proofs.Places.{program_only}
use Rattle.lutype.proofs.survey.all_name_faults.Goals as goal

pub returns : goal.returns
returns c =
    let p = c.args.catalog.now in
    let main = c.args.main.now in
    let a = c.new-found.result.items in
    let b = c.push_fault.new.found.items in
    let d = c.push_faults.new.found.items in
    let f = c.push_fault-2.new.found.items in
    let S : StatError → Type 0 = ProgramFault is_asked p main in
    let B : StatError → Type 0 = BrokenIn p (BrokenInType (TypeFault is_asked p main) (NameFault is_asked p main)) (BrokenInside (NodeFault is_asked p main) (DeclarationFault is_asked p main) (EquationFault is_asked p main)) in
    let R : StatError → Type 0 = IsRecursionFault p in
    let whole : Gains S a b = gains_only S (ProgramKept is_asked p main) c.program_fault-whole.result no_main 0 a b (program_only 0 (ProgramKeeps (program_view p) main) tt tt tt tt tt tt tt tt) c.program_fault-whole.ensures c.in_ok-push_fault.ensures in
    let places : Gains B b d = c.in_ok-push_faults.ensures in
    let told = c.in_ok-recursion.ensures in
    let recursion : Gains R d f = gains_same (λ e. c.in_ok-recursion.recursion ≡ Some e) R d f (λ e h. (told e).0 h) (λ e h. (told e).1 h) c.in_ok-push_fault-2.ensures in
    let all : Gains (IsNameFault p main) a f = gains_then (λ e. S e ⊎ B e) R a d f (gains_then S B a b d whole places) recursion in
    IfOk-weaker c.in_order.result (λ (xs : Vec StatError Global). AreAllFaults (Contains f) xs.items) (λ (xs : Vec StatError Global). AreAllFaults (IsNameFault p main) xs.items)
    (λ xs h. all_of_gained (IsNameFault p main) a f xs.items c.new-found.ensures.items all h)
    c.in_order.ensures
