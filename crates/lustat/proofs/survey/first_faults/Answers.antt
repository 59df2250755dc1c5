use Rattle.std.proofs.Common.{◌≡◌, ◌⊎◌, ⊎_elim, inr, List, ℕ, subst}
use Rattle.std.specs.Prelude.{Vec}
use Rattle.std.specs.Global.{Global}
use Rattle.std.proofs.lemmas.Result.{IfOk-weaker}
use Rattle.lutree.specs.declared.program.Program.{Program}
use Rattle.lustat_rules.specs.declared.error.StatError.{StatError}
use Rattle.lustat_rules.specs.Least.{IsLeastFault}
use Rattle.lustat_rules.specs.AllFaults.{AreAllFaults}
use Rattle.lutype.specs.First.{IsNameFault}
use Rattle.lustat.specs.AllFaults.{AreOfFirstStage, AreTold}
use Rattle.lustat.proofs.Surveyed.{has_any}
use Rattle.lustat.proofs.survey.first_faults.Goals as goal

pub returns-in-Ok : goal.returns-in-Ok
returns-in-Ok c =
    let p : Program = c.args.program.now in
    IfOk-weaker c.later_faults.result (λ (xs : Vec StatError Global). AreTold c.in-Ok.typed.program c.in-Ok.typed.main xs.items) (λ (xs : Vec StatError Global). AreTold p c.args.main.now xs.items)
    (λ xs h. subst (λ m. AreTold p m xs.items) c.in-Ok.ensures.main (subst (λ (x : Program). AreTold x c.in-Ok.typed.main xs.items) c.in-Ok.ensures.program h))
    c.later_faults.ensures

pub returns-in_ok-catalog-in-Err : goal.returns-in_ok-catalog-in-Err
returns-in_ok-catalog-in-Err c =
    let p : Program = c.args.program.now in
    let main = c.args.main.now in
    let seen : Program = c.in_ok-catalog-in-Err.catalog in
    let e = c.in-Err.refusal in
    let least : IsLeastFault (IsNameFault p main) e = ⊎_elim {C = IsLeastFault (IsNameFault p main) e} (λ memory. absurd (c.in_ok-is_of_program-in-Err.ensures memory)) (λ l. l) c.in-Err.ensures.first in
    IfOk-weaker c.all_name_faults.result (λ (xs : Vec StatError Global). AreAllFaults (IsNameFault seen main) xs.items) (λ (xs : Vec StatError Global). AreTold p main xs.items)
    (λ xs h.
    let all = subst (λ (x : Program). AreAllFaults (IsNameFault x main) xs.items) c.in_ok-catalog-in-Err.ensures h in
    inr (has_any (IsNameFault p main) xs.items e least.0 all, AreOfFirstStage.names all))
    c.all_name_faults.ensures
