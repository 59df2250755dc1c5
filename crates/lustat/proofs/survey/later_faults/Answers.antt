use Rattle.std.proofs.Common.{◌≡◌, inr, List, ℕ, Option, Some, None, subst}
use Rattle.std.specs.Prelude.{Vec}
use Rattle.std.specs.Global.{Global}
use Rattle.std.proofs.lemmas.Result.{IfOk-weaker}
use Rattle.lutree.specs.declared.program.Program.{Program}
use Rattle.lustat_rules.specs.declared.error.StatError.{StatError}
use Rattle.lustat_rules.specs.Faults.{IsJudged, IsFault, AreKept}
use Rattle.lustat_rules.specs.AllFaults.{AreAllFaults}
use Rattle.lustat_clocks.specs.Asked.{is_asked}
use Rattle.lustat.specs.AllFaults.{AreOfFirstStage, AreTold}
use Rattle.lustat.proofs.Surveyed.{has_any}
use Rattle.lustat.proofs.survey.later_faults.Goals as goal

-- what is found in the program as it is lent holds of it
of_typed : (P : Program → List ℕ → Type 0) (seen p : Program) (said main : List ℕ) → seen ≡ p → said ≡ main → P seen said → P p main
of_typed P seen p said main same named h = subst (λ m. P p m) named (subst (λ (x : Program). P x said) same h)

pub class_faults-requires : goal.class_faults-requires
class_faults-requires c =
    let p : Program = c.args.typed.now.program in
    let main = c.args.typed.now.main in
    let seen : Program = c.catalog-catalog.result.now in
    let said = c.main-main.result.now in
    (of_typed (λ x m. IsJudged (IsFault is_asked x m) (AreKept is_asked x m) None) seen p said main c.catalog-catalog.ensures.catalog c.main-main.ensures
    (subst (IsJudged (IsFault is_asked seen said) (AreKept is_asked seen said)) c.in-None.is c.in_ok-found.ensures)).0

pub returns-in-Some : goal.returns-in-Some
returns-in-Some c =
    let p : Program = c.args.typed.now.program in
    let main = c.args.typed.now.main in
    let seen : Program = c.catalog-catalog.result.now in
    let said = c.main-main.result.now in
    let judged = subst (IsJudged (IsFault is_asked seen said) (AreKept is_asked seen said)) c.in-Some.is c.in_ok-found.ensures in
    IfOk-weaker c.all_clock_faults.result (λ (xs : Vec StatError Global). AreAllFaults (IsFault is_asked seen said) xs.items) (λ (xs : Vec StatError Global). AreTold p main xs.items)
    (λ xs h. inr (
      has_any (IsFault is_asked seen said) xs.items c.in-Some.field-0 judged.0 h,
      AreOfFirstStage.clocks c.catalog-catalog.ensures.names (of_typed (λ x m. AreAllFaults (IsFault is_asked x m) xs.items) seen p said main c.catalog-catalog.ensures.catalog c.main-main.ensures h),
    ))
    c.all_clock_faults.ensures
