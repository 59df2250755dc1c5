use Rattle.std.proofs.Common.{◌≡◌, inl, inr, List, ℕ, All, sym, subst}
use Rattle.std.specs.Prelude.{Vec}
use Rattle.std.specs.Global.{Global}
use Rattle.std.proofs.lemmas.Result.{IfOk-weaker}
use Rattle.lutree.specs.declared.program.Program.{Program}
use Rattle.lutree.specs.Tree.{program_view}
use Rattle.lustat_rules.specs.Accepted.{Passes}
use Rattle.lustat_rules.specs.declared.error.StatError.{StatError}
use Rattle.lustat_rules.specs.Faults.{IsJudged}
use Rattle.lustat_rules.specs.AllFaults.{AreAllFaults}
use Rattle.lustat_init.specs.Assigned.{LeftsKnown}
use Rattle.lustat_init.specs.Faults.{AreKept, IsFault}
use Rattle.lustat_init.specs.Rows.{IfKept, fault_of}
use Rattle.lustat_init.proofs.Rowing.{lefts}
use Rattle.lustat.specs.AllFaults.{AreOfFirstStage, AreTold}
use Rattle.lustat.proofs.Reporting.{accepted_from}
use Rattle.lustat.proofs.Surveyed.{has_any, passes_clocks}
use Rattle.lustat.proofs.survey.class_faults.Goals as goal

pub initialise-requires : goal.initialise-requires
initialise-requires c =
    let p : Program = c.args.typed.now.program in
    subst (λ (x : Program). All LeftsKnown (program_view x).nodes) (sym c.catalog-catalog.ensures.catalog) (lefts (program_view p) c.args.typed.now.main c.catalog-catalog.ensures.names)

pub returns-in-Kept : goal.returns-in-Kept
returns-in-Kept c =
    let p : Program = c.args.typed.now.program in
    let main = c.args.typed.now.main in
    let seen : Program = c.catalog-catalog.result.now in
    let all = subst (λ f. IfKept f (λ _. (m : List ℕ) → Passes (program_view seen) m 3)) c.in-Kept.is c.in_ok-_classes.ensures.passes in
    let passes = subst (λ (x : Program). Passes (program_view x) main 3) c.catalog-catalog.ensures.catalog (all main) in
    inl (c.new.ensures.items, accepted_from p main c.catalog-catalog.ensures.names c.requires passes)

pub all_class_faults-requires : goal.all_class_faults-requires
all_class_faults-requires c =
    let p : Program = c.args.typed.now.program in
    subst (λ (x : Program). All LeftsKnown (program_view x).nodes) (sym c.catalog-catalog.ensures.catalog) (lefts (program_view p) c.args.typed.now.main c.catalog-catalog.ensures.names)

pub returns-in-Broken : goal.returns-in-Broken
returns-in-Broken c =
    let p : Program = c.args.typed.now.program in
    let main = c.args.typed.now.main in
    let seen : Program = c.catalog-catalog.result.now in
    let judged = subst (λ f. IsJudged (IsFault seen.nodes) (AreKept seen.nodes) (fault_of f)) c.in-Broken.is c.in_ok-_classes.ensures.first in
    IfOk-weaker c.all_class_faults.result (λ (xs : Vec StatError Global). AreAllFaults (IsFault seen.nodes) xs.items) (λ (xs : Vec StatError Global). AreTold p main xs.items)
    (λ xs h. inr (
      has_any (IsFault seen.nodes) xs.items c.in-Broken._fault judged.0 h,
      AreOfFirstStage.classes c.catalog-catalog.ensures.names (passes_clocks p main c.requires) (subst (λ (x : Program). AreAllFaults (IsFault x.nodes) xs.items) c.catalog-catalog.ensures.catalog h),
    ))
    c.all_class_faults.ensures
