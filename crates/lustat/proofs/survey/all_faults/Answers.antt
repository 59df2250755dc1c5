use Rattle.std.proofs.Common.{◌≡◌, ◌≢◌, []}
use Rattle.std.specs.Prelude.{Vec, IfSome, slice_get}
use Rattle.std.specs.Global.{Global}
use Rattle.std.proofs.lemmas.Result.{IfOk-weaker}
use Rattle.lutree.specs.Tree.{program_view}
use Rattle.lustat_rules.specs.Accepted.{IsAccepted}
use Rattle.lustat_rules.specs.declared.error.StatError.{StatError}
use Rattle.lustat.specs.First.{IsReportedFirst}
use Rattle.lustat.specs.AllFaults.{AreOfFirstStage, AreTold}
use Rattle.lustat.proofs.Surveyed.{told_accepted, told_refused, told_first}
use Rattle.lustat.proofs.survey.all_faults.Goals as goal

pub returns-clause-accepted : goal.returns-clause-accepted
returns-clause-accepted c =
    let p = c.args.program.now in
    let main = c.args.main.now in
    IfOk-weaker c.first_faults.result (λ (xs : Vec StatError Global). AreTold p main xs.items) (λ (xs : Vec StatError Global). xs.items ≡ [] → IsAccepted (program_view p) main) (λ xs told. told_accepted p main xs.items told)
    c.first_faults.ensures

pub returns-clause-refused : goal.returns-clause-refused
returns-clause-refused c =
    let p = c.args.program.now in
    let main = c.args.main.now in
    IfOk-weaker c.first_faults.result (λ (xs : Vec StatError Global). AreTold p main xs.items) (λ (xs : Vec StatError Global). xs.items ≢ [] → AreOfFirstStage p main xs.items) (λ xs told. told_refused p main xs.items told)
    c.first_faults.ensures

pub returns-clause-first : goal.returns-clause-first
returns-clause-first c =
    let p = c.args.program.now in
    let main = c.args.main.now in
    IfOk-weaker c.first_faults.result (λ (xs : Vec StatError Global). AreTold p main xs.items) (λ (xs : Vec StatError Global). IfSome (slice_get xs.items 0) (IsReportedFirst p main)) (λ xs told. told_first p main xs.items told)
    c.first_faults.ensures
