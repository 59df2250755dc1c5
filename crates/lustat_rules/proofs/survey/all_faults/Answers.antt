use Rattle.std.proofs.Common.{List, Contains}
use Rattle.std.specs.Prelude.{Vec}
use Rattle.std.specs.Global.{Global}
use Rattle.std.proofs.lemmas.Result.{IfOk-weaker}
use Rattle.lustat_rules.specs.declared.error.StatError.{StatError}
use Rattle.lustat_rules.specs.Stages.{BrokenInType, BrokenInside, BrokenIn}
use Rattle.lustat_rules.specs.AllFaults.{AreAllFaults}
use Rattle.lustat_rules.proofs.Ordering.{all_of_gained}
use Rattle.lustat_rules.proofs.survey.all_faults.Goals as goal

pub returns : goal.returns
returns g c =
    let s = c.args.survey.now in
    let p = c.args.catalog.now in
    let F : StatError → Type 0 = BrokenIn p (BrokenInType (g.S.Stage.breaks_type s) (g.S.Stage.breaks_name s)) (BrokenInside (g.S.Stage.breaks_node s) (g.S.Stage.breaks_declaration s) (g.S.Stage.breaks_equation s)) in
    let found = c.push_faults.new.found.items in
    IfOk-weaker c.in_order.result (λ (xs : Vec StatError Global). AreAllFaults (Contains found) xs.items) (λ (xs : Vec StatError Global). AreAllFaults F xs.items)
    (λ xs h. all_of_gained F c.new-found.result.items found xs.items c.new-found.ensures.items c.in_ok-push_faults.ensures h)
    c.in_order.ensures
