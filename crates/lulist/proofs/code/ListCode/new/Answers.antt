use Rattle.std.proofs.Common.{◌≡◌, ◌<◌, List, Vec, Global, All, IfSome, sym, subst}
use Rattle.luworld.specs.Needs.{PlanView, sites_of}
use Rattle.lulist.specs.declared.linking.ListLink.{ListLink}
use Rattle.lulist.specs.Rows.{AreOrderedFlows}
use Rattle.lulist.specs.Starts.{IsListLink}
use Rattle.lulist.proofs.code.ListCode.new.Goals as goal

pub invariant_of-result : goal.invariant_of-result
invariant_of-result c =
    let plan = c.args.plan.now in
    let site = c.args.site in
    let flows = c.in-Some.flows in
    let places = flows.places.items in
    let back : plan ≡ c.of.result.value = sym c.of.ensures in
    let ordered : AreOrderedFlows plan site flows = subst (λ o. IfSome o (AreOrderedFlows plan site)) c.in-Some.is c.in_ok-flows.ensures in
    let brought : All (IsListLink plan places) c.in-Some-2.brought.items = subst (λ o. IfSome o (λ (v : Vec ListLink Global). All (IsListLink plan places) v.items)) c.in-Some-2.is c.in_ok-brought.ensures in
    let sent : All (IsListLink plan places) c.in-Some-3.sent.items = subst (λ o. IfSome o (λ (v : Vec ListLink Global). All (IsListLink plan places) v.items)) c.in-Some-3.is c.in_ok-sent.ensures in
    let moved = λ (xs : List ListLink) (h : All (IsListLink plan places) xs). subst (λ (p : PlanView). All (IsListLink p places) xs) back h in
    record {
      inside = subst (λ (p : PlanView). site < sites_of p) back c.requires;
      flows = subst (λ (p : PlanView). AreOrderedFlows p site flows) back ordered;
      brought = moved c.in-Some-2.brought.items brought;
      sent = moved c.in-Some-3.sent.items sent;
    }
