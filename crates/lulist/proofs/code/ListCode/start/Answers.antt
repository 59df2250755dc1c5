use Rattle.std.proofs.Common.{rules, ◌≡◌, ◌≤◌, ℕ, List, [], Some, Vec, Global, refl, sym, subst, ap, ◌∙◌}
use Rattle.std.specs.Prelude.{slice_get, vec_capacity, All, IfSome}
use Rattle.luworld.specs.Needs.{PlanView}
use Rattle.luworld.specs.Jobs.{JobView}
use Rattle.luworld.specs.Sites.{SiteOfPlan}
use Rattle.lulink.specs.Views.{IsUnusedReceiver, IsUnusedSender}
use Rattle.lusite_program.specs.Logs.{Log}
use Rattle.lulist.specs.declared.ends.Source.{Source}
use Rattle.lulist.specs.declared.ends.Outlet.{Outlet}
use Rattle.lulist.specs.declared.linking.ListLink.{ListLink}
use Rattle.lulist.specs.Starts.{IsFirstOutlet, IsFirstSource, IsListLink}
use Rattle.lulist.proofs.Begun.{framed, starts}
use Rattle.lulist.proofs.code.ListCode.start.Goals as goal

pub returns-clause-going : goal.returns-clause-going
returns-clause-going c =
    let a = c.self.inside in
    let inputs = c.args.inputs in
    let job = inputs.job in
    let places = a.flows.places.items in
    let plan_is : a.plan.value ≡ job.plan = ap (λ (x : SiteOfPlan). x.plan) c.self.view_is ∙ c.requires.plan in
    let site_is : a.site ≡ inputs.site = ap (λ (x : SiteOfPlan). x.site) c.self.view_is ∙ c.requires.site in
    let brought : All (IsListLink job.plan places) c.deref.result.now =
    subst (λ (xs : List ListLink). All (IsListLink job.plan places) xs) (sym c.deref.ensures.value) (subst (λ (p : PlanView). All (IsListLink p places) a.brought.items) plan_is c.self.invariant.brought) in
    let sent : All (IsListLink job.plan places) c.deref-2.result.now =
    subst (λ (xs : List ListLink). All (IsListLink job.plan places) xs) (sym c.deref-2.ensures.value) (subst (λ (p : PlanView). All (IsListLink p places) a.sent.items) plan_is c.self.invariant.sent) in
    let sources : All (IsFirstSource job places) c.in-Some.sources.items =
    subst (λ o. IfSome o (λ (v : Vec Source Global). (j : JobView) (ps : List ℕ) → All (IsUnusedReceiver j) c.args.rxs.items → All (IsListLink j.plan ps) c.deref.result.now → All (IsFirstSource j ps) v.items))
    c.in-Some.is c.in_ok-sources.ensures job places c.requires.receivers brought in
    let outlets : All (IsFirstOutlet job places) c.in-Some-2.outlets.items =
    subst (λ o. IfSome o (λ (v : Vec Outlet Global). (j : JobView) (ps : List ℕ) → All (IsUnusedSender j) c.args.txs.items → All (IsListLink j.plan ps) c.deref-2.result.now → All (IsFirstOutlet j ps) v.items))
    c.in-Some-2.is c.in_ok-outlets.ensures job places c.requires.senders sent in
    let logs : (n : ℕ) (row : Log) → slice_get c.in_ok-logs.logs.items n ≡ Some row → (row.items ≡ []) × (job.inputs.instants ≤ vec_capacity row) = λ n row there.
    let is = c.in_ok-logs.ensures.each n row there in
    (is.0, subst (λ (m : ℕ). m ≤ vec_capacity row) c.instants.ensures is.1) in
    starts _ (framed a inputs c.self.invariant c.recall_invariant.ensures plan_is site_is) refl refl (search rules) (search rules) sources outlets (search rules) logs
