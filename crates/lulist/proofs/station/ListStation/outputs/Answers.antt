use Rattle.std.proofs.Common.{ℕ, List, map, Option, Some, None, subst}
use Rattle.std.specs.Prelude.{IfSome, Vec}
use Rattle.std.specs.declared.alloc.Global.{Global}
use Rattle.luworld.specs.Sites.{AreWholeOutputs, IsSoundAt, SiteOfJob}
use Rattle.lusite_program.specs.Logs.{Log}
use Rattle.lulist.specs.Stations.{AreOutputRows}
use Rattle.lulist.proofs.Told.{sound_at, whole_outputs}
use Rattle.lulist.proofs.station.ListStation.outputs.Goals as goal

always : {X : Type 0} (o : Option X) (P : Type 0) → P → IfSome o (λ _. P)
always None P p = tt
always (Some x) P p = p

weaker : {X : Type 0} (o : Option X) (P Q : X → Type 0) → ((x : X) → P x → Q x) → IfSome o P → IfSome o Q
weaker None P Q f h = tt
weaker (Some x) P Q f h = f x h

pub returns-clause-sound : goal.returns-clause-sound
returns-clause-sound c =
    let x = c.self.inside.inner in
    let going = c.self.invariant.going c.if-self.false in
    let late = c.has_ended.ensures c.if-not-has_ended.false in
    always c.output_rows.result (IsSoundAt c.args.self.job c.args.self.site)
    (subst (λ (v : SiteOfJob). IsSoundAt v.job v.site) c.self.view_is (sound_at x going late))

pub returns-clause-whole : goal.returns-clause-whole
returns-clause-whole c =
    let x = c.self.inside.inner in
    let going = c.self.invariant.going c.if-self.false in
    let late = c.has_ended.ensures c.if-not-has_ended.false in
    weaker c.output_rows.result (λ (rows : Vec Log Global). AreOutputRows c.deref.result.now c.deref-2.result.now x.logs.items rows.items)
    (λ (rows : Vec Log Global). AreWholeOutputs c.args.self.job c.args.self.site (map (λ (row : Log). row.items) rows.items))
    (λ (rows : Vec Log Global) are.
    let are' : AreOutputRows x.flows.reported.items x.noted.items x.logs.items rows.items = subst (λ (ns : List ℕ). AreOutputRows x.flows.reported.items ns x.logs.items rows.items) c.deref-2.ensures.value (subst (λ (os : List (Option ℕ)). AreOutputRows os c.deref-2.result.now x.logs.items rows.items) c.deref.ensures.value are) in
    subst (λ (v : SiteOfJob). AreWholeOutputs v.job v.site (map (λ (row : Log). row.items) rows.items)) c.self.view_is (whole_outputs x going late rows.items are'))
    c.output_rows.ensures
