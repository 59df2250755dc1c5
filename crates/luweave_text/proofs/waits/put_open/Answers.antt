use Rattle.std.proofs.Common.{◌≡◌, ◌++◌, ℕ, ap, sym, ◌∙◌, string_bytes}
use Rattle.std.proofs.lemmas.Result.{IfOk-weaker}
use Rattle.luworld.specs.Needs.{PlanView}
use Rattle.luworld.specs.Systems.{turn}
use Rattle.luworld.specs.Jobs.{system_of}
use Rattle.lusite.specs.Sites.{SiteView}
use Rattle.luweave_text.specs.Waits.{instant_text, stand_text}
use Rattle.luweave_text.specs.WorldText.{site_name}
use Rattle.luweave_text.proofs.Lines.{part_more, when_ok}
use Rattle.luweave_text.proofs.waits.put_open.Goals as goal

pub returns : goal.returns
returns c = λ item there.
    let w = c.args.world.now in
    let s = c.args.site in
    let plan : c.args.plan.now ≡ w.job.plan = sym c.requires.plan_is in
    let before = string_bytes c.args.text.now in
    let opened = string_bytes c.push_str-2.new.self in
    let parted = string_bytes c.push_str-3.new.self in
    let named = c.in_ok-push_str.ensures.bytes ∙ ap (λ xs. before ++ xs) (c.site_name.ensures ∙ ap (λ ns. site_name ns s) c.sites.ensures ∙ ap (λ (p : PlanView). site_name p.names s) plan) in
    let instants = c.instants.ensures.instants ∙ ap (λ (v : SiteView). v.job.inputs.instants) c.site.ensures in
    let timed = c.in_ok-put_instant.ensures ∙ ap (λ (k : ℕ). opened ++ instant_text k c.args.instant) instants in
    let stands = c.in_ok-put_stand.ensures item there ∙ ap (λ (p : PlanView). parted ++ stand_text p item (turn (system_of w.job) w.dones s)) plan in
    IfOk-weaker c.push_str-4.result _ _ (λ r more.
    part_more before (string_bytes c.push_str.new.self) _ _ _ named
    (part_more (string_bytes c.push_str.new.self) opened _ _ _ c.in_ok-push_str-2.ensures.bytes
    (part_more opened (string_bytes c.put_instant.new.text) _ _ _ timed
    (part_more (string_bytes c.put_instant.new.text) parted _ _ _ c.in_ok-push_str-3.ensures.bytes
    (part_more parted (string_bytes c.put_stand.new.text) _ _ _ stands more))))) (when_ok c.push_str-4.result _ _ _ c.push_str-4.ensures.bytes)
