use Rattle.std.proofs.Common.{◌≡◌, ℕ, List, take, count_by, ◌∙◌, ap, ap₂}
use Rattle.luworld.specs.Systems.{done, puts}
use Rattle.luworld.specs.Needs.{PlanView, home}
use Rattle.luworld.specs.Jobs.{carried, script, streams_of}
use Rattle.test_reference.specs.declared.item.Item.{Item}
use Rattle.test_reference.specs.AsItem.{as_item}
use Rattle.test_reference.proofs.AllScripts.{counted_in}
use Rattle.test_reference.proofs.worlds.put_count.Goals as goal

pub returns : goal.returns
returns c =
    let plan = c.args.job.now.plan in
    let link = c.args.link in
    let rows = c.args.scripts.now in
    let world = c.args.world.now in
    let site : c.from-sender.result ≡ home plan (carried plan link) = c.from-sender.ensures ∙ c.home.ensures ∙ ap₂ home c.plan.ensures.plan (c.carried.ensures ∙ ap (λ (p : PlanView). carried p link) c.plan-2.ensures.plan) in
    c.puts_in.ensures
    ∙ ap₂ (λ (n : ℕ) (xs : List Item). count_by (λ item. puts link (as_item item)) (take n xs)) c.done.ensures c.script_in.ensures
    ∙ counted_in (puts link) c.args.job.now rows c.from-sender.result (done world c.from-sender.result) c.requires
    ∙ ap (λ s. count_by (puts link) (take (done world s) (script c.args.job.now (streams_of c.args.job.now) s))) site
