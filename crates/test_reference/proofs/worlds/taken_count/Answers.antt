use Rattle.std.proofs.Common.{◌≡◌, ℕ, List, take, count_by, ◌∙◌, ap, ap₂}
use Rattle.luworld.specs.Systems.{done, takes}
use Rattle.luworld.specs.Needs.{PlanView}
use Rattle.luworld.specs.Jobs.{receiver_of, script, streams_of}
use Rattle.test_reference.specs.declared.item.Item.{Item}
use Rattle.test_reference.specs.AsItem.{as_item}
use Rattle.test_reference.proofs.AllScripts.{counted_in}
use Rattle.test_reference.proofs.worlds.taken_count.Goals as goal

pub returns : goal.returns
returns c =
    let plan = c.args.job.now.plan in
    let link = c.args.link in
    let rows = c.args.scripts.now in
    let world = c.args.world.now in
    let site : c.from-receiver.result ≡ receiver_of plan link = c.from-receiver.ensures ∙ c.receiver_of.ensures ∙ ap (λ (p : PlanView). receiver_of p link) c.plan.ensures.plan in
    c.takes_in.ensures
    ∙ ap₂ (λ (n : ℕ) (xs : List Item). count_by (λ item. takes link (as_item item)) (take n xs)) c.done.ensures c.script_in.ensures
    ∙ counted_in (takes link) c.args.job.now rows c.from-receiver.result (done world c.from-receiver.result) c.requires
    ∙ ap (λ s. count_by (takes link) (take (done world s) (script c.args.job.now (streams_of c.args.job.now) s))) site
