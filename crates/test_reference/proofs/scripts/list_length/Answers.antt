use Rattle.std.proofs.Common.{◌≡◌, ◌<◌, ◌∙◌, cond, ap, sym, arith}
use Rattle.luworld.specs.Needs.{PlanView}
use Rattle.luworld.specs.Outline.{Outline, messages_from}
use Rattle.luworld.specs.Jobs.{carried, outline, streams_of}
use Rattle.test_reference.proofs.Scripted.{counted_broken, counted_more, few_more}
use Rattle.test_reference.proofs.scripts.list_length.Goals as goal

pub returns-then-is_broken : goal.returns-then-is_broken
returns-then-is_broken c =
    let o : Outline = outline c.args.job.now (streams_of c.args.job.now) in
    let flow : c.carried-flow.result ≡ carried c.args.job.now.plan c.args.link = c.carried-flow.ensures ∙ ap (λ (p : PlanView). carried p c.args.link) c.plan.ensures.plan in
    let l : c.loop-instant.instant < c.args.job.now.inputs.instants = let t = c.loop-instant-test.true in let e = c.instants-instant-end.ensures in omega (arith, t, e) in
    counted_broken o c.carried-flow.result c.loop-instant.instant c.args.job.now.inputs.instants c.loop-instant.count l c.loop-instant.invariant.counted (sym c.is_broken.ensures ∙ c.if-is_broken.true) ∙ ap (λ i. messages_from o i 0 c.args.job.now.inputs.instants) flow

pub loop-instant-preserved : goal.loop-instant-preserved
loop-instant-preserved c =
    let o : Outline = outline c.args.job.now (streams_of c.args.job.now) in
    let l : c.loop-instant.instant < c.args.job.now.inputs.instants = let t = c.loop-instant-test.true in let e = c.instants-instant-end.ensures in omega (arith, t, e) in
    let one = c.one_if-count.ensures ∙ ap (λ b. cond b 1 0) c.is_present.ensures in
    record {
      counted = counted_more o c.carried-flow.result c.loop-instant.instant c.args.job.now.inputs.instants c.loop-instant.count c.one_if-count.result l c.loop-instant.invariant.counted (sym c.is_broken.ensures ∙ c.if-is_broken.false) one;
      few = few_more (o.present c.carried-flow.result c.loop-instant.instant) c.loop-instant.count c.one_if-count.result c.loop-instant.instant c.loop-instant.invariant.few one;
    }
