use Rattle.std.proofs.Common.{◌≡◌, ap, ◌∙◌}
use Rattle.luflow.specs.Program.{FlatView}
use Rattle.luworld.specs.Needs.{PlanView}
use Rattle.lutab.specs.Outputs.{output_text}
use Rattle.example_embed.proofs.running.written.Goals as goal

pub returns-in-Ok : goal.returns-in-Ok
returns-in-Ok c =
    let outputs = c.args.outputs.now in
    let same : c.flat.result.now ≡ c.args.job.now.plan.flat = c.flat.ensures.flat ∙ ap (λ (p : PlanView). p.flat) c.plan.ensures.plan in
    record {
      outputs = outputs;
      are_outputs = c.requires;
      text_is = c.in-Ok.ensures.exact ∙ ap (λ (f : FlatView). output_text f outputs) same;
    }
