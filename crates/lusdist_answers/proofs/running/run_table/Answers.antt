use Rattle.std.proofs.Common.{Bool, ap, subst, ◌∙◌, ◌++◌, string_bytes}
use Rattle.luworld.specs.Needs.{PlanView}
use Rattle.lutab.specs.Outputs.{output_text}
use Rattle.lusdist_call.specs.Counted.{AreStats}
use Rattle.lusdist_call.specs.Files.{dump_for, run_path}
use Rattle.clap.specs.Walk.{texts}
use Rattle.lusdist_call.specs.Violations.{has_lines, output_flows, violations}
use Rattle.lusdist_call.specs.Waved.{run_dump}
use Rattle.std.specs.Prelude.{option_map}
use Rattle.lusdist_answers.proofs.running.run_table.Goals as goal

pub returns-clause-reply : goal.returns-clause-reply
returns-clause-reply g c =
    let outputs = c.in_ok-outputs.outputs in
    let request = c.args.request in
    let job = c.args.job.now in
    let whole = c.in_ok-whole.ensures in
    let told = c.in_ok-reply.ensures.notes ∙ ap (λ (p : PlanView). violations (texts request.always.now) (output_flows p.flat outputs)) c.plan-2.ensures.plan in
    record {
      outputs = outputs;
      are_outputs = c.in_ok-outputs.ensures.outputs;
      text_is = ap string_bytes whole.text ∙ c.in_ok-reply.ensures.text ∙ ap (λ (p : PlanView). output_text p.flat outputs) c.plan-2.ensures.plan;
      dump_is = ap (option_map string_bytes) whole.dump ∙ c.in_ok-reply.ensures.dump ∙ ap (λ (p : PlanView). dump_for (run_path request) (run_dump request.main.now p outputs)) c.plan-2.ensures.plan;
      stats = string_bytes c.in_ok-counted.counted;
      are_stats = subst (λ (b : Bool). AreStats b job (string_bytes c.in_ok-counted.counted)) c.in_ok-count.ensures c.in_ok-counted.ensures;
      notes_are = whole.notes ∙ ap (λ xs. string_bytes c.in_ok-counted.counted ++ xs) told;
      violated_is = whole.violated ∙ c.in_ok-reply.ensures.violated ∙ ap has_lines told;
    }
