use Rattle.std.proofs.Common.{◌≡◌, ◌++◌, ◌+◌, ◌<◌, ℕ, true, false, [], List, length, refl, sym, ap, ap₂, ◌∙◌, subst, arith, append-nil, string_bytes}
use Rattle.std.proofs.Common.{String, Global}
use Rattle.luflow.specs.declared.variable.Variable.{Variable}
use Rattle.luflow.specs.Program.{FlatView}
use Rattle.luworld.specs.Needs.{PlanView}
use Rattle.luweave_text.specs.WorldText.{AreOutputLines, NoVariables, output_line}
use Rattle.luweave_text.proofs.Texts.{then_more, reported_more, other_more, count_reported, count_other}
use Rattle.luweave_text.proofs.text.put_outputs.Goals as goal
use Rattle.luweave_text.proofs.text.put_outputs.Goals.{then-is_output+in_ok-put_output, else-is_output}
use Rattle.luflow.specs.Types.{variable_names}
use Rattle.luflow.specs.Variables.{is_output_of, variable_name}

pub loop-variable-init : goal.loop-variable-init
loop-variable-init c = record { lines = ([], NoVariables, sym (append-nil (string_bytes c.args.text.now))); count = refl; few = omega arith }

pub loop-variable-preserved : goal.loop-variable-preserved
loop-variable-preserved c =
    let w = c.args.world.now in
    let v = c.loop-variable.variable in
    let k = c.loop-variable.k in
    let so_far = c.loop-variable.invariant.lines in
    let count = c.loop-variable.invariant.count in
    let few = c.loop-variable.invariant.few in
    let flat : w.job.plan.flat ≡ c.flat-flat.result.now = ap (λ (q : PlanView). q.flat) c.requires ∙ sym c.flat-flat.ensures.flat in
    let tells : is_output_of w.job.plan.flat v ≡ c.is_output.result = ap (λ (f : FlatView). is_output_of f v) flat ∙ sym c.is_output.ensures in
    let inside : v < length w.job.plan.flat.variables =
    subst (λ (xs : List Variable). v < length xs) (c.variables-variable-end.ensures ∙ ap (λ (f : FlatView). f.variables) (sym flat)) c.loop-variable-test.true in
    elim c.if-is_output.branch [
      | then-is_output+in_ok-put_output x ↦
          let reported : is_output_of w.job.plan.flat v ≡ true = tells ∙ x.if-is_output.true in
          let statuses = x.outputs.result.now in
          let line = output_line (variable_name w.job.plan.flat v) (variable_names w.job.plan.flat v) statuses in
          let more = reported_more w v k so_far.0 so_far.1 count inside reported statuses x.outputs.ensures.collected in
          let name : x.variable_name-name.result.now ≡ variable_name w.job.plan.flat v = x.variable_name-name.ensures ∙ ap (λ (f : FlatView). variable_name f v) (sym flat) in
          let names : x.variable_names.result.now ≡ variable_names w.job.plan.flat v = x.variable_names.ensures ∙ ap (λ (f : FlatView). variable_names f v) (sym flat) in
          let new : string_bytes c.if-is_output.text ≡ string_bytes c.loop-variable.text ++ line =
          ap (λ (s : String Global). string_bytes s) x.text-is ∙ x.in_ok-put_output.ensures ∙ ap₂ (λ (n : List ℕ) (ns : List (List ℕ)). string_bytes c.loop-variable.text ++ output_line n ns statuses) name names in
          record {
            lines = (so_far.0 ++ line, subst (λ (j : ℕ). AreOutputLines w (v + 1) j (so_far.0 ++ line)) (sym x.k-is) more, then_more (string_bytes c.args.text.now) (string_bytes c.loop-variable.text) (string_bytes c.if-is_output.text) so_far.0 line so_far.2 new);
            count = x.k-is ∙ count_reported w v k so_far.0 so_far.1 count reported;
            few = omega (arith, x.k-is, few);
          }
      | else-is_output x ↦
          let other : is_output_of w.job.plan.flat v ≡ false = tells ∙ x.if-is_output.false in
          record {
            lines = (so_far.0, subst (λ (j : ℕ). AreOutputLines w (v + 1) j so_far.0) (sym x.k-is) (other_more w v k so_far.0 so_far.1 count other), ap (λ (s : String Global). string_bytes s) x.text-is ∙ so_far.2);
            count = x.k-is ∙ count_other w v k so_far.0 so_far.1 count other;
            few = omega (arith, x.k-is, few);
          }
    ]
