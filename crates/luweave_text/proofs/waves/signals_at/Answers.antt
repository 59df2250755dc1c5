use Rattle.std.proofs.Common.{◌≡◌, ◌∙◌, ℕ, List, sym, ap}
use Rattle.std.specs.Prelude.{Some, slice_get}
use Rattle.std.proofs.lemmas.Option.{slice_get-get_or}
use Rattle.luflow.specs.Program.{FlatView}
use Rattle.luworld.specs.Needs.{PlanView}
use Rattle.luworld.specs.Jobs.{outputs_of}
use Rattle.luchart.specs.Signals.{Signal, signal_view}
use Rattle.luweave_text.specs.Waves.{variable_signal, IsOutputSignal}
use Rattle.luweave_text.proofs.Signals.{one_longer, one_more}
use Rattle.luweave_text.proofs.waves.signals_at.Goals as goal

pub loop-k-preserved : goal.loop-k-preserved
loop-k-preserved c =
    let w = c.args.world.now in
    let k = c.loop-k.k in
    let inv = c.loop-k.invariant in
    let old = c.loop-k.signals.items in
    let new = c.push.new.self.items in
    let x = c.variable_signal.result in
    let v = c.number_at-variable.result in
    let numbers = c.args.numbers.now in
    let all : numbers ≡ outputs_of w.job.plan = c.requires.outputs ∙ ap outputs_of (sym c.requires.plan_is) in
    let there : slice_get (outputs_of w.job.plan) k ≡ Some v =
    ap (λ (ns : List ℕ). slice_get ns k) (sym all) ∙ slice_get-get_or numbers k 0 c.loop-k-test.true ∙ ap (λ (n : ℕ). Some n) (sym c.number_at-variable.ensures) in
    let flat : c.flat-flat.result.now ≡ w.job.plan.flat = c.flat-flat.ensures.flat ∙ ap (λ (p : PlanView). p.flat) (sym c.requires.plan_is) in
    let statuses = c.outputs.result.now in
    let signal : signal_view x ≡ variable_signal w.job.plan.flat v statuses = c.variable_signal.ensures ∙ ap (λ (f : FlatView). variable_signal f v statuses) flat in
    let known : (signal_view x).statuses ≡ statuses = ap (λ (s : Signal). s.statuses) signal in
    let here : IsOutputSignal w k (signal_view x) =
    record {
      variable = v;
      there = there;
      signal_is = signal ∙ ap (variable_signal w.job.plan.flat v) (sym known);
      collected = rw known c.outputs.ensures.collected;
    } in
    record { count = one_longer w old new x c.in_ok-push.ensures.items k inv.count; each = one_more w old new x c.in_ok-push.ensures.items k inv.count here inv.each }
