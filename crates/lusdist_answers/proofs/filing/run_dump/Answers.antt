use Rattle.std.proofs.Common.{◌∙◌, ap, ap₂, List, false}
use Rattle.std.proofs.lemmas.Result.{IfOk-weaker}
use Rattle.luflow.specs.declared.variable.Enum.{Enum}
use Rattle.luflow.specs.declared.variable.Variable.{Variable}
use Rattle.lutree.specs.declared.program.Kind.{Kind}
use Rattle.lutab.specs.Outputs.{kinds_of, shown_of}
use Rattle.luchart.specs.Signals.{signals_of, signals_view}
use Rattle.luweave_text.specs.Waves.{site_dump}
use Rattle.luflow.specs.Program.{FlatView}
use Rattle.lusdist_answers.proofs.filing.run_dump.Goals as goal

pub returns : goal.returns
returns c =
    let plan = c.args.plan.now in
    let outputs = c.args.outputs.now in
    let flat = c.flat-flat.ensures.flat in
    let kinds = c.deref.ensures.value ∙ c.in_ok-kinds.ensures ∙ ap (λ (xs : List Variable). kinds_of (shown_of false xs)) (c.variables.ensures ∙ ap (λ (f : FlatView). f.variables) flat) in
    let types = c.types.ensures ∙ ap (λ (f : FlatView). f.types) flat in
    let signals = ap signals_view c.deref-2.ensures.value ∙ c.in_ok-signals.ensures
    ∙ ap (signals_of c.types.result.now c.deref.result.now) c.columns.ensures.columns
    ∙ ap₂ (λ (ts : List Enum) (ks : List Kind). signals_of ts ks outputs) types kinds in
    IfOk-weaker c.dump_by_site.result _ _ (λ text e. e ∙ ap (site_dump c.args.main.now plan) signals) c.dump_by_site.ensures
