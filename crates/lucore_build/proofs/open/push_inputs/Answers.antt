use Rattle.std.proofs.Common.{◌<◌, ◌++◌, ◌∷◌, [], length, take, sym, ap, ◌∙◌, append_assoc, arith}
use Rattle.lutree.specs.declared.program.Kind.{Kind}
use Rattle.lutree.specs.declared.program.Declaration.{Declaration}
use Rattle.lutree.specs.Tree.{declarations_view}
use Rattle.luflow.specs.declared.form.Clock.TheVariants.{Base}
use Rattle.luflow.specs.declared.form.Flow.{Flow}
use Rattle.luflow.specs.declared.form.Form.TheVariants.{Input}
use Rattle.lucore_build.specs.Nodes.{inputs_from}
use Rattle.lucore_build.proofs.Found.{next_input}
use Rattle.lucore_build.proofs.open.push_inputs.Goals as goal

pub loop-number-preserved : goal.loop-number-preserved
loop-number-preserved c =
    let ds = c.args.inputs.now in
    let i = c.loop-number.number in
    let d = c.index-inputs-number.result in
    let lt : i < length ds = omega arith in
    let old = c.args.flows.now.items in
    let first = inputs_from 0 (declarations_view (take i ds)) in
    let open_flow = λ (k : Kind). let f : Flow = record { form = Input i; clock = Base; kind = k } in f in
    c.in_ok-push.ensures.items ∙ ap (λ l. l ++ open_flow d.kind ∷ []) c.loop-number.invariant
    ∙ append_assoc old first (open_flow d.kind ∷ [])
    ∙ ap (λ k. old ++ (first ++ open_flow k ∷ [])) (ap (λ (d : Declaration). d.kind) c.index-inputs-number.is)
    ∙ ap (λ l. old ++ l) (sym (next_input ds i d lt))
