use Rattle.std.proofs.Common.{◌≡◌, ◌<◌, ap, ◌∙◌, sym, subst, arith}
use Rattle.std.specs.Prelude.{All, not}
use Rattle.std.proofs.lemmas.List.Elements.{All-filter, All-weaker}
use Rattle.lubase.specs.Limits.{most_flows}
use Rattle.luflow.specs.Program.{flows_of}
use Rattle.luplace.specs.Layers.{same_sites, away}
use Rattle.luplace.proofs.layers.first_row.Goals as goal

pub put_raised-requires-clause-small : goal.put_raised-requires-clause-small
put_raised-requires-clause-small c =
    let plan = c.args.plan.now in
    let flat = c.flat-flat.result.now in
    let few = c.flows-flows.ensures.flat.few in
    let inside : All (λ r. r < flows_of flat) c.in_ok-row.row.items = c.in_ok-row.ensures.inside in
    let kept = All-filter (λ r. not (same_sites plan c.args.i r)) (λ r. r < flows_of flat) c.in_ok-row.row.items inside in
    let e : c.as_slice-2.result.now ≡ away plan c.args.i c.in_ok-row.row.items =
    c.as_slice-2.ensures.value ∙ c.in_ok-away.ensures ∙ ap (away plan c.args.i) c.as_slice.ensures.value in
    All-weaker (λ r. r < flows_of flat) (λ r. r < most_flows) (λ r lt. omega (arith, few, lt)) c.as_slice-2.result.now
    (subst (All (λ r. r < flows_of flat)) (sym e) kept)
