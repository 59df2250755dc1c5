use Rattle.std.proofs.Common.{◌≡◌, ℕ, ◌<◌, List, ◌++◌, ◌∷◌, [], length, sym, ap, ap₂, ◌∙◌, arith}
use Rattle.luflow.specs.Program.{flows_of}
use Rattle.luflow.specs.Streams.{Mark}
use Rattle.luflow.specs.Messages.{marks}
use Rattle.luflow.specs.Solution.{solution}
use Rattle.test_reference.specs.Grids.{held}
use Rattle.test_reference.proofs.Ranges.{map_more}
use Rattle.test_reference.proofs.FilledCells.{marks_same}
use Rattle.test_reference.proofs.streams.marks_of.Goals as goal

pub loop-flow-preserved : goal.loop-flow-preserved
loop-flow-preserved c =
    let f : ℕ → List Mark = λ i. marks (solution c.args.flat.now c.args.inputs.now i) c.args.count in
    let flat = c.args.flat.now in
    let grid = c.in_ok-grid.grid in
    let there : c.loop-flow.flow < flows_of flat = let e = ap length c.flows-flow-end.ensures.flows in let t = c.loop-flow-test.true in omega (arith, e, t) in
    let here : c.in_ok-marks.field-0 ≡ f c.loop-flow.flow =
    c.in_ok-marks.ensures ∙ ap (λ (n : ℕ). marks (held grid c.loop-flow.flow) n) c.in_ok-grid.ensures.sized
    ∙ marks_same flat c.args.inputs.now grid c.args.count c.loop-flow.flow c.in_ok-grid.ensures.filled there in
    c.in_ok-push.ensures.items ∙ ap₂ (λ (xs : List (List Mark)) (x : List Mark). xs ++ x ∷ []) c.loop-flow.invariant here ∙ sym (map_more f c.loop-flow.flow)
