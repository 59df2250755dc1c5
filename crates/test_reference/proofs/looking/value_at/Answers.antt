use Rattle.std.proofs.Common.{map, sym, ap, ap₂, ◌∙◌}
use Rattle.luflow.specs.Streams.{datum_of}
use Rattle.luflow.specs.Values.{merge_of, value_at}
use Rattle.test_reference.specs.Grids.{held}
use Rattle.test_reference.proofs.looking.value_at.Goals as goal

pub returns-in-Merge : goal.returns-in-Merge
returns-in-Merge c =
    let grid = c.args.grid.now in
    let t = c.args.t in
    c.merge_of.ensures
    ∙ ap₂ (λ o xs. merge_of o (map (λ r. datum_of (held grid r t)) xs)) c.now-in-Merge.ensures c.as_slice.ensures
    ∙ sym (ap (λ f. value_at c.args.inputs.now (held grid) c.args.clock f t) c.in-Merge.is)
