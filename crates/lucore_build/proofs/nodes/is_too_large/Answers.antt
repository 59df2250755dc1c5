use Rattle.std.specs.Prelude.{◌≡◌}
use Rattle.std.proofs.Common.{ap, ◌∙◌, nat_lt}
use Rattle.std.proofs.lemmas.Bool.{ltb-true, lt-ltb}
use Rattle.lutree.specs.declared.program.Program.{Program}
use Rattle.lutree.specs.Tree.{program_view}
use Rattle.lustat_rules.specs.Accepted.{Rule}
use Rattle.lucore_laws.specs.Sizes.{size_of}
use Rattle.lucore_build.proofs.Counting as counting
use Rattle.lucore_build.proofs.nodes.is_too_large.Goals as goal

pub returns-clause-flows : goal.returns-clause-flows
returns-clause-flows c =
    let p = program_view c.args.program.now.program in
    let main = c.args.program.now.main in
    let counts = c.in_ok-counts.counts.items in
    let x = c.count_of-count.result in
    let is : x ≡ size_of p counts main =
    c.count_of-count.ensures ∙ ap (λ (g : Program). size_of (program_view g) c.as_slice.result.now c.main.result.now) c.catalog.ensures.catalog
    ∙ ap (λ cs. size_of p cs c.main.result.now) c.as_slice.ensures.value ∙ ap (size_of p counts) c.main.ensures in
    counting.is_too_long p main (nat_lt 4096 x) (c.catalog.ensures.accepted Rule.recursive_node)
    (counting.is_too_large p main counts x (nat_lt 4096 x) c.in_ok-counts.ensures.counted is (ltb-true 4096 x, lt-ltb 4096 x))
