use Rattle.std.proofs.Common.{◌≡◌, ◌∙◌, ap, map, length, arith}
use Rattle.lusyn_parser.specs.Resolved.{resolved_pattern}
use Rattle.lusyn_parser.specs.Known.{types_of}
use Rattle.lusyn_parser.proofs.Changed.{changed-one, changed-all, written-back}
use Rattle.lusyn_parser.proofs.trees.resolve_patterns.Goals as goal

pub loop-pattern-preserved : goal.loop-pattern-preserved
loop-pattern-preserved c =
    let i = c.loop-pattern.pattern-index in
    changed-one (resolved_pattern (types_of c.args.labels.now)) c.deref_mut-pattern-items.result.now c.loop-pattern.pattern-items i c.pattern-item.result c.resolve_pattern.new.pattern
    c.loop-pattern.invariant (omega (arith, c.loop-pattern-test.true, c.loop-pattern.auto.pattern-items)) c.resolve_pattern.ensures

pub returns : goal.returns
returns c =
    let change = resolved_pattern (types_of c.args.labels.now) in
    let old = c.deref_mut-pattern-items.result.now in
    let vec = c.into_items-items.result in
    let was : length vec.items ≡ vec.len = omega (arith, vec.ok.0) in
    let value = ap length c.deref_mut-pattern-items.ensures.value in
    let is : length c.loop-pattern.pattern-items ≡ vec.len = omega (arith, was, value, c.loop-pattern.auto.pattern-items) in
    let put : c.new.result ≡ c.loop-pattern.pattern-items = c.new.ensures ∙ written-back vec.len c.loop-pattern.pattern-items vec.items is was in
    let taken : old ≡ c.args.patterns = c.deref_mut-pattern-items.ensures.value ∙ c.into_items-items.ensures in
    put ∙ c.loop-pattern.invariant ∙ changed-all change c.loop-pattern.pattern-index old (omega (arith, c.loop-pattern-test.false, c.loop-pattern.auto.pattern-items)) ∙ ap (map change) taken
