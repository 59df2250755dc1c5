use Rattle.std.specs.BinaryHeap.{heap_items}
use Rattle.lucore_laws.proofs.Heaps.{popped_place, least_place}
use Rattle.lucore_laws.proofs.ready.Ready.pop.Goals as goal

pub returns-clause-taken : goal.returns-clause-taken
returns-clause-taken c =
    popped_place c.in_ok-place.field-0 (heap_items c.self.inside.heap) (heap_items c.pop.new.self) c.args.self.now c.in_ok-place.ensures.permutation c.self.view_is

pub returns-clause-least : goal.returns-clause-least
returns-clause-least c =
    let h = c.in_ok-place.ensures.heap_order in
    least_place c.in_ok-place.field-0 (heap_items c.self.inside.heap) c.args.self.now (h c.self.invariant).1 c.self.view_is
