use Rattle.std.specs.BinaryHeap.{heap_items}
use Rattle.lucore_laws.proofs.Heaps.{pushed_place}
use Rattle.lucore_laws.proofs.ready.Ready.push.Goals as goal

pub returns : goal.returns
returns c =
    pushed_place c.args.place (heap_items c.self.inside.heap) (heap_items c.push.new.self) c.args.self.now c.in_ok-push.ensures.permutation c.self.view_is
