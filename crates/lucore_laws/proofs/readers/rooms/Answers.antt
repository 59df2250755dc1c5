use Rattle.std.proofs.Common.{length, refl, arith}
use Rattle.lucore_laws.proofs.Reading.{reads_inside}
use Rattle.lucore_laws.proofs.readers.rooms.Goals as goal

pub index-requires : goal.index-requires
index-requires c =
    let rows = c.args.rows.now in
    let h = reads_inside rows c.loop-reads.reads-index (length rows) c.reads-item.result c.as_slice-read-items.result.now c.requires refl (omega arith) c.reads-item.is c.as_slice-read-items.ensures in
    omega (arith, h c.loop-read.read-index 0 (omega (arith, c.loop-read-test.true)), c.loop-read.invariant, c.loop-read.rooms.ok.0)

pub index_mut-requires : goal.index_mut-requires
index_mut-requires c =
    let rows = c.args.rows.now in
    let h = reads_inside rows c.loop-reads.reads-index (length rows) c.reads-item.result c.as_slice-read-items.result.now c.requires refl (omega arith) c.reads-item.is c.as_slice-read-items.ensures in
    omega (arith, h c.loop-read.read-index 0 (omega (arith, c.loop-read-test.true)), c.loop-read.invariant, c.loop-read.rooms.ok.0)
