use Rattle.std.proofs.Common.{◌≡◌, length, sym, subst, arith}
use Rattle.lucore_laws.specs.Search.{IsAdded}
use Rattle.lucore_laws.proofs.Reading.{reads-at, reads_inside, readers_none, readers_more, readers_all}
use Rattle.lucore_laws.proofs.readers.Readers.of_rows.Goals as goal

pub loop-place-init : goal.loop-place-init
loop-place-init c =
    let long : length c.in_ok-readers.readers ≡ length c.args.rows.now = omega (arith, c.in_ok-readers.ensures.long, c.in_ok-rooms.ensures, c.deref.ensures.len, c.in_ok-rooms.rooms.ok.0) in
    readers_none c.args.rows.now c.in_ok-readers.readers long c.in_ok-readers.ensures.empty

pub add-requires : goal.add-requires
add-requires c =
    reads_inside c.args.rows.now c.loop-place.place (length c.loop-place.readers) c.index-rows-place.result c.as_slice.result.now c.requires c.loop-place.invariant.long (omega arith) c.index-rows-place.is c.as_slice.ensures

pub loop-place-preserved : goal.loop-place-preserved
loop-place-preserved c =
    let e = reads-at c.args.rows.now c.loop-place.place c.index-rows-place.result c.as_slice.result.now (omega arith) c.index-rows-place.is c.as_slice.ensures in
    readers_more c.args.rows.now c.loop-place.readers c.add.new.self c.loop-place.place c.loop-place.invariant
    (subst (λ reads. IsAdded c.loop-place.place reads c.loop-place.readers c.add.new.self) (sym e) c.in_ok-add.ensures)

pub returns : goal.returns
returns c = readers_all c.args.rows.now c.loop-place.readers c.loop-place.place c.loop-place-test.false c.loop-place.invariant
