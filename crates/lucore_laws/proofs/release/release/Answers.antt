use Rattle.std.proofs.Common.{ℕ, ◌<◌, get_or, length, arith}
use Rattle.lucore_laws.proofs.Counts.{released_none, released_next, released_all, times_more_le, hit_same}
use Rattle.lucore_laws.proofs.release.release.Goals as goal

pub loop-reader-init : goal.loop-reader-init
loop-reader-init c = released_none c.args.missing.now.items c.args.ready.now

pub release_one-requires : goal.release_one-requires
release_one-requires c =
    let readers = c.args.readers.now in
    let i : ℕ = c.loop-reader.reader-index in
    let v : ℕ = get_or readers i 0 in
    let lt : i < length readers = omega (arith, c.loop-reader-test.true) in
    omega (arith, c.requires v, c.loop-reader.invariant.fewer v, times_more_le v readers i lt, hit_same v)

pub loop-reader-preserved : goal.loop-reader-preserved
loop-reader-preserved c =
    let readers = c.args.readers.now in
    let lt : c.loop-reader.reader-index < length readers = omega (arith, c.loop-reader-test.true) in
    released_next readers c.args.missing.now.items c.loop-reader.missing.items c.release_one.new.missing.items c.args.ready.now c.loop-reader.ready c.release_one.new.ready c.loop-reader.reader-index lt c.loop-reader.invariant c.in_ok-release_one.ensures

pub returns : goal.returns
returns c =
    released_all c.args.readers.now c.args.missing.now.items c.loop-reader.missing.items c.args.ready.now c.loop-reader.ready c.loop-reader.reader-index c.loop-reader-test.false c.loop-reader.invariant
