use Rattle.std.proofs.Common.{arith}
use Rattle.lucore_laws.proofs.Reading.{added_none, added_next, added_all}
use Rattle.lucore_laws.proofs.readers.Readers.add.Goals as goal

pub loop-read-init : goal.loop-read-init
loop-read-init c = added_none c.args.reader c.args.self.now

pub loop-read-preserved : goal.loop-read-preserved
loop-read-preserved c =
    added_next c.args.reader c.args.reads.now c.args.self.now c.loop-read.self c.push.new.self c.loop-read.read-index (omega (arith, c.loop-read-test.true)) c.requires c.loop-read.invariant c.in_ok-push.ensures

pub returns : goal.returns
returns c = added_all c.args.reader c.args.reads.now c.args.self.now c.loop-read.self c.loop-read.read-index c.loop-read-test.false c.loop-read.invariant
