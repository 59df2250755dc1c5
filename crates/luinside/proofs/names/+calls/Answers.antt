use Rattle.std.proofs.Common.{◌<◌, length, arith}
use Rattle.luinside.specs.Passing.{spelled}
use Rattle.luinside.proofs.Calling.{called_pushed}
use Rattle.luinside.proofs.names.+calls.Goals as goal

pub push_all_called-loop-e-preserved : goal.push_all_called-loop-e-preserved
push_all_called-loop-e-preserved t c =
    let lt : c.loop-e.e-index < length c.args.all.now = omega arith in
    called_pushed (spelled c.args.called.now.items) (spelled c.loop-e.called.items) (spelled c.push_called.new.called.items) c.args.all.now c.loop-e.e-index c.e-item.result lt c.e-item.is c.loop-e.invariant c.in_ok-push_called.ensures
