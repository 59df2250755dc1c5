use Rattle.std.proofs.Common.{◌<◌, length, arith}
use Rattle.lustat_warn.specs.Scans.{spelled}
use Rattle.lustat_warn.proofs.Mentioned.{names_pushed}
use Rattle.lustat_warn.proofs.mentions.+names.Goals as goal

pub push_all_names-loop-e-preserved : goal.push_all_names-loop-e-preserved
push_all_names-loop-e-preserved t c =
    let lt : c.loop-e.e-index < length c.args.all.now = omega arith in
    names_pushed (spelled c.args.names.now.items) (spelled c.loop-e.names.items) (spelled c.push_names.new.names.items) c.args.all.now c.loop-e.e-index c.e-item.result lt c.e-item.is c.loop-e.invariant c.in_ok-push_names.ensures
