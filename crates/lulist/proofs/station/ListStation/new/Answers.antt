use Rattle.lulink.specs.Views.{IsUnusedReceiver, IsUnusedSender}
use Rattle.lueval_lines.proofs.Elements.{all_from}
use Rattle.lulist.proofs.station.ListStation.new.Goals as goal

pub start-requires-clause-senders : goal.start-requires-clause-senders
start-requires-clause-senders c = all_from (IsUnusedSender c.args.inputs.job) c.args.txs.items c.requires.senders

pub start-requires-clause-receivers : goal.start-requires-clause-receivers
start-requires-clause-receivers c = all_from (IsUnusedReceiver c.args.inputs.job) c.args.rxs.items c.requires.receivers
