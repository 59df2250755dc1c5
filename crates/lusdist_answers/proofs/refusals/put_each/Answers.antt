use Rattle.std.proofs.Common.{[], sym, append-nil}
use Rattle.lusdist_call.specs.Reasons.AreTold.{none}
use Rattle.lusdist_answers.proofs.Tellings.{one_more}
use Rattle.lusdist_answers.proofs.refusals.put_each.Goals as goal

pub loop-j-init : goal.loop-j-init
loop-j-init g c = ([], none, sym (append-nil _))

pub loop-j-preserved : goal.loop-j-preserved
loop-j-preserved g c =
    let found = c.fault_at-stop.ensures in
    one_more (g.F.Files.gives c.args.files.now) c.args.request c.args.faults.now c.loop-j.j found.0 c.fault_at-stop.result c.args.text.now.items c.loop-j.text.items c.put_told.new.text.items found.1 found.2 c.loop-j.invariant c.in_ok-put_told.ensures
