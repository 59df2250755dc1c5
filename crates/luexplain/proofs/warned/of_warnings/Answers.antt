use Rattle.std.proofs.Common.{[], sym, subst, string_bytes}
use Rattle.luexplain.specs.Warned.{AreWarned}
use Rattle.luexplain.specs.Warned.AreWarned.{none}
use Rattle.luexplain.proofs.Lines.{one_more}
use Rattle.luexplain.proofs.warned.of_warnings.Goals as goal

pub loop-j-init : goal.loop-j-init
loop-j-init c = subst (AreWarned c.args.path.now c.args.text.now []) (sym c.new-lines.ensures.bytes) none

pub loop-j-preserved : goal.loop-j-preserved
loop-j-preserved c =
    let more = c.in_ok-put_warning.ensures in
    one_more c.args.path.now c.args.text.now c.args.warnings.now c.loop-j.j c.warning_at-w.result.now (string_bytes c.loop-j.lines) more.0 (string_bytes c.put_warning.new.lines) c.warning_at-w.ensures c.loop-j.invariant more.1 more.2
