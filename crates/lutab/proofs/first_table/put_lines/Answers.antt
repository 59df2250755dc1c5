use Rattle.std.proofs.Common.{string_bytes}
use Rattle.lutab.proofs.Repeats.{repeat_more}
use Rattle.lutab.proofs.first_table.put_lines.Goals as goal

pub loop-preserved : goal.loop-preserved
loop-preserved c =
    repeat_more c.loop.counter (string_bytes c.args.text.now) (string_bytes c.loop.text) (string_bytes c.push_str.new.self) c.args.line.now c.loop.invariant c.in_ok-push_str.ensures.bytes
