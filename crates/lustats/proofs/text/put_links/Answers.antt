use Rattle.std.proofs.Common.{string_bytes}
use Rattle.lustats.specs.Text.{link_line_at}
use Rattle.lustats.proofs.Adding.{line_more}
use Rattle.lustats.proofs.text.put_links.Goals as goal

pub loop-number-preserved : goal.loop-number-preserved
loop-number-preserved c =
    line_more (link_line_at c.args.plan.now c.args.counts.now) c.loop-number.number (string_bytes c.args.text.now) (string_bytes c.loop-number.text) (string_bytes c.put_link_at.new.text) c.loop-number.invariant c.in_ok-put_link_at.ensures
