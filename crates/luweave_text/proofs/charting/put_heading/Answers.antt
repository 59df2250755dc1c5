use Rattle.std.proofs.Common.{string_bytes}
use Rattle.luchart.proofs.Ranges.{text_more_zero}
use Rattle.luweave_text.specs.Charted.{named}
use Rattle.luweave_text.proofs.charting.put_heading.Goals as goal

pub loop-column-preserved : goal.loop-column-preserved
loop-column-preserved c =
    text_more_zero (named c.args.names.now) c.loop-column.column (string_bytes c.push_str.new.self) (string_bytes c.loop-column.text) (string_bytes c.put_named.new.text) c.loop-column.invariant c.in_ok-put_named.ensures
