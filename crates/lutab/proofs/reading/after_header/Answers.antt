use Rattle.lutab.proofs.Headers.{found_or_none}
use Rattle.lutab.proofs.reading.after_header.Goals as goal

pub returns : goal.returns
returns c = let p = found_or_none c.args.header.now c.args.bytes.now c.strip_prefix.result c.strip_prefix.ensures.cases in record { found = p.0; none = p.1 }
