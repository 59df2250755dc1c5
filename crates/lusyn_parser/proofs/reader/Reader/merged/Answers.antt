use Rattle.lusyn_parser.proofs.Loops.{merged-all}
use Rattle.lusyn_parser.proofs.reader.Reader.merged.Goals as goal

pub returns : goal.returns
returns c =
    merged-all c.args.variable c.args.found.items c.in_ok-patterns.patterns c.in_ok-patterns.branches c.in_ok-patterns.ensures.patterns c.in_ok-patterns.ensures.values
