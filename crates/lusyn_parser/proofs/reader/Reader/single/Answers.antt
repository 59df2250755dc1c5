use Rattle.std.proofs.Common.{◌∙◌}
use Rattle.lusyn_parser.proofs.reader.Reader.single.Goals as goal

pub returns-clause-place : goal.returns-clause-place
returns-clause-place c = c.byte-byte.ensures ∙ c.in_ok-left.ensures.place
