use Rattle.std.proofs.Common.{◌∙◌}
use Rattle.luplace_file.proofs.Walks.{are_keys_is}
use Rattle.luplace_file.proofs.draft.are_keys.Goals as goal

pub returns : goal.returns
returns c = c.keys_are_known.ensures ∙ are_keys_is c.args.table.now.entries
