use Rattle.std.proofs.Common.{sym, ◌∙◌}
use Rattle.lublock_site.proofs.Writing.{has_word_if}
use Rattle.lublock_site.proofs.steps.word_of_message.Goals as goal

pub returns-in-Value : goal.returns-in-Value
returns-in-Value c = has_word_if c.args.kind c.args.msgs.now c.args.k c.in-Some.msg c.in-Value.datum (sym c.message_at.ensures ∙ c.in-Some.is) c.in-Value.is c.held_word.result c.held_word.ensures
