use Rattle.std.proofs.Common.{◌∙◌}
use Rattle.lusyn_grammar.proofs.Runs.{count-push}
use Rattle.lusyn_grammar.proofs.lexer.take.Goals as goal

pub returns-in_ok-push-in-Token-clause-counts : goal.returns-in_ok-push-in-Token-clause-counts
returns-in_ok-push-in-Token-clause-counts c = λ h.
    c.counted-found.ensures ∙ count-push _ c.args.found.now.tokens.items c.push.new.self.items (record { token = c.in-Token.token; place = c.args.at }) c.in_ok-push-in-Token.ensures.items h
