use Rattle.std.proofs.Common.{◌≡◌, subst, sym}
use Rattle.lulink.specs.Lists.{list_of}
use Rattle.test_transcript.proofs.Counted.{given_at}
use Rattle.test_transcript.proofs.driven.next_of.Goals as goal

pub returns-in-0 : goal.returns-in-0
returns-in-0 c = λ job s p.
    given_at job s c.args.link c.args.done c.takes_in-number.result c.args.script.now c.args.first.now c.message_at.result p.script
    (subst (λ k. c.args.first.now ≡ list_of job k) (sym c.in-0.is) p.first) c.takes_in-number.ensures c.message_at.ensures

pub returns-in-1 : goal.returns-in-1
returns-in-1 c = λ job s p.
    given_at job s c.args.link c.args.done c.takes_in-number.result c.args.script.now c.args.second.now c.message_at-in-1.result p.script
    (subst (λ k. c.args.second.now ≡ list_of job k) (sym c.in-1.is) p.second) c.takes_in-number.ensures c.message_at-in-1.ensures
