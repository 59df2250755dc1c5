use Rattle.std.proofs.Common.{refl, rules, arith}
use Rattle.lusite.proofs.SiteStates.{going_state}
use Rattle.lusite.proofs.Reported.{note_step}
use Rattle.lusite.proofs.Turns.{sent_next, sent_at}
use Rattle.lusite.proofs.state.SiteState.sent.Goals as goal

pub overflow_add-self : goal.overflow_add-self
overflow_add-self c = let w = (sent_next c.args.self.now c.requires.going c.requires.ready c.requires.next).0 in omega arith

pub returns-clause-goes_on : goal.returns-clause-goes_on
returns-clause-goes_on c =
    let a = c.args.self.now in
    let r = c.requires in
    record {
      same = record { program_is = refl; inputs_is = refl };
      in_order = record {
        set = search rules;
        stands = (sent_next a r.going r.ready r.next).1;
        logged = note_step a (going_state a r.going) r.going.in_order.logged (sent_at a r.going r.ready r.next);
      };
      fault = refl;
    }

pub returns-clause-done : goal.returns-clause-done
returns-clause-done c = (sent_next c.args.self.now c.requires.going c.requires.ready c.requires.next).2
