use Rattle.std.proofs.Common.{sym, ap, ◌∙◌, subst, rules, IfSome, []}
use Rattle.crossbeam_channel.specs.Claims.{view as known}
use Rattle.crossbeam_channel.specs.Ends.{receives_on, ruled_capacity}
use Rattle.lulink.specs.Lists.{list_of}
use Rattle.lulink.specs.Counts.{uncounted}
use Rattle.lulink.specs.Views.{IsWholeAt}
use Rattle.lulink.proofs.Closing.{close_long}
use Rattle.test_reference.proofs.Steps.{takes, after_take, after_none, whole_after}
use Rattle.test_reference.proofs.receiver.Rx.poll.Goals as goal
use Rattle.test_reference.proofs.receiver.Rx.poll.Goals.{in-Ok, in-Err}

pub try_recv_as-requires-clause-rule : goal.try_recv_as-requires-clause-rule
try_recv_as-requires-clause-rule g c = (takes _ _ (ap (λ v. v.role) c.self.invariant.1), λ items views h at. tt)

pub invariant_of-self : goal.invariant_of-self
invariant_of-self g c =
    elim c.match-try_recv_as.branch [
      | in-Ok w ↦ (let a = after_take _ _ _ _ _ (c.self.invariant.1, c.self.invariant.2) w.in-Ok.ensures.rule in (c.try_recv_as.ensures.channel.0, a.0, a.1))
      | in-Err w ↦ (let a = after_none _ _ _ _ (c.self.invariant.1, c.self.invariant.2) w.in-Err.ensures.rule.0 in (c.try_recv_as.ensures.channel.0, a.0, a.1))
    ]

pub returns-clause-whole : goal.returns-clause-whole
returns-clause-whole g c =
    let list = list_of c.self.inside.job.value c.self.inside.link in
    elim c.match-try_recv_as.branch [
      | in-Ok w ↦ subst (λ r. IfSome r (λ m. IsWholeAt m record { job = c.self.inside.job.value; link = c.self.inside.link; capacity = ruled_capacity (receives_on c.self.inside.end); ring = (receives_on c.self.inside.end).stamps.shared.table_id; taken = (known c.try_recv_as.new.pass).done; seen = []; counts = uncounted })) (sym w.result-is)
          (λ closes. whole_after list (known c.self.inside.link_pass) (known c.try_recv_as.new.pass) _ (ruled_capacity (receives_on c.self.inside.end)) c.self.invariant.1 c.self.invariant.2 w.in-Ok.ensures.rule
          (λ at. close_long c.self.inside.job.value c.self.inside.link _ _ at closes))
      | in-Err w ↦ subst (λ r. IfSome r (λ m. IsWholeAt m record { job = c.self.inside.job.value; link = c.self.inside.link; capacity = ruled_capacity (receives_on c.self.inside.end); ring = (receives_on c.self.inside.end).stamps.shared.table_id; taken = (known c.try_recv_as.new.pass).done; seen = []; counts = uncounted })) (sym w.result-is) tt
    ]
