use Rattle.std.proofs.Common.{sym, ap, ◌∙◌, subst, rules}
use Rattle.lulink.specs.Views.{SenderView, IsNextToPut}
use Rattle.test_reference.proofs.Steps.{puts, after_put, after_no_put}
use Rattle.test_reference.proofs.sender.Tx.offer.Goals as goal
use Rattle.test_reference.proofs.sender.Tx.offer.Goals.{in-Ok, in-Err}

pub try_send_as-requires-clause-rule : goal.try_send_as-requires-clause-rule
try_send_as-requires-clause-rule g c =
    let next = subst (λ (s : SenderView). IsNextToPut s c.args.msg) (sym c.self.view_is) c.requires in
    (puts _ _ _ _ (ap (λ v. v.role) c.self.invariant.1) (sym (ap (λ v. v.room) c.self.invariant.1)) (search rules), λ items views h at. tt)

pub invariant_of-self : goal.invariant_of-self
invariant_of-self g c =
    let next = subst (λ (s : SenderView). IsNextToPut s c.args.msg) (sym c.self.view_is) c.requires in
    elim c.match-try_send_as.branch [
      | in-Ok w ↦ (let a = after_put _ _ _ _ _ (c.self.invariant.1, c.self.invariant.2) w.in-Ok.ensures.rule next in (c.try_send_as.ensures.channel.0, a.0, a.1))
      | in-Err w ↦ (let a = after_no_put _ _ _ _ (c.self.invariant.1, c.self.invariant.2) w.in-Err.ensures.rule.1 in (c.try_send_as.ensures.channel.0, a.0, a.1))
    ]
