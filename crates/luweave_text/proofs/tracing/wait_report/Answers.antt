use Rattle.std.proofs.Common.{◌++◌, ℕ, List, ap, sym, ◌∙◌, string_bytes}
use Rattle.luworld.specs.Needs.{PlanView}
use Rattle.luworld.specs.Systems.{done, next_item}
use Rattle.luworld.specs.Jobs.{system_of}
use Rattle.luweave_text.specs.Traced.{blocked_report, wait_report}
use Rattle.luweave_text.proofs.Lines.{no_item, some_item}
use Rattle.luweave_text.proofs.tracing.wait_report.Goals.{then-goes_on+in_ok-put_blocked, else-goes_on}
use Rattle.luweave_text.proofs.tracing.wait_report.Goals as goal

pub returns : goal.returns
returns c =
    let w = c.args.world.now in
    let s = c.args.site in
    let n = done w.dones s in
    let is = c.next-next.ensures in
    let next = next_item (system_of w.job) w.dones s in
    let told = wait_report c.args.how w c.args.counts s in
    elim c.if-goes_on.branch [
      | then-goes_on+in_ok-put_blocked v ↦
          let (item, there) = some_item next (sym (c.goes_on.ensures w.job s n is) ∙ v.if-goes_on.true) in
          ap string_bytes v.line-is ∙ v.in_ok-put_blocked.ensures w.job s n item is there
          ∙ ap (λ (xs : List ℕ). xs ++ blocked_report c.args.how c.args.plan.now c.args.counts s item) c.new-line.ensures.bytes
          ∙ ap (λ (p : PlanView). blocked_report c.args.how p c.args.counts s item) (sym c.requires)
          ∙ sym (ap told there)
      | else-goes_on v ↦
          let none = no_item next (sym (c.goes_on.ensures w.job s n is) ∙ v.if-goes_on.false) in
          ap string_bytes v.line-is ∙ c.new-line.ensures.bytes ∙ sym (ap told none)
    ]
