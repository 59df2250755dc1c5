use Rattle.std.proofs.Common.{◌≤◌, length, sym, subst, ◌∙◌}
use Rattle.std.specs.Prelude.{vec_capacity}
use Rattle.luworld.specs.Jobs.{outputs_of}
use Rattle.luplace.specs.SiteInputsViews.{SiteInputsView}
use Rattle.lulist.specs.Lists.{IsListing}
use Rattle.lulist.proofs.Told.{goes_on, same_at}
use Rattle.lulist.proofs.station.ListStation.step.Goals as goal

pub invariant_of-self : goal.invariant_of-self
invariant_of-self c =
    let x = c.self.inside.inner in
    let y = c.go-turn.new.self in
    let same = c.go-turn.ensures.same in
    let inv = c.self.invariant in
    record {
      at = same_at x.inputs y.inputs same inv.at;
      none = inv.none;
      room = subst (λ (i : SiteInputsView). length (outputs_of i.job.plan) ≤ vec_capacity c.self.inside.outputs) (sym same) inv.room;
      going = λ open'. goes_on c.go-turn.result (IsListing y) (sym c.is_over-self-inside.ensures ∙ open') c.go-turn.ensures.going;
    }
