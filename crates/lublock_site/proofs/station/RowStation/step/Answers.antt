use Rattle.std.proofs.Common.{sym, ◌∙◌}
use Rattle.lublock_site.specs.Going.{IsGoing}
use Rattle.lublock_site.proofs.Moving.{goes_on}
use Rattle.lublock_site.proofs.Ended.{same_outputs, same_site}
use Rattle.lublock_site.proofs.station.RowStation.step.Goals as goal

pub invariant_of-self : goal.invariant_of-self
invariant_of-self c =
    let x = c.self.inside.inner in
    let y = c.go-turn.new.self in
    let same = c.go-turn.ensures.same in
    let inv = c.self.invariant in
    record {
      at = same_site x y same inv.at;
      outputs = same_outputs x y c.self.inside.outputs.items same inv.outputs;
      none = inv.none;
      room = inv.room;
      going = λ open'. goes_on c.go-turn.result (IsGoing y) (sym c.is_over-self-inside.ensures ∙ open') c.go-turn.ensures.going;
    }
