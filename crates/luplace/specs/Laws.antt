-- What holds of ways.
use Rattle.std.specs.Prelude.{◌≡◌}
use Rattle.luworld.specs.Needs.{PlanView}
use Rattle.luplace.specs.declared.way.Way.{Way}
use Rattle.luplace.specs.Ways.{IsWayOf}

-- a plan has one way
abbrev pub OneWay : Type 0
OneWay = (plan : PlanView) (a b : Way) → IsWayOf plan a → IsWayOf plan b → a ≡ b
