-- What the tables of a node hold.
use Rattle.std.specs.Prelude.{◌≡◌, map}
use Rattle.lustat_rules.specs.declared.scope.Scope.TheInside.{Inside}
use Rattle.lustat_rules.specs.Scopes.{spellings, clock_list}
use Rattle.lustat_rules.specs.Faults.{declared_in}
use Rattle.lustat_rules.specs.ClockRefs.{placed_view, place_among}

pub record AreTables (s : Inside) : Type 0 where
  pub declarations : map (λ d. d.now) s.declarations.items ≡ declared_in s.node.now
  pub variables : s.variables ≡ spellings (declared_in s.node.now)
  pub inputs : s.inputs ≡ spellings s.node.now.inputs
  pub outputs : s.outputs ≡ spellings s.node.now.outputs
  pub clocks : map placed_view s.clocks.items ≡ clock_list (declared_in s.node.now)
  pub places : map (λ k. k.place) s.clocks.items ≡ map (place_among (spellings (declared_in s.node.now)))
      (clock_list (declared_in s.node.now))
