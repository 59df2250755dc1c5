use Rattle.std.proofs.Common.{◌≡◌, map, take}
use Rattle.lustat_rules.specs.Scopes.{clock_list}
use Rattle.lustat_rules.specs.ClockRefs.{placed_view, place_among}
use Rattle.lustat_rules.proofs.scope.declared_clocks.Given as goal

abbrev pub invariant-loop-d : goal.invariant-loop-d
invariant-loop-d l =
    record {
      clocks : map placed_view l.all.items ≡ clock_list (map (λ d. d.now) (take l.d-index l.declarations));
      places : map (λ k. k.place) l.all.items ≡ map (place_among l.variables) (clock_list (map (λ d. d.now) (take l.d-index l.declarations)));
    }
