use Rattle.std.proofs.Common.{◌≡◌}
use Rattle.lusite.specs.Machine.{done_of, rest_of}
use Rattle.lusite.specs.States.{GoesOn}
use Rattle.lusite.proofs.state.SiteState.settle.Given as goal

abbrev pub invariant-on : goal.invariant-on
invariant-on l = record {
  goes_on : GoesOn l.initial.self l.self;
  done : done_of l.self ≡ done_of l.initial.self;
}

abbrev pub decreases-on : goal.decreases-on
decreases-on l = rest_of l.self
