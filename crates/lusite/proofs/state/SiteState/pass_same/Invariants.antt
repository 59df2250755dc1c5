use Rattle.std.proofs.Common.{◌≡◌, ◌<◌, ◌≤◌}
use Rattle.lusite.specs.Machine.{IsShutBefore, done_of, rest_of}
use Rattle.lusite.specs.States.{GoesOn}
use Rattle.lusite.proofs.state.SiteState.pass_same.Given as goal

abbrev pub invariant-same : goal.invariant-same
invariant-same l = record {
  goes_on : GoesOn l.initial.self l.self;
  done : done_of l.self ≡ done_of l.initial.self;
  less : rest_of l.self ≤ rest_of l.initial.self;
  first : l.self.step ≡ 0;
  early : l.self.instant < l.self.inputs.job.inputs.instants;
  shut : IsShutBefore l.self;
}

abbrev pub decreases-same : goal.decreases-same
decreases-same l = rest_of l.self
