use Rattle.std.proofs.Common.{◌≡◌, ◌+◌, ◌-◌, ◌≤◌}
use Rattle.luworld.specs.Outline.{messages_from}
use Rattle.luworld.specs.Jobs.{outline, streams_of}
use Rattle.test_reference.proofs.scripts.list_length.Given as goal

abbrev pub invariant-loop-instant : goal.invariant-loop-instant
invariant-loop-instant l =
    let o = outline l.job (streams_of l.job) in
    record {
      counted : messages_from o l.flow 0 l.job.inputs.instants ≡ l.count + messages_from o l.flow l.instant (l.job.inputs.instants - l.instant);
      few : l.count ≤ l.instant;
    }
