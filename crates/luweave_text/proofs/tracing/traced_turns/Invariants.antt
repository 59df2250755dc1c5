use Rattle.std.proofs.Common.{◌≡◌, ◌≤◌, ◌++◌, length, drop, string_bytes}
use Rattle.luworld.specs.Systems.{run}
use Rattle.luworld.specs.Jobs.{system_of}
use Rattle.luweave_text.specs.Traced.{trace_text, counts_of, no_counts}
use Rattle.luweave_text.proofs.tracing.traced_turns.Given as goal

abbrev pub invariant-loop-site : goal.invariant-loop-site
invariant-loop-site l = record {
  job : l.world.job ≡ l.initial.world.job;
  dones : run (system_of l.world.job) l.world.dones (drop l.site-index l.turns) ≡ run (system_of l.initial.world.job) l.initial.world.dones l.turns;
  text : string_bytes l.text ++ trace_text l.how l.world l.counts (drop l.site-index l.turns) ≡ string_bytes l.initial.text ++ trace_text l.how l.initial.world no_counts l.turns;
  counts : counts_of l.how l.world l.counts (drop l.site-index l.turns) ≡ counts_of l.how l.initial.world no_counts l.turns;
  few : l.counts.shown ≤ length (string_bytes l.text);
  moved : l.counts.moved ≤ l.site-index;
}
