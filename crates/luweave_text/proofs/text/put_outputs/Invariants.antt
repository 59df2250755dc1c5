use Rattle.std.proofs.Common.{◌≡◌, ◌++◌, ◌≤◌, ℕ, List, length, filter, string_bytes}
use Rattle.std.specs.List.{range_with_len}
use Rattle.luweave_text.specs.WorldText.{AreOutputLines}
use Rattle.luweave_text.proofs.text.put_outputs.Given as goal
use Rattle.luflow.specs.Variables.{is_output_of}

abbrev pub invariant-loop-variable : goal.invariant-loop-variable
invariant-loop-variable l = record {
  lines : (lines : List ℕ) × AreOutputLines l.world l.variable l.k lines × (string_bytes l.text ≡ string_bytes l.initial.text ++ lines);
  count : l.k ≡ length (filter (is_output_of l.world.job.plan.flat) (range_with_len 0 l.variable));
  few : l.k ≤ l.variable;
}
