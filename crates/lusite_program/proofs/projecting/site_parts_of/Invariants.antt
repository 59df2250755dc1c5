use Rattle.std.proofs.Common.{◌≡◌, ℕ, ◌+◌, ◌*◌, ◌≤◌, length, map, Some, slice_get}
use Rattle.std.specs.Prelude.{slice_index, vec_capacity}
use Rattle.lusite_program.specs.declared.program.SiteFlow.{SiteFlow}
use Rattle.lusite_program.specs.Programs.{ranks_of, clock_at_rank, HaveSame, IsSiteFlow}
use Rattle.lueval_lines.specs.Cells.{clock_of}
use Rattle.lusite_program.proofs.projecting.site_parts_of.Given as goal

abbrev pub invariant-loop-k : goal.invariant-loop-k
invariant-loop-k l = record {
  len : length l.site_flows.items ≡ l.k;
  few : length l.branches.items ≤ l.k * 255;
  few_links : length l.links.items ≤ l.k * 65536;
  each : (j p : ℕ) (x : SiteFlow) → slice_get (ranks_of l.plan l.site) j ≡ Some p → slice_get l.site_flows.items j ≡ Some x → IsSiteFlow l.plan l.site (map (slice_index l.numbers) l.branches.items) l.links.items p x;
  before : (j p : ℕ) → j + 1 ≡ l.k → slice_get (ranks_of l.plan l.site) j ≡ Some p → Some (clock_of l.clock) ≡ clock_at_rank l.plan p;
  same : HaveSame l.plan l.site l.site_flows.items;
  room : length l.ranks ≤ vec_capacity l.site_flows;
}
