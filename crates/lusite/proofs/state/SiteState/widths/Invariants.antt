use Rattle.std.proofs.Common.{◌≡◌, ◌+◌, ◌*◌, ◌≤◌, drop}
use Rattle.lusite_program.specs.Programs.{rank_at}
use Rattle.lusite.specs.Widths.{widths}
use Rattle.lusite.proofs.state.SiteState.widths.Given as goal

abbrev pub invariant-loop-k : goal.invariant-loop-k
invariant-loop-k l = record {
  rest : l.total + widths l.self.program l.early (drop (rank_at l.self.program l.k) l.self.program.plan.flat.order) ≡ widths l.self.program l.early (drop (rank_at l.self.program l.row) l.self.program.plan.flat.order);
  few : l.total ≤ 65537 * l.k;
}
