use Rattle.std.proofs.Common.{ℕ, ◌+◌, ◌≤◌}
use Rattle.std.specs.Prelude.{All}
use Rattle.lueval_lines.specs.declared.cell.Cell.{Cell}
use Rattle.lueval_lines.specs.Cells.{newest}
use Rattle.lusite.specs.Machine.{more_of}
use Rattle.lusite.proofs.Counting.{AreRenewed}
use Rattle.lusite.proofs.kept.age_cells.Given as goal

abbrev pub invariant-loop-j : goal.invariant-loop-j
invariant-loop-j l = record {
  lasts : AreRenewed Cell newest l.kept l.shown l.initial.lasts l.lasts l.j;
  counts : AreRenewed ℕ more_of l.kept l.shown l.initial.counts l.counts l.j;
  low : All (λ m. m ≤ l.instant + 1) l.counts;
}
