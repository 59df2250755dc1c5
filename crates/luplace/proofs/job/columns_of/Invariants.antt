use Rattle.std.proofs.Common.{◌≡◌, ◌≤◌, cond, Some, None, length, map, slice_get}
use Rattle.std.specs.Prelude.{vec_capacity}
use Rattle.std.specs.List.{range_with_len}
use Rattle.luflow.specs.Program.{data_of}
use Rattle.luflow.specs.Tables.{columns_view}
use Rattle.luworld.specs.Needs.{stands}
use Rattle.luplace.specs.SiteInputsViews.{given_data}
use Rattle.luplace.proofs.job.columns_of.Given as goal

abbrev pub invariant-loop-c : goal.invariant-loop-c
invariant-loop-c l = record {
  made : given_data l.all.items ≡ map (λ k. cond (stands l.plan k l.site) (Some (data_of (slice_get (columns_view l.columns) k))) None) (range_with_len 0 l.c);
  room : length l.columns ≤ vec_capacity l.all;
  len : length l.all.items ≡ l.c;
}
