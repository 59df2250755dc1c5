use Rattle.std.proofs.Common.{◌≡◌, ◌≤◌, [], All, length, vec_len, vec_capacity}
use Rattle.lurun.specs.Crew.{dealt}
use Rattle.lurun.proofs.crew.no_shares.Given as goal

abbrev pub invariant-loop : goal.invariant-loop
invariant-loop l = record {
  room : l.count ≤ vec_capacity l.shares;
  len : vec_len l.shares ≡ l.counter;
  none : length (dealt l.shares.items) ≡ 0;
  empty : All (λ s. s.items ≡ []) l.shares.items;
}
