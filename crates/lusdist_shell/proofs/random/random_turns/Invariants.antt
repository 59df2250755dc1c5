use Rattle.std.proofs.Common.{◌≡◌, ℕ, ◌<◌, ◌≤◌, All, vec_len, vec_capacity}
use Rattle.lusdist_shell.specs.RandomTurns.{state_after, random_turns}
use Rattle.lusdist_shell.proofs.random.random_turns.Given as goal

-- there is room for all turns, those so far were made, and the state is the one behind them
abbrev pub invariant-loop : goal.invariant-loop
invariant-loop l = record {
  room : l.count ≤ vec_capacity l.turns;
  few : vec_len l.turns ≡ l.counter;
  state : l.state ≡ state_after l.seed l.counter;
  made : l.turns.items ≡ random_turns l.seed l.sites l.counter;
  below : All (λ (s : ℕ). s < l.sites) l.turns.items;
}
