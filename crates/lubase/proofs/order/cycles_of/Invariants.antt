use Rattle.std.proofs.Common.{◌≡◌, ℕ, ◌<◌, []}
use Rattle.lubase.specs.Search.{Has}
use Rattle.lubase.specs.States.{IsGroups}
use Rattle.lubase.proofs.order.cycles_of.Given as goal

abbrev pub invariant-loop-start : goal.invariant-loop-start
invariant-loop-start l =
    record {
      sound : IsGroups l.graph l.groups;
      empty : l.groups.frames.items ≡ [];
      entered : (v : ℕ) → v < l.start → Has l.groups.entered.items v;
    }
