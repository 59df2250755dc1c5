use Rattle.std.proofs.Common.{◌≡◌, drop}
use Rattle.toml.specs.View.{items_view}
use Rattle.luplace_file.specs.Keys.{names_in}
use Rattle.luplace_file.proofs.Walks.{with_front}
use Rattle.luplace_file.proofs.draft.names_in.Given as goal

-- the names so far, and those of the values that are left, are all of them
abbrev pub invariant-loop-value : goal.invariant-loop-value
invariant-loop-value l = with_front l.names.items (names_in (items_view (drop l.value-index l.values))) ≡ names_in (items_view l.values)
