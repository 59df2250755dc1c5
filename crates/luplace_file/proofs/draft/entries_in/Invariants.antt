use Rattle.std.proofs.Common.{◌≡◌}
use Rattle.toml.specs.View.{members_view}
use Rattle.luplace_file.specs.Keys.{entries_in}
use Rattle.luplace_file.proofs.Walks.{with_front}
use Rattle.luplace_file.proofs.draft.entries_in.Given as goal

-- the entries so far, and those that are left, are all of them
abbrev pub invariant-loop-key : goal.invariant-loop-key
invariant-loop-key l = with_front l.entries.items (entries_in l.version (members_view l.key-iterator)) ≡ entries_in l.version (members_view l.table.entries)
