use Rattle.std.proofs.Common.{◌≡◌, drop}
use Rattle.toml.specs.View.{items_view}
use Rattle.luplace_file.specs.Keys.{texts_in}
use Rattle.luplace_file.proofs.Walks.{with_front}
use Rattle.luplace_file.proofs.choice.texts_in.Given as goal

-- the texts so far, and those of the values that are left, are all of them
abbrev pub invariant-loop-value : goal.invariant-loop-value
invariant-loop-value l = with_front l.texts.items (texts_in (items_view (drop l.value-index l.values))) ≡ texts_in (items_view l.values)
