use Rattle.std.proofs.Common.{◌≡◌, map, take}
use Rattle.luplace_file.specs.Rules.{placed_at}
use Rattle.luplace_file.proofs.rules.all_placed.Given as goal

-- the entries so far are those of the variables so far
abbrev pub invariant-loop-wanted : goal.invariant-loop-wanted
invariant-loop-wanted l = l.entries.items ≡ map (placed_at l.sites) (take l.wanted-index l.place)
