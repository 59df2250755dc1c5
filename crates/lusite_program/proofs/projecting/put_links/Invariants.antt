use Rattle.std.proofs.Common.{◌≡◌, ◌++◌, take}
use Rattle.lusite_program.proofs.projecting.put_links.Given as goal

abbrev pub invariant-loop-link : goal.invariant-loop-link
invariant-loop-link l = l.links.items ≡ l.initial.links.items ++ take l.link-index l.more
