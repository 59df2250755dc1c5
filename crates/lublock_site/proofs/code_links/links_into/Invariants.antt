use Rattle.std.proofs.Common.{All}
use Rattle.lublock_site.specs.Codes.{IsMarkedLink}
use Rattle.lublock_site.proofs.code_links.links_into.Given as goal

abbrev pub invariant-loop-l : goal.invariant-loop-l
invariant-loop-l l = All (IsMarkedLink l.plan l.taken) l.links.items
