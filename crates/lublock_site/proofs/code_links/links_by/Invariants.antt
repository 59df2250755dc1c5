use Rattle.std.proofs.Common.{All}
use Rattle.lublock_site.specs.Codes.{IsSentLink}
use Rattle.lublock_site.proofs.code_links.links_by.Given as goal

abbrev pub invariant-loop-l : goal.invariant-loop-l
invariant-loop-l l = All (IsSentLink l.plan l.own) l.links.items
