use Rattle.std.proofs.Common.{All}
use Rattle.lulist.specs.Starts.{IsListLink}
use Rattle.lulist.proofs.linking.links_of.Given as goal

abbrev pub invariant-loop-l : goal.invariant-loop-l
invariant-loop-l l = record { each : All (IsListLink l.plan l.flows.places.items) l.links.items }
