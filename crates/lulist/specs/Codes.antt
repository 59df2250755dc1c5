-- What a site's part of a plan holds.
use Rattle.std.specs.Prelude.{◌<◌, All}
use Rattle.luworld.specs.Needs.{sites_of}
use Rattle.lulist.specs.declared.code.ListCode.TheInside as code
use Rattle.lulist.specs.Rows.{AreOrderedFlows}
use Rattle.lulist.specs.Starts.{IsListLink}

-- the flows of the site in order, and its links
pub record IsListCode (a : code.Inside) : Type 0 where
  pub inside : a.site < sites_of a.plan.value
  pub flows : AreOrderedFlows a.plan.value a.site a.flows
  pub brought : All (IsListLink a.plan.value a.flows.places.items) a.brought.items
  pub sent : All (IsListLink a.plan.value a.flows.places.items) a.sent.items
