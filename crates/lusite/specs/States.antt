-- The states of a machine between its moves, and what a move keeps.
use Rattle.std.specs.Prelude.{◌≡◌, false}
use Rattle.lusite.specs.declared.state.SiteState.{SiteState}
use Rattle.lusite.specs.Logs.{IsLoggedAt}
use Rattle.lusite.specs.Machine.{IsSet, StandsAt, IsSameRun, is_faulted}

-- it has its parts, stands where its script has come to, and has logged what it has passed of the outputs
pub record IsInOrder (a : SiteState) : Type 0 where
  pub set : IsSet a
  pub stands : StandsAt a
  pub logged : IsLoggedAt a

-- in order, and not faulted
pub record IsGoing (a : SiteState) : Type 0 where
  pub in_order : IsInOrder a
  pub going : is_faulted a ≡ false

-- the same run, in order again, and with the fault that was there, if any
pub record GoesOn (a b : SiteState) : Type 0 where
  pub same : IsSameRun a b
  pub in_order : IsInOrder b
  pub fault : b.fault ≡ a.fault
