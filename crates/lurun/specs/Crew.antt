-- What a crew's workers hold, and what they promise.
use Rattle.std.specs.Prelude.{◌≡◌, ◌≤◌, ℕ, ◌+◌, ◌%◌, Bool, ltb, List, [], ◌∷◌, ◌++◌}
use Rattle.std.specs.Prelude.{All, filter, flat_map, length, map, vec_capacity, Some, slice_get, slice_set}
use Rattle.std.specs.List.Sorted.{IsPermutation}
use Rattle.std.proofs.Common.{Vec, Global}
use Rattle.lurun.specs.declared.served.Share.{Share}
use Rattle.lurun.specs.Stations.{StationView, ReportView}

-- the stations of all workers
abbrev pub dealt : List (Vec StationView Global) → List StationView
dealt shares = flat_map (λ s. s.items) shares

-- the stations of worker i: those whose site leaves i, divided by the number of workers
abbrev pub AreOfWorker : ℕ → ℕ → Vec StationView Global → Type 0
AreOfWorker workers i share = All (λ (s : StationView). s.site % workers ≡ i) share.items

-- each worker has its own stations
abbrev pub AreDealt : ℕ → List (Vec StationView Global) → Type 0
AreDealt workers shares = (i : ℕ) (share : Vec StationView Global) → slice_get shares i ≡ Some share
    → AreOfWorker workers i share

-- one of the shares has one station more
pub record IsDealtTo (shares : List (Vec StationView Global)) (to : ℕ) (station : StationView)
    (shares' : List (Vec StationView Global)) : Type 0 where
  pub before : Vec StationView Global
  pub after : Vec StationView Global
  pub was : slice_get shares to ≡ Some before
  pub is : shares' ≡ slice_set shares to after
  pub more : after.items ≡ before.items ++ station ∷ []

abbrev pub has_station : Vec StationView Global → Bool
has_station share = ltb 0 (length share.items)

abbrev pub held : List Share → List StationView
held shares = flat_map (λ h. h.served.items) shares

-- there is room for a report of each station that is left
abbrev pub HasRoom : Share → Type 0
HasRoom share = length share.reports.items + length share.served.items ≤ vec_capacity share.reports

-- the same, and there is no report yet
pub record IsNewShare (share : Share) : Type 0 where
  pub none : share.reports.items ≡ []
  pub room : length share.served.items ≤ vec_capacity share.reports

-- the stations of which there are reports
abbrev pub reported : List ReportView → List StationView
reported reports = map (λ (r : ReportView). r.of) reports

-- so far there are these reports of the stations, and these stations are left
abbrev pub AreReportedSoFar : List StationView → List ReportView → List StationView → Type 0
AreReportedSoFar stations reports left = IsPermutation stations (reported reports ++ left)

-- the reports and the stations that are left now are of the stations that they were of
abbrev pub GoesOn : Share → Share → Type 0
GoesOn h h' = (stations : List StationView) → AreReportedSoFar stations h.reports.items h.served.items
    → AreReportedSoFar stations h'.reports.items h'.served.items

-- the workers that have a station are started with their shares
pub record AreShares (workers : ℕ) (started : List Share) : Type 0 where
  pub shares : List (Vec StationView Global)
  pub count : length shares ≡ workers
  pub each : AreDealt workers shares
  pub are : map (λ (h : Share). h.served) started ≡ filter has_station shares
