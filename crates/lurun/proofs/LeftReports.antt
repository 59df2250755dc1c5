-- The reports that stations left.
use Rattle.std.proofs.Common.{◌≡◌, ℕ, List, [], ◌∷◌, ◌++◌, map, Some, None, All, sym, ap, ap₂, ◌∙◌, subst, append_assoc}
use Rattle.std.specs.Prelude.{IsSome}
use Rattle.std.proofs.lemmas.List.{map-append}
use Rattle.std.proofs.lemmas.List.Elements.{All-same, All-head, All-tail}
use Rattle.luworld.specs.Jobs.{JobView}
use Rattle.lusite.specs.Sites.{SiteView}
use Rattle.lurun.specs.declared.engine.Engine.TheVariants.{Items}
use Rattle.lurun.specs.Crew.{reported}
use Rattle.lurun.specs.Stations.{StationView, ReportView, AllGoBy, IsReport, place_of, places, site_at}

-- one report more is moved over
pub left_moved : (all : List (JobView × ℕ)) (left more : List SiteView) (reports rest : List ReportView) (r : ReportView) (v : SiteView) → reports ≡ r ∷ rest → r.left ≡ Some v → IsReport r → more ≡ left ++ v ∷ [] → map place_of left ++ places (reported reports) ≡ all → map place_of more ++ places (reported rest) ≡ all
left_moved all left more reports rest r v e there is m was =
    let at = is.of_site v there in
    let same : place_of v ≡ place_of (site_at r.of) = ap₂ (λ (j : JobView) (n : ℕ). (j, n)) at.0 at.1 in
    let tail = places (reported rest) in
    ap (λ vs. map place_of vs ++ tail) m
    ∙ ap (λ ps. ps ++ tail) (map-append place_of left (v ∷ []))
    ∙ append_assoc (map place_of left) (place_of v ∷ []) tail
    ∙ ap (λ p. map place_of left ++ p ∷ tail) same
    ∙ ap (λ rs. map place_of left ++ places (reported rs)) (sym e)
    ∙ was

abbrev GoesByItems : StationView → Type 0
GoesByItems s = s.engine ≡ Items

-- the reports that are not moved over yet are of stations that go item by item, if all are
pub rest_by_items : (reports rest : List ReportView) (r : ReportView) → reports ≡ r ∷ rest → AllGoBy Items (reported reports) → AllGoBy Items (reported rest)
rest_by_items reports rest r e all = All-tail GoesByItems r.of (reported rest) (All-same GoesByItems (r.of ∷ reported rest) (reported reports) (sym (ap reported e)) all)

-- a station that goes item by item leaves a report
pub none_by_items : (reports rest : List ReportView) (r : ReportView) → reports ≡ r ∷ rest → IsReport r → r.left ≡ None → AllGoBy Items (reported reports) → ⊥
none_by_items reports rest r e is none all =
    let by = All-head GoesByItems r.of (reported rest) (All-same GoesByItems (r.of ∷ reported rest) (reported reports) (sym (ap reported e)) all) in
    let none_some : IsSome {T = SiteView} None = subst IsSome none (is.by_items by) in
    absurd cc
