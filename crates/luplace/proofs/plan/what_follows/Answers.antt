use Rattle.std.proofs.Common.{◌≡◌, [], List, ℕ, Bool, map, length, ap, ap₂, sym, subst, ◌∙◌}
use Rattle.std.specs.Prelude.{All}
use Rattle.luflow.specs.declared.variable.Variable.{Variable}
use Rattle.luflow.specs.Flats.{IsFlat}
use Rattle.std.specs.List.Sorted.{IsStrictlyIncreasing}
use Rattle.luplace_file.specs.Lawful.{AreSites}
use Rattle.luplace.specs.Placing.{bare}
use Rattle.luplace.specs.Marks.{AreAllMarks, marked_places, links_below}
use Rattle.luplace.proofs.Planned.{plan_parts, needs_in_order}
use Rattle.luplace.proofs.Sited.{placed_sites, placed_long}
use Rattle.luplace.proofs.plan.what_follows.Goals as goal

pub returns-clause-in_order : goal.returns-clause-in_order
returns-clause-in_order c =
    let rows = c.in_ok-rows.rows.items in
    let needs : c.new-2.result ≡ map marked_places rows = c.new-2.ensures ∙ c.in_ok-needs.ensures ∙ ap (map marked_places) c.as_slice-2.ensures.value in
    subst (All IsStrictlyIncreasing) (sym needs) (needs_in_order rows)

pub returns-clause-plan : goal.returns-clause-plan
returns-clause-plan c =
    let flat = c.args.flat.now in
    let place = c.args.place.now in
    let placed = c.args.placed.now in
    let rows = c.in_ok-rows.rows.items in
    let lawful = c.sites.ensures.lawful in
    let is_flat : IsFlat flat = c.recall_invariant.ensures in
    let marks : AreAllMarks (bare flat [] placed) (length place.sites) rows = subst (λ (xs : List (List ℕ)). AreAllMarks (bare flat [] placed) (length xs) rows) c.sites.ensures.sites c.in_ok-rows.ensures in
    let inside : All (AreSites (length place.sites)) placed = subst (All (AreSites (length place.sites))) (sym c.requires.rows) (placed_sites place flat.variables lawful) in
    let long : length placed ≡ length flat.variables = ap length c.requires.rows ∙ placed_long place flat.variables in
    let names : c.new.result ≡ place.sites = c.new.ensures ∙ c.in_ok-names.ensures ∙ c.sites-2.ensures.sites in
    let needs : c.new-2.result ≡ map marked_places rows = c.new-2.ensures ∙ c.in_ok-needs.ensures ∙ ap (map marked_places) c.as_slice-2.ensures.value in
    let links : c.new-3.result ≡ links_below rows flat.owners placed (length flat.variables) =
    c.new-3.ensures
    ∙ c.in_ok-links.ensures
    ∙ ap (λ (xs : List (List Bool)). links_below xs c.owners.result.now placed (length c.variables-variables.result.now)) c.as_slice.ensures.value
    ∙ ap₂ (λ (os : List ℕ) (vs : List Variable). links_below rows os placed (length vs)) c.owners.ensures c.variables-variables.ensures in
    plan_parts flat place.sites placed rows place.capacity is_flat long marks lawful.some_site lawful.few_sites lawful.some_room lawful.little_room c.requires.somewhere inside c.requires.together c.new.result c.new-2.result c.new-3.result names needs links
