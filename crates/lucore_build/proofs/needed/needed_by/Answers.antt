use Rattle.std.proofs.Common.{◌≡◌, ◌∙◌, ℕ, List, [], ◌∷◌, length, sym, ap, subst, All, arith, refl, ◌↔◌}
use Rattle.lutree.specs.Tree.{program_view}
use Rattle.lubase.specs.Search.{Has}
use Rattle.lubase.specs.declared.link.Link.{Link}
use Rattle.lubase.specs.Reach.{IsWithin, IsReached, start}
use Rattle.lutype.proofs.CallWays.{are_rows}
use Rattle.lucore_build.specs.Listed.{links_from}
use Rattle.lucore_build.proofs.Reaching.{within, closed}
use Rattle.lucore_build.proofs.needed.needed_by.Goals as goal

pub reached-requires-clause-links : goal.reached-requires-clause-links
reached-requires-clause-links c =
    let p = program_view c.args.catalog.now in
    let g = c.in_ok-graph.graph.items in
    let links : c.deref-2.result.now ≡ links_from 0 g = c.deref-2.ensures.value ∙ c.in_ok-links.ensures ∙ ap (links_from 0) c.deref.ensures.value in
    let size : c.len.result ≡ length g = c.len.ensures ∙ sym c.deref.ensures.len ∙ ap length c.deref.ensures.value in
    subst (All (IsWithin c.len.result)) (sym links) (within p g (are_rows p g c.in_ok-graph.ensures) c.len.result size)

pub returns-clause-start : goal.returns-clause-start
returns-clause-start c = (c.in_ok-marks.ensures.exact c.args.place).1 (start c.args.place (0, omega arith, refl))

pub returns-clause-closed : goal.returns-clause-closed
returns-clause-closed c =
    let p = program_view c.args.catalog.now in
    let g = c.in_ok-graph.graph.items in
    let links : c.deref-2.result.now ≡ links_from 0 g = c.deref-2.ensures.value ∙ c.in_ok-links.ensures ∙ ap (links_from 0) c.deref.ensures.value in
    let marks = c.in_ok-marks.marks.items in
    closed p g (are_rows p g c.in_ok-graph.ensures) (c.args.place ∷ []) marks
    (subst (λ (l : List Link). (v : ℕ) → Has marks v ↔ IsReached (c.args.place ∷ []) l v) links c.in_ok-marks.ensures.exact)
