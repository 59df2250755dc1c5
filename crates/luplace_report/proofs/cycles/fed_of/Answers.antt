use Rattle.std.proofs.Common.{◌≡◌, ℕ, List, [], ◌∷◌, ◌++◌, length, map, sym, ap, ◌∙◌, subst, Bool}
use Rattle.std.specs.Prelude.{◌↔◌, All}
use Rattle.lubase.specs.Reach.{IsWithin, IsReached}
use Rattle.lubase.specs.Search.{Has}
use Rattle.lubase.specs.declared.link.Link.{Link as Pair}
use Rattle.luplace_report.specs.Cycles.{ends}
use Rattle.luplace_report.proofs.Feeding.{fed_more, links_within}
use Rattle.luplace_report.proofs.cycles.fed_of.Goals as goal

pub reached-requires-clause-links : goal.reached-requires-clause-links
reached-requires-clause-links c =
    let plan = c.args.plan.now in
    let same : c.as_slice.result.now ≡ map ends plan.links = c.as_slice.ensures.value ∙ c.in_ok-pairs.ensures in
    let within = subst (λ (ns : List (List ℕ)). All (IsWithin (length ns)) (map ends plan.links)) (sym c.sites-sites.ensures) (links_within plan c.recall_invariant.ensures) in
    subst (λ (ps : List Pair). All (IsWithin (length c.sites-sites.result.now)) ps) (sym same) within

pub loop-site-preserved : goal.loop-site-preserved
loop-site-preserved c =
    let plan = c.args.plan.now in
    let site = c.loop-site.site in
    let old = c.loop-site.fed.items in
    let marks = c.in_ok-marks.marks.items in
    let same : c.as_slice.result.now ≡ map ends plan.links = c.as_slice.ensures.value ∙ c.in_ok-pairs.ensures in
    let exact = subst (λ (ps : List Pair). (t : ℕ) → Has marks t ↔ IsReached (site ∷ []) ps t) same c.in_ok-marks.ensures.exact in
    fed_more plan site old c.push.new.self.items marks c.loop-site.invariant (c.in_ok-push.ensures.items ∙ ap (λ (r : List Bool). old ++ r ∷ []) c.new.ensures) exact
