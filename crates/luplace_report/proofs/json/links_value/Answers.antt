use Rattle.std.proofs.Common.{◌≡◌, ◌≤◌, ◌+◌, List, get_or, length, map, take, refl, sym, subst}
use Rattle.luworld.specs.declared.link.Link.{Link}
use Rattle.serde_json.specs.View.{view}
use Rattle.luplace_report.specs.Report.{link_data}
use Rattle.luplace_report.proofs.Ranges.{taken_more, all_taken}
use Rattle.luplace_report.proofs.json.links_value.Goals as goal

pub loop-link-preserved : goal.loop-link-preserved
loop-link-preserved c =
    let plan = c.args.plan.now in
    let links = c.links-link-items.result.now in
    let are : links ≡ plan.links = c.links-link-items.ensures in
    let k = c.loop-link.link-index in
    let none : Link = record { flow = 0; from = 0; to = 0 } in
    let before = subst (λ (ls : List Link). map view c.loop-link.values.items ≡ map (link_data plan) (take k ls)) (sym are) c.loop-link.invariant in
    subst (λ (ls : List Link). map view c.push.new.self.items ≡ map (link_data plan) (take (k + 1) ls)) are
    (taken_more view (link_data plan) links k none (get_or links k none) c.loop-link.values.items c.push.new.self.items c.in_ok-link_value.field-0 c.loop-link-test.true refl before c.in_ok-push.ensures.items c.in_ok-link_value.ensures)

pub returns : goal.returns
returns c =
    let plan = c.args.plan.now in
    let past = subst (λ (ls : List Link). length ls ≤ c.loop-link.link-index) c.links-link-items.ensures c.loop-link-test.false in
    all_taken (link_data plan) plan.links c.loop-link.link-index c.loop-link.values c.loop-link.invariant past
