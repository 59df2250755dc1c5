use Rattle.std.specs.Prelude.{◌≡◌, slice_index, All, Vec}
use Rattle.std.specs.declared.alloc.Global.{Global}
use Rattle.std.proofs.lemmas.List.Elements.{All-nil}
use Rattle.std.proofs.Common.{[], ◌++◌, length, arith, sym, ap, ◌∙◌, subst}
use Rattle.lutree.specs.declared.program.Program.{Program}
use Rattle.lutree.specs.Tree.{program_view}
use Rattle.lustat_rules.specs.Naming.{node_place, IsCallOrder}
use Rattle.luinside.specs.Starts.{AreBounds}
use Rattle.luinside.specs.declared.listing.Instance.{Instance}
use Rattle.luinside.specs.Listing.{all_from}
use Rattle.luinside.specs.Listed.{IsLow}
use Rattle.luinside.proofs.Low.{all_low}
use Rattle.luinside.proofs.Bounds.{bounds}
use Rattle.luinside.proofs.Meaning.{made_list, too_large, no_main}
use Rattle.luinside.proofs.listing.instances.Goals as goal
use Rattle.luinside.proofs.listing.instances.Goals.{in-Some+then-number_at-le-MOST_FLOWS+in_ok-push_from, in-Some+else-number_at-le-MOST_FLOWS, in_default}

pub push_from-requires-clause-bounds : goal.push_from-requires-clause-bounds
push_from-requires-clause-bounds c =
    let counts = c.in_ok-counts.counts.items in
    let here = bounds (program_view c.args.program.now.program) counts c.in_ok-counts.ensures.counted in
    subst (λ (g : Program). AreBounds (program_view g) c.as_slice-then-number_at-le-MOST_FLOWS.result.now) (sym c.catalog-catalog.ensures.catalog)
    (subst (AreBounds (program_view c.args.program.now.program)) (sym c.as_slice-then-number_at-le-MOST_FLOWS.ensures.value) here)

pub returns-clause-lists : goal.returns-clause-lists
returns-clause-lists c =
    let p = program_view c.args.program.now.program in
    let main = c.args.program.now.main in
    let counts = c.in_ok-counts.counts.items in
    let list = c.match-place.found.items in
    let placed = ap (λ (g : Program). node_place (program_view g) c.main.result.now) (sym c.catalog-catalog.ensures.catalog) in
    let at_place = sym (ap (node_place p) c.main.ensures) ∙ placed ∙ sym c.place.ensures in
    elim c.match-place.branch [
      | in-Some+then-number_at-le-MOST_FLOWS+in_ok-push_from w ↦
          let here = at_place ∙ w.in-Some.is in
          let order = w.order-depth.result.now in
          let calls = subst (λ o. IsCallOrder p o) (sym w.order-depth.ensures.order) w.order-depth.ensures.calls in
          let d = length order in
          let i = w.in-Some.place in
          let here_counts = w.as_slice-then-number_at-le-MOST_FLOWS.result.now in
          let g = c.catalog-catalog.result.now in
          let first = w.main_instance-main.result in
          let old = c.new-found.result.items in
          let pushed : list ≡ old ++ all_from (program_view g) here_counts d first.path first.node first.start = ap (λ v. v.items) w.found-is ∙ w.in_ok-push_from.ensures in
          let made : list ≡ all_from p counts d [] i 0 = pushed ∙ ap (λ (x : Instance). old ++ all_from (program_view g) here_counts d x.path x.node x.start) w.main_instance-main.ensures
          ∙ ap (λ l. l ++ all_from (program_view g) here_counts d [] i 0) c.new-found.ensures.items
          ∙ ap (λ (g : Program). all_from (program_view g) here_counts d [] i 0) c.catalog-catalog.ensures.catalog
          ∙ ap (λ cs. all_from p cs d [] i 0) w.as_slice-then-number_at-le-MOST_FLOWS.ensures.value in
          made_list p main counts order list i c.in_ok-counts.ensures.counted calls here (λ le. made)
      | in-Some+else-number_at-le-MOST_FLOWS w ↦
          let number = w.number_at.ensures ∙ ap (λ cs. slice_index cs w.in-Some.place) w.as_slice.ensures.value in
          let large = w.if-number_at-le-MOST_FLOWS.false in
          too_large p main counts list w.in-Some.place c.in_ok-counts.ensures.counted (at_place ∙ w.in-Some.is) (omega (arith, number, large))
      | in_default w ↦ no_main p main list (at_place ∙ w.in_default.is)
    ]

pub returns-clause-low : goal.returns-clause-low
returns-clause-low c =
    let p = program_view c.args.program.now.program in
    let counts = c.in_ok-counts.counts.items in
    let list = c.match-place.found.items in
    let none : c.new-found.result.items ≡ [] = c.new-found.ensures.items in
    let nothing : All (IsLow p) c.new-found.result.items = subst (All (IsLow p)) (sym none) (All-nil (IsLow p)) in
    elim c.match-place.branch [
      | in-Some+then-number_at-le-MOST_FLOWS+in_ok-push_from w ↦
          let order = w.order-depth.result.now in
          let d = length order in
          let i = w.in-Some.place in
          let here_counts = w.as_slice-then-number_at-le-MOST_FLOWS.result.now in
          let g = c.catalog-catalog.result.now in
          let first = w.main_instance-main.result in
          let old = c.new-found.result.items in
          let pushed : list ≡ old ++ all_from (program_view g) here_counts d first.path first.node first.start = ap (λ v. v.items) w.found-is ∙ w.in_ok-push_from.ensures in
          let made : list ≡ all_from p counts d [] i 0 = pushed ∙ ap (λ (x : Instance). old ++ all_from (program_view g) here_counts d x.path x.node x.start) w.main_instance-main.ensures
          ∙ ap (λ l. l ++ all_from (program_view g) here_counts d [] i 0) c.new-found.ensures.items
          ∙ ap (λ (g : Program). all_from (program_view g) here_counts d [] i 0) c.catalog-catalog.ensures.catalog
          ∙ ap (λ cs. all_from p cs d [] i 0) w.as_slice-then-number_at-le-MOST_FLOWS.ensures.value in
          let number = w.number_at.ensures ∙ ap (λ cs. slice_index cs i) w.as_slice.ensures.value in
          let few = w.if-number_at-le-MOST_FLOWS.true in
          subst (All (IsLow p)) (sym made) (all_low p counts (bounds p counts c.in_ok-counts.ensures.counted) d [] i 0 (omega (arith, number, few)))
      | in-Some+else-number_at-le-MOST_FLOWS w ↦ subst (λ (v : Vec Instance Global). All (IsLow p) v.items) (sym w.found-is) nothing
      | in_default w ↦ subst (λ (v : Vec Instance Global). All (IsLow p) v.items) (sym w.found-is) nothing
    ]
