use Rattle.std.proofs.Common.{◌≡◌, ℕ, ◌<◌, List, length, ap, sym, subst, ◌∙◌, rules, arith}
use Rattle.std.specs.Prelude.{slice_get, slice_index}
use Rattle.luflow.specs.Program.{FlatView}
use Rattle.luworld.specs.Needs.{PlanView, IsPlan}
use Rattle.lusite_program.specs.Carriers.{HasSources}
use Rattle.lusite_program.specs.Programs.{ranks_of, places_of, output_names, AreNumbers, AreSiteFlows, AreReported}
use Rattle.lusite_program.proofs.Carried.{source_there, row_found}
use Rattle.lusite_program.proofs.SiteFlows.{few_places}
use Rattle.lusite_program.proofs.Ranks.{places_in, places_once}
use Rattle.lusite_program.proofs.projecting.project.Goals as goal

pub known_ranks-requires : goal.known_ranks-requires
known_ranks-requires c =
    let plan = c.args.plan.now in
    let same = ap length c.flows-flows.ensures.flows ∙ ap (λ (f : FlatView). length f.flows) c.flat.ensures.flat in
    let found = c.in_ok-carriers.carriers in
    subst (HasSources plan c.args.site) (sym c.as_slice.ensures.value)
    (λ i li. source_there plan c.args.site (length c.flows-flows.result.now) i found.sources.items found.rows.items c.in_ok-carriers.ensures (omega (arith, li, same)))

pub numbers_of-requires-clause-few : goal.numbers_of-requires-clause-few
numbers_of-requires-clause-few c =
    let n = ap length (c.as_slice-3.ensures.value ∙ c.in_ok-places.ensures) in
    let few = few_places c.args.plan.now c.args.site c.flat.ensures.plan in
    omega (arith, n, few)

pub numbers_of-requires-clause-within : goal.numbers_of-requires-clause-within
numbers_of-requires-clause-within c =
    let plan = c.args.plan.now in
    let same = ap length c.flows-flows.ensures.flows ∙ ap (λ (f : FlatView). length f.flows) c.flat.ensures.flat in
    let places = c.as_slice-3.ensures.value ∙ c.in_ok-places.ensures in
    subst (λ (ps : List ℕ). (k : ℕ) → k < length ps → slice_index ps k < length c.flows-flows.result.now) (sym places)
    (λ k l. let w = places_in (record { plan = plan; site = c.args.site }) c.flat.ensures.plan.flat_is.ordered k l in omega (arith, w, same))

pub numbers_of-requires-clause-once : goal.numbers_of-requires-clause-once
numbers_of-requires-clause-once c =
    let plan = c.args.plan.now in
    let places = c.as_slice-3.ensures.value ∙ c.in_ok-places.ensures in
    subst (λ (ps : List ℕ). (j k : ℕ) → j < k → k < length ps → slice_index ps j ≡ slice_index ps k → ⊥) (sym places)
    (places_once (record { plan = plan; site = c.args.site }) c.flat.ensures.plan.flat_is.ordered)

pub parts-requires-clause-sources : goal.parts-requires-clause-sources
parts-requires-clause-sources c i li =
    let plan = c.args.plan.now in
    let same = ap length c.flows-flows.ensures.flows ∙ ap (λ (f : FlatView). length f.flows) c.flat.ensures.flat in
    let found = c.in_ok-carriers.carriers in
    source_there plan c.args.site (length c.flows-flows.result.now) i found.sources.items found.rows.items c.in_ok-carriers.ensures (omega (arith, li, same))

pub parts-requires-clause-rows : goal.parts-requires-clause-rows
parts-requires-clause-rows c i li x there =
    let found = c.in_ok-carriers.carriers in
    row_found c.args.plan.now c.flat.ensures.plan c.args.site (length c.flows-flows.result.now) i found.sources.items found.rows.items x c.in_ok-carriers.ensures there

pub parts-requires-clause-rows_len : goal.parts-requires-clause-rows_len
parts-requires-clause-rows_len c = c.in_ok-carriers.ensures.rows_len ∙ ap length c.flows-flows.ensures.flows ∙ ap (λ (f : FlatView). length f.flows) c.flat.ensures.flat

pub parts-requires-clause-sources_len : goal.parts-requires-clause-sources_len
parts-requires-clause-sources_len c = c.in_ok-carriers.ensures.sources_len ∙ ap length c.flows-flows.ensures.flows ∙ ap (λ (f : FlatView). length f.flows) c.flat.ensures.flat

pub site_parts_of-requires-clause-numbers : goal.site_parts_of-requires-clause-numbers
site_parts_of-requires-clause-numbers c =
    subst (AreNumbers c.args.plan.now c.args.site) (sym c.as_slice-7.ensures.value)
    (λ k i e. c.in_ok-numbers.ensures k i (ap (λ (ps : List ℕ). slice_get ps k) (c.as_slice-3.ensures.value ∙ c.in_ok-places.ensures) ∙ e))

pub outputs_reported-requires : goal.outputs_reported-requires
outputs_reported-requires c =
    subst (AreNumbers c.args.plan.now c.args.site) (sym c.as_slice-8.ensures.value)
    (λ k i e. c.in_ok-numbers.ensures k i (ap (λ (ps : List ℕ). slice_get ps k) (c.as_slice-3.ensures.value ∙ c.in_ok-places.ensures) ∙ e))

pub invariant_of-result : goal.invariant_of-result
invariant_of-result c =
    let s = c.args.site in
    let plan = c.args.plan.now in
    let kept = sym c.of.ensures in
    let laid = c.in_ok-site_flows.field-0 in
    record {
      plan_is = subst IsPlan kept c.flat.ensures.plan;
      end_is = ap length (c.rank.ensures ∙ ap (λ (f : FlatView). f.order) c.flat-2.ensures.flat ∙ ap (λ (q : PlanView). q.flat.order) kept);
      ranks_are = c.new.ensures ∙ c.in_ok-ranks.ensures ∙ ap (λ (q : PlanView). ranks_of q s) kept;
      places_are = c.new-2.ensures ∙ c.in_ok-places.ensures ∙ ap (λ (q : PlanView). places_of q s) kept;
      site_flows_are = subst (λ (q : PlanView). AreSiteFlows q s c.new-4.result c.new-5.result c.new-3.result) kept
          (subst (λ (xs : List ℕ). AreSiteFlows plan s xs c.new-5.result c.new-3.result) (sym c.new-4.ensures)
          (subst (λ (xs : List ℕ). AreSiteFlows plan s laid.branches.items xs c.new-3.result) (sym c.new-5.ensures)
          (subst (AreSiteFlows plan s laid.branches.items laid.links.items) (sym c.new-3.ensures) c.in_ok-site_flows.ensures)));
      reported_are = subst (λ (q : PlanView). AreReported q s c.new-6.result) kept (subst (AreReported plan s) (sym c.new-6.ensures) c.in_ok-reported.ensures.reported);
      sites_are = search rules;
      names_are = c.new-7.ensures ∙ c.in_ok-reported.ensures.names ∙ ap output_names kept;
    }
