use Rattle.std.proofs.Common.{◌≡◌, ℕ, ◌∷◌, [], List, ap, sym, subst, ◌∙◌, length, length-append, map, arith}
use Rattle.std.specs.Prelude.{slice_get, slice_index, Some}
use Rattle.lusite_program.specs.declared.program.Part.{Part}
use Rattle.lusite_program.specs.Programs.{ranks_of, clock_at_rank, IsSiteFlow}
use Rattle.std.proofs.lemmas.Option.{same_Some}
use Rattle.lusite_program.proofs.SiteFlows.{rank_below, few_site_flows, few_sends, few_ranks, part_rank, longer_moved, site_flows_more, same_more}
use Rattle.lusite_program.proofs.projecting.site_parts_of.Goals as goal

pub site_flow-requires-clause-rank : goal.site_flow-requires-clause-rank
site_flow-requires-clause-rank c = (rank_below c.args.plan.now c.args.site c.loop-k.k c.args.ranks.now c.requires.ranks c.loop-k-test.true).1

pub site_flow-requires-clause-part : goal.site_flow-requires-clause-part
site_flow-requires-clause-part c =
    c.index-parts-k.is
    ∙ part_rank c.args.plan.now c.args.site c.loop-k.k (slice_index c.args.ranks.now c.loop-k.k) c.args.parts.now c.index-parts-k.result c.requires.parts (rank_below c.args.plan.now c.args.site c.loop-k.k c.args.ranks.now c.requires.ranks c.loop-k-test.true).0

pub site_flow-requires-clause-few : goal.site_flow-requires-clause-few
site_flow-requires-clause-few c = few_site_flows c.args.plan.now c.args.site c.loop-k.k c.args.ranks.now c.loop-k.branches.items c.requires.plan c.requires.ranks c.loop-k-test.true c.loop-k.invariant.few

pub site_flow-requires-clause-few_links : goal.site_flow-requires-clause-few_links
site_flow-requires-clause-few_links c =
    let n = few_ranks c.args.plan.now c.args.site c.args.ranks.now c.requires.plan c.requires.ranks in
    omega (arith, n, c.loop-k-test.true, c.loop-k.invariant.few_links)

pub loop-k-preserved : goal.loop-k-preserved
loop-k-preserved c =
    let plan = c.args.plan.now in
    let site = c.args.site in
    let k = c.loop-k.k in
    let p = c.push_reserved.ensures in
    let so_far = c.loop-k.invariant in
    let next = c.in_ok-next.next in
    let put = slice_index c.args.numbers.now in
    let new = c.site_flow.new.branches.items in
    let longer = c.in_ok-next.ensures.longer in
    let more = c.in_ok-next.ensures.links in
    let n = length-append c.loop-k.site_flows.items (next ∷ []) in
    let e = ap length p.items in
    let there = (rank_below plan site k c.args.ranks.now c.requires.ranks c.loop-k-test.true).0 in
    let outs = few_sends plan site (slice_index plan.flat.order (slice_index c.args.ranks.now k)) c.requires.plan in
    let grown = ap length more in
    let both_links = length-append c.loop-k.links.items c.index-parts-k.result.to in
    let to = ap (λ (x : Part). length x.to) (c.index-parts-k.is ∙ part_rank plan site k (slice_index c.args.ranks.now k) c.args.parts.now c.index-parts-k.result c.requires.parts there) in
    record {
      len = let b = so_far.len in omega (arith, e, n, b);
      few = let f = so_far.few in let m = ap length longer.is in let own = longer.few in let both = length-append c.loop-k.branches.items longer.more in omega (arith, f, m, own, both);
      few_links = let f = so_far.few_links in omega (arith, f, grown, both_links, to, outs);
      each = λ j q x eq ex. subst (λ (ls : List ℕ). IsSiteFlow plan site (map put new) ls q x) (sym more) (site_flows_more plan site (map put c.loop-k.branches.items) (map put new) c.loop-k.links.items c.index-parts-k.result.to c.loop-k.site_flows.items c.push_reserved.new.self.items k (slice_index c.args.ranks.now k) next (longer_moved put c.loop-k.branches.items new longer) p.items so_far.len there (subst (λ (ls : List ℕ). IsSiteFlow plan site (map put new) ls (slice_index c.args.ranks.now k) next) more c.in_ok-next.ensures.site_flow) so_far.each j q x eq ex);
      before = λ j r ej er. let same : j ≡ k = omega (arith, ej) in
          let here : slice_index c.args.ranks.now k ≡ r = same_Some (slice_index c.args.ranks.now k) r (sym there ∙ ap (slice_get (ranks_of plan site)) (sym same) ∙ er) in
          c.in_ok-next.ensures.clock ∙ ap (clock_at_rank plan) here;
      same = same_more plan site c.loop-k.site_flows.items next (slice_index c.args.ranks.now k) so_far.same
          (λ j r ej er on. sym (so_far.before j r (let b = so_far.len in omega (arith, ej, b)) er) ∙ ap Some (c.in_ok-next.ensures.same on) ∙ c.in_ok-next.ensures.clock)
          (ap (slice_get (ranks_of plan site)) so_far.len ∙ there) c.push_reserved.new.self.items p.items;
      room = let a = p.capacity in let b = so_far.room in omega (arith, a, b);
    }
