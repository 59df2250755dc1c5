use Rattle.std.proofs.Common.{◌≡◌, ℕ, ◌+◌, ◌++◌, List, length, length-append, map, ap, subst, sym, ◌∙◌, arith}
use Rattle.std.specs.Prelude.{slice_index, Some}
use Rattle.std.specs.Option.{option_map}
use Rattle.luflow.specs.declared.form.Flow.{Flow}
use Rattle.std.proofs.lemmas.List.{get_or-append-add, length-map}
use Rattle.luflow.specs.Program.{FlatView, flow_at}
use Rattle.lueval_lines.specs.Cells.{IsLine}
use Rattle.lueval_lines.specs.Moving.{moved_clock, moved_form}
use Rattle.lueval_lines.specs.Operations.{IsInside}
use Rattle.lusite_program.specs.declared.program.Part.{Part}
use Rattle.lusite_program.proofs.SiteFlows.{few_sends}
use Rattle.lusite_program.proofs.projecting.site_flow.Goals as goal

pub overflow_cast-result : goal.overflow_cast-result
overflow_cast-result c =
    let few = few_sends c.args.plan.now c.args.site (slice_index c.args.plan.now.flat.order c.args.rank) c.flat.ensures.plan in
    let n = ap length c.as_slice-2.ensures in
    let m = ap (λ (x : Part). length x.to) c.requires.part in
    omega (arith, few, n, m)

pub returns-clause-site_flow : goal.returns-clause-site_flow
returns-clause-site_flow c =
    let plan = c.args.plan.now in
    let line = c.in_ok-line.line in
    let numbers = c.args.numbers.now in
    let branches = c.line_of.new.branches.items in
    let old = c.args.links.now.items in
    let to = c.args.part.now.to in
    let is = subst (λ (f : FlatView). IsLine f branches c.args.rank line) c.flat.ensures.flat c.in_ok-line.ensures.line in
    let moved = c.moved_line.ensures in
    let links = c.in_ok-put_links.ensures ∙ ap (λ (xs : List ℕ). old ++ xs) c.as_slice.ensures in
    let part = c.requires.part in
    let first : c.len-first.result ≡ length old = omega (arith, c.len-first.ensures, c.args.links.now.ok.0) in
    record {
      numbers = numbers;
      numbered = c.requires.numbers;
      flow = is.flow;
      there = ap (flow_at plan.flat) (sym is.place) ∙ is.there;
      place = moved.place ∙ ap (slice_index numbers) is.place;
      form = moved.form branches ∙ ap (moved_form (slice_index numbers)) is.form;
      inside = moved.inside (length (map (slice_index numbers) branches)) (subst (λ n. IsInside n line.operation) (sym (length-map branches (slice_index numbers))) is.inside);
      clock = moved.clock ∙ ap (moved_clock (slice_index numbers)) is.clock;
      owner = c.number_at.ensures ∙ ap (λ (xs : List ℕ). slice_index xs line.place) (c.owners.ensures ∙ ap (λ (f : FlatView). f.owners) c.flat-2.ensures.flat) ∙ ap (slice_index plan.flat.owners) is.place;
      own = ap (λ (x : Part). x.own) part;
      reported = ap (λ (x : Part). x.reported) part;
      from = ap (λ (x : Part). x.from) part;
      outs = ap length c.as_slice-2.ensures ∙ ap (λ (x : Part). length x.to) part;
      linked = let n = ap length links in let m = length-append old to in let k = ap length c.as_slice-2.ensures in omega (arith, n, m, k);
      to = λ j l. ap (λ (n : ℕ). slice_index c.put_links.new.links.items (n + j)) first ∙ ap (λ (xs : List ℕ). slice_index xs (length old + j)) links ∙ get_or-append-add old to j 0 ∙ ap (λ (x : Part). slice_index x.to j) part;
    }

pub returns-clause-clock : goal.returns-clause-clock
returns-clause-clock c =
    let plan = c.args.plan.now in
    let line = c.in_ok-line.line in
    let is = subst (λ (f : FlatView). IsLine f c.line_of.new.branches.items c.args.rank line) c.flat.ensures.flat c.in_ok-line.ensures.line in
    ap Some is.clock ∙ ap (option_map (λ (x : Flow). x.clock)) (sym is.there ∙ ap (flow_at plan.flat) is.place)
