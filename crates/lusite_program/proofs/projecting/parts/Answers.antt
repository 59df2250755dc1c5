use Rattle.std.proofs.Common.{◌≡◌, ◌≢◌, ℕ, ◌<◌, List, get_or, [], ◌∷◌, ◌++◌, length, map, take, refl, sym, ap, ap₂, subst, ◌∙◌, arith}
use Rattle.std.specs.Prelude.{slice_index}
use Rattle.std.proofs.lemmas.List.{map-append, take_more, take_all}
use Rattle.std.proofs.lemmas.Option.{get_or_from_slice_get}
use Rattle.luflow.specs.Program.{flows_of}
use Rattle.luworld.specs.Jobs.{link_into}
use Rattle.lusite_program.specs.declared.program.Part.{Part}
use Rattle.lusite_program.specs.Programs.{SiteProgramView, part_of}
use Rattle.lusite_program.proofs.Ranks.{places_in, places_once}
use Rattle.lusite_program.proofs.projecting.parts.Goals as goal

pub loop-k-init : goal.loop-k-init
loop-k-init c =
    let plan = c.args.plan.now in
    let p : SiteProgramView = record { plan = plan; site = c.args.site } in
    record {
      made = c.in_ok-all.ensures.items;
      room = let e = c.in_ok-all.ensures.exact in omega (arith, e);
      rows_len = refl;
      sources = refl;
      left = λ j le lt x there. c.requires.rows (slice_index c.args.places.now j) (subst (λ (ps : List ℕ). slice_index ps j < flows_of plan.flat) (sym c.requires.places) (places_in p c.requires.plan.flat_is.ordered j (subst (λ (ps : List ℕ). j < length ps) c.requires.places lt))) x there;
    }

pub take_row-to-requires : goal.take_row-to-requires
take_row-to-requires c =
    let plan = c.args.plan.now in
    let k = c.loop-k.k in
    let l = subst (λ (ps : List ℕ). slice_index ps k < flows_of plan.flat) (sym c.requires.places) (places_in (record { plan = plan; site = c.args.site }) c.requires.plan.flat_is.ordered k (subst (λ (ps : List ℕ). k < length ps) c.requires.places c.loop-k-test.true)) in
    let n = c.loop-k.invariant.rows_len in
    let m = c.requires.rows_len in
    omega (arith, l, n, m)

pub part-requires-clause-from : goal.part-requires-clause-from
part-requires-clause-from c =
    let plan = c.args.plan.now in
    let k = c.loop-k.k in
    let i = slice_index c.args.places.now k in
    let l : i < flows_of plan.flat = subst (λ (ps : List ℕ). slice_index ps k < flows_of plan.flat) (sym c.requires.places) (places_in (record { plan = plan; site = c.args.site }) c.requires.plan.flat_is.ordered k (subst (λ (ps : List ℕ). k < length ps) c.requires.places c.loop-k-test.true)) in
    c.index.ensures
    ∙ ap (λ xs. get_or xs i c.index.result.now) c.loop-k.invariant.sources
    ∙ get_or_from_slice_get c.args.carriers.now.sources.items i (link_into plan c.args.site i) c.index.result.now (c.requires.sources i l)

pub part-requires-clause-to : goal.part-requires-clause-to
part-requires-clause-to c = c.loop-k.invariant.left c.loop-k.k (omega arith) c.loop-k-test.true c.take_row-to.result c.take_row-to.ensures.row

pub loop-k-preserved : goal.loop-k-preserved
loop-k-preserved c =
    let plan = c.args.plan.now in
    let places = c.args.places.now in
    let k = c.loop-k.k in
    let i = slice_index places k in
    let p = c.push_reserved.ensures in
    let so_far = c.loop-k.invariant in
    let f : ℕ → Part = part_of plan c.args.site in
    let once = subst (λ (ps : List ℕ). (j n : ℕ) → j < n → n < length ps → slice_index ps j ≡ slice_index ps n → ⊥) (sym c.requires.places) (places_once (record { plan = plan; site = c.args.site }) c.requires.plan.flat_is.ordered) in
    record {
      made = p.items ∙ ap₂ (λ xs (x : Part). xs ++ x ∷ []) so_far.made c.part.ensures ∙ sym (map-append f (take k places) (i ∷ [])) ∙ ap (map f) (sym (take_more places k 0 c.loop-k-test.true));
      room = let a = p.capacity in let b = so_far.room in omega (arith, a, b);
      rows_len = c.take_row-to.ensures.len ∙ so_far.rows_len;
      sources = so_far.sources;
      left = λ j le lt x there.
          let ne : slice_index places j ≢ i = λ e. once k j (omega (arith, le)) lt (sym e) in
          so_far.left j (omega (arith, le)) lt x (sym (c.take_row-to.ensures.rest (slice_index places j) ne) ∙ there);
    }

pub returns : goal.returns
returns c = c.loop-k.invariant.made ∙ ap (map (part_of c.args.plan.now c.args.site)) (take_all c.loop-k.k c.args.places.now c.loop-k-test.false ∙ c.requires.places)
