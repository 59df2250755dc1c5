use Rattle.std.proofs.Common.{ℕ, ◌<◌, List, length, ap, ◌∙◌, rules, arith}
use Rattle.std.specs.Prelude.{slice_get, slice_index}
use Rattle.std.proofs.lemmas.List.{length-replicate, length-set}
use Rattle.std.proofs.lemmas.Option.{slice_get_within}
use Rattle.lusite_program.proofs.SiteFlows.{number_noted}
use Rattle.lusite_program.proofs.projecting.numbers_of.Goals as goal

pub loop-k-init : goal.loop-k-init
loop-k-init c = record {
  len = ap length (c.in_ok-numbers.ensures.items_if_clones_equal (λ y k. search rules)) ∙ length-replicate c.args.flows 0;
  done = λ j i l. absurd (omega (arith, l));
}

pub note_number-requires-clause-within : goal.note_number-requires-clause-within
note_number-requires-clause-within c =
    let w = c.requires.within c.loop-k.k c.loop-k-test.true in
    let n = c.loop-k.invariant.len in
    omega (arith, w, n)

pub note_number-requires-clause-few : goal.note_number-requires-clause-few
note_number-requires-clause-few c = omega (arith, c.requires.few, c.loop-k-test.true)

pub loop-k-preserved : goal.loop-k-preserved
loop-k-preserved c =
    let places = c.args.places.now in
    let k = c.loop-k.k in
    let inv = c.loop-k.invariant in
    let lk = c.loop-k-test.true in
    let old = c.loop-k.numbers.items in
    let within : slice_index places k < length old = (let w = c.requires.within k lk in let n = inv.len in omega (arith, w, n)) in
    record {
      len = ap length c.note_number.ensures ∙ length-set old (slice_index places k) k ∙ inv.len;
      done = λ j i l e. ap (λ (xs : List ℕ). slice_get xs i) c.note_number.ensures ∙ number_noted places old k c.requires.once lk within inv.done j i l e;
    }

pub returns : goal.returns
returns c k i e =
    let l = slice_get_within c.args.places.now k i e in
    c.loop-k.invariant.done k i (omega (arith, l, c.loop-k-test.false)) e
