use Rattle.std.proofs.Common.{◌≡◌, ◌∙◌, ◌<◌, ℕ, length, Option, Some, None, true, eqb, inl, inr, sym, ap, arith}
use Rattle.std.specs.Prelude.{slice_get, option_map}
use Rattle.std.specs.Option.{option_eq}
use Rattle.std.proofs.lemmas.Bool.{cases_lt, eqb-true}
use Rattle.std.proofs.lemmas.List.{length-map}
use Rattle.std.proofs.lemmas.Option.{same_Some, slice_get-map, slice_get-get_or, slice_get_within}
use Rattle.lubase.specs.Places.{first_place}
use Rattle.lustat_init.specs.declared.begun.Beginning.{Beginning}
use Rattle.lustat_init.specs.Beginnings.{spelled}
use Rattle.lustat_init.proofs.Tabled.{distinct}
use Rattle.lustat_init.proofs.begun.are_once.Goals as goal

-- what is equal to a place is that place
found_is : (o : Option ℕ) (i : ℕ) → option_eq eqb o (Some i) ≡ true → o ≡ Some i
found_is None i h = cc
found_is (Some j) i h = ap Some (eqb-true j i h)

pub loop-i-preserved : goal.loop-i-preserved
loop-i-preserved c k x low at =
    let all = c.args.all.now in
    let i = c.loop-i.i in
    let b : Beginning = c.index-all-i.result in
    let lt : i < length all = omega arith in
    elim (cases_lt k i) [
      | inl before ↦ c.loop-i.invariant k x before at
      | inr here ↦
          let same : k ≡ i = omega (arith, low, here) in
          let there : slice_get (spelled all) i ≡ Some b.name.now =
          slice_get-map (λ (y : Beginning). y.name.now) all i ∙ ap (option_map (λ (y : Beginning). y.name.now)) (slice_get-get_or all i b lt ∙ ap Some (sym c.index-all-i.is)) in
          let name : b.name.now ≡ x = same_Some b.name.now x (sym there ∙ ap (slice_get (spelled all)) (sym same) ∙ at) in
          let first : first_place (spelled all) b.name.now ≡ Some i =
          ap (λ names. first_place names b.name.now) (sym c.requires) ∙ sym c.find.ensures ∙ found_is c.find.result i (sym c.if-eq.ensures) in
          ap (first_place (spelled all)) (sym name) ∙ first ∙ ap Some (sym same)
    ]

pub returns : goal.returns
returns c h =
    let all = c.args.all.now in
    distinct (spelled all) (λ k x at.
    let n = length-map all (λ (y : Beginning). y.name.now) in
    let w = slice_get_within (spelled all) k x at in
    c.loop-i.invariant k x (omega (arith, n, w)) at)
