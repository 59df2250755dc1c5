-- Where a merge is present, it is one of its branches, and the others are absent.
use Rattle.std.proofs.Common.{◌≡◌, ◌≢◌, ℕ, ◌<◌, Bool, true, false, List, map, Option, Some, None, nat_eq, refl, sym, ap, ◌∙◌, subst}
use Rattle.std.specs.Prelude.{option_map, unwrap_or}
use Rattle.std.proofs.lemmas.Bool.{eqb-true, ne_eqb}
use Rattle.std.proofs.lemmas.Option.{slice_get_within, slice_get-map, same_Some}
use Rattle.luflow.specs.declared.data.Datum.{Datum}
use Rattle.luflow.specs.declared.data.Datum.TheVariants.{Nil}
use Rattle.luflow.specs.declared.data.Status.TheVariants.{Absent, Present}
use Rattle.luflow.specs.declared.form.Clock.TheVariants.{On}
use Rattle.luflow.specs.declared.form.Form.TheVariants.{Merge}
use Rattle.luflow.specs.declared.form.Flow.{Flow}
use Rattle.luflow.specs.declared.form.Outcome.{Outcome}
use Rattle.luflow.specs.declared.form.Outcome.TheVariants.{Gives, Faults, Stuck}
use Rattle.luflow.specs.Program.{FlatView, InputsView, IsOrdered}
use Rattle.luflow.specs.Streams.{Mark, Known, Broken, Streams, datum_of, is_value, truth_in, clock_at, ticked}
use Rattle.luflow.specs.Values.{gives, branch_value, merge_of, value_at, under}
use Rattle.luflow.specs.Solution.{IsSolution}
use Rattle.luflow.specs.Sound.{clock_values, FormFits, IsSound, IsFit, IsTidyMark}
use Rattle.luflow.specs.FlatLaws.{IsOneBranch, MergeLaw}
use Rattle.luflow.proofs.Patterns.{value_self, pattern_at, splits, branch_there, branch_at, value_there}
use Rattle.luflow.proofs.TidyStreams.{says_at, tidy}

-- a present mark is what its outcome gives
under_gives : (q : Option Bool) (v : Outcome) (d : Datum) → under q v ≡ Known (Present d) → v ≡ Gives d
under_gives None v d h = let f : Broken ≡ Known (Present d) = h in cc
under_gives (Some false) v d h = let f : Known Absent ≡ Known (Present d) = h in cc
under_gives (Some true) (Gives e) d h = let f : Known (Present e) ≡ Known (Present d) = h in cc
under_gives (Some true) (Faults kind) d h = let f : Broken ≡ Known (Present d) = h in cc
under_gives (Some true) Stuck d h = let f : Broken ≡ Known (Present d) = h in cc

given_by : (m : Mark) (d : Datum) → gives (datum_of m) ≡ Gives d → m ≡ Known (Present d)
given_by Broken d h = let f : Stuck ≡ Gives d = h in cc
given_by (Known Absent) d h = let f : Stuck ≡ Gives d = h in cc
given_by (Known (Present e)) d h = let f : Gives e ≡ Gives d = h in cc

module _ (flat : FlatView) (inputs : InputsView) (σ : Streams) (ordered : IsOrdered flat) (sound : IsSound flat) (fit : IsFit flat inputs) (sol : IsSolution flat inputs σ) where
  -- the branch of the value that the variable has
  taken : (i t c : ℕ) (xs : List ℕ) (flow : Flow) (d : Datum) → FormFits flat sound.class flow.clock flow.kind (sound.class i) (Merge c xs) → t < inputs.instants
      → σ i t ≡ Known (Present d) → (m : Mark) → σ c t ≡ m → merge_of (datum_of m) (map (λ r. datum_of (σ r t)) xs) ≡ Gives d → IsOneBranch σ i t xs
  taken i t c xs flow d fits lt present Broken is v = let f : Stuck ≡ Gives d = v in absurd cc
  taken i t c xs flow d fits lt present (Known Absent) is v = let f : Stuck ≡ Gives d = v in absurd cc
  taken i t c xs flow d fits lt present (Known (Present x)) is v =
      let u = fits.0 in
      let variable : Flow = record { form = fits.2.form; clock = flow.clock; kind = u } in
      let here = tidy flat inputs σ ordered sound fit sol c t (slice_get_within flat.flows c variable fits.2.there) lt variable fits.2.there in
      let mark = subst (IsTidyMark u (sound.class c) (ticked (clock_at inputs σ flow.clock) t) (clock_at inputs σ flow.clock t)) is here in
      let sure : x ≢ Nil = λ n. let one : sound.class c ≡ true = (mark.2 n).0 in let zero : sound.class c ≡ false = fits.3 in let clash : false ≡ true = sym zero ∙ one in cc in
      let b = branch_there u x fits.1 mark.1 sure in
      let s = splits u x fits.1 mark.1 sure in
      let w = branch_at flat sound.class flow.kind c (clock_values u) xs b.0 x fits.4 b.2 in
      let self : Some (is_value x x) ≡ Some (nat_eq b.0 s.own) = s.clocks b.0 x b.2 in
      let own : b.0 ≡ s.own = eqb-true b.0 s.own (sym (same_Some (is_value x x) (nat_eq b.0 s.own) self) ∙ value_self u x (pattern_at u b.0 x b.2)) in
      let chosen : merge_of (Some x) (map (λ r. datum_of (σ r t)) xs) ≡ gives (datum_of (σ w.0 t)) =
      ap (λ o. branch_value o (map (λ r. datum_of (σ r t)) xs)) b.1
      ∙ ap (λ o. gives (unwrap_or o None)) (slice_get-map (λ r. datum_of (σ r t)) xs b.0 ∙ ap (option_map (λ r. datum_of (σ r t))) w.1) in
      record {
        own = b.0;
        place = w.0;
        there = w.1;
        same = present ∙ sym (given_by (σ w.0 t) d (sym chosen ∙ v));
        others = λ j r at ne.
            let e = value_there flat sound.class flow.kind c (clock_values u) xs j r fits.4 at in
            let z = branch_at flat sound.class flow.kind c (clock_values u) xs j e.0 fits.4 e.1 in
            let off : truth_in e.0 (σ c t) ≡ Some false = ap (truth_in e.0) is ∙ s.clocks j e.0 e.1 ∙ ap Some (ne_eqb j s.own (λ q. ne (q ∙ sym own))) in
            let branch : Flow = record { form = z.2.form; clock = On c e.0; kind = flow.kind } in
            let said = says_at flat inputs sound.class σ sol z.0 t branch z.2.there lt in
            ap (λ p. σ p t) (same_Some r z.0 (sym at ∙ z.1)) ∙ said ∙ ap (λ q. under q (value_at inputs σ (On c e.0) z.2.form t)) off;
      }

pub one_branch : MergeLaw
one_branch flat inputs σ ordered sound fit sol i t c xs flow d at form lt present =
    let fits = subst (FormFits flat sound.class flow.clock flow.kind (sound.class i)) form (sound.forms i flow at) in
    let said = says_at flat inputs sound.class σ sol i t flow at lt in
    let v = under_gives (clock_at inputs σ flow.clock t) (value_at inputs σ flow.clock flow.form t) d (sym said ∙ present) in
    taken flat inputs σ ordered sound fit sol i t c xs flow d fits lt present (σ c t) refl (ap (λ f. value_at inputs σ flow.clock f t) (sym form) ∙ v)
