use Rattle.std.proofs.Common.{◌≡◌, ◌≤◌, [], ◌∷◌, List, length, refl, sym, ap, ◌∙◌, subst, arith, inl, inr, slice_get}
use Rattle.std.proofs.lemmas.Bool.{cases_eq}
use Rattle.luflow.specs.declared.data.Status.{Status}
use Rattle.lusite.specs.Logs.{IsOutput}
use Rattle.luweave.specs.Worlds.{OneReports}
use Rattle.luweave.proofs.world.outputs_in.Goals as goal

is_empty : (xs : List Status) → length xs ≤ 0 → xs ≡ []
is_empty [] le = refl
is_empty (x ∷ xs) le = absurd (omega arith)

pub returns-then-reported-gt0 : goal.returns-then-reported-gt0
returns-then-reported-gt0 c =
    OneReports c.loop-s.s (omega (arith, c.len-s-end.ensures)) (omega (arith, c.if-reported-gt0.true)) c.output_in-reported.ensures

pub loop-s-preserved : goal.loop-s-preserved
loop-s-preserved c =
    let empty : c.output_in-reported.result.now ≡ [] = is_empty c.output_in-reported.result.now (omega (arith, c.if-reported-gt0.false)) in
    record {
      none = λ r l v at. elim (cases_eq r c.loop-s.s) [
        | inl same ↦ subst (λ xs. IsOutput v.job v.site v.done c.args.k xs) empty (c.output_in-reported.ensures v (sym (ap (slice_get c.args.sites.now.items) same) ∙ at))
        | inr other ↦ c.loop-s.invariant.none r (omega (arith, l, other)) v at
      ];
    }
