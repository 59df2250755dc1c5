use Rattle.std.proofs.Common.{◌≡◌, ◌≢◌, ℕ, zero, suc, ◌-◌, List, ◌∷◌, Some, refl, sym, ap, ◌∙◌, arith}
use Rattle.std.specs.Prelude.{slice_get}
use Rattle.luflow.proofs.reads.behind.Goals as goal

rest_of : (a : ℕ) (xs : List ℕ) (k : ℕ) → k ≢ 0 → slice_get (a ∷ xs) k ≡ slice_get xs (k - 1)
rest_of a xs zero ne = absurd (ne refl)
rest_of a xs (suc k) ne = let e : k ≡ suc k - 1 = omega arith in ap (slice_get xs) e

pub returns : goal.returns
returns c = c.number_of.ensures ∙ sym (rest_of c.args.a c.args.rest.now c.args.k c.if-k-eq0.false)
