-- One warning more.
use Rattle.std.proofs.Common.{◌≡◌, ℕ, ◌+◌, List, [], ◌∷◌, ◌++◌, take, Some, sym, subst, ap, ◌∙◌}
use Rattle.std.specs.Prelude.{slice_get}
use Rattle.std.proofs.lemmas.List.{take_more}
use Rattle.std.proofs.lemmas.Option.{slice_get_within, get_or_from_slice_get}
use Rattle.lustat_warn.specs.declared.warning.Warning.{Warning}
use Rattle.luexplain.specs.Warned.{AreWarned, IsWarned}
use Rattle.luexplain.specs.Warned.AreWarned.{more}

take_next : {A : Type 0} (list : List A) (n : ℕ) (x : A) → slice_get list n ≡ Some x → take (n + 1) list ≡ take n list ++ x ∷ []
take_next list n x there = take_more list n x (slice_get_within list n x there) ∙ ap (λ y. take n list ++ y ∷ []) (get_or_from_slice_get list n x x there)

pub one_more : (path text : List ℕ) (ws : List Warning) (j : ℕ) (w : Warning) (lines line all : List ℕ) → slice_get ws j ≡ Some w → AreWarned path text (take j ws) lines → IsWarned path text w line → all ≡ lines ++ line → AreWarned path text (take (j + 1) ws) all
one_more path text ws j w lines line all there before is e =
    subst (λ xs. AreWarned path text xs all) (sym (take_next ws j w there)) (subst (AreWarned path text (take j ws ++ w ∷ [])) (sym e) (more (take j ws) w lines line before is))
