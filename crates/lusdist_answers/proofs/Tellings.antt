-- Faults as they are told, one more.
use Rattle.std.proofs.Common.{◌≡◌, ◌≢◌, ℕ, ◌+◌, true, false, List, [], ◌∷◌, ◌++◌, take, Some, sym, subst, ap, ◌∙◌, append_assoc, inl, inr}
use Rattle.std.specs.Prelude.{slice_get, ◌==◌, length}
use Rattle.std.proofs.lemmas.List.{take_more}
use Rattle.std.proofs.lemmas.Option.{slice_get_within, get_or_from_slice_get}
use Rattle.lustat_rules.specs.declared.error.StatError.{StatError}
use Rattle.luexplain.specs.declared.refused.SyntaxRefusal.{SyntaxRefusal}
use Rattle.luexplain.specs.Refusals.{AreAllRefusals, AreRefusals}
use Rattle.lusdist_shell.specs.declared.request.Request.{Request}
use Rattle.lusdist_shell.specs.Files.{FileFacts}
use Rattle.lusdist_call.specs.declared.call_error.CallError.{CallError}
use Rattle.lusdist_call.specs.declared.call_error.CallError.TheVariants.{Rules}
use Rattle.lusdist_call.specs.Reasons.{AreTold, IsTold}
use Rattle.lusdist_call.specs.Reasons.AreTold.{more}

take_next : {A : Type 0} (list : List A) (n : ℕ) (x : A) → slice_get list n ≡ Some x → take (n + 1) list ≡ take n list ++ x ∷ []
take_next list n x there = take_more list n x (slice_get_within list n x there) ∙ ap (λ y. take n list ++ y ∷ []) (get_or_from_slice_get list n x x there)

pub one_more : (gives : FileFacts) (request : Request) (faults : List StatError) (j : ℕ) (fault : StatError) (stop : CallError) (old mid new : List ℕ) → slice_get faults j ≡ Some fault → stop ≡ Rules fault
    → (told : List ℕ) × AreTold gives request (take j faults) told × (mid ≡ old ++ told) → (one : List ℕ) × IsTold gives request stop one × (new ≡ mid ++ one)
    → (told : List ℕ) × AreTold gives request (take (j + 1) faults) told × (new ≡ old ++ told)
one_more gives request faults j fault stop old mid new there is (told, before, e) (one, this, e') = (
  told ++ one,
  subst (λ fs. AreTold gives request fs (told ++ one)) (sym (take_next faults j fault there)) (more (take j faults) fault told one before (subst (λ s. IsTold gives request s one) is this)),
  e' ∙ ap (λ xs. xs ++ one) e ∙ append_assoc old told one,
)

pub not_empty : (xs : List StatError) → (length xs == 0) ≡ false → xs ≢ []
not_empty [] h = absurd (let clash : true ≡ false = h in cc)
not_empty (x ∷ xs) h = λ e. cc

-- refusals that are some are those of a text that is no program
pub some_refusals : (path text : List ℕ) (found : List SyntaxRefusal) → (length found == 0) ≡ false → AreAllRefusals path text found → AreRefusals path text found
some_refusals path text found some all = elim all [
  | inl none ↦ absurd (let clash : (0 == 0) ≡ false = subst (λ n. (n == 0) ≡ false) none.none some in cc)
  | inr are ↦ are
]

-- pieces behind a text, one by one
then : (t mid new a b : List ℕ) → new ≡ mid ++ b → mid ≡ t ++ a → new ≡ t ++ (a ++ b)
then t mid new a b e before = e ∙ ap (λ xs. xs ++ b) before ∙ append_assoc t a b

pub seven : (t t1 t2 t3 t4 t5 t6 t7 a b d e f h i : List ℕ) → t1 ≡ t ++ a → t2 ≡ t1 ++ b → t3 ≡ t2 ++ d → t4 ≡ t3 ++ e → t5 ≡ t4 ++ f → t6 ≡ t5 ++ h → t7 ≡ t6 ++ i → t7 ≡ t ++ (a ++ b ++ d ++ e ++ f ++ h ++ i)
seven t t1 t2 t3 t4 t5 t6 t7 a b d e f h i e1 e2 e3 e4 e5 e6 e7 =
    let s2 = then t t1 t2 a b e2 e1 in
    let s3 = then t t2 t3 (a ++ b) d e3 s2 in
    let s4 = then t t3 t4 (a ++ b ++ d) e e4 s3 in
    let s5 = then t t4 t5 (a ++ b ++ d ++ e) f e5 s4 in
    let s6 = then t t5 t6 (a ++ b ++ d ++ e ++ f) h e6 s5 in
    then t t6 t7 (a ++ b ++ d ++ e ++ f ++ h) i e7 s6
