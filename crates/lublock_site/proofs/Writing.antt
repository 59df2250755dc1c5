-- Words of a row, one after another, and messages of a run.
use Rattle.std.proofs.Common.{◌≡◌, ◌≢◌, ℕ, suc, ◌+◌, inl, inr, List, [], ◌∷◌, ◌++◌, length, Option, Some, None, ℤ, sym, subst, ◌∙◌, ap, arith, length-append}
use Rattle.std.specs.Prelude.{slice_get, IfSome}
use Rattle.std.proofs.lemmas.Bool.{cases_lt}
use Rattle.std.proofs.lemmas.Option.{same_Some, slice_get_within}
use Rattle.luworld.proofs.Cursor.{slice_get-append_left, slice_get-append_right}
use Rattle.lutree.specs.declared.program.Kind.{Kind}
use Rattle.luflow.specs.declared.data.Datum.{Datum}
use Rattle.luflow.specs.declared.message.Msg.{Msg}
use Rattle.luflow.specs.declared.message.Body.TheVariants.{Value}
use Rattle.lublock_kernels.specs.Blocks.{Holds}
use Rattle.lublock_kernels.specs.Rows.{Keeps, word_in}
use Rattle.lublock_site.specs.Steps.{HasWordOf, AreWordsOf, HasMessage, AreMessagesOf}

pub has_word : (kind : Kind) (msgs : List Msg) (k : ℕ) (msg : Msg) (datum : Datum) (z : ℤ) → slice_get msgs k ≡ Some msg → msg.body ≡ Value datum → Holds kind z datum → HasWordOf kind msgs k z
has_word kind msgs k msg datum z there body holds m is = (datum, ap (λ (y : Msg). y.body) (same_Some m msg (sym is ∙ there)) ∙ body, holds)

pub has_word_if : (kind : Kind) (msgs : List Msg) (k : ℕ) (msg : Msg) (datum : Datum) → slice_get msgs k ≡ Some msg → msg.body ≡ Value datum → (found : Option ℤ) → IfSome found (λ z. Holds kind z datum) → IfSome found (HasWordOf kind msgs k)
has_word_if kind msgs k msg datum there body (Some z) holds = has_word kind msgs k msg datum z there body holds
has_word_if kind msgs k msg datum there body None holds = tt

-- the words of no message, and of one more
pub written_none : (kind : Kind) (msgs : List Msg) (from : ℕ) (words : List ℤ) → AreWordsOf kind msgs from words 0
written_none kind msgs from words k less = absurd (omega (arith, less))

pub written_more : (kind : Kind) (msgs : List Msg) (from k : ℕ) (old new : List ℤ) (z : ℤ) → word_in new (suc (from + k)) ≡ z → ((n : ℕ) → n ≢ suc (from + k) → word_in new n ≡ word_in old n) → HasWordOf kind msgs k z → AreWordsOf kind msgs from old k → AreWordsOf kind msgs from new (k + 1)
written_more kind msgs from k old new z here others has are j less =
    elim (cases_lt j k) [
      | inl l ↦ subst (HasWordOf kind msgs j) (sym (others (suc (from + j)) (λ e. omega (arith, e, l)))) (are j l)
      | inr l ↦
          let at : k ≡ j = omega (arith, l, less) in
          subst (λ (p : ℕ). HasWordOf kind msgs p (word_in new (suc (from + p)))) at (subst (HasWordOf kind msgs k) (sym here) has)
    ]

pub kept_more : (from k : ℕ) (first old new : List ℤ) → ((n : ℕ) → n ≢ suc (from + k) → word_in new n ≡ word_in old n) → Keeps from first old → Keeps from first new
kept_more from k first old new others kept n l = others n (λ e. omega (arith, e, l)) ∙ kept n l

-- the messages of no tick, and of one more
pub filled_none : (kind : Kind) (row : List ℤ) (tick number : ℕ) (msgs : List Msg) → msgs ≡ [] → AreMessagesOf kind row tick number msgs
filled_none kind row tick number msgs none = subst (AreMessagesOf kind row tick number) (sym none) (λ k m there. absurd cc)

pub filled_more : (kind : Kind) (row : List ℤ) (tick number : ℕ) (old new : List Msg) (m : Msg) (k : ℕ) → length old ≡ k → new ≡ old ++ m ∷ [] → HasMessage kind row tick number k m → AreMessagesOf kind row tick number old → AreMessagesOf kind row tick number new
filled_more kind row tick number old new m k long is out filled j y there =
    let here : slice_get (old ++ m ∷ []) j ≡ Some y = ap (λ (xs : List Msg). slice_get xs j) (sym is) ∙ there in
    elim (cases_lt j (length old)) [
      | inl l ↦ filled j y (sym (slice_get-append_left old (m ∷ []) j l) ∙ here)
      | inr l ↦
          let inside = slice_get_within (old ++ m ∷ []) j y here in
          let all = length-append old (m ∷ []) in
          let at : j ≡ length old = omega (arith, l, inside, all) in
          let last : slice_get (old ++ m ∷ []) (length old + 0) ≡ Some m = slice_get-append_right old (m ∷ []) 0 in
          let plus : length old + 0 ≡ j = omega (arith, at) in
          let same : m ≡ y = same_Some m y (sym last ∙ ap (λ (p : ℕ). slice_get (old ++ m ∷ []) p) plus ∙ here) in
          subst (λ (z : Msg). HasMessage kind row tick number j z) same (subst (λ (p : ℕ). HasMessage kind row tick number p m) (sym long ∙ sym at) out)
    ]
