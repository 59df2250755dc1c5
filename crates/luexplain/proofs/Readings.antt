-- Refusals of a text that is read on.
use Rattle.std.proofs.Common.{◌≡◌, ◌⊎◌, ℕ, List, [], ◌∷◌, ◌++◌, false, length, refl, sym, subst, ap, ◌∙◌, inl, inr, arith, rules}
use Rattle.std.specs.Cmp.{IsEquivalence}
use Rattle.std.specs.List.{All, Contains, IsDistinct, list_any}
use Rattle.std.proofs.lemmas.Cmp.{nat_eq_equiv}
use Rattle.std.proofs.lemmas.Map.Keys.{IsDistinct-push, IsDistinct-from_apart, IsDistinct-IsPermutation}
use Rattle.std.specs.List.Sorted.{IsPermutation}
use Rattle.std.proofs.lemmas.List.Elements.{All-push, Contains-append_left}
use Rattle.std.proofs.lemmas.List.Sorted.{All-permutation, Contains-permutation, length_permutation}
use Rattle.luexplain.specs.declared.refused.SyntaxRefusal.{SyntaxRefusal}
use Rattle.lusyn.specs.declared.error.SynError.{SynError}
use Rattle.luexplain.specs.Refusals.{at_one_byte, AreNone, AreRefusalsOf, IsReadSo, IsRefusedAs, IsRefusedLike}

bytes_equiv : IsEquivalence at_one_byte
bytes_equiv = record {
  refl = λ x. nat_eq_equiv.refl x.byte;
  symm = λ x y. nat_eq_equiv.symm x.byte y.byte;
  congr = λ x y z. nat_eq_equiv.congr x.byte y.byte z.byte;
}

-- one more of a text that is told already
pub one_more : (path text read : List ℕ) (r : SyntaxRefusal) (found all : List SyntaxRefusal) → AreRefusalsOf path text found → IsRefusedLike path text read r → list_any (at_one_byte r) found ≡ false → all ≡ found ++ r ∷ [] → AreRefusalsOf path text all
one_more path text read r found all told like fresh e =
    record {
      own = (told.own.0, subst (λ xs. Contains xs told.own.0) (sym e) (Contains-append_left found (r ∷ []) told.own.0 told.own.1), told.own.2);
      each = subst (All (IsReadSo path text)) (sym e) (All-push (IsReadSo path text) found r told.each (read, like));
      distinct = subst (IsDistinct at_one_byte) (sym e) (IsDistinct-push bytes_equiv found r told.distinct fresh);
    }

-- the text's own, which is the first
pub first_one : (path text read : List ℕ) (r : SyntaxRefusal) (found all : List SyntaxRefusal) → length found ≡ 0 → read ≡ text → IsRefusedLike path text read r → all ≡ found ++ r ∷ [] → AreRefusalsOf path text all
first_one path text read r [] all none same like e =
    record {
      own = (r, subst (λ xs. Contains xs r) (sym e) (0, omega arith, refl), subst (λ t. IsRefusedLike path text t r) same like);
      each = subst (All (IsReadSo path text)) (sym e) (All-push (IsReadSo path text) [] r (search rules) (read, like));
      distinct = subst (IsDistinct at_one_byte) (sym e) (IsDistinct-from_apart at_one_byte (r ∷ []) (λ i j d lt within. absurd (omega (arith, lt, within))));
    }
first_one path text read r (x ∷ xs) all none same like e = absurd (let clash : length (x ∷ xs) ≡ 0 = none in cc)

-- the same in another order
pub reordered : (path text : List ℕ) (found sorted : List SyntaxRefusal) → IsPermutation found sorted → AreRefusalsOf path text found → AreRefusalsOf path text sorted
reordered path text found sorted p told =
    record {
      own = (told.own.0, Contains-permutation found sorted told.own.0 p told.own.1, told.own.2);
      each = All-permutation (IsReadSo path text) found sorted p told.each;
      distinct = IsDistinct-IsPermutation at_one_byte bytes_equiv.symm found sorted p told.distinct;
    }

pub still_none : (text : List ℕ) (found sorted : List SyntaxRefusal) → IsPermutation found sorted → AreNone text found → AreNone text sorted
still_none text found sorted p none = record { none = length_permutation found sorted p ∙ none.none; accepted = none.accepted }

-- what is told after one turn more
pub turned : (path text read : List ℕ) (found all : List SyntaxRefusal) → ((length found ≡ 0) × (read ≡ text)) ⊎ AreRefusalsOf path text found
    → (r : SyntaxRefusal) × (all ≡ found ++ r ∷ []) × IsRefusedLike path text read r × (list_any (at_one_byte r) found ≡ false) → AreRefusalsOf path text all
turned path text read found all state told = elim state [
  | inl begun ↦ first_one path text read told.0 found all begun.0 begun.1 told.2 told.1
  | inr are ↦ one_more path text read told.0 found all are told.2 told.3 told.1
]

-- what is told where nothing more is
pub ended : (path text read : List ℕ) (found all : List SyntaxRefusal) → ((length found ≡ 0) × (read ≡ text)) ⊎ AreRefusalsOf path text found
    → all ≡ found → (length found ≡ 0 → (e : SynError) → ¬ IsRefusedAs read e) → AreNone text all ⊎ AreRefusalsOf path text all
ended path text read found all state same none = elim state [
  | inl begun ↦ inl (record { none = ap length same ∙ begun.0; accepted = subst (λ t. (e : SynError) → ¬ IsRefusedAs t e) begun.1 (none begun.0) })
  | inr are ↦ inr (subst (AreRefusalsOf path text) (sym same) are)
]

pub unbegun : (turn : ℕ) (path text read : List ℕ) (found : List SyntaxRefusal) → ((turn ≡ 0) × (length found ≡ 0) × (read ≡ text)) ⊎ AreRefusalsOf path text found
    → ((length found ≡ 0) × (read ≡ text)) ⊎ AreRefusalsOf path text found
unbegun turn path text read found state = elim state [
  | inl begun ↦ inl (begun.1, begun.2)
  | inr are ↦ inr are
]
