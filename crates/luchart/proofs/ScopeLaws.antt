-- The scopes of a name, by its first dot.
use Rattle.std.proofs.Common.{◌≡◌, ◌≢◌, ℕ, suc, ◌<◌, false, cond, List, [], ◌∷◌, ◌++◌, length, get_or, refl, sym, ap, ◌∙◌, arith, append_assoc, append-nil}
use Rattle.std.proofs.Common.{Option, Some, None}
use Rattle.std.specs.Prelude.{IfSome, MatchOption}
use Rattle.std.specs.Borrow.{Bor}
use Rattle.std.proofs.lemmas.Bool.{ne_eqb}
use Rattle.luchart.specs.Scopes.{is_dot, scopes, scopes_from, own_from, own_name}

-- no byte is a dot
abbrev pub Plain : List ℕ → Type 0
Plain xs = (i : ℕ) → i < length xs → get_or xs i 0 ≢ 46

head_plain : (x : ℕ) (xs : List ℕ) → Plain (x ∷ xs) → is_dot x ≡ false
head_plain x xs plain = ne_eqb x 46 (plain 0 (omega arith))

tail_plain : (x : ℕ) (xs : List ℕ) → Plain (x ∷ xs) → Plain xs
tail_plain x xs plain i lt = plain (suc i) (omega (arith, lt))

pub scopes_front : (part xs bs : List ℕ) → Plain xs → scopes_from part (xs ++ 46 ∷ bs) ≡ (part ++ xs) ∷ scopes_from [] bs
scopes_front part [] bs plain = ap (λ p. p ∷ scopes_from [] bs) (sym (append-nil part))
scopes_front part (x ∷ xs) bs plain =
    ap (λ t. cond t (part ∷ scopes_from [] (xs ++ 46 ∷ bs)) (scopes_from (part ++ x ∷ []) (xs ++ 46 ∷ bs))) (head_plain x xs plain)
    ∙ scopes_front (part ++ x ∷ []) xs bs (tail_plain x xs plain) ∙ ap (λ p. p ∷ scopes_from [] bs) (append_assoc part (x ∷ []) xs)

pub scopes_none : (part xs : List ℕ) → Plain xs → scopes_from part xs ≡ []
scopes_none part [] plain = refl
scopes_none part (x ∷ xs) plain =
    ap (λ t. cond t (part ∷ scopes_from [] xs) (scopes_from (part ++ x ∷ []) xs)) (head_plain x xs plain)
    ∙ scopes_none (part ++ x ∷ []) xs (tail_plain x xs plain)

pub own_front : (part xs bs : List ℕ) → Plain xs → own_from part (xs ++ 46 ∷ bs) ≡ own_from [] bs
own_front part [] bs plain = refl
own_front part (x ∷ xs) bs plain =
    ap (λ t. cond t (own_from [] (xs ++ 46 ∷ bs)) (own_from (part ++ x ∷ []) (xs ++ 46 ∷ bs))) (head_plain x xs plain)
    ∙ own_front (part ++ x ∷ []) xs bs (tail_plain x xs plain)

pub own_none : (part xs : List ℕ) → Plain xs → own_from part xs ≡ part ++ xs
own_none part [] plain = sym (append-nil part)
own_none part (x ∷ xs) plain =
    ap (λ t. cond t (own_from [] xs) (own_from (part ++ x ∷ []) xs)) (head_plain x xs plain)
    ∙ own_none (part ++ x ∷ []) xs (tail_plain x xs plain) ∙ append_assoc part (x ∷ []) xs

-- a name, by its parts around the first dot
abbrev pub Parted : List ℕ → Option (Bor (List ℕ) × Bor (List ℕ)) → Type 0
Parted name r = MatchOption r (Plain name) (λ x. (name ≡ x.0.now ++ 46 ∷ x.1.now) × Plain x.0.now)

pub parted_scope : (name : List ℕ) (r : Option (Bor (List ℕ) × Bor (List ℕ))) → Parted name r → IfSome r (λ p. scopes name ≡ p.0.now ∷ scopes p.1.now)
parted_scope name None h = tt
parted_scope name (Some p) h = ap scopes h.0 ∙ scopes_front [] p.0.now p.1.now h.1

pub parted_own : (name : List ℕ) (r : Option (Bor (List ℕ) × Bor (List ℕ))) → Parted name r → IfSome r (λ p. own_name name ≡ own_name p.1.now)
parted_own name None h = tt
parted_own name (Some p) h = ap own_name h.0 ∙ own_front [] p.0.now p.1.now h.1

pub plain_scope : (name : List ℕ) (r : Option (Bor (List ℕ) × Bor (List ℕ))) → Parted name r → r ≡ None → scopes name ≡ []
plain_scope name None h none = scopes_none [] name h
plain_scope name (Some p) h none = cc

pub plain_own : (name : List ℕ) (r : Option (Bor (List ℕ) × Bor (List ℕ))) → Parted name r → r ≡ None → own_name name ≡ name
plain_own name None h none = own_none [] name h
plain_own name (Some p) h none = cc
