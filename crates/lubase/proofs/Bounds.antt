-- Rising lists.
use Rattle.std.proofs.Common.{◌≡◌, ◌≢◌, ◌<◌, ◌≤◌, inl, inr, ℕ, List, [], ◌∷◌, ◌++◌, length, get_or, refl, sym, ◌∙◌, subst, arith, Contains, length-append}
use Rattle.std.proofs.lemmas.List.{get_or_default, get_or_push}
use Rattle.std.proofs.lemmas.List.Elements.{Contains-get_or, Contains-push_cases}
use Rattle.std.proofs.Math.ListN.{get_or-append}
use Rattle.lubase.specs.Grouped.{IsRising}
use Rattle.lubase.proofs.Marks.{same_or_not}

-- what is in a list stands at a place
pub place_in : (xs : List ℕ) (b : ℕ) → Contains xs b → (k : ℕ) × (k < length xs) × (get_or xs k 0 ≡ b)
place_in xs b found = (found.0, found.1, get_or_default xs found.0 0 b found.1 ∙ found.2)

pub at_place : (xs : List ℕ) (k b : ℕ) → k < length xs → get_or xs k 0 ≡ b → Contains xs b
at_place xs k b lt e = subst (Contains xs) e (Contains-get_or xs k 0 lt)

pub rising_front : (xs : List ℕ) (n : ℕ) → IsRising (xs ++ n ∷ []) → IsRising xs
rising_front xs n rising i j lt within =
    let e : get_or (xs ++ n ∷ []) i 0 ≡ get_or xs i 0 = get_or-append xs (n ∷ []) 0 i (omega (arith, lt, within)) in
    let f : get_or (xs ++ n ∷ []) j 0 ≡ get_or xs j 0 = get_or-append xs (n ∷ []) 0 j within in
    omega (arith, e, f, rising i j lt (omega (arith, within, length-append xs (n ∷ []))))

-- the last of a rising list is above the others
pub last_above : (xs : List ℕ) (n b : ℕ) → IsRising (xs ++ n ∷ []) → Contains xs b → b < n
last_above xs n b rising found =
    let here = place_in xs b found in
    let e : get_or (xs ++ n ∷ []) here.0 0 ≡ get_or xs here.0 0 = get_or-append xs (n ∷ []) 0 here.0 here.1 in
    let f : get_or (xs ++ n ∷ []) (length xs) 0 ≡ n = get_or_push xs n 0 (length xs) refl in
    omega (arith, e, f, here.2, rising here.0 (length xs) here.1 (omega (arith, length-append xs (n ∷ []))))

-- what stands in front of the last is no more than it
pub none_above : (xs : List ℕ) (n : ℕ) → IsRising (xs ++ n ∷ []) → (b : ℕ) → Contains (xs ++ n ∷ []) b → b ≤ n
none_above xs n rising b found = elim (Contains-push_cases xs n b found) [ inl h ↦ omega (arith, last_above xs n b rising h) | inr h ↦ omega (arith, h) ]

-- what is no more than a number that is less than the last stands in front
pub kept_front : (xs : List ℕ) (n low b : ℕ) → Contains (xs ++ n ∷ []) b → b ≤ low → low < n → Contains xs b
kept_front xs n low b found le lt = elim (Contains-push_cases xs n b found) [ inl h ↦ h | inr h ↦ absurd (omega (arith, h, le, lt)) ]

-- a number that isn't the last, and is no less than all, isn't there
pub not_there : (xs : List ℕ) (n p : ℕ) → IsRising (xs ++ n ∷ []) → n ≢ p → n ≤ p → ¬ Contains (xs ++ n ∷ []) p
not_there xs n p rising ne le found = absurd (omega (arith, none_above xs n rising p found, ne, le))

pub rising_push : (xs : List ℕ) (n : ℕ) → IsRising xs → ((b : ℕ) → Contains xs b → b < n) → IsRising (xs ++ n ∷ [])
rising_push xs n rising below i j lt within =
    let low : i < length xs = omega (arith, lt, within, length-append xs (n ∷ [])) in
    let e : get_or (xs ++ n ∷ []) i 0 ≡ get_or xs i 0 = get_or-append xs (n ∷ []) 0 i low in
    elim (same_or_not j (length xs)) [
      | inl same ↦ omega (arith, e, get_or_push xs n 0 j (sym same), below (get_or xs i 0) (Contains-get_or xs i 0 low))
      | inr ne ↦
          let inside : j < length xs = omega (arith, within, length-append xs (n ∷ []), ne) in
          omega (arith, e, get_or-append xs (n ∷ []) 0 j inside, rising i j lt inside)
    ]
