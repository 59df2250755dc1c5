-- A text that has a piece so many times, and once more.
use Rattle.std.proofs.Common.{◌≡◌, ℕ, zero, suc, ◌+◌, List, ◌++◌, sym, ap, ◌∙◌, append_assoc, append-nil, add-one}
use Rattle.std.specs.List.{repeat}

pub repeat_suc : (n : ℕ) (xs : List ℕ) → repeat (suc n) xs ≡ repeat n xs ++ xs
repeat_suc zero xs = append-nil xs
repeat_suc (suc n) xs = ap (λ ys. xs ++ ys) (repeat_suc n xs) ∙ sym (append_assoc xs (repeat n xs) xs)

pub repeat_more : (n : ℕ) (start old new xs : List ℕ) → old ≡ start ++ repeat n xs → new ≡ old ++ xs → new ≡ start ++ repeat (n + 1) xs
repeat_more n start old new xs before is =
    is ∙ ap (λ ys. ys ++ xs) before ∙ append_assoc start (repeat n xs) xs ∙ ap (λ ys. start ++ ys) (sym (repeat_suc n xs)) ∙ ap (λ k. start ++ repeat k xs) (sym (add-one n))
