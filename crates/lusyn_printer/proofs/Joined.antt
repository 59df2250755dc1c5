-- What a loop writes that puts a text before each item but the first.
use Rattle.std.proofs.Common.{◌≡◌, ◌++◌, ◌≤◌, ◌-◌, [], ◌∷◌, ℕ, List, length, drop, take, get_or, map, refl, ap, sym, ◌∙◌, arith, append_assoc}
use Rattle.std.specs.List.{flat_map}
use Rattle.std.proofs.lemmas.List.{take_all}
use Rattle.std.proofs.lemmas.List.Folds.{flat_map-map}
use Rattle.lusyn_printer.specs.Canonical.{joined}

-- a slice without its first item, as a pattern gives it
abbrev pub others_of : {A : Type 0} → List A → List A
others_of xs = take (length xs - 1) (drop 1 xs)

others-is : {A : Type 0} (x : A) (xs : List A) → others_of (x ∷ xs) ≡ xs
others-is x xs = take_all (length (x ∷ xs) - 1) xs (omega arith)

pub joined_loop : {A : Type 0} (between : List ℕ) (f : A → List ℕ) (x : A) (xs : List A) (i : ℕ) (start first end : List ℕ)
    → 1 ≤ length xs → x ≡ get_or xs 0 x → length (others_of xs) ≤ i
    → first ≡ start ++ f x → end ≡ first ++ flat_map (λ y. between ++ f y) (take i (others_of xs)) → end ≡ start ++ joined between f xs
joined_loop between f x [] i start first end some is far e g = absurd (omega arith)
joined_loop {A} between f x (y ∷ ys) i start first end some is far e g =
    let all : take i (others_of (y ∷ ys)) ≡ ys = take_all i (others_of (y ∷ ys)) far ∙ others-is y ys in
    let rest = flat_map (λ y. between ++ f y) ys in
    g
    ∙ ap (λ (zs : List A). first ++ flat_map (λ y. between ++ f y) zs) all
    ∙ ap (λ (text : List ℕ). text ++ rest) e
    ∙ append_assoc start (f x) rest
    ∙ ap (λ (z : A). start ++ (f z ++ rest)) is

-- the same texts of other values
pub joined_map : {A B : Type 0} (between : List ℕ) (f : B → List ℕ) (g : A → B) (xs : List A) → joined between (λ x. f (g x)) xs ≡ joined between f (map g xs)
joined_map between f g [] = refl
joined_map between f g (x ∷ xs) = ap (λ (text : List ℕ). f (g x) ++ text) (sym (flat_map-map (λ y. between ++ f y) g xs))

-- what a loop over all items has written
pub each_loop : {A B : Type 0} (f : B → List ℕ) (g : A → B) (xs : List A) (i : ℕ) (start end : List ℕ)
    → length xs ≤ i → end ≡ start ++ flat_map (λ x. f (g x)) (take i xs) → end ≡ start ++ flat_map f (map g xs)
each_loop f g xs i start end far e =
    e ∙ ap (λ (ys : List _). start ++ flat_map (λ x. f (g x)) ys) (take_all i xs far) ∙ ap (λ (text : List ℕ). start ++ text) (sym (flat_map-map f g xs))
