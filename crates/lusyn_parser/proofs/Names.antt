-- What a look-up of a name finds.
use Rattle.std.proofs.Common.{◌≡◌, ℕ, Bool, true, false, cond, List, [], ◌∷◌, Option, Some, None, refl}
use Rattle.std.specs.Str.{bytes_eq}
use Rattle.lutree.specs.declared.expr.Label.{Label}
use Rattle.lusyn_parser.specs.Resolved.{label_among}

pub by_test : {A : Type 0} (P : A → Type 0) (b : Bool) (x y : A) → P x → P y → P (cond b x y)
by_test P true x y h k = h
by_test P false x y h k = k

-- a label that is found has the name
abbrev pub HasName : List ℕ → Option Label → Type 0
HasName x None = Unit {0}
HasName x (Some l) = l.name ≡ x

pub label-name : (ls : List Label) (x : List ℕ) → HasName x (label_among ls x)
label-name [] x = tt
label-name (l ∷ ls) x =
    let found : Label = record { name = x; kind = l.kind; number = l.number } in
    by_test (HasName x) (bytes_eq l.name x) (Some found) (label_among ls x) refl (label-name ls x)
