-- What a type has at a place.
use Rattle.std.proofs.Common.{◌≡◌, ◌∙◌, ◌↔◌, ◌<◌, ◌≤◌, ℕ, Bool, List, length, get_or, map, nat_lt, Some, IsTrue, refl, sym, ap, arith}
use Rattle.std.specs.Prelude.{slice_get}
use Rattle.std.specs.Option.{option_map}
use Rattle.std.proofs.lemmas.Option.{same_Some, slice_get-map, slice_get_within, slice_get_read}
use Rattle.std.proofs.lemmas.Bool.Decides.{nat_tests}
use Rattle.std.proofs.lemmas.List.{length-map}
use Rattle.lutree.specs.declared.program.DeclaredName.{DeclaredName}

pub named_at : (xs ys : List DeclaredName) (n i : ℕ) (y : DeclaredName) (x : List ℕ) (b : Bool) → ys ≡ xs → i ≡ n → i < length ys → y ≡ get_or ys i y → (IsTrue b ↔ (y.name ≡ x))
    → IsTrue b ↔ (slice_get (map (λ (d : DeclaredName). d.name) xs) n ≡ Some x)
named_at xs ys n i y x b same place lt e own =
    let seen : slice_get (map (λ (d : DeclaredName). d.name) xs) n ≡ Some y.name =
    slice_get-map (λ (d : DeclaredName). d.name) xs n
    ∙ ap (λ ds. option_map (λ (d : DeclaredName). d.name) (slice_get ds n)) (sym same)
    ∙ ap (λ k. option_map (λ (d : DeclaredName). d.name) (slice_get ys k)) (sym place)
    ∙ ap (option_map (λ (d : DeclaredName). d.name)) (slice_get_read ys (length ys) i y refl lt e) in (
      λ h. seen ∙ ap Some (own.0 h),
      λ at. own.1 (same_Some y.name x (sym seen ∙ at)),
    )

pub named_past : (xs ys : List DeclaredName) (n i : ℕ) (x : List ℕ) → ys ≡ xs → i ≡ n → length ys ≤ i → IsTrue (nat_lt i (length ys)) ↔ (slice_get (map (λ (d : DeclaredName). d.name) xs) n ≡ Some x)
named_past xs ys n i x same place le = (
  λ h. absurd (grind (arith, nat_tests, le, h)),
  λ at.
      let lt = slice_get_within (map (λ (d : DeclaredName). d.name) xs) n x at in
      absurd (omega (arith, lt, le, place, length-map xs (λ (d : DeclaredName). d.name), ap length same)),
)
