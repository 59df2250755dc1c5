-- What is made of each number below a bound, or of each of a list's first things, one more; and what is found at a place.
use Rattle.std.proofs.Common.{◌≡◌, ℕ, ◌+◌, ◌<◌, ◌≤◌, Bor, Some, None, refl, Vec, Global, length, take, get_or, List, [], ◌∷◌, ◌++◌, map, flat_map, sym, ap, ap₂, ◌∙◌, arith}
use Rattle.std.specs.List.{range_with_len}
use Rattle.std.proofs.lemmas.List.{map-append, take_all, take_more}
use Rattle.std.proofs.lemmas.Option.{slice_get_read, slice_get_past}
use Rattle.std.specs.Prelude.{slice_get}
use Rattle.std.specs.Slice.{IsGetResult}
use Rattle.std.proofs.lemmas.List.FromFn.{map-range_with_len_more}
use Rattle.serde_json.specs.Data.{Data, array}
use Rattle.serde_json.specs.View.{view, items_of}
use Rattle.serde_json.specs.declared.value.Value.{Value}
use Rattle.serde_json.specs.declared.value.Value.TheVariants.{Array}
use Rattle.serde_json.proofs.Views.{view-Array}
use Rattle.luplace_report.proofs.Aligning.{rows_more}

-- a vector that is seen as what is made of the numbers, and has one item more
pub pushed_more : {X Y : Type 0} (seen : X → Y) (f : ℕ → Y) (n : ℕ) (old new : List X) (x : X) → map seen old ≡ map f (range_with_len 0 n) → new ≡ old ++ x ∷ [] → seen x ≡ f n → map seen new ≡ map f (range_with_len 0 (n + 1))
pushed_more seen f n old new x before is made =
    ap (map seen) is ∙ map-append seen old (x ∷ []) ∙ ap₂ (λ ys y. ys ++ y ∷ []) before made ∙ sym (map-range_with_len_more f 0 n n (omega arith))

-- a vector that is seen as what is made of the first things of a list, and has one item more
pub taken_more : {X Y Z : Type 0} (seen : X → Y) (f : Z → Y) (zs : List Z) (i : ℕ) (d z : Z) (old new : List X) (x : X) → i < length zs → z ≡ get_or zs i d → map seen old ≡ map f (take i zs) → new ≡ old ++ x ∷ [] → seen x ≡ f z → map seen new ≡ map f (take (i + 1) zs)
taken_more seen f zs i d z old new x l e before is made =
    ap (map seen) is
    ∙ map-append seen old (x ∷ [])
    ∙ ap₂ (λ ys y. ys ++ y ∷ []) before (made ∙ ap f e)
    ∙ sym (map-append f (take i zs) (get_or zs i d ∷ []))
    ∙ sym (ap (map f) (take_more zs i d l))

-- an array of what is made of a whole list
pub all_taken : {Z : Type 0} (f : Z → Data) (zs : List Z) (i : ℕ) (v : Vec Value Global) → map view v.items ≡ map f (take i zs) → length zs ≤ i → view (Array v) ≡ array (items_of (map f zs))
all_taken f zs i v made past = view-Array v ∙ ap (λ ds. array (items_of ds)) (made ∙ ap (map f) (take_all i zs past))

-- a text that has a piece for each number, and one piece more
pub text_more : (f : ℕ → List ℕ) (n : ℕ) (start old new : List ℕ) → old ≡ start ++ flat_map f (range_with_len 0 n) → new ≡ old ++ f n → new ≡ start ++ flat_map f (range_with_len 0 (n + 1))
text_more f n start old new before is = rows_more f n start old new before is

-- the item that is found at a place, and none
pub item_found : {A : Type 0} (xs ys : List A) (i : ℕ) (x : Bor A) → xs ≡ ys → IsGetResult xs i i (Some x) → slice_get ys i ≡ Some x.now
item_found xs ys i x same e = ap (λ zs. slice_get zs i) (sym same) ∙ slice_get_read xs (length xs) i x.now refl e.3.0 e.1

pub none_found : {A : Type 0} (xs ys : List A) (i : ℕ) → xs ≡ ys → IsGetResult xs i i None → slice_get ys i ≡ None
none_found xs ys i same e = ap (λ zs. slice_get zs i) (sym same) ∙ slice_get_past xs i e.3
