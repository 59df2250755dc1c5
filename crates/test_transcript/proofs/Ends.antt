-- What a thread that holds the ends of links puts, and the ends of two links in order.
use Rattle.std.proofs.Common.{◌≡◌, ℕ, zero, suc, ◌+◌, List, [], ◌∷◌, ◌++◌, length, Some, sym, ap, ◌∙◌, subst}
use Rattle.std.specs.Prelude.{slice_get}
use Rattle.std.proofs.lemmas.Option.{same_Some}
use Rattle.luflow.specs.declared.message.Msg.{Msg}
use Rattle.luworld.proofs.Cursor.{slice_get-append_right}
use Rattle.lulink.specs.Lists.{list_of}
use Rattle.lulink.specs.Views.{SenderView, AreNextToPut}

-- what is left of a list is what is next
pub rest_next : (s : SenderView) (list front rest : List Msg) (at : ℕ) → list ≡ list_of s.job s.link → length s.put ≡ at → list ≡ front ++ rest → length front ≡ at → AreNextToPut s rest
rest_next s list front rest at is count whole len k m there =
    let here : slice_get list (length front + k) ≡ Some m = ap (λ (xs : List Msg). slice_get xs (length front + k)) whole ∙ slice_get-append_right front rest k ∙ there in
    let same : length front ≡ length s.put = len ∙ sym count in
    subst (λ (xs : List Msg). slice_get xs (length s.put + k) ≡ Some m) is (subst (λ (n : ℕ). slice_get list (n + k) ≡ Some m) same here)

each_of : {A : Type 0} (P : A → Type 0) (x y : A) → P x → P y → (k : ℕ) (z : A) → slice_get (x ∷ y ∷ []) k ≡ Some z → P z
each_of P x y p q zero z there = subst P (same_Some x z there) p
each_of P x y p q (suc zero) z there = subst P (same_Some y z there) q
each_of P x y p q (suc (suc k)) z there = absurd cc

pub two_each : {A : Type 0} (P : A → Type 0) (x y : A) (zs : List A) → zs ≡ x ∷ y ∷ [] → P x → P y → (k : ℕ) (z : A) → slice_get zs k ≡ Some z → P z
two_each P x y zs is p q k z there = each_of P x y p q k z (ap (λ (ws : List _). slice_get ws k) (sym is) ∙ there)
