-- Each step keeps the rule of a link.
use Rattle.std.proofs.Common.{◌≡◌, ◌<◌, ◌≤◌, ◌⊎◌, ◌+◌, ℕ, zero, suc, List, [], ◌∷◌, ◌++◌, length, set, Some, sym, refl, ap, ◌∙◌, subst, ⊎_elim, inl, inr, append_assoc, arith, length-append}
use Rattle.std.specs.Prelude.{slice_get, slice_set}
use mathlib.Core.Option.{some, some-injective, some-ne-none}
use mathlib.Core.List.{IsPrefix}
use lib.ListN.{get_elem?}
use Rattle.crossbeam_channel.specs.Fifo.{Pushes, Pops, Forks}
use Rattle.luflow.specs.declared.message.Msg.{Msg}
use Rattle.test_reference.specs.declared.rule.PassState.{PassState}
use Rattle.test_reference.specs.declared.rule.Role.TheVariants.{Opener, Producer, Consumer}
use Rattle.test_reference.specs.Links.{fresh, sender, receiver, Running, Linked, with_one, HasSent, HasReceived}
use Rattle.test_reference.proofs.Prefixes.{prefix_next, prefix_at, prefix_of_append, prefix_whole}

only : (a v : PassState) (k : ℕ) → get_elem? (a ∷ []) k ≡ some v → (k ≡ 0) × (a ≡ v)
only a v zero e = (refl, some-injective a v e)
only a v (suc k) e = absurd (some-ne-none v (sym e))

either_of : (a b v : PassState) (k : ℕ) → get_elem? (a ∷ b ∷ []) k ≡ some v → ((k ≡ 0) × (a ≡ v)) ⊎ ((k ≡ 1) × (b ≡ v))
either_of a b v zero e = inl (refl, some-injective a v e)
either_of a b v (suc zero) e = inr (refl, some-injective b v e)
either_of a b v (suc (suc k)) e = absurd (some-ne-none v (sym e))

pub begins : Linked [] (fresh ∷ [])
begins = inl (refl, refl)

puts_running : (n pass : ℕ) (v : PassState) (x : Msg) (items : List Msg) (views : List PassState) → v.role ≡ Producer → n ≡ v.room → slice_get v.list (length v.done) ≡ Some x → length items < n → (r : Running items views)
    → ((pass ≡ 0) × (sender r.room r.list (r.taken ++ items) ≡ v)) ⊎ ((pass ≡ 1) × (receiver r.room r.list r.taken ≡ v))
    → Running (items ++ x ∷ []) (set views pass (with_one v x))
puts_running n pass v x items views is cap next free r (inl at) = record {
  room = r.room;
  list = r.list;
  taken = r.taken;
  ends = ap (λ k. set views k (with_one v x)) at.0 ∙ ap (λ vs. set vs 0 (with_one v x)) r.ends
      ∙ ap (λ (u : PassState). with_one u x ∷ receiver r.room r.list r.taken ∷ []) (sym at.1)
      ∙ ap (λ l. sender r.room r.list l ∷ receiver r.room r.list r.taken ∷ []) (append_assoc r.taken items (x ∷ []));
  fits = let cap' : r.room ≡ v.room = ap (λ (u : PassState). u.room) at.1 in omega (arith, length-append items (x ∷ []));
  begins = subst (λ l. IsPrefix l r.list) (append_assoc r.taken items (x ∷ []))
      (prefix_next (r.taken ++ items) r.list x r.begins (subst (λ (u : PassState). slice_get u.list (length u.done) ≡ Some x) (sym at.1) next));
}
puts_running n pass v x items views is cap next free r (inr at) = let two : Consumer ≡ Producer = ap (λ (u : PassState). u.role) at.1 ∙ is in absurd cc

pub puts : (n pass : ℕ) (v : PassState) (x : Msg) → v.role ≡ Producer → n ≡ v.room → slice_get v.list (length v.done) ≡ Some x → Pushes Linked n pass v x (HasSent v x)
puts n pass v x is cap next items views free (inl f) at =
    let o = only fresh v pass (ap (λ l. get_elem? l pass) (sym f.1) ∙ at) in
    let s : Opener ≡ Producer = ap (λ (u : PassState). u.role) o.1 ∙ is in
    absurd cc
puts n pass v x is cap next items views free (inr r) at =
    (with_one v x, inr (puts_running n pass v x items views is cap next free r (either_of _ _ v pass (ap (λ l. get_elem? l pass) (sym r.ends) ∙ at))), refl)

takes_running : (pass : ℕ) (v : PassState) (x : Msg) (items : List Msg) (views : List PassState) → v.role ≡ Consumer → (r : Running (x ∷ items) views)
    → ((pass ≡ 0) × (sender r.room r.list (r.taken ++ x ∷ items) ≡ v)) ⊎ ((pass ≡ 1) × (receiver r.room r.list r.taken ≡ v))
    → Running items (set views pass (with_one v x)) × (slice_get v.list (length v.done) ≡ Some x)
takes_running pass v x items views is r (inl at) = let one : Producer ≡ Consumer = ap (λ (u : PassState). u.role) at.1 ∙ is in absurd cc
takes_running pass v x items views is r (inr at) =
    let same : (r.taken ++ x ∷ []) ++ items ≡ r.taken ++ x ∷ items = append_assoc r.taken (x ∷ []) items in (
      record {
        room = r.room;
        list = r.list;
        taken = r.taken ++ x ∷ [];
        ends = ap (λ k. set views k (with_one v x)) at.0 ∙ ap (λ vs. set vs 1 (with_one v x)) r.ends
            ∙ ap (λ (u : PassState). sender r.room r.list (r.taken ++ x ∷ items) ∷ with_one u x ∷ []) (sym at.1)
            ∙ ap (λ l. sender r.room r.list l ∷ receiver r.room r.list (r.taken ++ x ∷ []) ∷ []) (sym same);
        fits = let f = r.fits in omega arith;
        begins = subst (λ l. IsPrefix l r.list) (sym same) r.begins;
      },
      subst (λ (u : PassState). slice_get u.list (length u.done) ≡ Some x) at.1 (prefix_at r.taken x items r.list r.begins),
    )

pub takes : (pass : ℕ) (v : PassState) → v.role ≡ Consumer → Pops Linked pass v (HasReceived v)
takes pass v is x items views (inl f) at = absurd cc
takes pass v is x items views (inr r) at =
    let t = takes_running pass v x items views is r (either_of _ _ v pass (ap (λ l. get_elem? l pass) (sym r.ends) ∙ at)) in
    (with_one v x, inr t.0, (refl, t.1))

pub parts : (pass : ℕ) (v : PassState) (room : ℕ) (list : List Msg) → v ≡ fresh → Forks Linked pass v (sender room list []) (receiver room list [])
parts pass v room list is items views (inl f) at =
    let o = only fresh v pass (ap (λ l. get_elem? l pass) (sym f.1) ∙ at) in
    inr record {
      room = room;
      list = list;
      taken = [];
      ends = ap (λ k. set views k (sender room list []) ++ receiver room list [] ∷ []) o.0 ∙ ap (λ vs. set vs 0 (sender room list []) ++ receiver room list [] ∷ []) f.1
          ∙ ap (λ l. sender room list l ∷ receiver room list [] ∷ []) (sym f.0);
      fits = omega (arith, ap length f.0);
      begins = (list, ap (λ l. l ++ list) f.0);
    }
parts pass v room list is items views (inr r) at =
    ⊎_elim
    (λ (x : (pass ≡ 0) × (sender r.room r.list (r.taken ++ items) ≡ v)). let s : Producer ≡ Opener = ap (λ (u : PassState). u.role) (x.1 ∙ is) in absurd cc)
    (λ (x : (pass ≡ 1) × (receiver r.room r.list r.taken ≡ v)). let s : Consumer ≡ Opener = ap (λ (u : PassState). u.role) (x.1 ∙ is) in absurd cc)
    (either_of _ _ v pass (ap (λ l. get_elem? l pass) (sym r.ends) ∙ at))

-- what a receiver's pass keeps
abbrev pub IsReceiving : ℕ → List Msg → PassState → Type 0
IsReceiving room list v = (v ≡ receiver room list v.done) × IsPrefix v.done list

pub after_take : (room : ℕ) (list : List Msg) (v w : PassState) (m : Msg) → IsReceiving room list v → HasReceived v m w → IsReceiving room list w
after_take room list v w m is h =
    let done : w.done ≡ v.done ++ m ∷ [] = ap (λ (u : PassState). u.done) h.0 in
    let next : slice_get list (length v.done) ≡ Some m = subst (λ (u : PassState). slice_get u.list (length v.done) ≡ Some m) is.0 h.1 in (
      h.0 ∙ ap (λ (u : PassState). record { role = u.role; room = u.room; list = u.list; done = v.done ++ m ∷ [] }) is.0 ∙ ap (λ l. receiver room list l) (sym done),
      subst (λ l. IsPrefix l list) (sym done) (prefix_next v.done list m is.1 next),
    )

pub after_none : (room : ℕ) (list : List Msg) (v w : PassState) → IsReceiving room list v → w ≡ v → IsReceiving room list w
after_none room list v w is same = subst (IsReceiving room list) (sym same) is

-- what a sender's pass keeps
abbrev pub IsSending : ℕ → List Msg → PassState → Type 0
IsSending room list v = (v ≡ sender room list v.done) × IsPrefix v.done list

pub after_put : (room : ℕ) (list : List Msg) (v w : PassState) (m : Msg) → IsSending room list v → HasSent v m w → slice_get list (length v.done) ≡ Some m → IsSending room list w
after_put room list v w m is h next =
    let done : w.done ≡ v.done ++ m ∷ [] = ap (λ (u : PassState). u.done) h in (
      h ∙ ap (λ (u : PassState). record { role = u.role; room = u.room; list = u.list; done = v.done ++ m ∷ [] }) is.0 ∙ ap (λ l. sender room list l) (sym done),
      subst (λ l. IsPrefix l list) (sym done) (prefix_next v.done list m is.1 next),
    )

pub after_no_put : (room : ℕ) (list : List Msg) (v w : PassState) → IsSending room list v → w ≡ v → IsSending room list w
after_no_put room list v w is same = subst (IsSending room list) (sym same) is

-- where the message that was taken is the last, all of the list was taken
pub whole_after : (list : List Msg) (v w : PassState) (m : Msg) (room : ℕ) → v ≡ receiver room list v.done → IsPrefix v.done list → HasReceived v m w → (slice_get list (length v.done) ≡ Some m → length list ≤ length v.done + 1) → w.done ≡ list
whole_after list v w m room is begins h long =
    let next : slice_get list (length v.done) ≡ Some m = subst (λ (u : PassState). slice_get u.list (length v.done) ≡ Some m) is h.1 in
    let done : w.done ≡ v.done ++ m ∷ [] = ap (λ (u : PassState). u.done) h.0 in
    let short = long next in
    done ∙ prefix_whole (v.done ++ m ∷ []) list (prefix_next v.done list m begins next) (omega (arith, length-append v.done (m ∷ [])))
