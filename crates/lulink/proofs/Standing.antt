-- What stands in a ring between any two steps.
use Rattle.std.proofs.Common.{◌≡◌, ◌<◌, ◌+◌, ◌-◌, ℕ, List, [], ◌∷◌, ◌++◌, length, take, drop, take-add, length-drop, Some, sym, refl, ap, ◌∙◌, subst, ◌⊎◌, inl, inr, arith}
use Rattle.std.specs.Prelude.{slice_get}
use Rattle.std.proofs.lemmas.Option.{slice_get_within}
use Rattle.std.proofs.lemmas.List.{length-take-le, take-append-drop}
use mathlib.Core.Option.{some}
use native.Mathlib.Decide.{dec_lt}
use Rattle.luflow.specs.declared.message.Msg.{Msg}
use Rattle.lulink.specs.declared.rule.EndState.{EndState}
use Rattle.lulink.specs.Words.{WereWords}
use Rattle.lulink.specs.Rings.{Running, Unused}
use Rattle.lulink.specs.RingLaw.{passed, StandsAt, AreInStep, RingLaw, SenderLaw, ReceiverLaw}
use Rattle.lulink.proofs.Parts.{at_drop, at_take}
use Rattle.lulink.proofs.Steps.{RingState}

module _ (room : ℕ) (list : List Msg) (s : RingState) (r : Running room list s) where
  abbrev ahead : ℕ
  ahead = r.p.count - r.c.count

  abbrev stands : List Msg
  stands = take ahead (drop r.c.count list)

  how_many : length stands ≡ ahead
  how_many =
      let begins = r.begins in
      let left = length-drop r.c.count list in
      length-take-le ahead (drop r.c.count list) (omega arith)

  put_count : length (passed r.p) ≡ r.p.count
  put_count =
      let begins = r.begins in
      let lists = ap length r.producer.2 in
      length-take-le r.p.count r.p.list (omega arith)

  taken_count : length (passed r.c) ≡ r.c.count
  taken_count =
      let begins = r.begins in
      let emptying = r.emptying in
      let lists = ap length r.consumer.2 in
      length-take-le r.c.count r.c.list (omega arith)

  in_place : (i : ℕ) (m : Msg) → slice_get stands i ≡ Some m → StandsAt room s r.c (r.c.count + i) m
  in_place i m at = by_place (dec_lt (r.c.count + i) (r.c.count + r.c.held))
    where
      by_place : Dec (r.c.count + i < r.c.count + r.c.held) → StandsAt room s r.c (r.c.count + i) m
      by_place (yes own) = inr own
      by_place (no home) =
          let within : i < length stands = slice_get_within stands i m at in
          let many = how_many in
          let there : slice_get list (r.c.count + i) ≡ Some m = sym (at_drop r.c.count list i) ∙ at_take ahead (drop r.c.count list) i m at in
          inl (r.stored (r.c.count + i) (omega (arith, home)) (omega arith) ∙ ap (λ o. some (some o)) there)

  in_step : AreInStep room list s r.p r.c
  in_step = record {
    standing = stands;
    order =
        ap (take r.p.count) r.producer.2 ∙ ap (λ n. take n list) both ∙ take-add r.c.count ahead list
        ∙ ap (λ l. take r.c.count l ++ stands) (sym r.consumer.2);
    few = let many = how_many in let filling = r.filling in omega arith;
    places = λ i m at. subst (λ n. StandsAt room s r.c (n + i) m) (sym taken_count) (in_place i m at);
    put_begins = (drop r.p.count list, ap (λ l. take r.p.count l ++ drop r.p.count list) r.producer.2 ∙ take-append-drop r.p.count list);
    taken_begins = (drop r.c.count list, ap (λ l. take r.c.count l ++ drop r.c.count list) r.consumer.2 ∙ take-append-drop r.c.count list);
    sender_saw = subst (λ n. WereWords r.p.seen n r.c.left) (sym taken_count) r.p_saw;
    receiver_saw = subst (λ n. WereWords r.c.seen n r.p.left) (sym put_count) r.c_saw;
  }
    where
      both : r.p.count ≡ r.c.count + ahead
      both = let emptying = r.emptying in omega arith

pub law : RingLaw
law room list s sender receiver h at = by_cases h.2
  where
    by_cases : Unused room list s ⊎ Running room list s → AreInStep room list s sender receiver
    by_cases (inl new) = absurd (omega (arith, ap length (sym new.views ∙ at)))
    by_cases (inr r) =
        let ends : r.p ∷ r.c ∷ [] ≡ sender ∷ receiver ∷ [] = sym r.views ∙ at in
        let one : r.p ≡ sender = cc in
        let two : r.c ≡ receiver = cc in
        subst (λ (y : EndState × EndState). AreInStep room list s y.0 y.1) (λ i. (one i, two i)) (in_step room list s r)

pub sender_law : SenderLaw
sender_law t is = (is.side.table, is.side.ends.1, is.side.ends.2, (λ i. take (is.side.count i) (is.side.ends.2 i)), refl)

pub receiver_law : ReceiverLaw
receiver_law t is = (is.side.table, is.side.ends.1, is.side.ends.2, (λ i. take (is.side.count i) (is.side.ends.2 i)), refl)
