-- Which message of a link a status is.
use Rattle.std.proofs.Common.{◌≡◌, ℕ, zero, suc, ◌+◌, ◌-◌, ◌<◌, ◌≤◌, Bool, true, false, List, [], ◌∷◌, length, drop, map, Option, Some, None, refl, sym, ap, ◌∙◌, subst, arith, add-one}
use Rattle.std.specs.Prelude.{slice_get}
use Rattle.std.specs.List.{range_with_len}
use Rattle.std.proofs.lemmas.List.{drop-drop}
use Rattle.std.proofs.lemmas.List.{length-map}
use Rattle.std.proofs.lemmas.List.FromFn.{length-range_with_len}
use Rattle.luflow.specs.declared.data.Datum.{Datum}
use Rattle.luflow.specs.declared.data.Datum.TheVariants.{Nil}
use Rattle.luflow.specs.declared.data.Status.TheVariants.{Absent, Present}
use Rattle.luflow.specs.declared.message.Msg.{Msg}
use Rattle.luflow.specs.declared.message.Body.TheVariants.{Value, Close}
use Rattle.luflow.specs.Streams.{Mark, Known, Broken, newer, before, is_broken}
use Rattle.luworld.specs.Jobs.{JobView, streams_of, link_list, messages_of, flow_of_link}
use Rattle.luflow.specs.Messages.{marks, messages, once_if, presents}

pub newer_back : (m : Mark) (o : Option Datum) (d : Datum) → newer m o ≡ Some d → (is_broken m ≡ false) × (e : Datum) × (o ≡ Some e)
newer_back Broken o d h = cc
newer_back (Known Absent) o d h = (refl, d, h)
newer_back (Known (Present x)) None d h = cc
newer_back (Known (Present x)) (Some last) d h = (refl, last, refl)

slice_get_drop : {X : Type 0} (xs : List X) (k : ℕ) → slice_get xs k ≡ slice_get (drop k xs) 0
slice_get_drop xs zero = refl
slice_get_drop [] (suc k) = refl
slice_get_drop (x ∷ xs) (suc k) = slice_get_drop xs k

one_mark : (k : ℕ) (m : Mark) (rest : List Mark) (xs : List Msg) → is_broken m ≡ false → drop k xs ≡ messages k (m ∷ rest) → drop (k + once_if m) xs ≡ messages (k + once_if m) rest
one_mark k Broken rest xs b h = cc
one_mark k (Known Absent) rest xs b h =
    let e : k + 0 ≡ k = omega arith in ap (λ n. drop n xs) e ∙ h ∙ sym (ap (λ n. messages n rest) e)
one_mark k (Known (Present d)) rest xs b h = sym (drop-drop 1 k xs) ∙ ap (drop 1) h

-- the messages from the first one that isn't before t
pub messages_from : (s : ℕ → Mark) (n t : ℕ) (d : Datum) → t ≤ n → before s t ≡ Some d → drop (presents s t) (messages 0 (marks s n)) ≡ messages (presents s t) (map s (range_with_len t (n - t)))
messages_from s n zero d l h = let e : n ≡ n - 0 = omega arith in ap (λ m. messages 0 (map s (range_with_len 0 m))) e
messages_from s n (suc t) d l h =
    let b = newer_back (s t) (before s t) d h in
    let ih = messages_from s n t b.1 (omega arith) b.2 in
    let m : n - t ≡ suc (n - suc t) = omega arith in
    let ih' = ih ∙ ap (λ j. messages (presents s t) (map s (range_with_len t j))) m in
    one_mark (presents s t) (s t) (map s (range_with_len (t + 1) (n - suc t))) (messages 0 (marks s n)) b.0 ih'
    ∙ ap (λ u. messages (presents s t + once_if (s t)) (map s (range_with_len u (n - suc t)))) (add-one t)

-- what the messages from t on begin with
front : (s : ℕ → Mark) (n t : ℕ) (d : Datum) → t < n → before s t ≡ Some d → slice_get (messages 0 (marks s n)) (presents s t) ≡ slice_get (messages (presents s t) (s t ∷ map s (range_with_len (t + 1) (n - suc t)))) 0
front s n t d l h =
    let m : n - t ≡ suc (n - suc t) = omega arith in
    slice_get_drop (messages 0 (marks s n)) (presents s t)
    ∙ ap (λ xs. slice_get xs 0) (messages_from s n t d (omega arith) h ∙ ap (λ j. messages (presents s t) (map s (range_with_len t j))) m)

pub message_at : (s : ℕ → Mark) (n t : ℕ) (d x : Datum) → t < n → before s t ≡ Some d → s t ≡ Known (Present x) → slice_get (messages 0 (marks s n)) (presents s t) ≡ Some (record { no = presents s t; body = Value x })
message_at s n t d x l h e =
    front s n t d l h ∙ ap (λ m. slice_get (messages (presents s t) (m ∷ map s (range_with_len (t + 1) (n - suc t)))) 0) e

pub no_message_at : (s : ℕ → Mark) (n t : ℕ) (d : Datum) → t < n → before s t ≡ Some d → s t ≡ Broken → slice_get (messages 0 (marks s n)) (presents s t) ≡ None
no_message_at s n t d l h e =
    front s n t d l h ∙ ap (λ m. slice_get (messages (presents s t) (m ∷ map s (range_with_len (t + 1) (n - suc t)))) 0) e

pub close_at : (s : ℕ → Mark) (n : ℕ) (d : Datum) → before s n ≡ Some d → slice_get (messages 0 (marks s n)) (presents s n) ≡ Some (record { no = presents s n; body = Close })
close_at s n d h =
    let z : n - n ≡ 0 = omega arith in
    slice_get_drop (messages 0 (marks s n)) (presents s n)
    ∙ ap (λ xs. slice_get xs 0) (messages_from s n n d (omega arith) h ∙ ap (λ j. messages (presents s n) (map s (range_with_len n j))) z)

once_le : (m : Mark) → once_if m ≤ 1
once_le Broken = omega arith
once_le (Known Absent) = omega arith
once_le (Known (Present d)) = omega arith

pub presents_le : (s : ℕ → Mark) (t : ℕ) → presents s t ≤ t
presents_le s zero = omega arith
presents_le s (suc t) = omega (arith, presents_le s t, once_le (s t))

-- a list of messages is at most one longer than the marks
short : (n : ℕ) (ms : List Mark) → length (messages n ms) ≤ length ms + 1
short n [] = omega arith
short n (Broken ∷ ms) = omega arith
short n (Known Absent ∷ ms) = let h = short n ms in omega arith
short n (Known (Present d) ∷ ms) = let h = short (n + 1) ms in omega arith

pub lists_short : (job : JobView) (l : ℕ) → length (link_list job (streams_of job) l) ≤ job.inputs.instants + 1
unfolding link_list
lists_short job l = go (flow_of_link job.plan l)
  where
    go : (o : Option ℕ) → length (messages_of job (streams_of job) o) ≤ job.inputs.instants + 1
    go None = omega arith
    go (Some i) =
        let n = job.inputs.instants in
        let a = short 0 (marks (streams_of job i) n) in
        let b = length-map (range_with_len 0 n) (streams_of job i) ∙ length-range_with_len 0 n in
        omega (arith, a, b)
