-- The slots that an end has, and what it does to the table to give them back and to take others.
use Rattle.std.proofs.Common.{◌≡◌, ◌≢◌, ◌<◌, ◌≤◌, ◌+◌, ◌-◌, ◌%◌, ℕ, zero, suc, List, [], ◌∷◌, ◌++◌, append_assoc, length, set, length-set, Option, sym, refl, ap, ◌∙◌, subst, arith}
use mathlib.Core.Option.{none, some, Option as Held}
use native.Mathlib.Decide.{ℕ_discrete}
use lib.ListN.{get_elem?}
use Rattle.atomic_table.specs.Table.{Act, keeps, takes, gives, chain, carried_after, homes_after, Valid, rest}
use Rattle.atomic_table.proofs.Lists.{set_here, set_else, one_turn}
use Rattle.luflow.specs.declared.message.Msg.{Msg}
use Rattle.lulink.specs.Rings.{slots_of}

abbrev pub Slots : Type 0
Slots = List (ℕ × Option Msg)

abbrev pub Homes : Type 0
Homes = List (Held (Option Msg))

-- all are given back
abbrev giving : Slots → Act (Option Msg)
giving [] = keeps
giving (x ∷ xs) = chain gives (giving xs)

-- these are taken
abbrev taking : Slots → Act (Option Msg)
taking [] = keeps
taking (y ∷ ys) = chain (taking ys) (takes y.0 y.1)

-- some are given back, and then others are taken
abbrev pub passing : Slots → Slots → Act (Option Msg)
passing xs ys = chain (giving xs) (taking ys)

-- the slots at home after some were given back, and after some were taken
abbrev pub with_back : Homes → Slots → Homes
with_back hs [] = hs
with_back hs (x ∷ xs) = with_back (set hs x.0 (some x.1)) xs

abbrev pub without : Homes → Slots → Homes
without hs [] = hs
without hs (y ∷ ys) = set (without hs ys) y.0 none

-- each is at home where the ones behind it are taken
abbrev pub AreHome : Homes → Slots → Type 0
AreHome hs [] = Unit {0}
AreHome hs (y ∷ ys) = AreHome hs ys × (get_elem? (without hs ys) y.0 ≡ some (some y.1))

gave : (xs : Slots) → carried_after xs (giving xs) ≡ []
gave [] = refl
gave (x ∷ xs) = gave xs

gave_back : (hs : Homes) (xs : Slots) → homes_after hs xs (giving xs) ≡ with_back hs xs
gave_back hs [] = refl
gave_back hs (x ∷ xs) = gave_back (set hs x.0 (some x.1)) xs

may_give : (hs : Homes) (xs : Slots) → Valid hs xs (giving xs)
may_give hs [] = tt
may_give hs (x ∷ xs) = (tt, may_give (set hs x.0 (some x.1)) xs)

took : (ys : Slots) → carried_after [] (taking ys) ≡ ys
took [] = refl
took (y ∷ ys) = ap (λ (l : Slots). y ∷ l) (took ys)

took_out : (hs : Homes) (ys : Slots) → homes_after hs [] (taking ys) ≡ without hs ys
took_out hs [] = refl
took_out hs (y ∷ ys) = ap (λ (l : Homes). set l y.0 none) (took_out hs ys)

may_take : (hs : Homes) (ys : Slots) → AreHome hs ys → Valid hs [] (taking ys)
may_take hs [] h = tt
may_take hs (y ∷ ys) h = (may_take hs ys h.0, subst (λ (l : Homes). get_elem? l y.0 ≡ some (some y.1)) (sym (took_out hs ys)) h.1)

pub may_pass : (hs : Homes) (xs ys : Slots) → AreHome (with_back hs xs) ys → Valid hs xs (passing xs ys)
may_pass hs xs ys h = (may_give hs xs, subst (λ (y : Homes × Slots). Valid y.0 y.1 (taking ys)) (λ i. (sym (gave_back hs xs) i, sym (gave xs) i)) (may_take (with_back hs xs) ys h))

pub passed_slots : (xs ys : Slots) → carried_after xs (passing xs ys) ≡ ys
passed_slots xs ys = ap (λ (l : Slots). carried_after l (taking ys)) (gave xs) ∙ took ys

pub passed_homes : (hs : Homes) (xs ys : Slots) → homes_after hs xs (passing xs ys) ≡ without (with_back hs xs) ys
passed_homes hs xs ys = (λ i. homes_after (gave_back hs xs i) (gave xs i) (taking ys)) ∙ took_out (with_back hs xs) ys

pub with_back_append : (hs : Homes) (xs ys : Slots) → with_back hs (xs ++ ys) ≡ with_back (with_back hs xs) ys
with_back_append hs [] ys = refl
with_back_append hs (x ∷ xs) ys = with_back_append (set hs x.0 (some x.1)) xs ys

pub with_back_length : (hs : Homes) (xs : Slots) → length (with_back hs xs) ≡ length hs
with_back_length hs [] = refl
with_back_length hs (x ∷ xs) = with_back_length (set hs x.0 (some x.1)) xs ∙ length-set hs x.0 (some x.1)

pub either_way : {A B : Type 0} → Dec A → (A → B) → (¬ A → B) → B
either_way (yes a) f g = f a
either_way (no n) f g = g n

-- two numbers less than a turn apart have two slots
pub later_slot : (room a k : ℕ) → a < k → k < a + room → k % room ≢ a % room
later_slot room a k lt near e = let same = one_turn a k room (omega arith) near (sym e) in omega arith

pub earlier_slot : (room a k : ℕ) → a < k → k < a + room → a % room ≢ k % room
earlier_slot room a k lt near e = later_slot room a k lt near (sym e)

module _ (what : ℕ → Option Msg) (room : ℕ) where
  -- a slot that is none of these stays as it is
  pub back_else : (hs : Homes) (k n j : ℕ) → ((i : ℕ) → k ≤ i → i < k + n → j ≢ i % room) → get_elem? (with_back hs (slots_of what room k n)) j ≡ get_elem? hs j
  back_else hs k zero j other = refl
  back_else hs k (suc n) j other =
      back_else (set hs (k % room) (some (what k))) (k + 1) n j (λ i lo hi. other i (omega arith) (omega arith))
      ∙ set_else hs (k % room) j (some (what k)) (other k (omega arith) (omega arith))

  pub taken_else : (hs : Homes) (k n j : ℕ) → ((i : ℕ) → k ≤ i → i < k + n → j ≢ i % room) → get_elem? (without hs (slots_of what room k n)) j ≡ get_elem? hs j
  taken_else hs k zero j other = refl
  taken_else hs k (suc n) j other =
      set_else (without hs (slots_of what room (k + 1) n)) (k % room) j none (other k (omega arith) (omega arith))
      ∙ taken_else hs (k + 1) n j (λ i lo hi. other i (omega arith) (omega arith))

  -- each of these is at home with what lies in it
  pub back_here : (hs : Homes) (k n i : ℕ) → n ≤ room → k ≤ i → i < k + n → i % room < length hs → get_elem? (with_back hs (slots_of what room k n)) (i % room) ≡ some (some (what i))
  back_here hs k zero i few lo hi within = absurd (omega arith)
  back_here hs k (suc n) i few lo hi within =
      either_way (ℕ_discrete i k)
      (λ e.
      back_else (set hs (k % room) (some (what k))) (k + 1) n (i % room) (λ j from to. earlier_slot room i j (omega arith) (omega arith))
      ∙ (λ x. get_elem? (set hs (sym e x % room) (some (what (sym e x)))) (i % room)) ∙ set_here hs (i % room) (some (what i)) within)
      (λ ne. back_here (set hs (k % room) (some (what k))) (k + 1) n i (omega arith) (omega (arith, ne)) (omega arith) (subst (λ m. i % room < m) (sym (length-set hs (k % room) (some (what k)))) within))

  -- slots that are all at home may be taken
  pub are_home : (hs : Homes) (k n : ℕ) → n ≤ room → ((i : ℕ) → k ≤ i → i < k + n → get_elem? hs (i % room) ≡ some (some (what i))) → AreHome hs (slots_of what room k n)
  are_home hs k zero few at = tt
  are_home hs k (suc n) few at = (
    are_home hs (k + 1) n (omega arith) (λ i lo hi. at i (omega arith) (omega arith)),
    taken_else hs (k + 1) n (k % room) (λ i lo hi. earlier_slot room k i (omega arith) (omega arith)) ∙ at k (omega arith) (omega arith),
  )

  -- one slot more
  pub slots_more : (k n : ℕ) → slots_of what room k n ++ ((k + n) % room, what (k + n)) ∷ [] ≡ slots_of what room k (n + 1)
  slots_more k n = let last : suc n ≡ n + 1 = omega arith in more k n (k + n) refl ∙ ap (λ m. slots_of what room k m) last
    where
      more : (k n i : ℕ) → k + n ≡ i → slots_of what room k n ++ (i % room, what i) ∷ [] ≡ slots_of what room k (suc n)
      more k zero i e = let here : i ≡ k = omega arith in (λ x. (here x % room, what (here x)) ∷ [])
      more k (suc n) i e = ap (λ (l : Slots). (k % room, what k) ∷ l) (more (k + 1) n i (omega arith))

  -- the first of some slots
  pub slots_first : (k n : ℕ) → 0 < n → slots_of what room k n ≡ (k % room, what k) ∷ slots_of what room (k + 1) (n - 1)
  slots_first k zero any = absurd (omega arith)
  slots_first k (suc n) any = let less : n ≡ suc n - 1 = omega arith in ap (λ m. (k % room, what k) ∷ slots_of what room (k + 1) m) less

-- Of the slots of a run the first n were exchanged, and stand behind the others. The next one is the first that is left,
pub next_of_run : (what new : ℕ → Option Msg) (room c h n : ℕ) (l : Slots) → n < h → l ≡ slots_of what room (c + n) (h - n) ++ slots_of new room c n → l ≡ ((c + n) % room, what (c + n)) ∷ rest l
next_of_run what new room c h n l lt is =
    let any : 0 < h - n = omega arith in
    let first = is ∙ ap (λ (x : Slots). x ++ slots_of new room c n) (slots_first what room (c + n) (h - n) any) in
    first ∙ (λ i. ((c + n) % room, what (c + n)) ∷ rest (sym first i))

-- and it is exchanged likewise.
pub run_more : (what new : ℕ → Option Msg) (room c h n : ℕ) (l : Slots) (z : Option Msg) → n < h → l ≡ slots_of what room (c + n) (h - n) ++ slots_of new room c n → z ≡ new (c + n)
    → rest l ++ ((c + n) % room, z) ∷ [] ≡ slots_of what room (c + (n + 1)) (h - (n + 1)) ++ slots_of new room c (n + 1)
run_more what new room c h n l z lt is there =
    let any : 0 < h - n = omega arith in
    let first = is ∙ ap (λ (x : Slots). x ++ slots_of new room c n) (slots_first what room (c + n) (h - n) any) in
    let from : (c + n) + 1 ≡ c + (n + 1) = omega arith in
    let left : (h - n) - 1 ≡ h - (n + 1) = omega arith in
    ap (λ (x : Slots). rest x ++ ((c + n) % room, z) ∷ []) first
    ∙ append_assoc (slots_of what room (c + n + 1) (h - n - 1)) (slots_of new room c n) (((c + n) % room, z) ∷ [])
    ∙ (λ i. slots_of what room (from i) (left i) ++ (slots_of new room c n ++ ((c + n) % room, there i) ∷ []))
    ∙ ap (λ (x : Slots). slots_of what room (c + (n + 1)) (h - (n + 1)) ++ x) (slots_more new room c n)

-- what lies in the first of some slots
pub first_is : (a b : ℕ × Option Msg) (xs ys : Slots) → a ∷ xs ≡ b ∷ ys → a.1 ≡ b.1
first_is a b xs ys e = let same : a ≡ b = cc in ap (λ (x : ℕ × Option Msg). x.1) same
