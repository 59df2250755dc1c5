-- Counting finds the first token that is one too many in its run.
use Rattle.std.proofs.Common.{◌≡◌, ◌≤◌, ◌<◌, ◌+◌, ℕ, Bool, true, false, cond, List, [], ◌∷◌, ◌++◌, length, Option, Some, None, refl, ap, sym, subst, ◌∙◌, arith, nat_lt, nat_le}
use Rattle.std.proofs.lemmas.Bool.{and_parts, ltb-true, ltb-false, lt-ltb, leb-true, leb-false}
use Rattle.std.proofs.lemmas.List.{length-append, append_assoc, append-nil}
use Rattle.std.proofs.lemmas.List.Folds.{list_all-append}
use Rattle.lusyn_grammar.specs.declared.token.Lexeme.{Lexeme}
use Rattle.lusyn_grammar.specs.Tokens.{Tok, tok, located}
use Rattle.lusyn_grammar.specs.Lexing.{Placed}
use Rattle.lusyn_grammar.specs.Runs.{is_of_run, are_of_run, HasShortRuns, IsTooMany}
use Rattle.lusyn_grammar.specs.Scanning.{Count, first, counted, count}
use Rattle.lusyn_grammar.proofs.TextPieces.{by_test}

either : {G : Type 0} (b : Bool) → (b ≡ true → G) → (b ≡ false → G) → G
either true held failed = held refl
either false held failed = failed refl

abbrev start : Count
start = (0, None)

count-append : (c : Count) (xs ys : List Placed) → count c (xs ++ ys) ≡ count (count c xs) ys
count-append c [] ys = refl
count-append c (x ∷ xs) ys = count-append (counted c x) xs ys

located-push : (ls : List Lexeme) (l : Lexeme) → located (ls ++ (l ∷ [])) ≡ located ls ++ ((l.place, tok l.token) ∷ [])
located-push [] l = refl
located-push (m ∷ ls) l = ap (λ (xs : List Placed). (m.place, tok m.token) ∷ xs) (located-push ls l)

pub count-push : (so_far : Count) (ls ms : List Lexeme) (l : Lexeme) → ms ≡ ls ++ (l ∷ []) → so_far ≡ count start (located ls) → counted so_far (l.place, tok l.token) ≡ count start (located ms)
count-push so_far ls ms l same e =
    let x : Placed = (l.place, tok l.token) in
    ap (λ (d : Count). counted d x) e
    ∙ sym (count-append start (located ls) (x ∷ []))
    ∙ ap (count start) (sym (located-push ls l) ∙ ap located (sym same))

-- a token of a run, and one that ends it
counted-low : (c : Count) (x : Placed) → is_of_run x.1 ≡ true → c.0 < 1000 → counted c x ≡ (c.0 + 1, c.1)
counted-low c x of low = let t : nat_lt c.0 1000 ≡ true = lt-ltb c.0 1000 low in rw (of, t) refl

counted-full : (c : Count) (x : Placed) → is_of_run x.1 ≡ true → nat_lt c.0 1000 ≡ false → counted c x ≡ (c.0, first c.1 x.0)
counted-full c x of full = rw (of, full) refl

counted-end : (c : Count) (x : Placed) → is_of_run x.1 ≡ false → counted c x ≡ (0, c.1)
counted-end c x ends = rw ends refl

-- what was found first stays
kept-once : (c : Count) (x : Placed) (a : ℕ) → c.1 ≡ Some a → (counted c x).1 ≡ Some a
kept-once c x a e =
    let P : Count → Type 0 = λ d. d.1 ≡ Some a in
    by_test (is_of_run x.1) (cond (nat_lt c.0 1000) (c.0 + 1, c.1) (c.0, first c.1 x.0)) (0, c.1) P
    (λ h. by_test (nat_lt c.0 1000) (c.0 + 1, c.1) (c.0, first c.1 x.0) P (λ k. e) (λ k. ap (λ (o : Option ℕ). first o x.0) e)) (λ h. e)

kept : (c : Count) (xs : List Placed) (a : ℕ) → c.1 ≡ Some a → (count c xs).1 ≡ Some a
kept c [] a e = e
kept c (x ∷ xs) a e = kept (counted c x) xs a (kept-once c x a e)

stays_low : (c : Count) (x : Placed) → c.0 ≤ 1000 → (counted c x).0 ≤ 1000
stays_low c x low =
    let P : Count → Type 0 = λ d. d.0 ≤ 1000 in
    by_test (is_of_run x.1) (cond (nat_lt c.0 1000) (c.0 + 1, c.1) (c.0, first c.1 x.0)) (0, c.1) P
    (λ h. by_test (nat_lt c.0 1000) (c.0 + 1, c.1) (c.0, first c.1 x.0) P (λ k. let lt : c.0 < 1000 = ltb-true c.0 1000 k in omega (arith, lt)) (λ k. low)) (λ h. omega arith)

low : (c : Count) (xs : List Placed) → c.0 ≤ 1000 → (count c xs).0 ≤ 1000
low c [] h = h
low c (x ∷ xs) h = low (counted c x) xs (stays_low c x h)

-- a long run is found
first_some : (o : Option ℕ) (at : ℕ) → (a : ℕ) × (first o at ≡ Some a)
first_some None at = (at, refl)
first_some (Some a) at = (a, refl)

over : (run : List Placed) (c : Count) → are_of_run run ≡ true → c.0 ≤ 1000 → 1000 < c.0 + length run → (a : ℕ) × ((count c run).1 ≡ Some a)
over [] c all small long = absurd (omega arith)
over (x ∷ run) c all small long =
    let k = and_parts (is_of_run x.1) (are_of_run run) all in
    either (nat_lt c.0 1000)
    (λ h.
    let lt : c.0 < 1000 = ltb-true c.0 1000 h in
    let step : counted c x ≡ (c.0 + 1, c.1) = counted-low c x k.0 lt in
    let P : Count → Type 0 = λ d. (a : ℕ) × ((count d run).1 ≡ Some a) in
    subst P (sym step) (over run (c.0 + 1, c.1) k.1 (omega (arith, lt)) (omega (arith, long))))
    (λ h.
    let step : counted c x ≡ (c.0, first c.1 x.0) = counted-full c x k.0 h in
    let s = first_some c.1 x.0 in
    (s.0, kept (counted c x) run s.0 (ap (λ (d : Count). d.1) step ∙ s.1)))

-- a run of 1,000 fills the count
full : (run : List Placed) (c : Count) → are_of_run run ≡ true → c.0 ≤ 1000 → 1000 ≤ c.0 + length run → (count c run).0 ≡ 1000
full [] c all small long = omega (arith, small, long)
full (x ∷ run) c all small long =
    let k = and_parts (is_of_run x.1) (are_of_run run) all in
    either (nat_lt c.0 1000)
    (λ h.
    let lt : c.0 < 1000 = ltb-true c.0 1000 h in
    let step : counted c x ≡ (c.0 + 1, c.1) = counted-low c x k.0 lt in
    ap (λ (d : Count). (count d run).0) step ∙ full run (c.0 + 1, c.1) k.1 (omega (arith, lt)) (omega (arith, long)))
    (λ h.
    let high : 1000 ≤ c.0 = ltb-false c.0 1000 h in
    let step : counted c x ≡ (c.0, first c.1 x.0) = counted-full c x k.0 h in
    ap (λ (d : Count). (count d run).0) step ∙ full run (c.0, first c.1 x.0) k.1 small (omega (arith, high)))

none_some : {P : Type 0} (o : Option ℕ) (a : ℕ) → o ≡ None → o ≡ Some a → P
none_some o a e h = absurd cc

pub count-short : (ts : List Placed) → (count start ts).1 ≡ None → HasShortRuns ts
count-short ts none = λ front run rest same all.
    let c : Count = count start front in
    let small : c.0 ≤ 1000 = low start front (omega arith) in
    let parts : count start ts ≡ count (count c run) rest = ap (count start) (sym same) ∙ count-append start front (run ++ rest) ∙ count-append c run rest in
    either (nat_le (length run) 1000)
    (λ h. leb-true (length run) 1000 h)
    (λ h.
    let long : 1000 < length run = leb-false (length run) 1000 h in
    let o = over run c all small (omega (arith, long)) in
    none_some (count start ts).1 o.0 none (ap (λ (d : Count). d.1) parts ∙ kept (count c run) rest o.0 o.1))

-- what is found is the first token too many
abbrev Finds : List Placed → ℕ → Type 0
Finds ts at =
    (front run rest : List Placed) × (t : Tok)
    × ((front ++ run) ++ ((at, t) ∷ rest) ≡ ts) × ((count start (front ++ run)).1 ≡ None)
    × (are_of_run run ≡ true) × (length run ≡ 1000) × (is_of_run t ≡ true)

-- one token further
further : (seen : List Placed) (x : Placed) (ts : List Placed) → (seen ++ (x ∷ [])) ++ ts ≡ seen ++ (x ∷ ts)
further seen x ts = append_assoc seen (x ∷ []) ts

some_same : (a b : ℕ) → Some a ≡ Some b → a ≡ b
some_same a b e = cc

find : (ts front run : List Placed) (at : ℕ) → are_of_run run ≡ true → length run ≤ 1000 → count start (front ++ run) ≡ (length run, None)
    → (count (length run, None) ts).1 ≡ Some at → Finds ((front ++ run) ++ ts) at
find [] front run at all small so_far e = absurd cc
find ((place, t) ∷ ts) front run at all small so_far e =
    let x : Placed = (place, t) in
    let c : Count = (length run, None) in
    let seen : List Placed = front ++ run in
    let next : count start (seen ++ (x ∷ [])) ≡ counted c x = count-append start seen (x ∷ []) ∙ ap (λ (d : Count). counted d x) so_far in
    let G : Type 0 = Finds (seen ++ (x ∷ ts)) at in
    let along : Finds ((seen ++ (x ∷ [])) ++ ts) at → G = λ (h : Finds ((seen ++ (x ∷ [])) ++ ts) at). let P : List Placed → Type 0 = λ us. Finds us at in subst P (further seen x ts) h in
    either (is_of_run t)
    (λ of. either (nat_lt (length run) 1000)
    (λ h.
    let lt : length run < 1000 = ltb-true (length run) 1000 h in
    let longer : List Placed = run ++ (x ∷ []) in
    let size : length run + 1 ≡ length longer = omega (arith, length-append run (x ∷ [])) in
    let step : counted c x ≡ (length longer, None) = counted-low c x of lt ∙ ap (λ (n : ℕ). let d : Count = (n, None) in d) size in
    let together : (front ++ run) ++ (x ∷ []) ≡ front ++ longer = append_assoc front run (x ∷ []) in
    let alls : are_of_run longer ≡ true = list_all-append (λ (y : Placed). is_of_run y.1) run (x ∷ []) ∙ rw (all, of) refl in
    let r : Finds ((front ++ longer) ++ ts) at =
    find ts front longer at alls (omega (arith, size, lt)) (ap (count start) (sym together) ∙ next ∙ step) (ap (λ (d : Count). (count d ts).1) (sym step) ∙ e) in
    let P : List Placed → Type 0 = λ us. Finds (us ++ ts) at in
    along (subst P (sym together) r))
    (λ h.
    let high : 1000 ≤ length run = ltb-false (length run) 1000 h in
    let step : counted c x ≡ (length run, Some place) = counted-full c x of h in
    let same : place ≡ at = some_same place at (sym (kept (counted c x) ts place (ap (λ (d : Count). d.1) step)) ∙ e) in
    (front, run, ts, t, ap (λ (n : ℕ). seen ++ ((n, t) ∷ ts)) (sym same), ap (λ (d : Count). d.1) so_far, all, omega (arith, high, small), of)))
    (λ ends.
    let step : counted c x ≡ start = counted-end c x ends in
    let r : Finds (((seen ++ (x ∷ [])) ++ []) ++ ts) at =
    find ts (seen ++ (x ∷ [])) [] at refl (omega arith) (ap (count start) (append-nil (seen ++ (x ∷ []))) ∙ next ∙ step) (ap (λ (d : Count). (count d ts).1) (sym step) ∙ e) in
    let P : List Placed → Type 0 = λ us. Finds (us ++ ts) at in
    along (subst P (append-nil (seen ++ (x ∷ []))) r))

pub count-too_many : (ts : List Placed) (at : ℕ) → (count start ts).1 ≡ Some at → IsTooMany ts at
count-too_many ts at e =
    let (front, run, rest, t, same, none, all, size, of) = find ts [] [] at refl (omega arith) refl e in
    (front, run, rest, t, same, count-short (front ++ run) none, all, size, of)

-- and the other way
one_more : (ts : List Placed) (at : ℕ) → IsTooMany ts at → HasShortRuns ts → ⊥
one_more ts at (front, run, rest, t, same, short, all, size, of) runs =
    let x : Placed = (at, t) in
    let longer : List Placed = run ++ (x ∷ []) in
    let alls : are_of_run longer ≡ true = list_all-append (λ (y : Placed). is_of_run y.1) run (x ∷ []) ∙ rw (all, of) refl in
    let whole : front ++ (longer ++ rest) ≡ ts = ap (λ (us : List Placed). front ++ us) (append_assoc run (x ∷ []) rest) ∙ sym (append_assoc front run (x ∷ rest)) ∙ same in
    let bound : length longer ≤ 1000 = runs front longer rest whole alls in
    omega (arith, length-append run (x ∷ []), bound, size)

none-from : (ts : List Placed) (o : Option ℕ) → (count start ts).1 ≡ o → HasShortRuns ts → (count start ts).1 ≡ None
none-from ts None e runs = e
none-from ts (Some at) e runs = absurd (one_more ts at (count-too_many ts at e) runs)

pub short-count : (ts : List Placed) → HasShortRuns ts → (count start ts).1 ≡ None
short-count ts runs = none-from ts (count start ts).1 refl runs

pub too_many-count : (ts : List Placed) (at : ℕ) → IsTooMany ts at → (count start ts).1 ≡ Some at
too_many-count ts at (front, run, rest, t, same, short, all, size, of) =
    let x : Placed = (at, t) in
    let none : (count start (front ++ run)).1 ≡ None = short-count (front ++ run) short in
    let c : Count = count start front in
    let full_now : (count start (front ++ run)).0 ≡ 1000 = ap (λ (d : Count). d.0) (count-append start front run) ∙ full run c all (low start front (omega arith)) (omega (arith, size)) in
    let test : nat_lt (count start (front ++ run)).0 1000 ≡ false = ap (λ (n : ℕ). nat_lt n 1000) full_now in
    let step : (counted (count start (front ++ run)) x).1 ≡ Some at =
    ap (λ (d : Count). d.1) (counted-full (count start (front ++ run)) x of test) ∙ ap (λ (o : Option ℕ). first o at) none in
    ap (λ (us : List Placed). (count start us).1) (sym same)
    ∙ ap (λ (d : Count). d.1) (count-append start (front ++ run) (x ∷ rest))
    ∙ kept (counted (count start (front ++ run)) x) rest at step
