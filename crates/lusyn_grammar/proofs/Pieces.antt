-- What is read of single tokens and of repeated pieces is spelled so.
use Rattle.std.proofs.Common.{◌≡◌, ℕ, zero, suc, Result, Ok, Err, List, ◌∷◌, [], ◌++◌, refl, ap, sym, subst, ◌∙◌, cond, Bool, true, false, append_assoc}
use Rattle.std.specs.List.{flat_map}
use Rattle.std.proofs.lemmas.List.{append-nil}
use Rattle.lutree.specs.declared.expr.Condition.{Condition}
use Rattle.lusyn_grammar.specs.declared.token.Fixed.{Fixed}
use Rattle.lusyn_grammar.specs.declared.token.Fixed.TheVariants as f
use Rattle.lusyn_grammar.specs.Tokens.{Tok, identifier, number, fixed}
use Rattle.lusyn_grammar.specs.Grammar.{repeated, optional, Each, IsBare, pattern_tokens, when_tokens}
use Rattle.lusyn_grammar.specs.Reading.{Read, ◌>>=◌, same, after, past_by, past, name, on_truth, on_label, labelled_clock, clock_from_by, clock_from, condition_by, condition, many}
use Rattle.lusyn_grammar.proofs.Tables.{same-is}

pub bind_ok : {A B E : Type 0} (r : Result A E) (go : A → Result B E) (y : B) → (r >>= go) ≡ Ok y → (x : A) × (r ≡ Ok x) × (go x ≡ Ok y)
bind_ok (Err us) go y e = absurd cc
bind_ok (Ok x) go y e = (x, refl, e)

pub tested : {A P : Type 0} (b : Bool) (x y z : A) → cond b x y ≡ z → (b ≡ true → x ≡ z → P) → (b ≡ false → y ≡ z → P) → P
tested true x y z e held failed = held refl e
tested false x y z e held failed = failed refl e

pub same_ok : {A : Type 0} (x y : A) → ◌≡◌ {A = Result A (List Tok)} (Ok x) (Ok y) → x ≡ y
same_ok x y e = cc

pub after-is : (g : Fixed) (ts rest : List Tok) → after g ts ≡ Ok rest → fixed g ∷ rest ≡ ts
after-is g [] rest e = absurd cc
after-is g (identifier x ∷ ts) rest e = absurd cc
after-is g (number n ∷ ts) rest e = absurd cc
after-is g (fixed h ∷ ts) rest e =
    tested (same g h) (Ok ts) (Err (fixed h ∷ ts)) (Ok rest) e
    (λ held first. ap (λ (i : Fixed). fixed i ∷ rest) (same-is g h held) ∙ ap (λ (us : List Tok). fixed h ∷ us) (sym (same_ok ts rest first)))
    (λ failed first. absurd cc)

pub name-is : (ts : List Tok) (x : List ℕ × List Tok) → name ts ≡ Ok x → identifier x.0 ∷ x.1 ≡ ts
name-is [] x e = absurd cc
name-is (identifier v ∷ ts) x e = ap (λ (y : List ℕ × List Tok). identifier y.0 ∷ y.1) (sym (same_ok (v, ts) x e))
name-is (number n ∷ ts) x e = absurd cc
name-is (fixed g ∷ ts) x e = absurd cc

past-is_by : (ts : List Tok) (r : Result (List Tok) (List Tok)) → after f.Semicolon ts ≡ r → (b : Bool) × (optional b (past_by ts r) ≡ ts)
past-is_by ts (Err us) e = (false, refl)
past-is_by ts (Ok rest) e = (true, after-is f.Semicolon ts rest e)

pub past-is : (ts : List Tok) → (b : Bool) × (optional b (past f.Semicolon ts) ≡ ts)
past-is ts = past-is_by ts (after f.Semicolon ts) refl

-- a clock with these tokens before the rest, of whose label nothing is known
abbrev IsClockOf : List Tok → Condition × List Tok → Type 0
IsClockOf ts x = (pattern_tokens x.0.pattern x.0.variable x.1 ≡ ts) × IsBare x.0.pattern

clock_of : (ts rest : List Tok) (c : Condition) (x : Condition × List Tok) → (c, rest) ≡ x → IsClockOf ts (c, rest) → IsClockOf ts x
clock_of ts rest c x same h = let P : Condition × List Tok → Type 0 = IsClockOf ts in subst P same h

clock_along : (ts us : List Tok) (x : Condition × List Tok) → ts ≡ us → IsClockOf ts x → IsClockOf us x
clock_along ts us x same h = (h.0 ∙ same, h.1)

labelled_clock-is : (label : List ℕ) (ts : List Tok) (x : Condition × List Tok) → labelled_clock label ts ≡ Ok x → IsClockOf (identifier label ∷ fixed f.Open ∷ ts) x
labelled_clock-is label ts x e =
    let (y, one, e1) = bind_ok (name ts) (λ y. after f.Close y.1 >>= λ rest. Ok (on_label label y.0, rest)) x e in
    let (rest, two, e2) = bind_ok (after f.Close y.1) (λ rest. Ok (on_label label y.0, rest)) x e1 in
    clock_of (identifier label ∷ fixed f.Open ∷ ts) rest (on_label label y.0) x (same_ok (on_label label y.0, rest) x e2) (
      ap (λ (us : List Tok). identifier label ∷ fixed f.Open ∷ identifier y.0 ∷ us) (after-is f.Close y.1 rest two) ∙ ap (λ (us : List Tok). identifier label ∷ fixed f.Open ∷ us) (name-is ts y one),
      refl,
    )

clock_from_by-is : (v : List ℕ) (ts : List Tok) (r : Result (List Tok) (List Tok)) (x : Condition × List Tok) → after f.Open ts ≡ r → clock_from_by v ts r ≡ Ok x → IsClockOf (identifier v ∷ ts) x
clock_from_by-is v ts (Err us) x h e = clock_of (identifier v ∷ ts) ts (on_truth true v) x (same_ok (on_truth true v, ts) x e) (refl, tt)
clock_from_by-is v ts (Ok rest) x h e =
    clock_along (identifier v ∷ fixed f.Open ∷ rest) (identifier v ∷ ts) x (ap (λ (us : List Tok). identifier v ∷ us) (after-is f.Open ts rest h)) (labelled_clock-is v rest x e)

condition_by-is : (ts : List Tok) (r : Result (List Tok) (List Tok)) (x : Condition × List Tok) → after f.Not ts ≡ r → condition_by ts r ≡ Ok x → IsClockOf ts x
condition_by-is ts (Err us) x h e =
    let (y, one, e1) = bind_ok (name ts) (λ y. clock_from y.0 y.1) x e in
    clock_along (identifier y.0 ∷ y.1) ts x (name-is ts y one) (clock_from_by-is y.0 y.1 (after f.Open y.1) x refl e1)
condition_by-is ts (Ok rest) x h e =
    let (y, one, e1) = bind_ok (name rest) (λ y. Ok (on_truth false y.0, y.1)) x e in
    clock_of ts y.1 (on_truth false y.0) x (same_ok (on_truth false y.0, y.1) x e1) (ap (λ (us : List Tok). fixed f.Not ∷ us) (name-is rest y one) ∙ after-is f.Not ts rest h, tt)

pub condition-is : (ts : List Tok) (x : Condition × List Tok) → condition ts ≡ Ok x → when_tokens x.0 x.1 ≡ fixed f.When ∷ ts
condition-is ts x e = ap (λ (us : List Tok). fixed f.When ∷ us) (condition_by-is ts (after f.Not ts) x refl e).0

pub condition-bare : (ts : List Tok) (x : Condition × List Tok) → condition ts ≡ Ok x → IsBare x.0.pattern
condition-bare ts x e = (condition_by-is ts (after f.Not ts) x refl e).1

-- Tokens begin with a part that is written properly so and stands for what was found.
pub record Reads {W V : Type 0} (of : W → List Tok → List Tok) (view : W → V) (Good : W → Type 0) (ts : List Tok) (x : V × List Tok) : Type 0 where
  pub written : W
  pub proper : Good written
  pub spelled : of written x.1 ≡ ts
  pub stands : view written ≡ x.0

module _ {W V : Type 0} (of : W → List Tok → List Tok) (view : W → V) (Good : W → Type 0) where
  pub reads : (q : W) (ts rest : List Tok) (found : V) (x : V × List Tok) → Good q → of q rest ≡ ts → view q ≡ found → (found, rest) ≡ x → Reads of view Good ts x
  reads q ts rest found x proper spelled stands same = record {
    written = q;
    proper = proper;
    spelled = ap (λ (z : V × List Tok). of q z.1) (sym same) ∙ spelled;
    stands = stands ∙ ap (λ (z : V × List Tok). z.0) same;
  }

-- The same of a piece, which is put behind what was found before.
abbrev pub Begins : {W A : Type 0} → (W → List Tok → List Tok) → (W → List A) → (W → Type 0) → List A → List Tok → List A × List Tok → Type 0
Begins of view Good found ts x = Reads of (λ q. found ++ view q) Good ts x

abbrev pub Sound : {W A : Type 0} → (W → List Tok → List Tok) → (W → List A) → (W → Type 0) → (List A → List Tok → Read (List A)) → Type 0
Sound of view Good piece = (found : List _) (ts : List Tok) (x : List _ × List Tok) → piece found ts ≡ Ok x → Begins of view Good found ts x

module _ {W A : Type 0} (test : List Tok → Bool) (piece : List A → List Tok → Read (List A)) (of : W → List Tok → List Tok) (view : W → List A) (Good : W → Type 0)
    (sound : Sound of view Good piece) where
  pub many_sound : (n : ℕ) → Sound (repeated of) (flat_map view) (Each Good) (many test piece n)
  unfolding many
  many_sound zero found ts x e = absurd cc
  many_sound (suc n) found ts x e =
      tested (test ts) (piece found ts >>= λ y. many test piece n y.0 y.1) (Ok (found, ts)) (Ok x) e
      (λ held first.
      let (y, one, others) = bind_ok (piece found ts) (λ y. many test piece n y.0 y.1) x first in
      let h : Begins of view Good found ts y = sound found ts y one in
      let k : Begins (repeated of) (flat_map view) (Each Good) y.0 y.1 x = many_sound n y.0 y.1 x others in
      record {
        written = h.written ∷ k.written;
        proper = (h.proper, k.proper);
        spelled = ap (of h.written) k.spelled ∙ h.spelled;
        stands = sym (append_assoc found (view h.written) (flat_map view k.written)) ∙ ap (λ (v : List A). v ++ flat_map view k.written) h.stands ∙ k.stands;
      })
      (λ failed last.
      let s : (found, ts) ≡ x = same_ok (found, ts) x last in
      record {
        written = [];
        proper = tt;
        spelled = ap (λ (y : List A × List Tok). y.1) (sym s);
        stands = append-nil found ∙ ap (λ (y : List A × List Tok). y.0) s;
      })
