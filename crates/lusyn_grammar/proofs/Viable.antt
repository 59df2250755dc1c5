-- What stands before a refused token goes on to something that is spelled: readers, put together from parts.
use Rattle.std.proofs.Common.{◌≡◌, ◌⊎◌, inl, inr, ◌≤◌, ◌<◌, ◌+◌, ℕ, zero, suc, Result, Ok, Err, List, ◌∷◌, [], ◌++◌, length, refl, ap, sym, subst, ◌∙◌, arith, cond, Bool, true, false, append_assoc}
use Rattle.std.proofs.lemmas.List.{length-append}
use Rattle.lusyn_grammar.specs.declared.token.Fixed.{Fixed}
use Rattle.lusyn_grammar.specs.Tokens.{Tok, identifier, number, fixed}
use Rattle.lusyn_grammar.specs.Reading.{Read, ◌>>=◌, same, after, name, many}
use Rattle.lusyn_grammar.proofs.Pieces.{bind_ok, tested, same_ok, after-is, name-is}

-- a part of a text, before the tokens that follow it
abbrev pub Part : Type 0
Part = List Tok → List Tok

-- its own tokens, at least so many
pub record Front (least : ℕ) (d : Part) : Type 0 where
  pub own : List Tok
  pub enough : least ≤ length own
  pub is : (rest : List Tok) → d rest ≡ own ++ rest

pub front_here : Front 0 (λ rest. rest)
front_here = record { own = []; enough = omega arith; is = λ rest. refl }

pub front_token : {least : ℕ} {d : Part} (x : Tok) → Front least d → Front (suc least) (λ rest. x ∷ d rest)
front_token x h = record { own = x ∷ h.own; enough = omega (arith, h.enough); is = λ rest. ap (λ (us : List Tok). x ∷ us) (h.is rest) }

pub front_both : {m n : ℕ} {d e : Part} → Front m d → Front n e → Front (m + n) (λ rest. d (e rest))
front_both {d = d} {e = e} h k = record {
  own = h.own ++ k.own;
  enough = let both = length-append h.own k.own in omega (arith, both, h.enough, k.enough);
  is = λ rest. h.is (e rest) ∙ ap (λ (us : List Tok). h.own ++ us) (k.is rest) ∙ sym (append_assoc h.own k.own rest);
}

pub front_less : {m n : ℕ} {d : Part} → n ≤ m → Front m d → Front n d
front_less less h = record { own = h.own; enough = omega (arith, less, h.enough); is = h.is }

pub front_along : {m : ℕ} {d e : Part} → ((rest : List Tok) → e rest ≡ d rest) → Front m d → Front m e
front_along same h = record { own = h.own; enough = h.enough; is = λ rest. same rest ∙ h.is rest }

-- what follows is shorter
pub shorter : {m : ℕ} {d : Part} → Front m d → (rest ts : List Tok) → d rest ≡ ts → m + length rest ≤ length ts
shorter h rest ts e =
    let both = length-append h.own rest in
    let whole = ap length (sym (h.is rest) ∙ e) in
    omega (arith, both, whole, h.enough)

-- the tokens `ts` before `us` begin this part
pub record Partial (d : Part) (ts us : List Tok) : Type 0 where
  pub before : List Tok
  pub others : List Tok
  pub parts : before ++ us ≡ ts
  pub is : (rest : List Tok) → d rest ≡ before ++ (others ++ rest)

pub partial_here : {m : ℕ} {d : Part} (ts : List Tok) → Front m d → Partial d ts ts
partial_here ts h = record { before = []; others = h.own; parts = refl; is = h.is }

pub partial_token : {d : Part} {ts us : List Tok} (x : Tok) → Partial d ts us → Partial (λ rest. x ∷ d rest) (x ∷ ts) us
partial_token x h = record { before = x ∷ h.before; others = h.others; parts = ap (λ (vs : List Tok). x ∷ vs) h.parts; is = λ rest. ap (λ (vs : List Tok). x ∷ vs) (h.is rest) }

pub partial_behind : {m : ℕ} {d e : Part} {ts vs us : List Tok} → Front m d → d vs ≡ ts → Partial e vs us → Partial (λ rest. d (e rest)) ts us
partial_behind {d = d} {e = e} {ts = ts} {vs = vs} {us = us} h at k = record {
  before = h.own ++ k.before;
  others = k.others;
  parts = append_assoc h.own k.before us ∙ ap (λ (ws : List Tok). h.own ++ ws) k.parts ∙ sym (h.is vs) ∙ at;
  is = λ rest. h.is (e rest) ∙ ap (λ (ws : List Tok). h.own ++ ws) (k.is rest) ∙ sym (append_assoc h.own k.before (k.others ++ rest));
}

pub partial_before : {m : ℕ} {d e : Part} {ts us : List Tok} → Partial d ts us → Front m e → Partial (λ rest. d (e rest)) ts us
partial_before {d = d} {e = e} h k = record {
  before = h.before;
  others = h.others ++ k.own;
  parts = h.parts;
  is = λ rest. h.is (e rest) ∙ ap (λ (ws : List Tok). h.before ++ (h.others ++ ws)) (k.is rest) ∙ ap (λ (ws : List Tok). h.before ++ ws) (sym (append_assoc h.others k.own rest));
}

pub partial_along : {d e : Part} {ts us : List Tok} → ((rest : List Tok) → e rest ≡ d rest) → Partial d ts us → Partial e ts us
partial_along same h = record { before = h.before; others = h.others; parts = h.parts; is = λ rest. same rest ∙ h.is rest }

-- ---- readers

-- one of these parts was read, with this rest after it
pub record Done (D : Part → Type 0) (least : ℕ) (ts rest : List Tok) : Type 0 where
  pub part : Part
  pub good : D part
  pub front : Front least part
  pub at : part rest ≡ ts

-- some of these parts begins as the tokens do before the refused one
pub record Stopped (D : Part → Type 0) (ts us : List Tok) : Type 0 where
  pub part : Part
  pub good : D part
  pub begun : Partial part ts us

-- there is such a part
pub record Some_part (D : Part → Type 0) (least : ℕ) : Type 0 where
  pub part : Part
  pub good : D part
  pub front : Front least part

-- A reader of parts: what it reads is one, and where it stops in fewer tokens than `most`, one begins so.
pub record Reader {A : Type 0} (D : Part → Type 0) (least most : ℕ) (p : List Tok → Read A) : Type 0 where
  pub done : (ts : List Tok) (x : A × List Tok) → p ts ≡ Ok x → Done D least ts x.1
  pub stopped : (ts us : List Tok) → length ts < most → p ts ≡ Err us → Stopped D ts us

pub reader_less : {A : Type 0} {D : Part → Type 0} {least less most more : ℕ} {p : List Tok → Read A} → less ≤ least → most ≤ more → Reader D least more p → Reader D less most p
reader_less low high h = record {
  done = λ ts x e. let k = h.done ts x e in record { part = k.part; good = k.good; front = front_less low k.front; at = k.at };
  stopped = λ ts us short e. h.stopped ts us (omega (arith, short, high)) e;
}

pub reader_along : {A : Type 0} {D E : Part → Type 0} {least most : ℕ} {p : List Tok → Read A} → ((d : Part) → D d → E d) → Reader D least most p → Reader E least most p
reader_along to h = record {
  done = λ ts x e. let k = h.done ts x e in record { part = k.part; good = to k.part k.good; front = k.front; at = k.at };
  stopped = λ ts us short e. let k = h.stopped ts us short e in record { part = k.part; good = to k.part k.good; begun = k.begun };
}

err_again : (A : Type 0) {B E : Type 0} (x y : E) → ◌≡◌ {A = Result B E} (Err x) (Err y) → ◌≡◌ {A = Result A E} (Err x) (Err y)
err_again A x y e = cc

pub bind_err : {A B E : Type 0} (r : Result A E) (go : A → Result B E) (us : E) → (r >>= go) ≡ Err us → (r ≡ Err us) ⊎ ((x : A) × (r ≡ Ok x) × (go x ≡ Err us))
bind_err {A = A} {E = E} (Err vs) go us e = inl (err_again A vs us e)
bind_err (Ok x) go us e = inr (x, refl, e)

-- nothing is read
abbrev pub Here : Part → Type 0
Here d = (rest : List Tok) → d rest ≡ rest

pub reader_ok : {A : Type 0} {most : ℕ} (v : A) → Reader Here 0 most (λ ts. Ok (v, ts))
reader_ok v = record {
  done = λ ts x e. record { part = λ rest. rest; good = λ rest. refl; front = front_here; at = ap (λ (y : _ × List Tok). y.1) (sym (same_ok (v, ts) x e)) };
  stopped = λ ts us short e. absurd cc;
}

reader_stopped : {A B : Type 0} {D E F : Part → Type 0} {m n most more : ℕ} (p : List Tok → Read A) (k : A → List Tok → Read B)
    → ((d e : Part) → D d → E e → F (λ rest. d (e rest))) → Some_part E n → most ≤ m + more
    → Reader D m most p → ((v : A) → Reader E n more (k v)) → (ts us : List Tok) → length ts < most
    → (p ts ≡ Err us) ⊎ ((x : A × List Tok) × (p ts ≡ Ok x) × (k x.0 x.1 ≡ Err us)) → Stopped F ts us
reader_stopped p k both some enough first second ts us short (inl e) =
    let a = first.stopped ts us short e in
    record { part = λ rest. a.part (some.part rest); good = both a.part some.part a.good some.good; begun = partial_before a.begun some.front }
reader_stopped p k both some enough first second ts us short (inr (y, e1, e2)) =
    let a = first.done ts y e1 in
    let less = shorter a.front y.1 ts a.at in
    let b = (second y.0).stopped y.1 us (omega (arith, less, short, enough)) e2 in
    record { part = λ rest. a.part (b.part rest); good = both a.part b.part a.good b.good; begun = partial_behind a.front a.at b.begun }

-- one after the other
pub reader_then : {A B : Type 0} {D E F : Part → Type 0} {m n most more : ℕ} (p : List Tok → Read A) (k : A → List Tok → Read B)
    → ((d e : Part) → D d → E e → F (λ rest. d (e rest))) → Some_part E n → most ≤ m + more
    → Reader D m most p → ((v : A) → Reader E n more (k v)) → Reader F (m + n) most (λ ts. p ts >>= λ x. k x.0 x.1)
reader_then p k both some enough first second = record {
  done = λ ts x e.
      let (y, e1, e2) = bind_ok (p ts) (λ y. k y.0 y.1) x e in
      let a = first.done ts y e1 in
      let b = (second y.0).done y.1 x e2 in
      record { part = λ rest. a.part (b.part rest); good = both a.part b.part a.good b.good; front = front_both a.front b.front; at = ap a.part b.at ∙ a.at };
  stopped = λ ts us short e. reader_stopped p k both some enough first second ts us short (bind_err (p ts) (λ y. k y.0 y.1) us e);
}

-- ---- single tokens

refused-is : (g h : Fixed) (b : Bool) (ts us : List Tok) → (let r : Result (List Tok) (List Tok) = cond b (Ok ts) (Err (fixed h ∷ ts)) in r) ≡ Err us → us ≡ fixed h ∷ ts
refused-is g h true ts us e = absurd cc
refused-is g h false ts us e = cc

pub after-err : (g : Fixed) (ts us : List Tok) → after g ts ≡ Err us → us ≡ ts
after-err g [] us e = cc
after-err g (identifier x ∷ ts) us e = cc
after-err g (number n ∷ ts) us e = cc
after-err g (fixed h ∷ ts) us e = refused-is g h (same g h) ts us e

pub name-err : (ts us : List Tok) → name ts ≡ Err us → us ≡ ts
name-err [] us e = cc
name-err (identifier x ∷ ts) us e = absurd cc
name-err (number n ∷ ts) us e = cc
name-err (fixed h ∷ ts) us e = cc

pub stopped_here : {D : Part → Type 0} {least : ℕ} (ts us : List Tok) → Some_part D least → us ≡ ts → Stopped D ts us
stopped_here {D = D} ts us some e = subst (λ (vs : List Tok). Stopped D ts vs) (sym e) (record { part = some.part; good = some.good; begun = partial_here ts some.front })

pub some_along : {D E : Part → Type 0} {least : ℕ} → ((d : Part) → D d → E d) → Some_part D least → Some_part E least
some_along to h = record { part = h.part; good = to h.part h.good; front = h.front }

pub some_then : {D E F : Part → Type 0} {m n : ℕ} → ((d e : Part) → D d → E e → F (λ rest. d (e rest))) → Some_part D m → Some_part E n → Some_part F (m + n)
some_then both h k = record { part = λ rest. h.part (k.part rest); good = both h.part k.part h.good k.good; front = front_both h.front k.front }

pub some_after : {E F : Part → Type 0} {n : ℕ} (g : Fixed) → ((e : Part) → E e → F (λ rest. fixed g ∷ e rest)) → Some_part E n → Some_part F (suc n)
some_after g to h = record { part = λ rest. fixed g ∷ h.part rest; good = to h.part h.good; front = front_token (fixed g) h.front }

pub some_here : Some_part Here 0
some_here = record { part = λ rest. rest; good = λ rest. refl; front = front_here }

after_stopped : {A : Type 0} {E F : Part → Type 0} {n most : ℕ} (g : Fixed) (k : List Tok → Read A) → ((e : Part) → E e → F (λ rest. fixed g ∷ e rest)) → Some_part E n
    → Reader E n most k → (ts us : List Tok) → length ts < suc most
    → (after g ts ≡ Err us) ⊎ ((vs : List Tok) × (after g ts ≡ Ok vs) × (k vs ≡ Err us)) → Stopped F ts us
after_stopped g k to some next ts us short (inl e) = stopped_here ts us (some_after g to some) (after-err g ts us e)
after_stopped {F = F} g k to some next ts us short (inr (vs, e1, e2)) =
    let at : fixed g ∷ vs ≡ ts = after-is g ts vs e1 in
    let count = ap length at in
    let b = next.stopped vs us (omega (arith, count, short)) e2 in
    record { part = λ rest. fixed g ∷ b.part rest; good = to b.part b.good; begun = subst (λ (ws : List Tok). Partial (λ rest. fixed g ∷ b.part rest) ws us) at (partial_token (fixed g) b.begun) }

-- a token that has to stand there, and what follows it
pub reader_after : {A : Type 0} {E F : Part → Type 0} {n most : ℕ} (g : Fixed) (k : List Tok → Read A) → ((e : Part) → E e → F (λ rest. fixed g ∷ e rest)) → Some_part E n
    → Reader E n most k → Reader F (suc n) (suc most) (λ ts. after g ts >>= k)
reader_after g k to some next = record {
  done = λ ts x e.
      let (vs, e1, e2) = bind_ok (after g ts) k x e in
      let b = next.done vs x e2 in
      record { part = λ rest. fixed g ∷ b.part rest; good = to b.part b.good; front = front_token (fixed g) b.front; at = ap (λ (ws : List Tok). fixed g ∷ ws) b.at ∙ after-is g ts vs e1 };
  stopped = λ ts us short e. after_stopped g k to some next ts us short (bind_err (after g ts) k us e);
}

abbrev pub Named : Part → Type 0
Named d = (x : List ℕ) × ((rest : List Tok) → d rest ≡ identifier x ∷ rest)

pub some_name : Some_part Named 1
some_name = record { part = λ rest. identifier [] ∷ rest; good = ([], λ rest. refl); front = front_token (identifier []) front_here }

pub reader_name : {most : ℕ} → Reader Named 1 most name
reader_name = record {
  done = λ ts x e. record { part = λ rest. identifier x.0 ∷ rest; good = (x.0, λ rest. refl); front = front_token (identifier x.0) front_here; at = name-is ts x e };
  stopped = λ ts us short e. stopped_here ts us some_name (name-err ts us e);
}

-- one of two ways, by whether a token stands there
case_done : {A : Type 0} {D E F : Part → Type 0} {m n least most more : ℕ} (g : Fixed) (p q : List Tok → Read A) (h : List Tok → Result (List Tok) (List Tok) → Read A)
    → ((d : Part) → D d → F d) → ((e : Part) → E e → F (λ rest. fixed g ∷ e rest)) → least ≤ m → least ≤ suc n
    → ((ts us : List Tok) → h ts (Err us) ≡ p ts) → ((ts rest : List Tok) → h ts (Ok rest) ≡ q rest)
    → Reader D m most p → Reader E n more q → (ts : List Tok) (x : A × List Tok) (r : Result (List Tok) (List Tok)) → after g ts ≡ r → h ts r ≡ Ok x → Done F least ts x.1
case_done g p q h to_first to_second low high is_first is_second first second ts x (Err us) e1 e2 =
    let a = first.done ts x (sym (is_first ts us) ∙ e2) in
    record { part = a.part; good = to_first a.part a.good; front = front_less low a.front; at = a.at }
case_done g p q h to_first to_second low high is_first is_second first second ts x (Ok vs) e1 e2 =
    let b = second.done vs x (sym (is_second ts vs) ∙ e2) in
    record { part = λ rest. fixed g ∷ b.part rest; good = to_second b.part b.good; front = front_less high (front_token (fixed g) b.front); at = ap (λ (ws : List Tok). fixed g ∷ ws) b.at ∙ after-is g ts vs e1 }

case_stopped : {A : Type 0} {D E F : Part → Type 0} {m n most more : ℕ} (g : Fixed) (p q : List Tok → Read A) (h : List Tok → Result (List Tok) (List Tok) → Read A)
    → ((d : Part) → D d → F d) → ((e : Part) → E e → F (λ rest. fixed g ∷ e rest)) → most ≤ suc more
    → ((ts us : List Tok) → h ts (Err us) ≡ p ts) → ((ts rest : List Tok) → h ts (Ok rest) ≡ q rest)
    → Reader D m most p → Reader E n more q → (ts us : List Tok) → length ts < most → (r : Result (List Tok) (List Tok)) → after g ts ≡ r → h ts r ≡ Err us → Stopped F ts us
case_stopped g p q h to_first to_second enough is_first is_second first second ts us short (Err vs) e1 e2 =
    let a = first.stopped ts us short (sym (is_first ts vs) ∙ e2) in
    record { part = a.part; good = to_first a.part a.good; begun = a.begun }
case_stopped g p q h to_first to_second enough is_first is_second first second ts us short (Ok vs) e1 e2 =
    let at : fixed g ∷ vs ≡ ts = after-is g ts vs e1 in
    let count = ap length at in
    let b = second.stopped vs us (omega (arith, count, short, enough)) (sym (is_second ts vs) ∙ e2) in
    record { part = λ rest. fixed g ∷ b.part rest; good = to_second b.part b.good; begun = subst (λ (ws : List Tok). Partial (λ rest. fixed g ∷ b.part rest) ws us) at (partial_token (fixed g) b.begun) }

pub reader_case : {A : Type 0} {D E F : Part → Type 0} {m n least most more : ℕ} (g : Fixed) (p q : List Tok → Read A) (h : List Tok → Result (List Tok) (List Tok) → Read A)
    → ((d : Part) → D d → F d) → ((e : Part) → E e → F (λ rest. fixed g ∷ e rest)) → least ≤ m → least ≤ suc n → most ≤ suc more
    → ((ts us : List Tok) → h ts (Err us) ≡ p ts) → ((ts rest : List Tok) → h ts (Ok rest) ≡ q rest)
    → Reader D m most p → Reader E n more q → Reader F least most (λ ts. h ts (after g ts))
reader_case g p q h to_first to_second low high enough is_first is_second first second = record {
  done = λ ts x e. case_done g p q h to_first to_second low high is_first is_second first second ts x (after g ts) refl e;
  stopped = λ ts us short e. case_stopped g p q h to_first to_second enough is_first is_second first second ts us short (after g ts) refl e;
}

-- ---- pieces, as many as there are

module _ {A : Type 0} {D F : Part → Type 0} (test : List Tok → Bool) (piece : List A → List Tok → Read (List A))
    (none : (d : Part) → Here d → F d) (more : (d e : Part) → D d → F e → F (λ rest. d (e rest))) where
  some_many : Some_part F 0
  some_many = some_along none some_here

  many_next : (n : ℕ) → ((found : List A) → Reader D 1 (suc n) (piece found)) → ((found : List A) → Reader F 0 n (many test piece n found)) → (found : List A)
      → Reader F 0 (suc n) (λ ts. piece found ts >>= λ x. many test piece n x.0 x.1)
  many_next n one others found = reader_less (omega arith) (omega arith) (reader_then (piece found) (many test piece n) more some_many (omega arith) (one found) others)

  many_none : (most : ℕ) (found : List A) → Reader F 0 most (λ ts. Ok (found, ts))
  many_none most found = reader_along none (reader_ok found)

  pub reader_many : (n : ℕ) → ((found : List A) → Reader D 1 n (piece found)) → (found : List A) → Reader F 0 n (many test piece n found)
  unfolding many
  reader_many zero one found = record { done = λ ts x e. absurd cc; stopped = λ ts us short e. absurd (omega (arith, short)) }
  reader_many (suc n) one found =
      let next = many_next n one (λ more_found. reader_many n (λ before. reader_less (omega arith) (omega arith) (one before)) more_found) found in
      let last = many_none (suc n) found in
      record {
        done = λ ts x e. tested (test ts) (piece found ts >>= λ y. many test piece n y.0 y.1) (Ok (found, ts)) (Ok x) e (λ held first. next.done ts x first) (λ failed end. last.done ts x end);
        stopped = λ ts us short e. tested (test ts) (piece found ts >>= λ y. many test piece n y.0 y.1) (Ok (found, ts)) (Err us) e (λ held first. next.stopped ts us short first) (λ failed end. last.stopped ts us short end);
      }

pub reader_same : {A : Type 0} {D : Part → Type 0} {least most : ℕ} (p q : List Tok → Read A) → ((ts : List Tok) → q ts ≡ p ts) → Reader D least most p → Reader D least most q
reader_same p q same h = record {
  done = λ ts x e. h.done ts x (sym (same ts) ∙ e);
  stopped = λ ts us short e. h.stopped ts us short (sym (same ts) ∙ e);
}

-- ---- parts that are spelled by something written

abbrev pub Spelled : {W : Type 0} → (W → Part) → (W → Type 0) → Part → Type 0
Spelled of Good d = (x : _) × Good x × ((rest : List Tok) → d rest ≡ of x rest)

abbrev pub Led : {W : Type 0} → Fixed → (W → Part) → W → Part
Led g of x rest = fixed g ∷ of x rest

abbrev pub Both : {W V : Type 0} → (W → Part) → (V → Part) → W × V → Part
Both of other x rest = of x.0 (other x.1 rest)

abbrev pub AreGood : {W V : Type 0} → (W → Type 0) → (V → Type 0) → W × V → Type 0
AreGood Good Fine x = Good x.0 × Fine x.1

module _ {W : Type 0} (g : Fixed) (of : W → Part) (Good : W → Type 0) where
  pub led_spelled : (e : Part) → Spelled of Good e → Spelled (Led g of) Good (λ rest. fixed g ∷ e rest)
  led_spelled e (x, p, h) = (x, p, λ rest. ap (λ (us : List Tok). fixed g ∷ us) (h rest))

  pub some_led : {n : ℕ} → Some_part (Spelled of Good) n → Some_part (Spelled (Led g of) Good) (suc n)
  some_led some = some_after g led_spelled some

  pub reader_led : {A : Type 0} {n most : ℕ} (k : List Tok → Read A) → Some_part (Spelled of Good) n → Reader (Spelled of Good) n most k
      → Reader (Spelled (Led g of) Good) (suc n) most (λ ts. after g ts >>= k)
  reader_led k some h = reader_less (omega arith) (omega arith) (reader_after g k led_spelled some h)

module _ {W V : Type 0} (of : W → Part) (Good : W → Type 0) (other : V → Part) (Fine : V → Type 0) where
  pub both_spelled : (d e : Part) → Spelled of Good d → Spelled other Fine e → Spelled (Both of other) (AreGood Good Fine) (λ rest. d (e rest))
  both_spelled d e (x, p, h) (y, q, k) = ((x, y), (p, q), λ rest. h (e rest) ∙ ap (of x) (k rest))

  pub some_both : {m n : ℕ} → Some_part (Spelled of Good) m → Some_part (Spelled other Fine) n → Some_part (Spelled (Both of other) (AreGood Good Fine)) (m + n)
  some_both h k = some_then both_spelled h k

  pub reader_both : {A B : Type 0} {m n most : ℕ} (p : List Tok → Read A) (k : A → List Tok → Read B) → Some_part (Spelled other Fine) n
      → Reader (Spelled of Good) m most p → ((v : A) → Reader (Spelled other Fine) n most (k v)) → Reader (Spelled (Both of other) (AreGood Good Fine)) (m + n) most (λ ts. p ts >>= λ x. k x.0 x.1)
  reader_both {most = most} p k some h l = reader_then {most = most} {more = most} p k both_spelled some (omega arith) h l

module _ {W : Type 0} (of : W → Part) (Good : W → Type 0) where
  pub spelled_here : (d e : Part) → Spelled of Good d → Here e → Spelled of Good (λ rest. d (e rest))
  spelled_here d e (x, p, h) here = (x, p, λ rest. h (e rest) ∙ ap (of x) (here rest))

  -- what was found is changed in no token
  pub reader_with : {A B : Type 0} {m most : ℕ} (p : List Tok → Read A) (v : A → B) → Reader (Spelled of Good) m most p → Reader (Spelled of Good) m most (λ ts. p ts >>= λ x. Ok (v x.0, x.1))
  reader_with {B = B} {most = most} p v h =
      let k : _ → List Tok → Read B = λ x ts. Ok (v x, ts) in
      reader_less (omega arith) (omega arith) (reader_then {most = most} {more = most} p k spelled_here some_here (omega arith) h (λ x. reader_ok (v x)))
