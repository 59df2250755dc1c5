-- Which keywords and signs stand in no expression, and which in no declaration and no equation.
use Rattle.std.proofs.Common.{◌≡◌, ℕ, Bool, true, false, true≢false, not, ◌||◌, List, [], ◌∷◌, ◌++◌, Option, Some, None, refl, ap, sym, ◌∙◌, append_assoc}
use Rattle.lutree.specs.declared.expr.Prefix.{Prefix}
use Rattle.lutree.specs.declared.expr.Infix.{Infix}
use Rattle.lutree.specs.declared.expr.Pattern.{Pattern}
use Rattle.lutree.specs.declared.expr.Pattern.TheVariants as patterns
use Rattle.lutree.specs.declared.expr.Condition.{Condition}
use Rattle.lusyn_grammar.specs.declared.token.Fixed.{Fixed}
use Rattle.lusyn_grammar.specs.declared.token.Fixed.TheVariants as f
use Rattle.lusyn_grammar.specs.Tokens.{Tok, identifier, fixed}
use Rattle.lusyn_grammar.specs.Tokens as tok
use Rattle.lusyn_grammar.specs.Tokens.{prefix_token, infix_token, prefix_of}
use Rattle.lusyn_grammar.specs.Grammar.{Written, Writtens, Each, WrittenType, WrittenDeclaration, WrittenEquation, repeated, led, ended, separated, name, truth_token, sign_tokens, pattern_tokens, when_tokens, branch_token, tokens, further, branches, type_token, clock, declaration, left_tokens, equation}
use Rattle.lusyn_grammar.specs.Grammar as w
use Rattle.lusyn_grammar.specs.Reading.{next, nothing}
use Rattle.lusyn_grammar.specs.Places.{is}
use Rattle.lusyn_grammar.proofs.Tables.{same-is, next-operator_token, prefix_of-token}

-- a keyword at which a part of a program begins or ends
abbrev pub is_edge : Tok → Bool
is_edge t = is f.Type t || is f.Node t || is f.Returns t || is f.Var t || is f.Let t || is f.Tel t

abbrev pub IsPlain : Tok → Type 0
IsPlain t = not (is_edge t) ≡ true

-- nor a semicolon
abbrev pub IsInner : Tok → Type 0
IsInner t = not (is_edge t || is f.Semicolon t) ≡ true

neither : (a b : Bool) → not (a || b) ≡ true → (not a ≡ true) × (b ≡ false)
neither true b e = absurd (true≢false (sym e))
neither false true e = absurd (true≢false (sym e))
neither false false e = (refl, refl)

is_false : (a : Bool) → not a ≡ true → a ≡ false
is_false true e = absurd (true≢false (sym e))
is_false false e = refl

-- what such a token isn't
pub record NoEdge (t : Tok) : Type 0 where
  pub types : is f.Type t ≡ false
  pub node : is f.Node t ≡ false
  pub returns : is f.Returns t ≡ false
  pub locals : is f.Var t ≡ false
  pub begins : is f.Let t ≡ false
  pub ends : is f.Tel t ≡ false

pub no_edge : (t : Tok) → IsPlain t → NoEdge t
no_edge t e =
    let (abcde, ends) = neither (is f.Type t || is f.Node t || is f.Returns t || is f.Var t || is f.Let t) (is f.Tel t) e in
    let (abcd, begins) = neither (is f.Type t || is f.Node t || is f.Returns t || is f.Var t) (is f.Let t) abcde in
    let (abc, locals) = neither (is f.Type t || is f.Node t || is f.Returns t) (is f.Var t) abcd in
    let (ab, returns) = neither (is f.Type t || is f.Node t) (is f.Returns t) abc in
    let (a, node) = neither (is f.Type t) (is f.Node t) ab in
    record { types = is_false (is f.Type t) a; node = node; returns = returns; locals = locals; begins = begins; ends = ends }

pub inner_plain : (t : Tok) → IsInner t → IsPlain t
inner_plain t e = (neither (is_edge t) (is f.Semicolon t) e).0

pub inner_semicolon : (t : Tok) → IsInner t → is f.Semicolon t ≡ false
inner_semicolon t e = (neither (is_edge t) (is f.Semicolon t) e).1

-- a piece has tokens of its own, each of which keeps P, and then the rest
pub record Own (P : Tok → Type 0) (d : List Tok → List Tok) : Type 0 where
  pub own : List Tok
  pub keeps : Each P own
  pub split : (rest : List Tok) → d rest ≡ own ++ rest

each_append : (P : Tok → Type 0) (xs ys : List Tok) → Each P xs → Each P ys → Each P (xs ++ ys)
each_append P [] ys h k = k
each_append P (x ∷ xs) ys h k = (h.0, each_append P xs ys h.1 k)

each_more : (P Q : Tok → Type 0) → ((t : Tok) → P t → Q t) → (xs : List Tok) → Each P xs → Each Q xs
each_more P Q implies [] h = tt
each_more P Q implies (x ∷ xs) h = (implies x h.0, each_more P Q implies xs h.1)

pub more : {P Q : Tok → Type 0} {d : List Tok → List Tok} → ((t : Tok) → P t → Q t) → Own P d → Own Q d
more {P = P} {Q = Q} h o = record { own = o.own; keeps = each_more P Q h o.own o.keeps; split = o.split }

module _ {P : Tok → Type 0} where
  pub here : Own P (λ rest. rest)
  here = record { own = []; keeps = tt; split = λ rest. refl }

  pub token : {d : List Tok → List Tok} (t : Tok) → P t → Own P d → Own P (λ rest. t ∷ d rest)
  token t h o = record { own = t ∷ o.own; keeps = (h, o.keeps); split = λ rest. ap (λ (us : List Tok). t ∷ us) (o.split rest) }

  pub both : {d e : List Tok → List Tok} → Own P d → Own P e → Own P (λ rest. d (e rest))
  both {e = e} o k = record {
    own = o.own ++ k.own;
    keeps = each_append P o.own k.own o.keeps k.keeps;
    split = λ rest. o.split (e rest) ∙ ap (λ (us : List Tok). o.own ++ us) (k.split rest) ∙ sym (append_assoc o.own k.own rest);
  }

  repeated_own : {A : Type 0} (piece : A → List Tok → List Tok) → ((x : A) → Own P (piece x)) → (xs : List A) → Own P (repeated piece xs)
  repeated_own piece h [] = here
  repeated_own piece h (x ∷ xs) = both (h x) (repeated_own piece h xs)

  pub separated_own : {A : Type 0} (sign : Fixed) (piece : A → List Tok → List Tok) → P (fixed sign) → ((x : A) → Own P (piece x)) → (xs : List A) → Own P (separated sign piece xs)
  separated_own sign piece s h [] = here
  separated_own sign piece s h (x ∷ xs) = both (h x) (repeated_own (led sign piece) (λ y. token (fixed sign) s (h y)) xs)

  pub ended_own : {A : Type 0} (sign : Fixed) (piece : A → List Tok → List Tok) → P (fixed sign) → ((x : A) → Own P (piece x)) → (xs : List A) → Own P (repeated (ended sign piece) xs)
  ended_own sign piece s h xs = repeated_own (ended sign piece) (λ y. both (h y) (token (fixed sign) s here)) xs

-- EXPRESSIONS

false_unless : (a : Bool) → (a ≡ true → ⊥) → a ≡ false
false_unless true h = absurd (h refl)
false_unless false h = refl

none_of : (z a b c d e s : Bool) → z ≡ false → a ≡ false → b ≡ false → c ≡ false → d ≡ false → e ≡ false → s ≡ false → not ((z || a || b || c || d || e) || s) ≡ true
none_of true a b c d e s o p q r u v x = absurd (true≢false o)
none_of false true b c d e s o p q r u v x = absurd (true≢false p)
none_of false false true c d e s o p q r u v x = absurd (true≢false q)
none_of false false false true d e s o p q r u v x = absurd (true≢false r)
none_of false false false false true e s o p q r u v x = absurd (true≢false u)
none_of false false false false false true s o p q r u v x = absurd (true≢false v)
none_of false false false false false false true o p q r u v x = absurd (true≢false x)
none_of false false false false false false false o p q r u v x = refl

-- a keyword or sign that is none of these
fixed_inner : (g : Fixed) → (f.Type ≡ g → ⊥) → (f.Node ≡ g → ⊥) → (f.Returns ≡ g → ⊥) → (f.Var ≡ g → ⊥) → (f.Let ≡ g → ⊥) → (f.Tel ≡ g → ⊥) → (f.Semicolon ≡ g → ⊥) → IsInner (fixed g)
fixed_inner g z a b c d e s =
    let other : (h : Fixed) → (h ≡ g → ⊥) → is h (fixed g) ≡ false = λ h no. false_unless (is h (fixed g)) (λ same. no (same-is h g same)) in
    none_of (is f.Type (fixed g)) (is f.Node (fixed g)) (is f.Returns (fixed g)) (is f.Var (fixed g)) (is f.Let (fixed g)) (is f.Tel (fixed g)) (is f.Semicolon (fixed g))
    (other f.Type z) (other f.Node a) (other f.Returns b) (other f.Var c) (other f.Let d) (other f.Tel e) (other f.Semicolon s)

-- what is no operator isn't the token of one
no_infix : (op : Infix) (h : Fixed) → next (fixed h ∷ []) ≡ nothing → h ≡ infix_token op → ⊥
no_infix op h none e =
    let there = next-operator_token op [] in
    let same = ap (λ (g : Fixed). next (fixed g ∷ [])) e in
    absurd cc

no_prefix : (op : Prefix) (h : Fixed) → prefix_of h ≡ None → h ≡ prefix_token op → ⊥
no_prefix op h none e =
    let there = prefix_of-token op in
    let same = ap prefix_of e in
    absurd cc

prefix_inner : (op : Prefix) → IsInner (fixed (prefix_token op))
prefix_inner op =
    fixed_inner (prefix_token op) (no_prefix op f.Type refl) (no_prefix op f.Node refl) (no_prefix op f.Returns refl) (no_prefix op f.Var refl) (no_prefix op f.Let refl) (no_prefix op f.Tel refl) (no_prefix op f.Semicolon refl)

infix_inner : (op : Infix) → IsInner (fixed (infix_token op))
infix_inner op =
    fixed_inner (infix_token op) (no_infix op f.Type refl) (no_infix op f.Node refl) (no_infix op f.Returns refl) (no_infix op f.Var refl) (no_infix op f.Let refl) (no_infix op f.Tel refl) (no_infix op f.Semicolon refl)

truth_inner : (v : Bool) → IsInner (fixed (truth_token v))
truth_inner true = refl
truth_inner false = refl

sign_inner : (v : Bool) → Own IsInner (sign_tokens v)
sign_inner true = here
sign_inner false = token (fixed f.Not) refl here

pattern_inner : (p : Pattern) (x : List ℕ) → Own IsInner (pattern_tokens p x)
pattern_inner (patterns.Truth v) x = both (sign_inner v) (token (identifier x) refl here)
pattern_inner (patterns.Label l) x = token (identifier l.name) refl (token (fixed f.Open) refl (token (identifier x) refl (token (fixed f.Close) refl here)))

branch_inner : (p : Pattern) → IsInner (branch_token p)
branch_inner (patterns.Truth v) = truth_inner v
branch_inner (patterns.Label l) = refl

when_inner : (c : Condition) → Own IsInner (when_tokens c)
when_inner c = token (fixed f.When) refl (pattern_inner c.pattern c.variable)

mutual
  pub inner : (c : Written) → Own IsInner (tokens c)
  inner (w.number n) = token (tok.number n) refl here
  inner (w.truth v) = token (fixed (truth_token v)) (truth_inner v) here
  inner (w.variable x) = token (identifier x) refl here
  inner (w.unary op c) = token (fixed (prefix_token op)) (prefix_inner op) (inner c)
  inner (w.binary op c e) = both (inner c) (token (fixed (infix_token op)) (infix_inner op) (inner e))
  inner (w.choice c e g) =
      token (fixed f.If) refl (both (inner c) (token (fixed f.Then) refl (both (inner e) (token (fixed f.Else) refl (inner g)))))
  inner (w.when c sampler) = both (inner c) (when_inner sampler)
  inner (w.current x) = token (fixed f.Current) refl (token (identifier x) refl here)
  inner (w.merge x ps cs) = token (fixed f.Merge) refl (token (identifier x) refl (inner_branches cs ps))
  inner (w.call g w.none) = token (identifier g) refl (token (fixed f.Open) refl (token (fixed f.Close) refl here))
  inner (w.call g (w.more c cs)) = token (identifier g) refl (token (fixed f.Open) refl (both (inner c) (both (inners cs) (token (fixed f.Close) refl here))))
  inner (w.paren c) = token (fixed f.Open) refl (both (inner c) (token (fixed f.Close) refl here))

  inners : (cs : Writtens) → Own IsInner (further cs)
  inners w.none = here
  inners (w.more c cs) = token (fixed f.Comma) refl (both (inner c) (inners cs))

  inner_branches : (cs : Writtens) (ps : List Pattern) → Own IsInner (branches cs ps)
  inner_branches w.none ps = here
  inner_branches (w.more c cs) [] = here
  inner_branches (w.more c cs) (p ∷ ps) =
      token (fixed f.Open) refl (token (branch_token p) (branch_inner p) (token (fixed f.Arrow) refl (both (inner c) (token (fixed f.Close) refl (inner_branches cs ps)))))

-- EQUATIONS

names_inner : (xs : List (List ℕ)) → Own IsInner (separated f.Comma name xs)
names_inner xs = separated_own f.Comma name refl (λ x. token (identifier x) refl here) xs

pub names_plain : (xs : List (List ℕ)) → Own IsPlain (separated f.Comma name xs)
names_plain xs = more inner_plain (names_inner xs)

-- what stands behind the first token of an equation's left side, and that token
pub record Begun (P : Tok → Type 0) (d : List Tok → List Tok) : Type 0 where
  pub front : Tok
  pub fits : P front
  pub others : List Tok → List Tok
  pub own : Own P others
  pub split : (rest : List Tok) → d rest ≡ front ∷ others rest

left_inner : (xs : List (List ℕ)) → Begun IsInner (left_tokens xs)
left_inner [] = record { front = fixed f.Open; fits = refl; others = λ rest. fixed f.Close ∷ rest; own = token (fixed f.Close) refl here; split = λ rest. refl }
left_inner (x ∷ []) = record { front = identifier x; fits = refl; others = λ rest. rest; own = here; split = λ rest. refl }
left_inner (x ∷ y ∷ zs) = record {
  front = fixed f.Open;
  fits = refl;
  others = λ rest. separated f.Comma name (x ∷ y ∷ zs) (fixed f.Close ∷ rest);
  own = both (names_inner (x ∷ y ∷ zs)) (token (fixed f.Close) refl here);
  split = λ rest. refl;
}

pub equation_inner : (e : WrittenEquation) → Begun IsInner (equation e)
equation_inner e =
    let h = left_inner e.left in
    record {
      front = h.front;
      fits = h.fits;
      others = λ rest. h.others (fixed f.Equal ∷ tokens e.right rest);
      own = both h.own (token (fixed f.Equal) refl (inner e.right));
      split = λ rest. h.split (fixed f.Equal ∷ tokens e.right rest);
    }

equation_own : {P : Tok → Type 0} {d : List Tok → List Tok} → Begun P d → Own P d
equation_own h = record { own = h.front ∷ h.own.own; keeps = (h.fits, h.own.keeps); split = λ rest. h.split rest ∙ ap (λ (us : List Tok). h.front ∷ us) (h.own.split rest) }

pub equations_plain : (es : List WrittenEquation) → Own IsPlain (repeated (ended f.Semicolon equation) es)
equations_plain es = ended_own f.Semicolon equation refl (λ e. more inner_plain (equation_own (equation_inner e))) es

-- DECLARATIONS

kind_inner : (k : WrittenType) → IsInner (type_token k)
kind_inner w.int = refl
kind_inner w.bool = refl
kind_inner (w.named x) = refl

clock_inner : (c : Option Condition) → Own IsInner (clock c)
clock_inner None = here
clock_inner (Some c) = when_inner c

declaration_plain : (d : WrittenDeclaration) → Own IsPlain (declaration d)
declaration_plain d =
    more inner_plain (both (names_inner d.names) (token (fixed f.Colon) refl (token (type_token d.kind) (kind_inner d.kind) (clock_inner d.clock))))

pub declarations_plain : (ds : List WrittenDeclaration) → Own IsPlain (separated f.Semicolon declaration ds)
declarations_plain ds = separated_own f.Semicolon declaration refl declaration_plain ds

pub locals_plain : (ds : List WrittenDeclaration) → Own IsPlain (repeated (ended f.Semicolon declaration) ds)
locals_plain ds = ended_own f.Semicolon declaration refl declaration_plain ds
