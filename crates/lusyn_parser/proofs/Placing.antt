-- What tokens say of places, from one token to another.
use Rattle.std.proofs.Common.{◌≡◌, ◌+◌, ℕ, zero, suc, Bool, true, false, List, [], ◌∷◌, ◌++◌, length, drop, refl, ap, sym, ◌∙◌, subst, cond, arith}
use Rattle.std.proofs.Math.Numerals.{add-one}
use Rattle.std.proofs.lemmas.List.{length-drop, length-map}
use Rattle.lusyn_grammar.specs.declared.token.Fixed.{Fixed}
use Rattle.lusyn_grammar.specs.declared.token.Fixed.TheVariants as f
use Rattle.lusyn_grammar.specs.declared.token.Lexeme.{Lexeme}
use Rattle.lusyn_grammar.specs.Tokens.{Tok, tok, toks, located}
use Rattle.lusyn_grammar.specs.Grammar.{Each}
use Rattle.lusyn_grammar.specs.Places.{Placed, is, first, behind, begun, node_places_in, nodes_in, type_places_in, types_in}
use Rattle.lusyn_grammar.proofs.Plain.{IsPlain, IsInner, no_edge, inner_plain, inner_semicolon, Own}
use Rattle.lusyn_parser.specs.Gives.{ahead}
use Rattle.lusyn_parser.specs.Places.{from}

-- TOKENS BEHIND A PLACE

-- the first token, and those behind it
pub record Stands (ls : List Lexeme) (at : ℕ) (t : Tok) (us : List Tok) : Type 0 where
  pub here : from ls at ≡ (first (from ls at), t) ∷ from ls (at + 1)
  pub others : ahead ls (at + 1) ≡ us

head_of : (t u : Tok) (ts us : List Tok) → t ∷ ts ≡ u ∷ us → (t ≡ u) × (ts ≡ us)
head_of t u ts us e = (cc, cc)

stands_by : (ls : List Lexeme) (at : ℕ) (t : Tok) (us : List Tok) → ahead ls at ≡ t ∷ us → (from ls at ≡ (first (from ls at), t) ∷ from ls (suc at)) × (ahead ls (suc at) ≡ us)
stands_by [] zero t us e = absurd cc
stands_by [] (suc at) t us e = absurd cc
stands_by (l ∷ ls) zero t us e =
    let (one, others) = head_of (tok l.token) t (toks ls) us e in
    (ap (λ (u : Tok). (l.place, u) ∷ located ls) one, others)
stands_by (l ∷ ls) (suc at) t us e = stands_by ls at t us e

pub stands : (ls : List Lexeme) (at : ℕ) (t : Tok) (us : List Tok) → ahead ls at ≡ t ∷ us → Stands ls at t us
stands ls at t us e =
    let (here, others) = stands_by ls at t us e in
    record { here = rw (add-one at) here; others = rw (add-one at) others }

suffix_same : (ls : List Lexeme) (a b : ℕ) → length (drop a ls) ≡ length (drop b ls) → drop a ls ≡ drop b ls
suffix_same [] zero zero e = refl
suffix_same [] zero (suc b) e = refl
suffix_same [] (suc a) zero e = refl
suffix_same [] (suc a) (suc b) e = refl
suffix_same (l ∷ ls) zero zero e = refl
suffix_same (l ∷ ls) zero (suc b) e = let less = length-drop b ls in absurd (omega (arith, e, less))
suffix_same (l ∷ ls) (suc a) zero e = let less = length-drop a ls in absurd (omega (arith, e, less))
suffix_same (l ∷ ls) (suc a) (suc b) e = suffix_same ls a b e

pub same_from : (ls : List Lexeme) (a b : ℕ) → ahead ls a ≡ ahead ls b → from ls a ≡ from ls b
same_from ls a b e =
    ap located (suffix_same ls a b (sym (length-map (drop a ls) (λ (l : Lexeme). tok l.token)) ∙ ap length e ∙ length-map (drop b ls) (λ (l : Lexeme). tok l.token)))

-- a part of a part is a part
drop_again : (ls : List Lexeme) (a k : ℕ) → (c : ℕ) × (drop k (drop a ls) ≡ drop c ls)
drop_again ls zero k = (k, refl)
drop_again [] (suc a) k = (k, refl)
drop_again (l ∷ ls) (suc a) k = let (c, e) = drop_again ls a k in (suc c, e)

-- WHAT A FUNCTION OF TOKENS PASSES OVER

module _ {X : Type 0} (P : Tok → Type 0) (F : List Placed → X) (step : (x : Placed) (xs : List Placed) → P x.1 → F (x ∷ xs) ≡ F xs) where
  pass_own : (own : List Tok) (ms : List Lexeme) (us : List Tok) → Each P own → toks ms ≡ own ++ us → (F (located ms) ≡ F (located (drop (length own) ms))) × (toks (drop (length own) ms) ≡ us)
  pass_own [] ms us h e = (refl, e)
  pass_own (t ∷ own) [] us h e = absurd cc
  pass_own (t ∷ own) (l ∷ ms) us h e =
      let (one, others) = head_of (tok l.token) t (toks ms) (own ++ us) e in
      let (same, end) = pass_own own ms us h.1 others in
      (step (l.place, tok l.token) (located ms) (subst P (sym one) h.0) ∙ same, end)

  pub passed_over : (d : List Tok → List Tok) (ls : List Lexeme) (at next : ℕ) → Own P d → d (ahead ls next) ≡ ahead ls at → F (from ls at) ≡ F (from ls next)
  passed_over d ls at next o e =
      let (same, end) = pass_own o.own (drop at ls) (ahead ls next) o.keeps (sym e ∙ o.split (ahead ls next)) in
      let (c, is_part) = drop_again ls at (length o.own) in
      let there : ahead ls c ≡ ahead ls next = ap toks (sym is_part) ∙ end in
      same ∙ ap F (ap located is_part ∙ same_from ls c next there)

-- what of a node comes behind its first tokens, seen over a part that has none of it
pub record Passes (xs ys : List Placed) : Type 0 where
  pub locals : behind f.Var xs ≡ behind f.Var ys
  pub equations : behind f.Let xs ≡ behind f.Let ys
  pub nodes : nodes_in xs ≡ nodes_in ys
  pub types : types_in xs ≡ types_in ys

pub passes_along : (xs ys zs : List Placed) → Passes xs ys → Passes ys zs → Passes xs zs
passes_along xs ys zs h k = record { locals = h.locals ∙ k.locals; equations = h.equations ∙ k.equations; nodes = h.nodes ∙ k.nodes; types = h.types ∙ k.types }

pub passes_same : (xs ys : List Placed) → xs ≡ ys → Passes xs ys
passes_same xs ys e = record { locals = ap (behind f.Var) e; equations = ap (behind f.Let) e; nodes = ap nodes_in e; types = ap types_in e }

past_two : {X : Type 0} (a b : Bool) (x y z : X) → a ≡ false → b ≡ false → cond a x (cond b y z) ≡ z
past_two a b x y z ea eb = ap (λ (v : Bool). cond v x (cond b y z)) ea ∙ ap (λ (v : Bool). cond v y z) eb

past_one : {X : Type 0} (a : Bool) (x z : X) → a ≡ false → cond a x z ≡ z
past_one a x z ea = ap (λ (v : Bool). cond v x z) ea

pub behind_plain : (g : Fixed) (x : Placed) (xs : List Placed) → is g x.1 ≡ false → is f.Let x.1 ≡ false → behind g (x ∷ xs) ≡ behind g xs
unfolding behind
behind_plain g x xs one other = past_two (is g x.1) (is f.Let x.1) xs [] (behind g xs) one other

pub nodes_plain : (x : Placed) (xs : List Placed) → is f.Node x.1 ≡ false → nodes_in (x ∷ xs) ≡ nodes_in xs
unfolding nodes_in
nodes_plain x xs e = past_one (is f.Node x.1) (node_places_in xs ∷ nodes_in xs) (nodes_in xs) e

pub types_plain : (x : Placed) (xs : List Placed) → is f.Type x.1 ≡ false → types_in (x ∷ xs) ≡ types_in xs
unfolding types_in
types_plain x xs e = past_one (is f.Type x.1) (type_places_in xs ∷ types_in xs) (types_in xs) e

pub returns_plain : (x : Placed) (xs : List Placed) → IsPlain x.1 → behind f.Returns (x ∷ xs) ≡ behind f.Returns xs
returns_plain x xs h = let e = no_edge x.1 h in behind_plain f.Returns x xs e.returns e.begins

pub passes_plain : (x : Placed) (xs : List Placed) → IsPlain x.1 → Passes (x ∷ xs) xs
passes_plain x xs h =
    let e = no_edge x.1 h in
    record { locals = behind_plain f.Var x xs e.locals e.begins; equations = behind_plain f.Let x xs e.begins e.begins; nodes = nodes_plain x xs e.node; types = types_plain x xs e.types }

pub passes_over : (d : List Tok → List Tok) (ls : List Lexeme) (at next : ℕ) → Own IsPlain d → d (ahead ls next) ≡ ahead ls at → Passes (from ls at) (from ls next)
passes_over d ls at next o e = record {
  locals = passed_over IsPlain (behind f.Var) (λ x xs h. (passes_plain x xs h).locals) d ls at next o e;
  equations = passed_over IsPlain (behind f.Let) (λ x xs h. (passes_plain x xs h).equations) d ls at next o e;
  nodes = passed_over IsPlain nodes_in (λ x xs h. (passes_plain x xs h).nodes) d ls at next o e;
  types = passed_over IsPlain types_in (λ x xs h. (passes_plain x xs h).types) d ls at next o e;
}

pub returns_over : (d : List Tok → List Tok) (ls : List Lexeme) (at next : ℕ) → Own IsPlain d → d (ahead ls next) ≡ ahead ls at → behind f.Returns (from ls at) ≡ behind f.Returns (from ls next)
returns_over d ls at next o e = passed_over IsPlain (behind f.Returns) returns_plain d ls at next o e

begun_inner : (x : Placed) (xs : List Placed) → IsInner x.1 → begun false (x ∷ xs) ≡ begun false xs
unfolding begun
begun_inner x xs h =
    past_one (is f.Tel x.1) [] (begun (is f.Semicolon x.1) xs) (no_edge x.1 (inner_plain x.1 h)).ends ∙ ap (λ (v : Bool). begun v xs) (inner_semicolon x.1 h)

pub begun_first : (x : Placed) (xs : List Placed) → IsInner x.1 → begun true (x ∷ xs) ≡ x.0 ∷ begun false xs
unfolding begun
begun_first x xs h =
    past_one (is f.Tel x.1) [] (x.0 ∷ begun (is f.Semicolon x.1) xs) (no_edge x.1 (inner_plain x.1 h)).ends ∙ ap (λ (v : Bool). x.0 ∷ begun v xs) (inner_semicolon x.1 h)

pub begun_over : (d : List Tok → List Tok) (ls : List Lexeme) (at next : ℕ) → Own IsInner d → d (ahead ls next) ≡ ahead ls at → begun false (from ls at) ≡ begun false (from ls next)
begun_over d ls at next o e = passed_over IsInner (begun false) begun_inner d ls at next o e
