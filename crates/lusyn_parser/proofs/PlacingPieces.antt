-- The places that each function of the parser answers are those that its tokens give.
use Rattle.std.proofs.Common.{◌≡◌, ◌+◌, ℕ, Bool, true, false, List, [], ◌∷◌, ◌++◌, Option, Some, None, Result, Ok, Err, IfOk, refl, ap, sym, ◌∙◌, append_assoc}
use Rattle.std.proofs.lemmas.List.{map-append}
use Rattle.lutree.specs.declared.expr.Pattern.{Pattern}
use Rattle.lutree.specs.declared.expr.Pattern.TheVariants as patterns
use Rattle.lutree.specs.declared.expr.Condition.{Condition}
use Rattle.lutree.specs.declared.program.Equation.{Equation}
use Rattle.lutree.specs.Tree.{EquationTree}
use Rattle.lutree.specs.Places.{name_places, equation_places}
use Rattle.lusyn_grammar.specs.declared.token.Fixed.{Fixed}
use Rattle.lusyn_grammar.specs.declared.token.Fixed.TheVariants as f
use Rattle.lusyn_grammar.specs.declared.token.Lexeme.{Lexeme}
use Rattle.lusyn_grammar.specs.Tokens.{Tok, identifier, fixed}
use Rattle.lusyn_grammar.specs.Grammar as w
use Rattle.lusyn_grammar.specs.Reading.{after, name, kind, clocked, equation}
use Rattle.lusyn_grammar.specs.Grammar.{WrittenType}
use Rattle.lusyn_grammar.specs.Places.{Placed, first, ends_declarations, begins_use, declared, begun, enumerated}
use Rattle.lusyn_grammar.proofs.Pieces.{after-is, name-is}
use Rattle.lusyn_grammar.proofs.SoundDeclarations.{kind-is, clocked-is}
use Rattle.lusyn_grammar.proofs.SoundPrograms.{equation_sound}
use Rattle.lusyn_grammar.proofs.Plain.{equation_inner}
use Rattle.lutree.specs.declared.program.DeclaredName.{DeclaredName}
use Rattle.lusyn_parser.specs.Gives.{Gives, ahead}
use Rattle.lusyn_parser.specs.declared.error.Stop.{Stop}
use Rattle.lusyn_parser.specs.Refused.{place}
use Rattle.lusyn_parser.specs.Places.{from, SpellsNames, Lists, Declares, Defines}
use Rattle.lusyn_parser.proofs.Placing.{stands, same_from, begun_first, begun_over}

-- SINGLE TOKENS

pub at_token : (ls : List Lexeme) (at next : ℕ) (t : Tok) → t ∷ ahead ls next ≡ ahead ls at → from ls at ≡ (first (from ls at), t) ∷ from ls next
at_token ls at next t e =
    let h = stands ls at t (ahead ls next) (sym e) in
    h.here ∙ ap (λ (xs : List Placed). (first (from ls at), t) ∷ xs) (same_from ls (at + 1) next h.others)

pub at_sign : (g : Fixed) (ls : List Lexeme) (at next : ℕ) → after g (ahead ls at) ≡ Ok (ahead ls next) → from ls at ≡ (first (from ls at), fixed g) ∷ from ls next
at_sign g ls at next e = at_token ls at next (fixed g) (after-is g (ahead ls at) (ahead ls next) e)

pub at_name : (ls : List Lexeme) (at next : ℕ) (x : List ℕ) → name (ahead ls at) ≡ Ok (x, ahead ls next) → from ls at ≡ (first (from ls at), identifier x) ∷ from ls next
at_name ls at next x e = at_token ls at next (identifier x) (name-is (ahead ls at) (x, ahead ls next) e)

-- a token has a place
pub placed_first : (ls : List Lexeme) (at end p : ℕ) (t : Tok) (xs : List Placed) → from ls at ≡ (p, t) ∷ xs → place end (from ls at) ≡ first (from ls at)
placed_first ls at end p t xs e = ap (place end) e ∙ sym (ap first e)

pub name_first : (ls : List Lexeme) (at next end : ℕ) (x : List ℕ) → name (ahead ls at) ≡ Ok (x, ahead ls next) → place end (from ls at) ≡ first (from ls at)
name_first ls at next end x e = placed_first ls at end _ _ _ (at_name ls at next x e)

pub sign_first : (g : Fixed) (ls : List Lexeme) (at next end : ℕ) → after g (ahead ls at) ≡ Ok (ahead ls next) → place end (from ls at) ≡ first (from ls at)
sign_first g ls at next end e = placed_first ls at end _ _ _ (at_sign g ls at next e)

-- DECLARED NAMES

abbrev of_names : List Lexeme → ℕ → List ℕ
of_names ls at = declared false (from ls at)

declared_name : (p : ℕ) (x : List ℕ) (xs : List Placed) → declared false ((p, identifier x) ∷ xs) ≡ p ∷ declared false xs
unfolding declared
declared_name p x xs = refl

declared_use : (p : ℕ) (x : List ℕ) (xs : List Placed) → declared true ((p, identifier x) ∷ xs) ≡ declared false xs
unfolding declared
declared_use p x xs = refl

declared_colon : (p : ℕ) (xs : List Placed) → declared false ((p, fixed f.Colon) ∷ xs) ≡ declared true xs
unfolding declared
declared_colon p xs = refl

declared_open : (p : ℕ) (xs : List Placed) → declared false ((p, fixed f.Open) ∷ xs) ≡ declared true xs
unfolding declared
declared_open p xs = refl

declared_type : (k : WrittenType) (p : ℕ) (xs : List Placed) → declared true ((p, w.type_token k) ∷ xs) ≡ declared false xs
unfolding declared
declared_type w.int p xs = refl
declared_type w.bool p xs = refl
declared_type (w.named x) p xs = refl

declared_when : (p : ℕ) (xs : List Placed) → declared false ((p, fixed f.When) ∷ xs) ≡ declared true xs
unfolding declared
declared_when p xs = refl

declared_not : (p : ℕ) (xs : List Placed) → declared true ((p, fixed f.Not) ∷ xs) ≡ declared true xs
unfolding declared
declared_not p xs = refl

declared_sign : (g : Fixed) (p : ℕ) (xs : List Placed) → ends_declarations (fixed g) ≡ false → begins_use (fixed g) ≡ false → declared false ((p, fixed g) ∷ xs) ≡ declared false xs
unfolding declared
declared_sign g p xs e h = rw (e, h) refl

pub declares_along : (ls : List Lexeme) (at mid next : ℕ) (a b c : List ℕ) → Declares ls at mid a b → Declares ls mid next b c → Declares ls at next a c
declares_along ls at mid next a b c h k = record { same = k.same ∙ h.same }

pub sign_names : (g : Fixed) (ls : List Lexeme) (at next : ℕ) → ends_declarations (fixed g) ≡ false → begins_use (fixed g) ≡ false → after g (ahead ls at) ≡ Ok (ahead ls next) → of_names ls at ≡ of_names ls next
sign_names g ls at next e h k = ap (declared false) (at_sign g ls at next k) ∙ declared_sign g (first (from ls at)) (from ls next) e h

pub declares_sign : (g : Fixed) (ls : List Lexeme) (at next : ℕ) (a : List ℕ) → ends_declarations (fixed g) ≡ false → begins_use (fixed g) ≡ false → after g (ahead ls at) ≡ Ok (ahead ls next) → Declares ls at next a a
declares_sign g ls at next a e h k = record { same = ap (λ (us : List ℕ). a ++ us) (sym (sign_names g ls at next e h k)) }

-- LISTED NAMES

pub lists_along : (ls : List Lexeme) (at mid next : ℕ) (a b c : List ℕ) → Lists ls at mid a b → Lists ls mid next b c → Lists ls at next a c
lists_along ls at mid next a b c h k = record { same = λ F t. k.same F t ∙ h.same F t }

pub lists_comma : (ls : List Lexeme) (at next : ℕ) (a : List ℕ) → after f.Comma (ahead ls at) ≡ Ok (ahead ls next) → Lists ls at next a a
lists_comma ls at next a e = record { same = λ F t. ap (λ (us : List ℕ). a ++ us) (sym (ap F (at_sign f.Comma ls at next e) ∙ t.comma (first (from ls at)) (from ls next))) }

-- one name more
pub lists_name : (ls : List Lexeme) (at next end : ℕ) (old new : List DeclaredName) (x : DeclaredName) (v : List ℕ) → new ≡ old ++ x ∷ [] → x.byte ≡ place end (from ls at) → name (ahead ls at) ≡ Ok (v, ahead ls next)
    → Lists ls at next (name_places old) (name_places new)
lists_name ls at next end old new x v more there e =
    let here : x.byte ≡ first (from ls at) = there ∙ name_first ls at next end v e in
    let all : name_places new ≡ name_places old ++ x.byte ∷ [] = ap name_places more ∙ map-append (λ (y : DeclaredName). y.byte) old (x ∷ []) in
    record {
      same = λ F t.
          ap (λ (us : List ℕ). us ++ F (from ls next)) all
          ∙ append_assoc (name_places old) (x.byte ∷ []) (F (from ls next))
          ∙ ap (λ (p : ℕ). name_places old ++ p ∷ F (from ls next)) here
          ∙ ap (λ (us : List ℕ). name_places old ++ us) (sym (ap F (at_name ls at next v e) ∙ t.name (first (from ls at)) v (from ls next)));
    }

declared_tells : SpellsNames (declared false)
declared_tells = record { name = declared_name; comma = λ p xs. declared_sign f.Comma p xs refl refl }

pub declares_listed : (ls : List Lexeme) (at next : ℕ) (a b : List ℕ) → Lists ls at next a b → Declares ls at next a b
declares_listed ls at next a b h = record { same = h.same (declared false) declared_tells }

enumerated_name : (p : ℕ) (x : List ℕ) (xs : List Placed) → enumerated ((p, identifier x) ∷ xs) ≡ p ∷ enumerated xs
unfolding enumerated
enumerated_name p x xs = refl

enumerated_comma : (p : ℕ) (xs : List Placed) → enumerated ((p, fixed f.Comma) ∷ xs) ≡ enumerated xs
unfolding enumerated
enumerated_comma p xs = refl

pub enumerated_tells : SpellsNames enumerated
enumerated_tells = record { name = enumerated_name; comma = enumerated_comma }

-- TYPES AND CLOCKS

colon_names : (ls : List Lexeme) (at next : ℕ) → after f.Colon (ahead ls at) ≡ Ok (ahead ls next) → of_names ls at ≡ declared true (from ls next)
colon_names ls at next e = ap (declared false) (at_sign f.Colon ls at next e) ∙ declared_colon (first (from ls at)) (from ls next)

kind_names : (ls : List Lexeme) (at next : ℕ) (k : WrittenType) → kind (ahead ls at) ≡ Ok (k, ahead ls next) → declared true (from ls at) ≡ of_names ls next
kind_names ls at next k e =
    ap (declared true) (at_token ls at next (w.type_token k) (kind-is (ahead ls at) (k, ahead ls next) e)) ∙ declared_type k (first (from ls at)) (from ls next)

-- the variable of a clock
sampler_names : (ls : List Lexeme) (at next : ℕ) (x : List ℕ) → identifier x ∷ ahead ls next ≡ ahead ls at → declared true (from ls at) ≡ of_names ls next
sampler_names ls at next x h = ap (declared true) (at_token ls at next (identifier x) h) ∙ declared_use (first (from ls at)) x (from ls next)

signed_names : (ls : List Lexeme) (at next : ℕ) (x : List ℕ) (sign : Bool) → w.sign_tokens sign (identifier x ∷ ahead ls next) ≡ ahead ls at → declared true (from ls at) ≡ of_names ls next
signed_names ls at next x true h = sampler_names ls at next x h
signed_names ls at next x false h =
    let s = stands ls at (fixed f.Not) (identifier x ∷ ahead ls next) (sym h) in
    ap (declared true) s.here ∙ declared_not (first (from ls at)) (from ls (at + 1)) ∙ sampler_names ls (at + 1) next x (sym s.others)

pattern_names : (ls : List Lexeme) (at next : ℕ) (x : List ℕ) (p : Pattern) → w.pattern_tokens p x (ahead ls next) ≡ ahead ls at → declared true (from ls at) ≡ of_names ls next
pattern_names ls at next x (patterns.Truth sign) h = signed_names ls at next x sign h
pattern_names ls at next x (patterns.Label l) h =
    let s = stands ls at (identifier l.name) (fixed f.Open ∷ identifier x ∷ fixed f.Close ∷ ahead ls next) (sym h) in
    let o = stands ls (at + 1) (fixed f.Open) (identifier x ∷ fixed f.Close ∷ ahead ls next) s.others in
    let v = stands ls (at + 1 + 1) (identifier x) (fixed f.Close ∷ ahead ls next) o.others in
    ap (declared true) s.here
    ∙ declared_use (first (from ls at)) l.name (from ls (at + 1))
    ∙ ap (declared false) o.here
    ∙ declared_open (first (from ls (at + 1))) (from ls (at + 1 + 1))
    ∙ ap (declared true) v.here
    ∙ declared_use (first (from ls (at + 1 + 1))) x (from ls (at + 1 + 1 + 1))
    ∙ ap (declared false) (at_token ls (at + 1 + 1 + 1) next (fixed f.Close) (sym v.others))
    ∙ declared_sign f.Close (first (from ls (at + 1 + 1 + 1))) (from ls next) refl refl

clock_names : (ls : List Lexeme) (at next : ℕ) (c : Option Condition) → clocked (ahead ls at) ≡ Ok (c, ahead ls next) → of_names ls at ≡ of_names ls next
clock_names ls at next c e = by_clock c (clocked-is (ahead ls at) (c, ahead ls next) e)
  where
    by_clock : (c : Option Condition) → w.clock c (ahead ls next) ≡ ahead ls at → of_names ls at ≡ of_names ls next
    by_clock None h = ap (declared false) (same_from ls at next (sym h))
    by_clock (Some c) h =
        let s = stands ls at (fixed f.When) (w.pattern_tokens c.pattern c.variable (ahead ls next)) (sym h) in
        ap (declared false) s.here ∙ declared_when (first (from ls at)) (from ls (at + 1)) ∙ pattern_names ls (at + 1) next c.variable c.pattern (sym s.others)

-- names with their type and their clock
pub declares_row : (ls : List Lexeme) (at colon kind_at clock_at next : ℕ) (names : List ℕ) (k : WrittenType) (c : Option Condition) (old new : List ℕ)
    → Declares ls at colon [] names → after f.Colon (ahead ls colon) ≡ Ok (ahead ls kind_at) → kind (ahead ls kind_at) ≡ Ok (k, ahead ls clock_at) → clocked (ahead ls clock_at) ≡ Ok (c, ahead ls next)
    → new ≡ old ++ names → Declares ls at next old new
declares_row ls at colon kind_at clock_at next names k c old new h sign kinded sampled more =
    let passed : of_names ls next ≡ of_names ls colon
    = sym (colon_names ls colon kind_at sign ∙ kind_names ls kind_at clock_at k kinded ∙ clock_names ls clock_at next c sampled) in
    record {
      same =
          ap (λ (us : List ℕ). us ++ of_names ls next) more
          ∙ append_assoc old names (of_names ls next)
          ∙ ap (λ (us : List ℕ). old ++ us) (ap (λ (us : List ℕ). names ++ us) passed ∙ h.same);
    }

-- EQUATIONS

begun_end : (p : ℕ) (xs : List Placed) → begun false ((p, fixed f.Semicolon) ∷ xs) ≡ begun true xs
unfolding begun
begun_end p xs = refl

one_equation : (n : ℕ) (ls : List Lexeme) (at end next : ℕ) (q : EquationTree) → equation n (ahead ls at) ≡ Ok (q, ahead ls end) → after f.Semicolon (ahead ls end) ≡ Ok (ahead ls next)
    → begun true (from ls at) ≡ first (from ls at) ∷ begun true (from ls next)
one_equation n ls at end next q e h =
    let r = equation_sound n (ahead ls at) (q, ahead ls end) e in
    let b = equation_inner r.written in
    let s = stands ls at b.front (b.others (ahead ls end)) (sym r.spelled ∙ b.split (ahead ls end)) in
    ap (begun true) s.here
    ∙ begun_first (first (from ls at), b.front) (from ls (at + 1)) b.fits
    ∙ ap (λ (us : List ℕ). first (from ls at) ∷ us)
    (begun_over b.others ls (at + 1) end b.own (sym s.others) ∙ ap (begun false) (at_sign f.Semicolon ls end next h) ∙ begun_end (first (from ls end)) (from ls next))

-- one equation more
pub defines_equation : (n : ℕ) (ls : List Lexeme) (at end next : ℕ) (q : EquationTree) (old new : List Equation) (x : Equation) → equation n (ahead ls at) ≡ Ok (q, ahead ls end)
    → after f.Semicolon (ahead ls end) ≡ Ok (ahead ls next) → new ≡ old ++ x ∷ [] → x.byte ≡ first (from ls at) → Defines ls at next (equation_places old) (equation_places new)
defines_equation n ls at end next q old new x e h more here =
    let all : equation_places new ≡ equation_places old ++ x.byte ∷ [] = ap equation_places more ∙ map-append (λ (y : Equation). y.byte) old (x ∷ []) in
    record {
      same =
          ap (λ (us : List ℕ). us ++ begun true (from ls next)) all
          ∙ append_assoc (equation_places old) (x.byte ∷ []) (begun true (from ls next))
          ∙ ap (λ (p : ℕ). equation_places old ++ p ∷ begun true (from ls next)) here
          ∙ ap (λ (us : List ℕ). equation_places old ++ us) (sym (one_equation n ls at end next q e h));
    }

pub defines_ended : (n : ℕ) (ls : List Lexeme) (at end : ℕ) (answer : Result ℕ Stop) (q : EquationTree) (old new : List Equation) (x : Equation) → equation n (ahead ls at) ≡ Ok (q, ahead ls end)
    → Gives ls (ahead ls) answer (after f.Semicolon (ahead ls end)) → new ≡ old ++ x ∷ [] → x.byte ≡ first (from ls at)
    → IfOk answer (λ next. Defines ls at next (equation_places old) (equation_places new))
defines_ended n ls at end (Ok next) q old new x e h more here = defines_equation n ls at end next q old new x e h more here
defines_ended n ls at end (Err stop) q old new x e h more here = tt

pub defines_along : (ls : List Lexeme) (at mid next : ℕ) (a b c : List ℕ) → Defines ls at mid a b → Defines ls mid next b c → Defines ls at next a c
defines_along ls at mid next a b c h k = record { same = k.same ∙ h.same }

-- a row of declarations, with the sign behind it, which has to stand there
pub declares_after : (g : Fixed) (ls : List Lexeme) (at mid : ℕ) (old new : List ℕ) (answer : Result ℕ Stop) → ends_declarations (fixed g) ≡ false → begins_use (fixed g) ≡ false → Declares ls at mid old new
    → Gives ls (ahead ls) answer (after g (ahead ls mid)) → IfOk answer (λ next. Declares ls at next old new)
declares_after g ls at mid old new (Ok next) e h k found = declares_along ls at mid next old new new k (declares_sign g ls mid next new e h found)
declares_after g ls at mid old new (Err stop) e h k found = tt

pub if_placed : (answer : Result (Equation × ℕ) Stop) (byte here : ℕ) → byte ≡ here → IfOk answer (λ x. x.0.byte ≡ byte) → IfOk answer (λ x. x.0.byte ≡ here)
if_placed (Ok x) byte here e h = h ∙ e
if_placed (Err stop) byte here e h = tt
