-- What is read of names and declarations is spelled so.
use Rattle.std.proofs.Common.{◌≡◌, ℕ, Option, Some, None, Result, Ok, Err, List, ◌∷◌, [], ◌++◌, refl, ap, sym, subst, ◌∙◌, map}
use Rattle.std.specs.List.{flat_map}
use Rattle.lutree.specs.declared.expr.Condition.{Condition}
use Rattle.lutree.specs.Tree.{DeclarationTree}
use Rattle.lusyn_grammar.specs.declared.token.Fixed.TheVariants as f
use Rattle.lusyn_grammar.specs.Tokens.{Tok, identifier, number, fixed}
use Rattle.lusyn_grammar.specs.Grammar as w
use Rattle.lusyn_grammar.specs.Grammar.{WrittenType, WrittenDeclaration, repeated, led, separated, Each, IsNonempty, IsBareClock, IsProperDeclaration, type_token, when_tokens, declared, declaration_tree}
use Rattle.lusyn_grammar.specs.Reading.{Read, ◌>>=◌, after, begins, begins_name, name, condition, many, further_name, names, kind, clock_by, clocked, declaration, further_declaration, declarations, inputs, ended, ended_declaration, locals_by, locals}
use Rattle.lusyn_grammar.proofs.Pieces.{bind_ok, tested, same_ok, after-is, name-is, condition-is, condition-bare, Reads, reads, Begins, Sound, many_sound}

abbrev pub Any : {A : Type 0} → A → Type 0
Any x = Unit {0}

abbrev pub alone : {A : Type 0} → A → List A
alone x = x ∷ []

pub flat_map-alone : {A : Type 0} (xs : List A) → flat_map alone xs ≡ xs
flat_map-alone [] = refl
flat_map-alone (x ∷ xs) = ap (λ (ys : List _). x ∷ ys) (flat_map-alone xs)

abbrev pub itself : {A : Type 0} → A → A
itself x = x

pub further_name_sound : Sound (led f.Comma w.name) alone Any further_name
further_name_sound found ts x e =
    let (rest, one, e1) = bind_ok (after f.Comma ts) (λ rest. name rest >>= λ y. Ok (found ++ y.0 ∷ [], y.1)) x e in
    let (y, two, e2) = bind_ok (name rest) (λ y. Ok (found ++ y.0 ∷ [], y.1)) x e1 in
    reads (led f.Comma w.name) (λ v. found ++ alone v) Any y.0 ts y.1 (found ++ y.0 ∷ []) x tt
    (ap (λ (us : List Tok). fixed f.Comma ∷ us) (name-is rest y two) ∙ after-is f.Comma ts rest one) refl (same_ok (found ++ y.0 ∷ [], y.1) x e2)

pub names_sound : (n : ℕ) (ts : List Tok) (x : List (List ℕ) × List Tok) → names n ts ≡ Ok x → Reads (separated f.Comma w.name) itself IsNonempty ts x
unfolding names
names_sound n ts x e =
    let (y, one, others) = bind_ok (name ts) (λ y. many (begins f.Comma) further_name n (y.0 ∷ []) y.1) x e in
    let k : Begins (repeated (led f.Comma w.name)) (flat_map alone) (Each Any) (y.0 ∷ []) y.1 x =
    many_sound (begins f.Comma) further_name (led f.Comma w.name) alone Any further_name_sound n (y.0 ∷ []) y.1 x others in
    record {
      written = y.0 ∷ k.written;
      proper = tt;
      spelled = ap (λ (us : List Tok). identifier y.0 ∷ us) k.spelled ∙ name-is ts y one;
      stands = ap (λ (xs : List (List ℕ)). y.0 ∷ xs) (sym (flat_map-alone k.written)) ∙ k.stands;
    }

pub kind-is : (ts : List Tok) (x : WrittenType × List Tok) → kind ts ≡ Ok x → type_token x.0 ∷ x.1 ≡ ts
kind-is [] x e = absurd cc
kind-is (identifier v ∷ ts) x e = ap (λ (y : WrittenType × List Tok). type_token y.0 ∷ y.1) (sym (same_ok (w.named v, ts) x e))
kind-is (number n ∷ ts) x e = absurd cc
kind-is (fixed f.Int ∷ ts) x e = ap (λ (y : WrittenType × List Tok). type_token y.0 ∷ y.1) (sym (same_ok (w.int, ts) x e))
kind-is (fixed f.Bool ∷ ts) x e = ap (λ (y : WrittenType × List Tok). type_token y.0 ∷ y.1) (sym (same_ok (w.bool, ts) x e))
kind-is (fixed _ ∷ ts) x e = absurd cc

clock_by-is : (ts : List Tok) (r : Result (List Tok) (List Tok)) (x : Option Condition × List Tok) → after f.When ts ≡ r → clock_by ts r ≡ Ok x → w.clock x.0 x.1 ≡ ts
clock_by-is ts (Err us) x h e = ap (λ (y : Option Condition × List Tok). w.clock y.0 y.1) (sym (same_ok (None, ts) x e))
clock_by-is ts (Ok rest) x h e =
    let (y, one, two) = bind_ok (condition rest) (λ y. Ok (Some y.0, y.1)) x e in
    ap (λ (z : Option Condition × List Tok). w.clock z.0 z.1) (sym (same_ok (Some y.0, y.1) x two)) ∙ condition-is rest y one ∙ after-is f.When ts rest h

pub clocked-is : (ts : List Tok) (x : Option Condition × List Tok) → clocked ts ≡ Ok x → w.clock x.0 x.1 ≡ ts
clocked-is ts x e = clock_by-is ts (after f.When ts) x refl e

clock_by-bare : (ts : List Tok) (r : Result (List Tok) (List Tok)) (x : Option Condition × List Tok) → clock_by ts r ≡ Ok x → IsBareClock x.0
clock_by-bare ts (Err us) x e = let P : Option Condition × List Tok → Type 0 = λ y. IsBareClock y.0 in subst P (same_ok (None, ts) x e) tt
clock_by-bare ts (Ok rest) x e =
    let (y, one, two) = bind_ok (condition rest) (λ y. Ok (Some y.0, y.1)) x e in
    let P : Option Condition × List Tok → Type 0 = λ z. IsBareClock z.0 in
    subst P (same_ok (Some y.0, y.1) x two) (condition-bare rest y one)

clocked-bare : (ts : List Tok) (x : Option Condition × List Tok) → clocked ts ≡ Ok x → IsBareClock x.0
clocked-bare ts x e = clock_by-bare ts (after f.When ts) x e

declaration_spelled : (d : WrittenDeclaration) (ts us a b rest : List Tok) → separated f.Comma w.name d.names us ≡ ts → fixed f.Colon ∷ a ≡ us → type_token d.kind ∷ b ≡ a → w.clock d.clock rest ≡ b
    → w.declaration d rest ≡ ts
declaration_spelled d ts us a b rest h1 h2 h3 h4 = rw (h4, h3, h2) h1

pub declaration_sound : (n : ℕ) → Sound w.declaration declaration_tree IsProperDeclaration (declaration n)
unfolding declaration
declaration_sound n found ts x e =
    let (y, one, e1) = bind_ok (names n ts) _ x e in
    let (a, two, e2) = bind_ok (after f.Colon y.1) _ x e1 in
    let (k, three, e3) = bind_ok (kind a) _ x e2 in
    let (c, four, e4) = bind_ok (clocked k.1) (λ c. Ok (found ++ map (declared k.0 c.0) y.0, c.1)) x e3 in
    let r : Reads (separated f.Comma w.name) itself IsNonempty ts y = names_sound n ts y one in
    let d : WrittenDeclaration = record { names = r.written; kind = k.0; clock = c.0 } in
    reads w.declaration (λ q. found ++ declaration_tree q) IsProperDeclaration d ts c.1 (found ++ map (declared k.0 c.0) y.0) x (r.proper, clocked-bare k.1 c four)
    (declaration_spelled d ts y.1 a k.1 c.1 r.spelled (after-is f.Colon y.1 a two) (kind-is a k three) (clocked-is k.1 c four))
    (ap (λ (xs : List (List ℕ)). found ++ map (declared k.0 c.0) xs) r.stands) (same_ok (found ++ map (declared k.0 c.0) y.0, c.1) x e4)

further_declaration_sound : (n : ℕ) → Sound (led f.Semicolon w.declaration) declaration_tree IsProperDeclaration (further_declaration n)
further_declaration_sound n found ts x e =
    let (rest, first, second) = bind_ok (after f.Semicolon ts) (declaration n found) x e in
    let h : Begins w.declaration declaration_tree IsProperDeclaration found rest x = declaration_sound n found rest x second in
    record { written = h.written; proper = h.proper; spelled = ap (λ (us : List Tok). fixed f.Semicolon ∷ us) h.spelled ∙ after-is f.Semicolon ts rest first; stands = h.stands }

-- one and more
abbrev pub AreDeclarations : List WrittenDeclaration → Type 0
AreDeclarations ds = IsNonempty ds × Each IsProperDeclaration ds

abbrev pub declarations_tree : List WrittenDeclaration → List DeclarationTree
declarations_tree = flat_map declaration_tree

pub declarations_sound : (n : ℕ) (ts : List Tok) (x : List DeclarationTree × List Tok) → declarations n ts ≡ Ok x → Reads (separated f.Semicolon w.declaration) declarations_tree AreDeclarations ts x
unfolding declarations
declarations_sound n ts x e =
    let (y, one, others) = bind_ok (declaration n [] ts) (λ y. many (begins f.Semicolon) (further_declaration n) n y.0 y.1) x e in
    let h : Begins w.declaration declaration_tree IsProperDeclaration [] ts y = declaration_sound n [] ts y one in
    let k : Begins (repeated (led f.Semicolon w.declaration)) declarations_tree (Each IsProperDeclaration) y.0 y.1 x =
    many_sound (begins f.Semicolon) (further_declaration n) (led f.Semicolon w.declaration) declaration_tree IsProperDeclaration (further_declaration_sound n) n y.0 y.1 x others in
    record {
      written = h.written ∷ k.written;
      proper = (tt, (h.proper, k.proper));
      spelled = ap (w.declaration h.written) k.spelled ∙ h.spelled;
      stands = ap (λ (v : List DeclarationTree). v ++ declarations_tree k.written) h.stands ∙ k.stands;
    }

pub inputs_sound : (n : ℕ) (ts : List Tok) (x : List DeclarationTree × List Tok) → inputs n ts ≡ Ok x → Reads (separated f.Semicolon w.declaration) declarations_tree (Each IsProperDeclaration) ts x
unfolding inputs
inputs_sound n ts x e =
    tested (begins f.Close ts) (Ok ([], ts)) (declarations n ts) (Ok x) e
    (λ held first. reads (separated f.Semicolon w.declaration) declarations_tree (Each IsProperDeclaration) [] ts ts [] x tt refl refl (same_ok ([], ts) x first))
    (λ failed first.
    let h : Reads (separated f.Semicolon w.declaration) declarations_tree AreDeclarations ts x = declarations_sound n ts x first in
    record { written = h.written; proper = h.proper.1; spelled = h.spelled; stands = h.stands })

pub ended-is : {A : Type 0} (r : Read A) (x : A × List Tok) → ended r ≡ Ok x → (us : List Tok) × (r ≡ Ok (x.0, us)) × (fixed f.Semicolon ∷ x.1 ≡ us)
ended-is (Err us) x e = absurd cc
ended-is {A = A} (Ok y) x e =
    let (rest, first, second) = bind_ok (after f.Semicolon y.1) (λ rest. Ok (y.0, rest)) x e in
    let h : (y.0, rest) ≡ x = same_ok (y.0, rest) x second in
    (y.1, ap (λ (z : A × List Tok). Ok (z.0, y.1)) h, ap (λ (z : A × List Tok). fixed f.Semicolon ∷ z.1) (sym h) ∙ after-is f.Semicolon y.1 rest first)

abbrev pub ended_tokens : WrittenDeclaration → List Tok → List Tok
ended_tokens = w.ended f.Semicolon w.declaration

ended_declaration_sound : (n : ℕ) → Sound ended_tokens declaration_tree IsProperDeclaration (ended_declaration n)
ended_declaration_sound n found ts x e =
    let (us, first, last) = ended-is (declaration n found ts) x e in
    let h : Begins w.declaration declaration_tree IsProperDeclaration found ts (x.0, us) = declaration_sound n found ts (x.0, us) first in
    record { written = h.written; proper = h.proper; spelled = ap (w.declaration h.written) last ∙ h.spelled; stands = h.stands }

locals_by_sound : (n : ℕ) (ts : List Tok) (x : List DeclarationTree × List Tok) (r : Result (List Tok) (List Tok)) → after f.Var ts ≡ r → locals_by n ts r ≡ Ok x
    → Reads w.locals declarations_tree (Each IsProperDeclaration) ts x
locals_by_sound n ts x (Err us) p e = reads w.locals declarations_tree (Each IsProperDeclaration) [] ts ts [] x tt refl refl (same_ok ([], ts) x e)
locals_by_sound n ts x (Ok rest) p e =
    let (y, one, others) = bind_ok (ended_declaration n [] rest) (λ y. many begins_name (ended_declaration n) n y.0 y.1) x e in
    let h : Begins ended_tokens declaration_tree IsProperDeclaration [] rest y = ended_declaration_sound n [] rest y one in
    let k : Begins (repeated ended_tokens) declarations_tree (Each IsProperDeclaration) y.0 y.1 x =
    many_sound begins_name (ended_declaration n) ended_tokens declaration_tree IsProperDeclaration (ended_declaration_sound n) n y.0 y.1 x others in
    record {
      written = h.written ∷ k.written;
      proper = (h.proper, k.proper);
      spelled = ap (λ (us : List Tok). fixed f.Var ∷ us) (ap (ended_tokens h.written) k.spelled ∙ h.spelled) ∙ after-is f.Var ts rest p;
      stands = ap (λ (v : List DeclarationTree). v ++ declarations_tree k.written) h.stands ∙ k.stands;
    }

pub locals_sound : (n : ℕ) (ts : List Tok) (x : List DeclarationTree × List Tok) → locals n ts ≡ Ok x → Reads w.locals declarations_tree (Each IsProperDeclaration) ts x
unfolding locals
locals_sound n ts x e = locals_by_sound n ts x (after f.Var ts) refl e
