-- Names and declarations that are spelled so are read.
use Rattle.std.proofs.Common.{◌≡◌, ◌<◌, ◌≤◌, ◌+◌, ℕ, Option, Some, None, Ok, Err, List, ◌∷◌, [], ◌++◌, refl, ap, ◌∙◌, Bool, true, false, map, length, arith, if◌then◌else◌}
use Rattle.lutree.specs.declared.expr.Condition.{Condition}
use Rattle.lusyn_grammar.specs.declared.token.Fixed.{Fixed}
use Rattle.lusyn_grammar.specs.declared.token.Fixed.TheVariants as f
use Rattle.lusyn_grammar.specs.Tokens.{Tok, fixed}
use Rattle.lusyn_grammar.specs.Grammar as w
use Rattle.lusyn_grammar.specs.Grammar.{WrittenType, WrittenDeclaration, repeated, led, separated, Each, IsNonempty, IsBareClock, IsProperDeclaration, type_token, when_tokens, pattern_tokens, declared, declaration_tree}
use Rattle.lusyn_grammar.specs.Reading.{after, begins, begins_name, condition, many, further_name, names, kind, clock_by, clocked, declaration, further_declaration, declarations, inputs, ended, ended_declaration, locals_by, locals}
use Rattle.lusyn_grammar.proofs.SoundDeclarations.{Any, alone, flat_map-alone, declarations_tree, ended_tokens}
use Rattle.lusyn_grammar.proofs.CompletePieces.{goes_on, Complete, may, many_complete, separated-few}
use Rattle.lusyn_grammar.proofs.CompleteExpressions.{condition-taken, when-size}

pub each_any : {A : Type 0} (xs : List A) → Each Any xs
each_any [] = tt
each_any (x ∷ xs) = (tt, each_any xs)

pub further_name_taken : Complete (led f.Comma w.name) alone Any Any further_name
further_name_taken v found rest good ends = refl

pub names_taken : (n : ℕ) (xs found : List (List ℕ)) (rest : List Tok) → begins f.Comma rest ≡ false → length xs < n
    → many (begins f.Comma) further_name n found (repeated (led f.Comma w.name) xs rest) ≡ Ok (found ++ xs, rest)
names_taken n xs found rest over few =
    many_complete (begins f.Comma) further_name (led f.Comma w.name) alone Any Any (λ v r p. refl) (λ v r. tt) further_name_taken n xs found rest (each_any xs) tt over few
    ∙ ap (λ (ys : List (List ℕ)). Ok (found ++ ys, rest)) (flat_map-alone xs)

pub names_complete : (n : ℕ) (xs : List (List ℕ)) (rest : List Tok) → IsNonempty xs → begins f.Comma rest ≡ false → length xs ≤ n → names n (separated f.Comma w.name xs rest) ≡ Ok (xs, rest)
unfolding names
names_complete n [] rest some over few = absurd some
names_complete n (x ∷ xs) rest some over few = names_taken n xs (x ∷ []) rest over (omega arith)

kind-taken : (k : WrittenType) (rest : List Tok) → kind (type_token k ∷ rest) ≡ Ok (k, rest)
kind-taken w.int rest = refl
kind-taken w.bool rest = refl
kind-taken (w.named x) rest = refl

-- a declaration may be followed by anything but a clock, or what goes on with one
abbrev pub EndsDeclaration : List Tok → Type 0
EndsDeclaration rest = (after f.When rest ≡ Err rest) × (after f.Open rest ≡ Err rest)

clocked-taken : (c : Option Condition) (rest : List Tok) → IsBareClock c → EndsDeclaration rest → clocked (w.clock c rest) ≡ Ok (c, rest)
clocked-taken None rest bare none = ap (clock_by rest) none.0
clocked-taken (Some c) rest bare none = goes_on (condition (pattern_tokens c.pattern c.variable rest)) (c, rest) (λ x. Ok (Some x.0, x.1)) (condition-taken c rest bare none.1)

abbrev pub IsSmallDeclaration : ℕ → WrittenDeclaration → Type 0
IsSmallDeclaration n d = IsProperDeclaration d × (length d.names ≤ n)

declaration_complete : (n : ℕ) → Complete w.declaration declaration_tree (IsSmallDeclaration n) EndsDeclaration (declaration n)
unfolding declaration
declaration_complete n d found rest small none =
    let after_kind : List Tok = w.clock d.clock rest in
    let after_names : List Tok = fixed f.Colon ∷ type_token d.kind ∷ after_kind in
    goes_on (names n (separated f.Comma w.name d.names after_names)) (d.names, after_names) _ (names_complete n d.names after_names small.0.0 refl small.1)
    ∙ goes_on (kind (type_token d.kind ∷ after_kind)) (d.kind, after_kind) _ (kind-taken d.kind after_kind)
    ∙ goes_on (clocked after_kind) (d.clock, rest) (λ c. Ok (found ++ map (declared d.kind c.0) d.names, c.1)) (clocked-taken d.clock rest small.0.1 none)

further_declaration_complete : (n : ℕ) → Complete (led f.Semicolon w.declaration) declaration_tree (IsSmallDeclaration n) EndsDeclaration (further_declaration n)
further_declaration_complete n d found rest small none = declaration_complete n d found rest small none

pub declarations_complete : (n : ℕ) (ds : List WrittenDeclaration) (rest : List Tok) → IsNonempty ds → Each (IsSmallDeclaration n) ds → length ds ≤ n → begins f.Semicolon rest ≡ false → EndsDeclaration rest
    → declarations n (separated f.Semicolon w.declaration ds rest) ≡ Ok (declarations_tree ds, rest)
unfolding declarations
declarations_complete n [] rest some small few over none = absurd some
declarations_complete n (d ∷ ds) rest some small few over none =
    let of : WrittenDeclaration → List Tok → List Tok = led f.Semicolon w.declaration in
    let May : List Tok → Type 0 = EndsDeclaration in
    let ends : May (repeated of ds rest) =
    may (begins f.Semicolon) (further_declaration n) of declaration_tree (IsSmallDeclaration n) May (λ v r p. refl) (λ v r. (refl, refl)) (further_declaration_complete n) ds rest none in
    goes_on (declaration n [] (w.declaration d (repeated of ds rest))) (declaration_tree d, repeated of ds rest) (λ x. many (begins f.Semicolon) (further_declaration n) n x.0 x.1)
    (declaration_complete n d [] (repeated of ds rest) small.0 ends)
    ∙ many_complete (begins f.Semicolon) (further_declaration n) of declaration_tree (IsSmallDeclaration n) May (λ v r p. refl) (λ v r. (refl, refl)) (further_declaration_complete n)
    n ds (declaration_tree d) rest small.1 none over (omega arith)

-- a declaration begins with a name
not_sign : (g : Fixed) (xs : List (List ℕ)) (rest : List Tok) → IsNonempty xs → begins g (separated f.Comma w.name xs rest) ≡ false
not_sign g [] rest some = absurd some
not_sign g (x ∷ xs) rest some = refl

is_name : (xs : List (List ℕ)) (rest : List Tok) → IsNonempty xs → begins_name (separated f.Comma w.name xs rest) ≡ true
is_name [] rest some = absurd some
is_name (x ∷ xs) rest some = refl

pub inputs_complete : (n : ℕ) (ds : List WrittenDeclaration) (rest : List Tok) → Each (IsSmallDeclaration n) ds → length ds ≤ n
    → inputs n (separated f.Semicolon w.declaration ds (fixed f.Close ∷ rest)) ≡ Ok (declarations_tree ds, fixed f.Close ∷ rest)
unfolding inputs
inputs_complete n [] rest small few = refl
inputs_complete n (d ∷ ds) rest small few =
    let ts : List Tok = separated f.Semicolon w.declaration (d ∷ ds) (fixed f.Close ∷ rest) in
    ap (λ (b : Bool). if b then Ok ([], ts) else declarations n ts)
    (not_sign f.Close d.names (fixed f.Colon ∷ type_token d.kind ∷ w.clock d.clock (repeated (led f.Semicolon w.declaration) ds (fixed f.Close ∷ rest))) small.0.0.0)
    ∙ declarations_complete n (d ∷ ds) (fixed f.Close ∷ rest) tt small few refl (refl, refl)

ended_declaration_complete : (n : ℕ) → Complete ended_tokens declaration_tree (IsSmallDeclaration n) Any (ended_declaration n)
ended_declaration_complete n d found rest small ends = ap ended (declaration_complete n d found (fixed f.Semicolon ∷ rest) small (refl, refl))

begins_declaration : (n : ℕ) (d : WrittenDeclaration) (rest : List Tok) → IsSmallDeclaration n d → begins_name (ended_tokens d rest) ≡ true
begins_declaration n d rest small = is_name d.names (fixed f.Colon ∷ type_token d.kind ∷ w.clock d.clock (fixed f.Semicolon ∷ rest)) small.0.0

pub locals_complete : (n : ℕ) (ds : List WrittenDeclaration) (rest : List Tok) → Each (IsSmallDeclaration n) ds → length ds ≤ n → after f.Var rest ≡ Err rest → begins_name rest ≡ false
    → locals n (w.locals ds rest) ≡ Ok (declarations_tree ds, rest)
unfolding locals
locals_complete n [] rest small few none over = ap (locals_by n rest) none
locals_complete n (d ∷ ds) rest small few none over =
    goes_on (ended_declaration n [] (ended_tokens d (repeated ended_tokens ds rest))) (declaration_tree d, repeated ended_tokens ds rest) (λ x. many begins_name (ended_declaration n) n x.0 x.1)
    (ended_declaration_complete n d [] (repeated ended_tokens ds rest) small.0 tt)
    ∙ many_complete begins_name (ended_declaration n) ended_tokens declaration_tree (IsSmallDeclaration n) Any (begins_declaration n) (λ v r. tt) (ended_declaration_complete n)
    n ds (declaration_tree d) rest small.1 tt over (omega arith)

-- SIZES

pub name-more : (x : List ℕ) (rest : List Tok) → length rest < length (w.name x rest)
name-more x rest = omega arith

clock-more : (c : Option Condition) (rest : List Tok) → length rest ≤ length (w.clock c rest)
clock-more None rest = omega arith
clock-more (Some c) rest = omega (arith, when-size c rest)

names-in : (d : WrittenDeclaration) (rest : List Tok) → length d.names + length rest < length (w.declaration d rest)
names-in d rest =
    omega (arith, clock-more d.clock rest, separated-few f.Comma w.name name-more d.names (fixed f.Colon ∷ type_token d.kind ∷ w.clock d.clock rest))

pub declaration-more : (d : WrittenDeclaration) (rest : List Tok) → length rest < length (w.declaration d rest)
declaration-more d rest = omega (arith, names-in d rest)

pub declaration-small : (most : ℕ) (d : WrittenDeclaration) (rest : List Tok) → IsProperDeclaration d → length (w.declaration d rest) ≤ most → IsSmallDeclaration most d
declaration-small most d rest proper h = (proper, omega (arith, names-in d rest))

pub ended-more : (d : WrittenDeclaration) (rest : List Tok) → length rest < length (ended_tokens d rest)
ended-more d rest = omega (arith, declaration-more d (fixed f.Semicolon ∷ rest))

pub ended-small : (most : ℕ) (d : WrittenDeclaration) (rest : List Tok) → IsProperDeclaration d → length (ended_tokens d rest) ≤ most → IsSmallDeclaration most d
ended-small most d rest proper h = declaration-small most d (fixed f.Semicolon ∷ rest) proper h
