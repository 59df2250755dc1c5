-- A loop that takes piece after piece, against the pieces that reading takes.
use Rattle.std.proofs.Common.{◌≡◌, ◌<◌, ◌+◌, ◌-◌, ◌++◌, ℕ, zero, suc, Bool, true, false, List, length, map, [], ◌∷◌, Result, Ok, Err, refl, ap, sym, ◌∙◌, arith, cond, subst}
use Rattle.std.specs.Result.{is_ok}
use Rattle.lusyn_parser.specs.declared.error.Stop.{Stop}
use Rattle.lusyn_parser.specs.declared.error.Stop.TheVariants as stops_by
use Rattle.std.proofs.lemmas.List.{map-append}
use Rattle.std.specs.Prelude.{Vec, Box}
use Rattle.std.specs.Global.{Global}
use Rattle.lutree.specs.declared.expr.Expr.{Expr}
use Rattle.lutree.specs.declared.expr.Expr.TheVariants as variant
use Rattle.lutree.specs.declared.expr.Pattern.{Pattern}
use Rattle.lutree.specs.declared.expr.Pattern.TheVariants as patterns
use Rattle.lutree.specs.Tree.{Tree, DeclarationTree, NodeTree, view, views, trees_of}
use Rattle.lutree.specs.Tree as t
use Rattle.lutree.proofs.Views.{viewed-Merge}
use Rattle.lusyn_grammar.specs.declared.token.Fixed.{Fixed}
use Rattle.lusyn_grammar.specs.declared.token.Fixed.TheVariants as f
use Rattle.lusyn_grammar.specs.declared.token.Lexeme.{Lexeme}
use Rattle.lusyn_grammar.specs.Tokens.{Tok}
use Rattle.lusyn_parser.specs.declared.pieces.Branch.{Branch}
use Rattle.lusyn_parser.specs.Gives.{ahead, Fails, Gives, branch_view, branches_view}
use Rattle.lusyn_grammar.specs.Grammar.{bare_label}
use Rattle.lusyn_grammar.specs.Reading.{merged, Read, ◌>>=◌, many, after, begins, begins_name, further_operand, inside, labelled, further_branch, name, declaration, further_declaration, declarations, ended_declaration, locals_by, locals, further_node, nodes}

pub many-goes : {A : Type 0} (test : List Tok → Bool) (piece : List A → List Tok → Read (List A)) (n : ℕ) (found : List A) (ts : List Tok)
    → test ts ≡ true → many test piece (suc n) found ts ≡ (piece found ts >>= λ x. many test piece n x.0 x.1)
unfolding many
many-goes test piece n found ts e = ap (λ (b : Bool). cond b (piece found ts >>= λ x. many test piece n x.0 x.1) (Ok (found, ts))) e

pub many-stops : {A : Type 0} (test : List Tok → Bool) (piece : List A → List Tok → Read (List A)) (n : ℕ) (found : List A) (ts : List Tok)
    → test ts ≡ false → many test piece (suc n) found ts ≡ Ok (found, ts)
unfolding many
many-stops test piece n found ts e = ap (λ (b : Bool). cond b (piece found ts >>= λ x. many test piece n x.0 x.1) (Ok (found, ts))) e

module _ {A : Type 0} (test : List Tok → Bool) (piece : List A → List Tok → Read (List A)) where
  -- what is still to be read after what was found is all that was to be read
  pub record Continues (whole : Read (List A)) (found : List A) (ls : List Lexeme) (at : ℕ) : Type 0 where
    pub fuel : ℕ
    pub enough : length ls - at < suc fuel
    pub same : many test piece (suc fuel) found (ahead ls at) ≡ whole

  pub starts : (found : List A) (ls : List Lexeme) (at : ℕ) → Continues (many test piece (suc (length ls)) found (ahead ls at)) found ls at
  starts found ls at = record { fuel = length ls; enough = omega arith; same = refl }

  by_fuel : (fuel : ℕ) (whole : Read (List A)) (new : List A) (ls : List Lexeme) (at next : ℕ) → at < length ls → at < next → length ls - at < suc fuel
      → many test piece fuel new (ahead ls next) ≡ whole → Continues whole new ls next
  by_fuel zero whole new ls at next within more enough e = absurd (omega arith)
  by_fuel (suc fuel) whole new ls at next within more enough e = record { fuel = fuel; enough = omega arith; same = e }

  pub goes : (whole : Read (List A)) (found new : List A) (ls : List Lexeme) (at next : ℕ) → Continues whole found ls at
      → test (ahead ls at) ≡ true → at < length ls → at < next → piece found (ahead ls at) ≡ Ok (new, ahead ls next) → Continues whole new ls next
  goes whole found new ls at next h holds within more e =
      by_fuel h.fuel whole new ls at next within more h.enough
      (sym (many-goes test piece h.fuel found (ahead ls at) holds ∙ ap (λ (r : Read (List A)). r >>= λ x. many test piece h.fuel x.0 x.1) e) ∙ h.same)

  fails : (whole : Read (List A)) (found : List A) (ls : List Lexeme) (at : ℕ) (us : List Tok) → Continues whole found ls at
      → test (ahead ls at) ≡ true → piece found (ahead ls at) ≡ Err us → whole ≡ Err us
  fails whole found ls at us h holds e =
      sym h.same ∙ many-goes test piece h.fuel found (ahead ls at) holds ∙ ap (λ (r : Read (List A)). r >>= λ x. many test piece h.fuel x.0 x.1) e

  pub refuses : (whole : Read (List A)) (found : List A) (ls : List Lexeme) (at : ℕ) (error : Stop) → Continues whole found ls at
      → test (ahead ls at) ≡ true → Fails ls error (piece found (ahead ls at)) → Fails ls error whole
  refuses whole found ls at stops_by.OutOfMemory h holds why = tt
  refuses whole found ls at (stops_by.Refused q) h holds why = fails whole found ls at (ahead ls q) h holds why

  pub stops : (whole : Read (List A)) (found : List A) (ls : List Lexeme) (at : ℕ) → Continues whole found ls at
      → test (ahead ls at) ≡ false → whole ≡ Ok (found, ahead ls at)
  stops whole found ls at h holds = sym h.same ∙ many-stops test piece h.fuel found (ahead ls at) holds

-- a piece that begins with a token of its own
module _ {A : Type 0} (g : Fixed) (item : List A → List Tok → Read (List A)) where
  abbrev pub led : List A → List Tok → Read (List A)
  led found ts = after g ts >>= item found

  led-is : (found : List A) (ls : List Lexeme) (at mid : ℕ) → after g (ahead ls at) ≡ Ok (ahead ls mid) → led found (ahead ls at) ≡ item found (ahead ls mid)
  led-is found ls at mid e = ap (λ (r : Result (List Tok) (List Tok)). r >>= item found) e

  begins-is : (ts : List Tok) (r : Result (List Tok) (List Tok)) → after g ts ≡ r → begins g ts ≡ is_ok r
  begins-is ts r e = ap (λ (s : Result (List Tok) (List Tok)). is_ok s) e

  pub goes_after : (whole : Read (List A)) (found new : List A) (ls : List Lexeme) (at mid next : ℕ) → Continues (begins g) led whole found ls at
      → after g (ahead ls at) ≡ Ok (ahead ls mid) → (mid ≡ at + 1) × (at < length ls) → mid < next → item found (ahead ls mid) ≡ Ok (new, ahead ls next)
      → Continues (begins g) led whole new ls next
  goes_after whole found new ls at mid next h passed within more e =
      goes (begins g) led whole found new ls at next h (begins-is (ahead ls at) (Ok (ahead ls mid)) passed) within.1 (omega (arith, within.0, more)) (led-is found ls at mid passed ∙ e)

  fails_after : (whole : Read (List A)) (found : List A) (ls : List Lexeme) (at mid : ℕ) (us : List Tok) → Continues (begins g) led whole found ls at
      → after g (ahead ls at) ≡ Ok (ahead ls mid) → item found (ahead ls mid) ≡ Err us → whole ≡ Err us
  fails_after whole found ls at mid us h passed e =
      fails (begins g) led whole found ls at us h (begins-is (ahead ls at) (Ok (ahead ls mid)) passed) (led-is found ls at mid passed ∙ e)

  pub refuses_after : (whole : Read (List A)) (found : List A) (ls : List Lexeme) (at mid : ℕ) (error : Stop) → Continues (begins g) led whole found ls at
      → after g (ahead ls at) ≡ Ok (ahead ls mid) → Fails ls error (item found (ahead ls mid)) → Fails ls error whole
  refuses_after whole found ls at mid stops_by.OutOfMemory h passed why = tt
  refuses_after whole found ls at mid (stops_by.Refused q) h passed why = fails_after whole found ls at mid (ahead ls q) h passed why

  pub stops_after : (whole : Read (List A)) (found : List A) (ls : List Lexeme) (at : ℕ) (us : List Tok) → Continues (begins g) led whole found ls at
      → after g (ahead ls at) ≡ Err us → whole ≡ Ok (found, ahead ls at)
  stops_after whole found ls at us h passed = stops (begins g) led whole found ls at h (begins-is (ahead ls at) (Err us) passed)

pub Fails-along : {Y : Type 0} (ls : List Lexeme) (error : Stop) (read other : Result Y (List Tok)) → read ≡ other → Fails ls error other → Fails ls error read
Fails-along ls error read other e h = let P : Result _ (List Tok) → Type 0 = λ r. Fails ls error r in subst P (sym e) h

pub Gives-along : {X Y : Type 0} (ls : List Lexeme) (seen : X → Y) (answer : Result X Stop) (read other : Result Y (List Tok)) → read ≡ other → Gives ls seen answer other → Gives ls seen answer read
Gives-along {X} {Y} ls seen answer read other e h = let P : Result Y (List Tok) → Type 0 = λ r. Gives ls seen answer r in subst P (sym e) h

pub one-less : (n : ℕ) → (n ≡ 0 → ⊥) → n ≡ suc (n - 1)
one-less zero e = absurd (e refl)
one-less (suc n) e = omega arith

abbrev operand_behind : List Tree → Tree × List Tok → Read (List Tree)
operand_behind found x = Ok (found ++ x.0 ∷ [], x.1)

one-operand : (read : ℕ → List Tok → Read Tree) (found : List Tree) (x : Tree) (ts mid rest : List Tok) → after f.Comma ts ≡ Ok mid → read 0 mid ≡ Ok (x, rest)
    → further_operand read found ts ≡ Ok (found ++ x ∷ [], rest)
one-operand read found x ts mid rest passed e =
    let inner : List Tok → Read (List Tree) = λ us. read 0 us >>= operand_behind found in
    ap (λ (r : Result (List Tok) (List Tok)). r >>= inner) passed ∙ ap (λ (r : Read Tree). r >>= operand_behind found) e

pub views-more : (found all : List Expr) (x : Expr) → all ≡ found ++ x ∷ [] → views all ≡ views found ++ view x ∷ []
views-more found all x is = ap views is ∙ map-append view found (x ∷ [])

-- one operand more was read after a comma
pub operands-continue : (read : ℕ → List Tok → Read Tree) (turns less : ℕ) (found new : List Tree) (x : Tree) (ts mid rest : List Tok) → turns ≡ suc less
    → after f.Comma ts ≡ Ok mid → read 0 mid ≡ Ok (x, rest) → new ≡ found ++ x ∷ []
    → many (begins f.Comma) (further_operand read) turns found ts ≡ many (begins f.Comma) (further_operand read) less new rest
operands-continue read turns less found new x ts mid rest more passed e is =
    let next : List Tree × List Tok → Read (List Tree) = λ y. many (begins f.Comma) (further_operand read) less y.0 y.1 in
    ap (λ (n : ℕ). many (begins f.Comma) (further_operand read) n found ts) more
    ∙ many-goes (begins f.Comma) (further_operand read) less found ts (ap (λ (r : Result (List Tok) (List Tok)). is_ok r) passed)
    ∙ ap (λ (r : Read (List Tree)). r >>= next) (one-operand read found x ts mid rest passed e)
    ∙ ap (λ (l : List Tree). many (begins f.Comma) (further_operand read) less l rest) (sym is)

pub operands-stop : (read : ℕ → List Tok → Read Tree) (turns less : ℕ) (found : List Tree) (ts us : List Tok) → turns ≡ suc less → after f.Comma ts ≡ Err us
    → many (begins f.Comma) (further_operand read) turns found ts ≡ Ok (found, ts)
operands-stop read turns less found ts us more passed =
    ap (λ (n : ℕ). many (begins f.Comma) (further_operand read) n found ts) more
    ∙ many-stops (begins f.Comma) (further_operand read) less found ts (ap (λ (r : Result (List Tok) (List Tok)). is_ok r) passed)

operands-refused : (read : ℕ → List Tok → Read Tree) (turns less : ℕ) (found : List Tree) (ts mid us : List Tok) → turns ≡ suc less → after f.Comma ts ≡ Ok mid → read 0 mid ≡ Err us
    → many (begins f.Comma) (further_operand read) turns found ts ≡ Err us
operands-refused read turns less found ts mid us more passed e =
    let inner : List Tok → Read (List Tree) = λ vs. read 0 vs >>= operand_behind found in
    let next : List Tree × List Tok → Read (List Tree) = λ y. many (begins f.Comma) (further_operand read) less y.0 y.1 in
    ap (λ (n : ℕ). many (begins f.Comma) (further_operand read) n found ts) more
    ∙ many-goes (begins f.Comma) (further_operand read) less found ts (ap (λ (r : Result (List Tok) (List Tok)). is_ok r) passed)
    ∙ ap (λ (r : Read (List Tree)). r >>= next) (ap (λ (r : Result (List Tok) (List Tok)). r >>= inner) passed ∙ ap (λ (r : Read Tree). r >>= operand_behind found) e)

pub operands-fail : (read : ℕ → List Tok → Read Tree) (turns less : ℕ) (found : List Tree) (ts mid : List Tok) (ls : List Lexeme) (error : Stop) → turns ≡ suc less → after f.Comma ts ≡ Ok mid
    → Fails ls error (read 0 mid) → Fails ls error (many (begins f.Comma) (further_operand read) turns found ts)
operands-fail read turns less found ts mid ls stops_by.OutOfMemory more passed h = tt
operands-fail read turns less found ts mid ls (stops_by.Refused q) more passed h = operands-refused read turns less found ts mid (ahead ls q) more passed h

abbrev last_branch : List (List ℕ × Tree) → List ℕ → Read Tree → Read (List (List ℕ × Tree))
last_branch before v r = r >>= λ e. Ok (before ++ (v, e.0) ∷ [], e.1)

abbrev branches_behind : List (List ℕ × Tree) → Read (List (List ℕ × Tree)) → Read (List (List ℕ × Tree))
branches_behind found r = r >>= λ y. Ok (found ++ y.0, y.1)

-- a branch is read alike behind whatever was found
labelled-behind : (read : ℕ → List Tok → Read Tree) (found : List (List ℕ × Tree)) (ts : List Tok) → labelled read found ts ≡ (labelled read [] ts >>= λ y. Ok (found ++ y.0, y.1))
unfolding labelled
labelled-behind read found ts = by_name (name ts)
  where
    by_inside : (v : List ℕ) (r : Read Tree) → last_branch found v r ≡ branches_behind found (last_branch [] v r)
    by_inside v (Err us) = refl
    by_inside v (Ok e) = refl

    by_arrow : (v : List ℕ) (r : Result (List Tok) (List Tok)) → (r >>= λ a. last_branch found v (inside read a)) ≡ branches_behind found (r >>= λ a. last_branch [] v (inside read a))
    by_arrow v (Err us) = refl
    by_arrow v (Ok a) = by_inside v (inside read a)

    by_name : (r : Read (List ℕ)) → (r >>= λ x. after f.Arrow x.1 >>= λ a. last_branch found x.0 (inside read a)) ≡ branches_behind found (r >>= λ x. after f.Arrow x.1 >>= λ a. last_branch [] x.0 (inside read a))
    by_name (Err us) = refl
    by_name (Ok x) = by_arrow x.0 (after f.Arrow x.1)

one-branch : (read : ℕ → List Tok → Read Tree) (found : List (List ℕ × Tree)) (b : List ℕ × Tree) (ts mid rest : List Tok) → after f.Open ts ≡ Ok mid → labelled read [] mid ≡ Ok (b ∷ [], rest)
    → further_branch read found ts ≡ Ok (found ++ b ∷ [], rest)
one-branch read found b ts mid rest passed e =
    ap (λ (r : Result (List Tok) (List Tok)). r >>= labelled read found) passed
    ∙ labelled-behind read found mid
    ∙ ap (λ (r : Read (List (List ℕ × Tree))). r >>= λ y. Ok (found ++ y.0, y.1)) e

pub branches-more : (found all : List Branch) (b : Branch) → all ≡ found ++ b ∷ [] → branches_view all ≡ branches_view found ++ branch_view b ∷ []
branches-more found all b is = ap branches_view is ∙ map-append branch_view found (b ∷ [])

-- one branch more was read after a parenthesis
pub branches-continue : (read : ℕ → List Tok → Read Tree) (turns less : ℕ) (found new : List (List ℕ × Tree)) (b : List ℕ × Tree) (ts mid rest : List Tok) → turns ≡ suc less
    → after f.Open ts ≡ Ok mid → labelled read [] mid ≡ Ok (b ∷ [], rest) → new ≡ found ++ b ∷ []
    → many (begins f.Open) (further_branch read) turns found ts ≡ many (begins f.Open) (further_branch read) less new rest
branches-continue read turns less found new b ts mid rest more passed e is =
    let next : List (List ℕ × Tree) × List Tok → Read (List (List ℕ × Tree)) = λ y. many (begins f.Open) (further_branch read) less y.0 y.1 in
    ap (λ (n : ℕ). many (begins f.Open) (further_branch read) n found ts) more
    ∙ many-goes (begins f.Open) (further_branch read) less found ts (ap (λ (r : Result (List Tok) (List Tok)). is_ok r) passed)
    ∙ ap (λ (r : Read (List (List ℕ × Tree))). r >>= next) (one-branch read found b ts mid rest passed e)
    ∙ ap (λ (l : List (List ℕ × Tree)). many (begins f.Open) (further_branch read) less l rest) (sym is)

pub branches-stop : (read : ℕ → List Tok → Read Tree) (turns less : ℕ) (found : List (List ℕ × Tree)) (ts us : List Tok) → turns ≡ suc less → after f.Open ts ≡ Err us
    → many (begins f.Open) (further_branch read) turns found ts ≡ Ok (found, ts)
branches-stop read turns less found ts us more passed =
    ap (λ (n : ℕ). many (begins f.Open) (further_branch read) n found ts) more
    ∙ many-stops (begins f.Open) (further_branch read) less found ts (ap (λ (r : Result (List Tok) (List Tok)). is_ok r) passed)

branches-refused : (read : ℕ → List Tok → Read Tree) (turns less : ℕ) (found : List (List ℕ × Tree)) (ts mid us : List Tok) → turns ≡ suc less → after f.Open ts ≡ Ok mid → labelled read [] mid ≡ Err us
    → many (begins f.Open) (further_branch read) turns found ts ≡ Err us
branches-refused read turns less found ts mid us more passed e =
    let next : List (List ℕ × Tree) × List Tok → Read (List (List ℕ × Tree)) = λ y. many (begins f.Open) (further_branch read) less y.0 y.1 in
    ap (λ (n : ℕ). many (begins f.Open) (further_branch read) n found ts) more
    ∙ many-goes (begins f.Open) (further_branch read) less found ts (ap (λ (r : Result (List Tok) (List Tok)). is_ok r) passed)
    ∙ ap (λ (r : Read (List (List ℕ × Tree))). r >>= next)
    (ap (λ (r : Result (List Tok) (List Tok)). r >>= labelled read found) passed ∙ labelled-behind read found mid ∙ ap (λ (r : Read (List (List ℕ × Tree))). r >>= λ y. Ok (found ++ y.0, y.1)) e)

pub branches-fail : (read : ℕ → List Tok → Read Tree) (turns less : ℕ) (found : List (List ℕ × Tree)) (ts mid : List Tok) (ls : List Lexeme) (error : Stop) → turns ≡ suc less → after f.Open ts ≡ Ok mid
    → Fails ls error (labelled read [] mid) → Fails ls error (many (begins f.Open) (further_branch read) turns found ts)
branches-fail read turns less found ts mid ls stops_by.OutOfMemory more passed h = tt
branches-fail read turns less found ts mid ls (stops_by.Refused q) more passed h = branches-refused read turns less found ts mid (ahead ls q) more passed h

pub declarations-continues : (n : ℕ) (new : List DeclarationTree) (ts rest : List Tok) → declaration n [] ts ≡ Ok (new, rest)
    → declarations n ts ≡ many (begins f.Semicolon) (further_declaration n) n new rest
unfolding declarations
declarations-continues n new ts rest e = ap (λ (r : Read (List DeclarationTree)). r >>= λ x. many (begins f.Semicolon) (further_declaration n) n x.0 x.1) e

pub locals-continues : (n : ℕ) (new : List DeclarationTree) (ts mid rest : List Tok) → after f.Var ts ≡ Ok mid → ended_declaration n [] mid ≡ Ok (new, rest)
    → locals n ts ≡ many begins_name (ended_declaration n) n new rest
unfolding locals
locals-continues n new ts mid rest passed e =
    ap (locals_by n ts) passed ∙ ap (λ (r : Read (List DeclarationTree)). r >>= λ x. many begins_name (ended_declaration n) n x.0 x.1) e

pub nodes-continues : (n : ℕ) (new : List NodeTree) (ts rest : List Tok) → further_node n [] ts ≡ Ok (new, rest)
    → nodes n ts ≡ many (begins f.Node) (further_node n) n new rest
unfolding nodes
nodes-continues n new ts rest e = ap (λ (r : Read (List NodeTree)). r >>= λ x. many (begins f.Node) (further_node n) n x.0 x.1) e

map_of_map : {A B C : Type 0} (g : B → C) (f : A → B) (xs : List A) → map g (map f xs) ≡ map (λ x. g (f x)) xs
map_of_map g f [] = refl
map_of_map g f (x ∷ xs) = ap (λ (ys : List _). g (f x) ∷ ys) (map_of_map g f xs)

abbrev read_as : Tree → Result Tree (List Tok)
read_as e = Ok e

-- the merge of all branches
pub merged-all : (v : List ℕ) (found : List Branch) (boxed : Box (List Pattern) Global) (es : Vec Expr Global)
    → boxed.value ≡ map (λ (b : Branch). patterns.Label (bare_label b.label)) found → es.items ≡ map (λ (b : Branch). b.value) found
    → read_as (merged v (branches_view found)) ≡ read_as (view (variant.Merge v boxed es))
merged-all v found boxed es labels values =
    let trees : views es.items ≡ map (λ (b : Branch). view b.value) found = ap views values ∙ map_of_map view (λ (b : Branch). b.value) found in
    ap (λ (qs : List Pattern). read_as (t.merge v qs (trees_of (map (λ b. b.1) (branches_view found))))) (map_of_map (λ (b : List ℕ × Tree). patterns.Label (bare_label b.0)) branch_view found ∙ sym labels)
    ∙ ap (λ (values : List Tree). read_as (t.merge v boxed.value (trees_of values))) (map_of_map (λ (b : List ℕ × Tree). b.1) branch_view found ∙ sym trees)
    ∙ ap read_as (sym (viewed-Merge v boxed es))
