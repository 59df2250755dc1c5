-- What stands before a refused token of a program goes on to a program.
use Rattle.std.proofs.Common.{◌≡◌, ◌⊎◌, inl, inr, ◌+◌, ℕ, suc, Option, Some, None, Result, Ok, Err, List, ◌∷◌, [], ◌++◌, length, map, refl, ap, sym, ◌∙◌, arith, true, false, Bool}
use Rattle.std.proofs.lemmas.List.{append-nil}
use Rattle.lutree.specs.declared.expr.Condition.{Condition}
use Rattle.lutree.specs.Tree.{Tree, trees_of, TypeTree, DeclarationTree, EquationTree, NodeTree, ProgramTree}
use Rattle.lutree.specs.Tree as t
use Rattle.lusyn_grammar.specs.declared.token.Fixed.{Fixed}
use Rattle.lusyn_grammar.specs.declared.token.Fixed.TheVariants as f
use Rattle.lusyn_grammar.specs.Tokens.{Tok, identifier, number, fixed}
use Rattle.lusyn_grammar.specs.Grammar as w
use Rattle.lusyn_grammar.specs.Grammar.{Written, tokens, WrittenType, WrittenDeclaration, WrittenEquation, WrittenNode, WrittenProgram, repeated, led, separated, optional, Each, IsNonempty, IsCall, IsDefinedBy, IsProper, IsBareClock, IsProperDeclaration, IsProperEquation, IsProperNode, IsProperType, type_token, when_tokens, left_tokens, declared, Spells, program_tree}
use Rattle.lusyn_grammar.specs.Reading.{Read, ◌>>=◌, after, begins, begins_name, past, name, condition, many, further_name, names, kind, clock_by, clocked, declaration, further_declaration, declarations, inputs, ended, ended_declaration, locals_by, locals, operands, expr, single, call, tuple_names, tuple, equation_by, equation, ended_equation, begins_equation, equations, heading, body, node, further_node, nodes, type_declaration, types, program, to_the_end, all_of}
use Rattle.lusyn_grammar.specs.Laws.{GoesOn}
use Rattle.lusyn_grammar.proofs.Pieces.{tested, same_ok, past-is}
use Rattle.lusyn_grammar.proofs.SoundExpressions.{between, between-tokens}
use Rattle.lusyn_grammar.proofs.Viable.{Part, Front, front_here, front_token, front_less, Done, Stopped, Some_part, Reader, reader_less, reader_along, reader_same, reader_ok, reader_then, reader_after, reader_name, reader_case, reader_many, bind_err, Here, Named, some_here, some_name, some_along, some_then, some_after, stopped_here, Spelled, Led, Both, AreGood, some_led, reader_led, some_both, reader_both, reader_with}
use Rattle.lusyn_grammar.proofs.ViableExpressions.{Level, some_level, Clocked, reader_condition, operands_reader, expr_reader}

-- ---- declarations

-- one name and more, each with a comma before it
abbrev Further : Part → Type 0
Further d = (xs : List (List ℕ)) × ((rest : List Tok) → d rest ≡ repeated (led f.Comma w.name) xs rest)

abbrev OneMore : Part → Type 0
OneMore d = (x : List ℕ) × ((rest : List Tok) → d rest ≡ fixed f.Comma ∷ identifier x ∷ rest)

further_none : (d : Part) → Here d → Further d
further_none d here = ([], here)

further_more : (d e : Part) → OneMore d → Further e → Further (λ rest. d (e rest))
further_more d e (x, h) (xs, k) = (x ∷ xs, λ rest. h (e rest) ∙ ap (λ (us : List Tok). fixed f.Comma ∷ identifier x ∷ us) (k rest))

named_here : (d e : Part) → Named d → Here e → Named (λ rest. d (e rest))
named_here d e (x, h) here = (x, λ rest. h (e rest) ∙ ap (λ (us : List Tok). identifier x ∷ us) (here rest))

one_more : (e : Part) → Named e → OneMore (λ rest. fixed f.Comma ∷ e rest)
one_more e (x, h) = (x, λ rest. ap (λ (us : List Tok). fixed f.Comma ∷ us) (h rest))

some_more : Some_part OneMore 2
some_more = some_after f.Comma one_more some_name

reader_more : {most : ℕ} (found : List (List ℕ)) → Reader OneMore 2 most (further_name found)
reader_more {most = most} found =
    let k : List ℕ → List Tok → Read (List (List ℕ)) = λ x ts. Ok (found ++ x ∷ [], ts) in
    reader_less (omega arith) (omega arith)
    (reader_after f.Comma (λ rest. name rest >>= λ x. k x.0 x.1) one_more some_name
    (reader_then {most = most} {more = most} name k named_here some_here (omega arith) reader_name (λ v. reader_ok (found ++ v ∷ []))))

reader_further : (n : ℕ) (found : List (List ℕ)) → Reader Further 0 n (many (begins f.Comma) further_name n found)
reader_further n found = reader_many (begins f.Comma) further_name further_none further_more n (λ xs. reader_less (omega arith) (omega arith) (reader_more {most = n} xs)) found

some_further : Some_part Further 0
some_further = some_along further_none some_here

abbrev Names : Part → Type 0
Names d = (xs : List (List ℕ)) × IsNonempty xs × ((rest : List Tok) → d rest ≡ separated f.Comma w.name xs rest)

names_of : (d e : Part) → Named d → Further e → Names (λ rest. d (e rest))
names_of d e (x, h) (xs, k) = (x ∷ xs, tt, λ rest. h (e rest) ∙ ap (λ (us : List Tok). identifier x ∷ us) (k rest))

some_names : Some_part Names 1
some_names = some_then names_of some_name some_further

reader_names : (n : ℕ) → Reader Names 1 n (names n)
unfolding names
reader_names n =
    reader_then {most = n} {more = n} name (λ x ts. many (begins f.Comma) further_name n (x ∷ []) ts) names_of some_further (omega arith) reader_name (λ v. reader_further n (v ∷ []))

abbrev Kinded : Part → Type 0
Kinded d = (k : WrittenType) × ((rest : List Tok) → d rest ≡ type_token k ∷ rest)

some_kind : Some_part Kinded 1
some_kind = record { part = λ rest. fixed f.Int ∷ rest; good = (w.int, λ rest. refl); front = front_token (fixed f.Int) front_here }

kind_read : (k : WrittenType) (ts : List Tok) (x : WrittenType × List Tok) → (k, ts) ≡ x → Done Kinded 1 (type_token k ∷ ts) x.1
kind_read k ts x same = record {
  part = λ rest. type_token k ∷ rest;
  good = (k, λ rest. refl);
  front = front_token (type_token k) front_here;
  at = ap (λ (y : WrittenType × List Tok). type_token k ∷ y.1) (sym same);
}

kind_done : (ts : List Tok) (x : WrittenType × List Tok) → kind ts ≡ Ok x → Done Kinded 1 ts x.1
kind_done [] x e = absurd cc
kind_done (identifier v ∷ ts) x e = kind_read (w.named v) ts x (same_ok (w.named v, ts) x e)
kind_done (number n ∷ ts) x e = absurd cc
kind_done (fixed f.Int ∷ ts) x e = kind_read w.int ts x (same_ok (w.int, ts) x e)
kind_done (fixed f.Bool ∷ ts) x e = kind_read w.bool ts x (same_ok (w.bool, ts) x e)
kind_done (fixed _ ∷ ts) x e = absurd cc

kind_err : (ts us : List Tok) → kind ts ≡ Err us → us ≡ ts
kind_err [] us e = cc
kind_err (identifier v ∷ ts) us e = absurd cc
kind_err (number n ∷ ts) us e = cc
kind_err (fixed f.Int ∷ ts) us e = absurd cc
kind_err (fixed f.Bool ∷ ts) us e = absurd cc
kind_err (fixed _ ∷ ts) us e = cc

reader_kind : {most : ℕ} → Reader Kinded 1 most kind
reader_kind = record { done = kind_done; stopped = λ ts us short e. stopped_here ts us some_kind (kind_err ts us e) }

abbrev MaybeClocked : Part → Type 0
MaybeClocked d = (c : Option Condition) × IsBareClock c × ((rest : List Tok) → d rest ≡ w.clock c rest)

some_clocked : Some_part MaybeClocked 0
some_clocked = some_along (λ d here. (None, tt, here)) some_here

reader_clocked : {most : ℕ} → Reader MaybeClocked 0 most clocked
reader_clocked {most = most} =
    let k : Condition → List Tok → Read (Option Condition) = λ c ts. Ok (Some c, ts) in
    let none : List Tok → Read (Option Condition) = λ ts. Ok (None, ts) in
    reader_case {D = Here} {E = Clocked} {most = most} {more = most} f.When none (λ rest. condition rest >>= λ x. k x.0 x.1) clock_by
    (λ d here. (None, tt, here)) (λ e (c, b, h). (Some c, b, h)) (omega arith) (omega arith) (omega arith) (λ ts us. refl) (λ ts rest. refl)
    (reader_ok None)
    (reader_then {most = most} {more = most} condition k (λ d e (c, b, h) here. (c, b, λ rest. h (e rest) ∙ ap (λ (us : List Tok). when_tokens c us) (here rest))) some_here (omega arith) reader_condition (λ c. reader_ok (Some c)))

-- what stands behind the names
abbrev Typed : Part → Type 0
Typed d = (k : WrittenType) × (c : Option Condition) × IsBareClock c × ((rest : List Tok) → d rest ≡ type_token k ∷ w.clock c rest)

abbrev Colon : Part → Type 0
Colon d = (k : WrittenType) × (c : Option Condition) × IsBareClock c × ((rest : List Tok) → d rest ≡ fixed f.Colon ∷ type_token k ∷ w.clock c rest)

abbrev Declared : Part → Type 0
Declared d = (x : WrittenDeclaration) × IsProperDeclaration x × ((rest : List Tok) → d rest ≡ w.declaration x rest)

typed_by : (d e : Part) → Kinded d → MaybeClocked e → Typed (λ rest. d (e rest))
typed_by d e (k, h) (c, b, g) = (k, c, b, λ rest. h (e rest) ∙ ap (λ (us : List Tok). type_token k ∷ us) (g rest))

some_typed : Some_part Typed 1
some_typed = some_then typed_by some_kind some_clocked

colon : (e : Part) → Typed e → Colon (λ rest. fixed f.Colon ∷ e rest)
colon e (k, c, b, h) = (k, c, b, λ rest. ap (λ (us : List Tok). fixed f.Colon ∷ us) (h rest))

some_colon : Some_part Colon 2
some_colon = some_after f.Colon colon some_typed

declared_by : (d e : Part) → Names d → Colon e → Declared (λ rest. d (e rest))
declared_by d e (xs, p, h) (k, c, b, g) =
    (record { names = xs; kind = k; clock = c }, (p, b), λ rest. h (e rest) ∙ ap (λ (us : List Tok). separated f.Comma w.name xs us) (g rest))

some_declared : Some_part Declared 3
some_declared = some_then declared_by some_names some_colon

reader_typed : {most : ℕ} (found : List DeclarationTree) (xs : List (List ℕ)) → Reader Typed 1 most (λ ts. kind ts >>= λ k. clocked k.1 >>= λ c. Ok (found ++ map (declared k.0 c.0) xs, c.1))
reader_typed {most = most} found xs =
    let last : WrittenType → Option Condition → List Tok → Read (List DeclarationTree) = λ k c ts. Ok (found ++ map (declared k c) xs, ts) in
    reader_then {most = most} {more = most} kind (λ k ts. clocked ts >>= λ c. last k c.0 c.1) typed_by some_clocked (omega arith) reader_kind
    (λ k. reader_then {most = most} {more = most} clocked (last k) (λ d e (c, b, h) here. (c, b, λ rest. h (e rest) ∙ ap (λ (us : List Tok). w.clock c us) (here rest))) some_here (omega arith) reader_clocked (λ c. reader_ok (found ++ map (declared k c) xs)))

reader_declaration : (n : ℕ) (found : List DeclarationTree) → Reader Declared 3 n (declaration n found)
unfolding declaration
reader_declaration n found =
    reader_then {most = n} {more = n} (names n) (λ xs ts. after f.Colon ts >>= λ a. kind a >>= λ k. clocked k.1 >>= λ c. Ok (found ++ map (declared k.0 c.0) xs, c.1)) declared_by some_colon (omega arith) (reader_names n)
    (λ xs. reader_less (omega arith) (omega arith) (reader_after f.Colon (λ a. kind a >>= λ k. clocked k.1 >>= λ c. Ok (found ++ map (declared k.0 c.0) xs, c.1)) colon some_typed (reader_typed {most = n} found xs)))

abbrev decls : List WrittenDeclaration → Part
decls = separated f.Semicolon w.declaration

abbrev MoreDeclared : Part → Type 0
MoreDeclared = Spelled (Led f.Semicolon w.declaration) IsProperDeclaration

abbrev FurtherDeclared : Part → Type 0
FurtherDeclared = Spelled (repeated (led f.Semicolon w.declaration)) (Each IsProperDeclaration)

further_declared : (d e : Part) → MoreDeclared d → FurtherDeclared e → FurtherDeclared (λ rest. d (e rest))
further_declared d e (x, p, h) (xs, q, k) = (x ∷ xs, (p, q), λ rest. h (e rest) ∙ ap (λ (us : List Tok). fixed f.Semicolon ∷ w.declaration x us) (k rest))

none_declared : (d : Part) → Here d → FurtherDeclared d
none_declared d here = ([], tt, here)

abbrev AreDeclared : List WrittenDeclaration → Type 0
AreDeclared ds = IsNonempty ds × Each IsProperDeclaration ds

declared_and_more : (d e : Part) → Declared d → FurtherDeclared e → Spelled decls AreDeclared (λ rest. d (e rest))
declared_and_more d e (x, p, h) (xs, q, k) = (x ∷ xs, (tt, (p, q)), λ rest. h (e rest) ∙ ap (w.declaration x) (k rest))

some_declarations : Some_part (Spelled decls AreDeclared) 3
some_declarations = some_then declared_and_more some_declared (some_along none_declared some_here)

reader_more_declared : (n : ℕ) (found : List DeclarationTree) → Reader MoreDeclared 1 n (further_declaration n found)
reader_more_declared n found = reader_less (omega arith) (omega arith) (reader_led f.Semicolon w.declaration IsProperDeclaration (declaration n found) some_declared (reader_declaration n found))

reader_declarations : (n : ℕ) → Reader (Spelled decls AreDeclared) 3 n (declarations n)
unfolding declarations
reader_declarations n =
    reader_then {most = n} {more = n} (declaration n []) (many (begins f.Semicolon) (further_declaration n) n) declared_and_more (some_along none_declared some_here) (omega arith) (reader_declaration n [])
    (λ xs. reader_many (begins f.Semicolon) (further_declaration n) none_declared further_declared n (reader_more_declared n) xs)

abbrev ProperInputs : Part → Type 0
ProperInputs = Spelled decls (Each IsProperDeclaration)

inputs_of : (d : Part) → Spelled decls AreDeclared d → ProperInputs d
inputs_of d (xs, p, h) = (xs, p.1, h)

some_inputs : Some_part ProperInputs 0
some_inputs = some_along (λ d here. ([], tt, here)) some_here

reader_inputs : (n : ℕ) → Reader ProperInputs 0 n (inputs n)
unfolding inputs
reader_inputs n =
    let none : Reader ProperInputs 0 n (λ ts. Ok ([], ts)) = reader_along (λ d here. ([], tt, here)) (reader_ok []) in
    let some : Reader ProperInputs 0 n (declarations n) = reader_less (omega arith) (omega arith) (reader_along inputs_of (reader_declarations n)) in
    record {
      done = λ ts x e. tested (begins f.Close ts) (Ok ([], ts)) (declarations n ts) (Ok x) e (λ held first. none.done ts x first) (λ failed first. some.done ts x first);
      stopped = λ ts us short e. tested (begins f.Close ts) (Ok ([], ts)) (declarations n ts) (Err us) e (λ held first. none.stopped ts us short first) (λ failed first. some.stopped ts us short first);
    }

-- ---- what a semicolon ends

abbrev Mark : Fixed → Part → Type 0
Mark g d = (rest : List Tok) → d rest ≡ fixed g ∷ rest

some_mark : (g : Fixed) → Some_part (Mark g) 1
some_mark g = record { part = λ rest. fixed g ∷ rest; good = λ rest. refl; front = front_token (fixed g) front_here }

reader_mark : {A : Type 0} {most : ℕ} (g : Fixed) (v : A) → Reader (Mark g) 1 most (λ ts. after g ts >>= λ rest. Ok (v, rest))
reader_mark {most = most} g v = reader_less (omega arith) (omega arith) (reader_after g (λ rest. Ok (v, rest)) (λ e here rest. ap (λ (us : List Tok). fixed g ∷ us) (here rest)) some_here (reader_ok {most = most} v))

ended_bind : {A : Type 0} (r : Read A) → ended r ≡ (r >>= λ x. after f.Semicolon x.1 >>= λ rest. Ok (x.0, rest))
ended_bind (Err us) = refl
ended_bind (Ok x) = refl

module _ {W : Type 0} (of : W → Part) (Good : W → Type 0) where
  ended_spelled : (d e : Part) → Spelled of Good d → Mark f.Semicolon e → Spelled (w.ended f.Semicolon of) Good (λ rest. d (e rest))
  ended_spelled d e (x, p, h) semicolon = (x, p, λ rest. h (e rest) ∙ ap (of x) (semicolon rest))

  some_ended : {n : ℕ} → Some_part (Spelled of Good) n → Some_part (Spelled (w.ended f.Semicolon of) Good) (n + 1)
  some_ended some = some_then ended_spelled some (some_mark f.Semicolon)

  reader_ended : {A : Type 0} {m most : ℕ} (p : List Tok → Read A) → Reader (Spelled of Good) m most p → Reader (Spelled (w.ended f.Semicolon of) Good) (m + 1) most (λ ts. ended (p ts))
  reader_ended {most = most} p h =
      reader_same (λ ts. p ts >>= λ x. after f.Semicolon x.1 >>= λ rest. Ok (x.0, rest)) (λ ts. ended (p ts)) (λ ts. ended_bind (p ts))
      (reader_then {most = most} {more = most} p (λ v ts. after f.Semicolon ts >>= λ rest. Ok (v, rest)) ended_spelled (some_mark f.Semicolon) (omega arith) h (λ v. reader_mark f.Semicolon v))

  -- any number of them
  abbrev AllEnded : Part → Type 0
  AllEnded = Spelled (repeated (w.ended f.Semicolon of)) (Each Good)

  none_ended : (d : Part) → Here d → AllEnded d
  none_ended d here = ([], tt, here)

  more_ended : (d e : Part) → Spelled (w.ended f.Semicolon of) Good d → AllEnded e → AllEnded (λ rest. d (e rest))
  more_ended d e (x, p, h) (xs, q, k) = (x ∷ xs, (p, q), λ rest. h (e rest) ∙ ap (w.ended f.Semicolon of x) (k rest))

abbrev Locals : Part → Type 0
Locals = Spelled w.locals (Each IsProperDeclaration)

locals_begun : (d e : Part) → Spelled (w.ended f.Semicolon w.declaration) IsProperDeclaration d → AllEnded w.declaration IsProperDeclaration e → Locals (λ rest. fixed f.Var ∷ d (e rest))
locals_begun d e (x, p, h) (xs, q, k) = (x ∷ xs, (p, q), λ rest. ap (λ (us : List Tok). fixed f.Var ∷ us) (h (e rest) ∙ ap (w.ended f.Semicolon w.declaration x) (k rest)))

some_locals : Some_part Locals 0
some_locals = some_along (λ d here. ([], tt, here)) some_here

reader_ended_declaration : (n : ℕ) (found : List DeclarationTree) → Reader (Spelled (w.ended f.Semicolon w.declaration) IsProperDeclaration) 1 n (ended_declaration n found)
reader_ended_declaration n found = reader_less (omega arith) (omega arith) (reader_ended w.declaration IsProperDeclaration (declaration n found) (reader_declaration n found))

reader_locals : (n : ℕ) → Reader Locals 0 n (locals n)
unfolding locals
reader_locals n =
    let none : List Tok → Read (List DeclarationTree) = λ ts. Ok ([], ts) in
    let some : List Tok → Read (List DeclarationTree) = λ rest. ended_declaration n [] rest >>= λ x. many begins_name (ended_declaration n) n x.0 x.1 in
    let Some_locals : Part → Type 0 = λ e. Locals (λ rest. fixed f.Var ∷ e rest) in
    reader_case {D = Here} {E = Some_locals} {most = n} {more = n} f.Var none some (locals_by n)
    (λ d here. ([], tt, here)) (λ e h. h) (omega arith) (omega arith) (omega arith) (λ ts us. refl) (λ ts rest. refl) (reader_ok [])
    (reader_then {most = n} {more = n} (ended_declaration n []) (many begins_name (ended_declaration n) n) locals_begun (some_along (none_ended w.declaration IsProperDeclaration) some_here) (omega arith)
    (reader_ended_declaration n [])
    (λ xs. reader_many begins_name (ended_declaration n) (none_ended w.declaration IsProperDeclaration) (more_ended w.declaration IsProperDeclaration) n (reader_ended_declaration n) xs))

-- ---- equations

abbrev Equated : Part → Type 0
Equated = Spelled w.equation IsProperEquation

abbrev Right : Part → Type 0
Right = Spelled tokens IsProper

right_of : (d : Part) → Level 0 d → Right d
right_of d (c, b, p, h) = (c, p, h)

some_right : Some_part Right 1
some_right = some_along right_of (some_level 0 (omega arith))

some_equal : Some_part (Spelled (Led f.Equal tokens) IsProper) 2
some_equal = some_led f.Equal tokens IsProper some_right

single_of : (d e : Part) → Named d → Spelled (Led f.Equal tokens) IsProper e → Equated (λ rest. d (e rest))
single_of d e (x, h) (c, p, k) = (record { left = x ∷ []; right = c }, (tt, p), λ rest. h (e rest) ∙ ap (λ (us : List Tok). identifier x ∷ us) (k rest))

reader_single : (n : ℕ) → Reader Equated 3 n (single n)
unfolding single
reader_single n =
    let made : List ℕ → Tree → EquationTree = λ x e. record { left = x ∷ []; right = e } in
    reader_then {most = n} {more = n} name (λ x ts. after f.Equal ts >>= λ a. expr n 0 a >>= λ e. Ok (made x e.0, e.1)) single_of some_equal (omega arith) reader_name
    (λ x. reader_led f.Equal tokens IsProper (λ a. expr n 0 a >>= λ e. Ok (made x e.0, e.1)) some_right
    (reader_with tokens IsProper (expr n 0) (made x) (reader_along right_of (expr_reader n 0 (omega arith)))))

abbrev IsWrittenCall : Written → Type 0
IsWrittenCall c = IsCall c × IsProper c

abbrev Called : Part → Type 0
Called = Spelled tokens IsWrittenCall

abbrev Operands : Part → Type 0
Operands d = (cs : w.Writtens) × w.AreProper cs × ((rest : List Tok) → d rest ≡ between cs rest)

abbrev Opened : Part → Type 0
Opened d = (cs : w.Writtens) × w.AreProper cs × ((rest : List Tok) → d rest ≡ fixed f.Open ∷ between cs rest)

opened : (e : Part) → Operands e → Opened (λ rest. fixed f.Open ∷ e rest)
opened e (cs, p, h) = (cs, p, λ rest. ap (λ (us : List Tok). fixed f.Open ∷ us) (h rest))

called_of : (d e : Part) → Named d → Opened e → Called (λ rest. d (e rest))
called_of d e (x, h) (cs, p, k) =
    (w.call x cs, (tt, p), λ rest. h (e rest) ∙ ap (λ (us : List Tok). identifier x ∷ us) (k rest) ∙ sym (between-tokens x cs rest))

some_between : Some_part Operands 1
some_between = record { part = λ rest. fixed f.Close ∷ rest; good = (w.none, tt, λ rest. refl); front = front_token (fixed f.Close) front_here }

some_opened : Some_part Opened 2
some_opened = some_after f.Open opened some_between

some_called : Some_part Called 3
some_called = some_then called_of some_name some_opened

between_here : (d e : Part) → Operands d → Here e → Operands (λ rest. d (e rest))
between_here d e (cs, p, h) here = (cs, p, λ rest. h (e rest) ∙ ap (between cs) (here rest))

reader_operands : (n : ℕ) (x : List ℕ) → Reader Operands 1 n (λ ts. operands (expr n) n ts >>= λ xs. Ok (t.call x (trees_of xs.0), xs.1))
reader_operands n x =
    let k : List Tree → List Tok → Read Tree = λ xs ts. Ok (t.call x (trees_of xs), ts) in
    reader_less (omega arith) (omega arith) (reader_then {most = n} {more = n} (operands (expr n) n) k between_here some_here (omega arith) (operands_reader n (expr n) (expr_reader n)) (λ xs. reader_ok (t.call x (trees_of xs))))

reader_call : (n : ℕ) → Reader Called 3 n (call n)
unfolding call
reader_call n =
    reader_then {most = n} {more = n} name (λ x ts. after f.Open ts >>= λ a. operands (expr n) n a >>= λ xs. Ok (t.call x (trees_of xs.0), xs.1)) called_of some_opened (omega arith) reader_name
    (λ x. reader_less (omega arith) (omega arith) (reader_after f.Open (λ a. operands (expr n) n a >>= λ xs. Ok (t.call x (trees_of xs.0), xs.1)) opened some_between (reader_operands n x)))

-- two names and more, up to the parenthesis that closes them
abbrev Closing : Part → Type 0
Closing d = (xs : List (List ℕ)) × ((rest : List Tok) → d rest ≡ repeated (led f.Comma w.name) xs (fixed f.Close ∷ rest))

abbrev Others : Part → Type 0
Others d = (x : List ℕ) × (xs : List (List ℕ)) × ((rest : List Tok) → d rest ≡ fixed f.Comma ∷ identifier x ∷ repeated (led f.Comma w.name) xs (fixed f.Close ∷ rest))

abbrev Tuple : Part → Type 0
Tuple d = (x y : List ℕ) × (zs : List (List ℕ)) × ((rest : List Tok) → d rest ≡ separated f.Comma w.name (x ∷ y ∷ zs) (fixed f.Close ∷ rest))

closing : (d e : Part) → Further d → Mark f.Close e → Closing (λ rest. d (e rest))
closing d e (xs, h) close = (xs, λ rest. h (e rest) ∙ ap (repeated (led f.Comma w.name) xs) (close rest))

others_of : (d e : Part) → OneMore d → Closing e → Others (λ rest. d (e rest))
others_of d e (x, h) (xs, k) = (x, xs, λ rest. h (e rest) ∙ ap (λ (us : List Tok). fixed f.Comma ∷ identifier x ∷ us) (k rest))

tuple_of : (d e : Part) → Named d → Others e → Tuple (λ rest. d (e rest))
tuple_of d e (x, h) (y, zs, k) = (x, y, zs, λ rest. h (e rest) ∙ ap (λ (us : List Tok). identifier x ∷ us) (k rest))

some_closing : Some_part Closing 1
some_closing = some_then closing some_further (some_mark f.Close)

some_others : Some_part Others 3
some_others = some_then others_of some_more some_closing

some_tuple : Some_part Tuple 4
some_tuple = some_then tuple_of some_name some_others

reader_closing : (n : ℕ) (found : List (List ℕ)) → Reader Closing 1 n (λ ts. many (begins f.Comma) further_name n found ts >>= λ zs. after f.Close zs.1 >>= λ rest. Ok (zs.0, rest))
reader_closing n found =
    reader_then {most = n} {more = n} (many (begins f.Comma) further_name n found) (λ zs ts. after f.Close ts >>= λ rest. Ok (zs, rest)) closing (some_mark f.Close) (omega arith) (reader_further n found) (λ zs. reader_mark f.Close zs)

reader_tuple_names : (n : ℕ) → Reader Tuple 4 n (tuple_names n)
unfolding tuple_names
reader_tuple_names n =
    reader_then {most = n} {more = n} name (λ x ts. further_name (x ∷ []) ts >>= λ y. many (begins f.Comma) further_name n y.0 y.1 >>= λ zs. after f.Close zs.1 >>= λ rest. Ok (zs.0, rest)) tuple_of some_others (omega arith) reader_name
    (λ x. reader_then {most = n} {more = n} (further_name (x ∷ [])) (λ y ts. many (begins f.Comma) further_name n y ts >>= λ zs. after f.Close zs.1 >>= λ rest. Ok (zs.0, rest)) others_of some_closing (omega arith) (reader_more {most = n} (x ∷ [])) (λ y. reader_closing n y))

abbrev EqualCall : Part → Type 0
EqualCall = Spelled (Led f.Equal tokens) IsWrittenCall

some_equal_call : Some_part EqualCall 4
some_equal_call = some_led f.Equal tokens IsWrittenCall some_called

tuple_equation : (d e : Part) → Tuple d → EqualCall e → Equated (λ rest. fixed f.Open ∷ d (e rest))
tuple_equation d e (x, y, zs, h) (c, p, k) =
    (record { left = x ∷ y ∷ zs; right = c }, (p.0, p.1), λ rest. ap (λ (us : List Tok). fixed f.Open ∷ us) (h (e rest) ∙ ap (λ (us : List Tok). separated f.Comma w.name (x ∷ y ∷ zs) (fixed f.Close ∷ us)) (k rest)))

reader_tuple : (n : ℕ) → Reader (λ e. Equated (λ rest. fixed f.Open ∷ e rest)) 8 n (tuple n)
unfolding tuple
reader_tuple n =
    let made : List (List ℕ) → Tree → EquationTree = λ xs e. record { left = xs; right = e } in
    reader_then {most = n} {more = n} (tuple_names n) (λ xs ts. after f.Equal ts >>= λ a. call n a >>= λ e. Ok (made xs e.0, e.1)) tuple_equation some_equal_call (omega arith) (reader_tuple_names n)
    (λ xs. reader_led f.Equal tokens IsWrittenCall (λ a. call n a >>= λ e. Ok (made xs e.0, e.1)) some_called (reader_with tokens IsWrittenCall (call n) (made xs) (reader_call n)))

reader_equation : (n : ℕ) → Reader Equated 3 n (equation n)
unfolding equation
reader_equation n =
    let In_parentheses : Part → Type 0 = λ e. Equated (λ rest. fixed f.Open ∷ e rest) in
    reader_case {D = Equated} {E = In_parentheses} {most = n} {more = n} f.Open (single n) (tuple n) (equation_by n) (λ d h. h) (λ e h. h) (omega arith) (omega arith) (omega arith) (λ ts us. refl) (λ ts rest. refl) (reader_single n) (reader_tuple n)

abbrev EndedEquation : Part → Type 0
EndedEquation = Spelled (w.ended f.Semicolon w.equation) IsProperEquation

reader_ended_equation : (n : ℕ) (found : List EquationTree) → Reader EndedEquation 1 n (ended_equation n found)
reader_ended_equation n found =
    let made : EquationTree → List EquationTree = λ e. found ++ e ∷ [] in
    reader_less (omega arith) (omega arith)
    (reader_with (w.ended f.Semicolon w.equation) IsProperEquation (λ ts. ended (equation n ts)) made (reader_ended w.equation IsProperEquation (equation n) (reader_equation n)))

abbrev Equations : Part → Type 0
Equations = AllEnded w.equation IsProperEquation

some_equations : Some_part Equations 0
some_equations = some_along (none_ended w.equation IsProperEquation) some_here

reader_equations : (n : ℕ) → Reader Equations 0 n (equations n)
unfolding equations
reader_equations n = reader_many begins_equation (ended_equation n) (none_ended w.equation IsProperEquation) (more_ended w.equation IsProperEquation) n (reader_ended_equation n) []

-- ---- nodes

abbrev Any : {A : Type 0} → A → Type 0
Any x = Unit {0}

abbrev Optional : Part → Type 0
Optional = Spelled optional Any

some_optional : Some_part Optional 0
some_optional = some_along (λ d here. (false, tt, here)) some_here

optional_front : (b : Bool) → Front 0 (optional b)
optional_front false = front_here
optional_front true = front_less (omega arith) (front_token (fixed f.Semicolon) front_here)

optional_done : {A : Type 0} (v : A) (ts : List Tok) (x : A × List Tok) → ◌≡◌ {A = Read A} (Ok (v, past f.Semicolon ts)) (Ok x) → Done Optional 0 ts x.1
optional_done {A = A} v ts x e =
    let (b, h) = past-is ts in
    record {
      part = optional b;
      good = (b, tt, λ rest. refl);
      front = optional_front b;
      at = ap (λ (y : A × List Tok). optional b y.1) (sym (same_ok (v, past f.Semicolon ts) x e)) ∙ h;
    }

reader_optional : {A : Type 0} {most : ℕ} (v : A) → Reader Optional 0 most (λ ts. Ok (v, past f.Semicolon ts))
reader_optional v = record { done = optional_done v; stopped = λ ts us short e. absurd cc }

-- a token, and a semicolon that may stand behind it
abbrev Last : Fixed → Bool → Part
Last g = Led g optional

some_last : (g : Fixed) → Some_part (Spelled (Last g) Any) 1
some_last g = some_led g optional Any some_optional

reader_last : {A : Type 0} {most : ℕ} (g : Fixed) (v : A) → Reader (Spelled (Last g) Any) 1 most (λ ts. after g ts >>= λ rest. Ok (v, past f.Semicolon rest))
reader_last {most = most} g v = reader_led g optional Any (λ rest. Ok (v, past f.Semicolon rest)) some_optional (reader_optional {most = most} v)

abbrev Body : Part → Type 0
Body d = (es : List WrittenEquation) × (b : Bool) × Each IsProperEquation es × ((rest : List Tok) → d rest ≡ fixed f.Let ∷ repeated (w.ended f.Semicolon w.equation) es (fixed f.Tel ∷ optional b rest))

abbrev InBody : Part → Type 0
InBody = Spelled (Both (repeated (w.ended f.Semicolon w.equation)) (Last f.Tel)) (AreGood (Each IsProperEquation) Any)

some_in_body : Some_part InBody 1
some_in_body = some_both (repeated (w.ended f.Semicolon w.equation)) (Each IsProperEquation) (Last f.Tel) Any some_equations (some_last f.Tel)

body_of : (e : Part) → InBody e → Body (λ rest. fixed f.Let ∷ e rest)
body_of e ((es, b), (p, q), h) = (es, b, p, λ rest. ap (λ (us : List Tok). fixed f.Let ∷ us) (h rest))

some_body : Some_part Body 2
some_body = some_after f.Let body_of some_in_body

reader_body : (n : ℕ) → Reader Body 2 n (body n)
unfolding body
reader_body n =
    reader_less (omega arith) (omega arith)
    (reader_after f.Let (λ a. equations n a >>= λ es. after f.Tel es.1 >>= λ rest. Ok (es.0, past f.Semicolon rest)) body_of some_in_body
    (reader_both (repeated (w.ended f.Semicolon w.equation)) (Each IsProperEquation) (Last f.Tel) Any (equations n) (λ es ts. after f.Tel ts >>= λ rest. Ok (es, past f.Semicolon rest)) (some_last f.Tel) (reader_equations n) (λ es. reader_last f.Tel es)))

-- a heading, from its end to its beginning
abbrev Outputs_end : List WrittenDeclaration × Bool → Part
Outputs_end = Both decls (Last f.Close)

abbrev AreOutputs : List WrittenDeclaration × Bool → Type 0
AreOutputs = AreGood AreDeclared Any

abbrev Returned : List WrittenDeclaration × Bool → Part
Returned = Led f.Close (Led f.Returns (Led f.Open Outputs_end))

abbrev Parameters : List WrittenDeclaration × (List WrittenDeclaration × Bool) → Part
Parameters = Both decls Returned

abbrev AreParameters : List WrittenDeclaration × (List WrittenDeclaration × Bool) → Type 0
AreParameters = AreGood (Each IsProperDeclaration) AreOutputs

abbrev headed : List ℕ → List DeclarationTree → List DeclarationTree → NodeTree
headed v ins outs = record { name = v; inputs = ins; outputs = outs; locals = []; equations = [] }

some_outputs : Some_part (Spelled Outputs_end AreOutputs) 4
some_outputs = some_both decls AreDeclared (Last f.Close) Any some_declarations (some_last f.Close)

reader_outputs : (n : ℕ) (v : List ℕ) (ins : List DeclarationTree) → Reader (Spelled Outputs_end AreOutputs) 4 n (λ ts. declarations n ts >>= λ outs. after f.Close outs.1 >>= λ rest. Ok (headed v ins outs.0, past f.Semicolon rest))
reader_outputs n v ins =
    reader_both decls AreDeclared (Last f.Close) Any (declarations n) (λ outs ts. after f.Close ts >>= λ rest. Ok (headed v ins outs, past f.Semicolon rest)) (some_last f.Close) (reader_declarations n)
    (λ outs. reader_last f.Close (headed v ins outs))

some_open_outputs : Some_part (Spelled (Led f.Open Outputs_end) AreOutputs) 5
some_open_outputs = some_led f.Open Outputs_end AreOutputs some_outputs

some_returns : Some_part (Spelled (Led f.Returns (Led f.Open Outputs_end)) AreOutputs) 6
some_returns = some_led f.Returns (Led f.Open Outputs_end) AreOutputs some_open_outputs

some_returned : Some_part (Spelled Returned AreOutputs) 7
some_returned = some_led f.Close (Led f.Returns (Led f.Open Outputs_end)) AreOutputs some_returns

reader_returned : (n : ℕ) (v : List ℕ) (ins : List DeclarationTree)
    → Reader (Spelled Returned AreOutputs) 7 n (λ ts. after f.Close ts >>= λ c. after f.Returns c >>= λ d. after f.Open d >>= λ e. declarations n e >>= λ outs. after f.Close outs.1 >>= λ rest. Ok (headed v ins outs.0, past f.Semicolon rest))
reader_returned n v ins =
    let last : List Tok → Read NodeTree = λ e. declarations n e >>= λ outs. after f.Close outs.1 >>= λ rest. Ok (headed v ins outs.0, past f.Semicolon rest) in
    reader_led f.Close (Led f.Returns (Led f.Open Outputs_end)) AreOutputs (λ c. after f.Returns c >>= λ d. after f.Open d >>= last) some_returns
    (reader_led f.Returns (Led f.Open Outputs_end) AreOutputs (λ d. after f.Open d >>= last) some_open_outputs
    (reader_led f.Open Outputs_end AreOutputs last some_outputs (reader_outputs n v ins)))

some_parameters : Some_part (Spelled Parameters AreParameters) 7
some_parameters = some_both decls (Each IsProperDeclaration) Returned AreOutputs some_inputs some_returned

reader_parameters : (n : ℕ) (v : List ℕ)
    → Reader (Spelled Parameters AreParameters) 7 n (λ b. inputs n b >>= λ ins. after f.Close ins.1 >>= λ c. after f.Returns c >>= λ d. after f.Open d >>= λ e. declarations n e >>= λ outs. after f.Close outs.1 >>= λ rest. Ok (headed v ins.0 outs.0, past f.Semicolon rest))
reader_parameters n v =
    reader_both decls (Each IsProperDeclaration) Returned AreOutputs (inputs n)
    (λ ins ts. after f.Close ts >>= λ c. after f.Returns c >>= λ d. after f.Open d >>= λ e. declarations n e >>= λ outs. after f.Close outs.1 >>= λ rest. Ok (headed v ins outs.0, past f.Semicolon rest))
    some_returned (reader_inputs n) (λ ins. reader_returned n v ins)

abbrev Named_of : List ℕ → Part
Named_of x rest = identifier x ∷ rest

abbrev Name_and : List ℕ × (List WrittenDeclaration × (List WrittenDeclaration × Bool)) → Part
Name_and = Both Named_of (Led f.Open Parameters)

abbrev IsNameAnd : List ℕ × (List WrittenDeclaration × (List WrittenDeclaration × Bool)) → Type 0
IsNameAnd = AreGood Any AreParameters

spelled_name : (d : Part) → Named d → Spelled Named_of Any d
spelled_name d (x, h) = (x, tt, h)

some_open_parameters : Some_part (Spelled (Led f.Open Parameters) AreParameters) 8
some_open_parameters = some_led f.Open Parameters AreParameters some_parameters

some_name_and : Some_part (Spelled Name_and IsNameAnd) 9
some_name_and = some_both Named_of Any (Led f.Open Parameters) AreParameters (some_along spelled_name some_name) some_open_parameters

abbrev Parameters_of : ℕ → List ℕ → List Tok → Read NodeTree
Parameters_of n v b = inputs n b >>= λ ins. after f.Close ins.1 >>= λ c. after f.Returns c >>= λ d. after f.Open d >>= λ e. declarations n e >>= λ outs. after f.Close outs.1 >>= λ rest. Ok (headed v ins.0 outs.0, past f.Semicolon rest)

reader_name_and : (n : ℕ) → Reader (Spelled Name_and IsNameAnd) 9 n (λ a. name a >>= λ x. after f.Open x.1 >>= Parameters_of n x.0)
reader_name_and n =
    reader_both Named_of Any (Led f.Open Parameters) AreParameters name (λ v ts. after f.Open ts >>= Parameters_of n v) some_open_parameters (reader_along spelled_name reader_name)
    (λ v. reader_led f.Open Parameters AreParameters (Parameters_of n v) some_parameters (reader_parameters n v))

abbrev Heading : Part → Type 0
Heading = Spelled (Led f.Node Name_and) IsNameAnd

some_heading : Some_part Heading 10
some_heading = some_led f.Node Name_and IsNameAnd some_name_and

reader_heading : (n : ℕ) → Reader Heading 10 n (heading n)
unfolding heading
reader_heading n = reader_led f.Node Name_and IsNameAnd (λ a. name a >>= λ x. after f.Open x.1 >>= Parameters_of n x.0) some_name_and (reader_name_and n)

abbrev LocalsBody : Part → Type 0
LocalsBody d = (ls : List WrittenDeclaration) × (es : List WrittenEquation) × (b : Bool) × Each IsProperDeclaration ls × Each IsProperEquation es
    × ((rest : List Tok) → d rest ≡ w.locals ls (fixed f.Let ∷ repeated (w.ended f.Semicolon w.equation) es (fixed f.Tel ∷ optional b rest)))

locals_body : (d e : Part) → Locals d → Body e → LocalsBody (λ rest. d (e rest))
locals_body d e (ls, p, h) (es, b, q, k) = (ls, es, b, p, q, λ rest. h (e rest) ∙ ap (w.locals ls) (k rest))

some_locals_body : Some_part LocalsBody 2
some_locals_body = some_then locals_body some_locals some_body

abbrev IsNode : Part → Type 0
IsNode = Spelled w.node IsProperNode

node_of : (d e : Part) → Heading d → LocalsBody e → IsNode (λ rest. d (e rest))
node_of d e ((v, (ins, (outs, a))), (p, (q, (r, s))), h) (ls, es, b, pl, pe, k) = (
  record { name = v; inputs = ins; outputs = outs; is_heading_ended = a; locals = ls; equations = es; is_ended = b },
  (q, r.0, r.1, pl, pe),
  λ rest. h (e rest) ∙ ap (λ (us : List Tok). fixed f.Node ∷ identifier v ∷ fixed f.Open ∷ decls ins (fixed f.Close ∷ fixed f.Returns ∷ fixed f.Open ∷ decls outs (fixed f.Close ∷ optional a us))) (k rest),
)

some_node : Some_part IsNode 12
some_node = some_then node_of some_heading some_locals_body

abbrev completed : NodeTree → List DeclarationTree → List EquationTree → NodeTree
completed h ls es = record { name = h.name; inputs = h.inputs; outputs = h.outputs; locals = ls; equations = es }

reader_node : (n : ℕ) → Reader IsNode 12 n (node n)
unfolding node
reader_node n =
    let last : NodeTree → List DeclarationTree → List EquationTree → List Tok → Read NodeTree = λ h ls es ts. Ok (completed h ls es, ts) in
    reader_then {most = n} {more = n} (heading n) (λ h ts. locals n ts >>= λ ls. body n ls.1 >>= λ es. last h ls.0 es.0 es.1) node_of some_locals_body (omega arith) (reader_heading n)
    (λ h. reader_then {most = n} {more = n} (locals n) (λ ls ts. body n ts >>= λ es. last h ls es.0 es.1) locals_body some_body (omega arith) (reader_locals n)
    (λ ls. reader_less (omega arith) (omega arith) (reader_then {most = n} {more = n} (body n) (last h ls) (λ d e (es, b, p, g) here. (es, b, p, λ rest. g (e rest) ∙ ap (λ (us : List Tok). fixed f.Let ∷ repeated (w.ended f.Semicolon w.equation) es (fixed f.Tel ∷ optional b us)) (here rest))) some_here (omega arith) (reader_body n) (λ es. reader_ok (completed h ls es)))))

-- ---- programs

abbrev Nodes : Part → Type 0
Nodes = Spelled (repeated w.node) (Each IsProperNode)

none_of_nodes : (d : Part) → Here d → Nodes d
none_of_nodes d here = ([], tt, here)

more_nodes : (d e : Part) → IsNode d → Nodes e → Nodes (λ rest. d (e rest))
more_nodes d e (x, p, h) (xs, q, k) = (x ∷ xs, (p, q), λ rest. h (e rest) ∙ ap (w.node x) (k rest))

-- one and more
abbrev AreNodes : List WrittenNode → Type 0
AreNodes ps = IsNonempty ps × Each IsProperNode ps

abbrev SomeNodes : Part → Type 0
SomeNodes = Spelled (repeated w.node) AreNodes

nodes_of : (d e : Part) → IsNode d → Nodes e → SomeNodes (λ rest. d (e rest))
nodes_of d e (x, p, h) (xs, q, k) = (x ∷ xs, (tt, (p, q)), λ rest. h (e rest) ∙ ap (w.node x) (k rest))

reader_further_node : (n : ℕ) (found : List NodeTree) → Reader IsNode 1 n (further_node n found)
reader_further_node n found =
    let made : NodeTree → List NodeTree = λ x. found ++ x ∷ [] in
    reader_less (omega arith) (omega arith) (reader_with w.node IsProperNode (node n) made (reader_node n))

reader_nodes : (n : ℕ) → Reader SomeNodes 1 n (nodes n)
unfolding nodes
reader_nodes n =
    reader_then {most = n} {more = n} (further_node n []) (many (begins f.Node) (further_node n) n) nodes_of (some_along none_of_nodes some_here) (omega arith) (reader_further_node n [])
    (λ xs. reader_many (begins f.Node) (further_node n) none_of_nodes more_nodes n (reader_further_node n) xs)

some_nodes : Some_part SomeNodes 1
some_nodes = some_then {m = 1} {n = 0} nodes_of (record { part = some_node.part; good = some_node.good; front = front_less (omega arith) some_node.front }) (some_along none_of_nodes some_here)

-- ---- types

-- a declaration of a type, from its end to its beginning
abbrev Braced : List (List ℕ) → Part
Braced xs rest = separated f.Comma w.name xs (fixed f.CloseBrace ∷ fixed f.Semicolon ∷ rest)

abbrev Ending : Part → Type 0
Ending d = (rest : List Tok) → d rest ≡ fixed f.CloseBrace ∷ fixed f.Semicolon ∷ rest

ending : (e : Part) → Mark f.Semicolon e → Ending (λ rest. fixed f.CloseBrace ∷ e rest)
ending e h = λ rest. ap (λ (us : List Tok). fixed f.CloseBrace ∷ us) (h rest)

some_ending : Some_part Ending 2
some_ending = some_after f.CloseBrace ending (some_mark f.Semicolon)

reader_ending : {A : Type 0} {most : ℕ} (v : A) → Reader Ending 2 most (λ ts. after f.CloseBrace ts >>= λ us. after f.Semicolon us >>= λ rest. Ok (v, rest))
reader_ending {most = most} v =
    reader_less (omega arith) (omega arith) (reader_after f.CloseBrace (λ us. after f.Semicolon us >>= λ rest. Ok (v, rest)) ending (some_mark f.Semicolon) (reader_mark {most = most} f.Semicolon v))

braced : (d e : Part) → Names d → Ending e → Spelled Braced IsNonempty (λ rest. d (e rest))
braced d e (xs, p, h) k = (xs, p, λ rest. h (e rest) ∙ ap (separated f.Comma w.name xs) (k rest))

some_braced : Some_part (Spelled Braced IsNonempty) 3
some_braced = some_then braced some_names some_ending

abbrev enumeration : List ℕ → List (List ℕ) → TypeTree
enumeration v xs = record { name = v; names = xs }

reader_braced : (n : ℕ) (found : List TypeTree) (v : List ℕ)
    → Reader (Spelled Braced IsNonempty) 3 n (λ ts. names n ts >>= λ xs. after f.CloseBrace xs.1 >>= λ us. after f.Semicolon us >>= λ rest. Ok (found ++ enumeration v xs.0 ∷ [], rest))
reader_braced n found v =
    reader_then {most = n} {more = n} (names n) (λ xs ts. after f.CloseBrace ts >>= λ us. after f.Semicolon us >>= λ rest. Ok (found ++ enumeration v xs ∷ [], rest)) braced some_ending (omega arith) (reader_names n)
    (λ xs. reader_ending {most = n} (found ++ enumeration v xs ∷ []))

abbrev Enumerated : List (List ℕ) → Part
Enumerated = Led f.Equal (Led f.Enum (Led f.OpenBrace Braced))

some_open_brace : Some_part (Spelled (Led f.OpenBrace Braced) IsNonempty) 4
some_open_brace = some_led f.OpenBrace Braced IsNonempty some_braced

some_enum : Some_part (Spelled (Led f.Enum (Led f.OpenBrace Braced)) IsNonempty) 5
some_enum = some_led f.Enum (Led f.OpenBrace Braced) IsNonempty some_open_brace

some_enumerated : Some_part (Spelled Enumerated IsNonempty) 6
some_enumerated = some_led f.Equal (Led f.Enum (Led f.OpenBrace Braced)) IsNonempty some_enum

abbrev Names_of : ℕ → List TypeTree → List ℕ → List Tok → Read (List TypeTree)
Names_of n found v ts = names n ts >>= λ xs. after f.CloseBrace xs.1 >>= λ us. after f.Semicolon us >>= λ rest. Ok (found ++ enumeration v xs.0 ∷ [], rest)

reader_enumerated : (n : ℕ) (found : List TypeTree) (v : List ℕ)
    → Reader (Spelled Enumerated IsNonempty) 6 n (λ ts. after f.Equal ts >>= λ b. after f.Enum b >>= λ c. after f.OpenBrace c >>= Names_of n found v)
reader_enumerated n found v =
    reader_led f.Equal (Led f.Enum (Led f.OpenBrace Braced)) IsNonempty (λ b. after f.Enum b >>= λ c. after f.OpenBrace c >>= Names_of n found v) some_enum
    (reader_led f.Enum (Led f.OpenBrace Braced) IsNonempty (λ c. after f.OpenBrace c >>= Names_of n found v) some_open_brace
    (reader_led f.OpenBrace Braced IsNonempty (Names_of n found v) some_braced (reader_braced n found v)))

abbrev TypeBody : List ℕ × List (List ℕ) → Part
TypeBody = Both Named_of Enumerated

abbrev IsTypeBody : List ℕ × List (List ℕ) → Type 0
IsTypeBody = AreGood Any IsNonempty

some_type_body : Some_part (Spelled TypeBody IsTypeBody) 7
some_type_body = some_both Named_of Any Enumerated IsNonempty (some_along spelled_name some_name) some_enumerated

reader_type_body : (n : ℕ) (found : List TypeTree)
    → Reader (Spelled TypeBody IsTypeBody) 7 n (λ a. name a >>= λ x. after f.Equal x.1 >>= λ b. after f.Enum b >>= λ c. after f.OpenBrace c >>= Names_of n found x.0)
reader_type_body n found =
    reader_both Named_of Any Enumerated IsNonempty name (λ v ts. after f.Equal ts >>= λ b. after f.Enum b >>= λ c. after f.OpenBrace c >>= Names_of n found v) some_enumerated (reader_along spelled_name reader_name)
    (reader_enumerated n found)

abbrev IsType : Part → Type 0
IsType = Spelled w.type_declaration IsProperType

type_of : (d : Part) → Spelled (Led f.Type TypeBody) IsTypeBody d → IsType d
type_of d ((v, xs), (p, q), h) = (enumeration v xs, q, h)

reader_type_declaration : (n : ℕ) (found : List TypeTree) → Reader IsType 1 n (type_declaration n found)
unfolding type_declaration
reader_type_declaration n found =
    reader_less (omega arith) (omega arith) (reader_along type_of
    (reader_led f.Type TypeBody IsTypeBody (λ a. name a >>= λ x. after f.Equal x.1 >>= λ b. after f.Enum b >>= λ c. after f.OpenBrace c >>= Names_of n found x.0) some_type_body (reader_type_body n found)))

abbrev Types : Part → Type 0
Types = Spelled (repeated w.type_declaration) (Each IsProperType)

none_of_types : (d : Part) → Here d → Types d
none_of_types d here = ([], tt, here)

more_types : (d e : Part) → IsType d → Types e → Types (λ rest. d (e rest))
more_types d e (x, p, h) (xs, q, k) = (x ∷ xs, (p, q), λ rest. h (e rest) ∙ ap (w.type_declaration x) (k rest))

reader_types : (n : ℕ) → Reader Types 0 n (types n)
unfolding types
reader_types n = reader_many (begins f.Type) (type_declaration n) none_of_types more_types n (reader_type_declaration n) []

-- ---- whole programs

abbrev Program : Part → Type 0
Program = Spelled w.program w.IsProperProgram

program_of : (d e : Part) → Types d → SomeNodes e → Program (λ rest. d (e rest))
program_of d e (xs, p, h) (ps, q, k) = (record { types = xs; nodes = ps }, (q.0, q.1, p), λ rest. h (e rest) ∙ ap (repeated w.type_declaration xs) (k rest))

reader_program : (n : ℕ) → Reader Program 1 n (program n)
unfolding program
reader_program n =
    let whole : List TypeTree → List NodeTree → ProgramTree = λ ds ns. record { types = ds; nodes = ns } in
    reader_then {most = n} {more = n} (types n) (λ ds ts. nodes n ts >>= λ ns. Ok (whole ds ns.0, ns.1)) program_of some_nodes (omega arith) (reader_types n)
    (λ ds. reader_with (repeated w.node) AreNodes (nodes n) (whole ds) (reader_nodes n))

stopped_program : (ts us : List Tok) → Stopped Program ts us → GoesOn ts us
stopped_program ts us h =
    let (p, proper, same) = h.good in
    (h.begun.before, h.begun.others, program_tree p, h.begun.parts, (p, proper, sym (same []) ∙ h.begun.is [] ∙ ap (λ (vs : List Tok). h.begun.before ++ vs) (append-nil h.begun.others), refl))

refused_rest : (x : Tok) (rest us : List Tok) → ◌≡◌ {A = Result ProgramTree (List Tok)} (Err (x ∷ rest)) (Err us) → us ≡ x ∷ rest
refused_rest x rest us e = cc

read_too_far : (ts us : List Tok) (x : ProgramTree × List Tok) → Done Program 1 ts x.1 → to_the_end x ≡ Err us → GoesOn ts us
read_too_far ts us (found, []) h e = absurd cc
read_too_far ts us (found, x ∷ rest) h e =
    let (p, proper, same) = h.good in
    let rest_is : us ≡ x ∷ rest = refused_rest x rest us e in
    let parts : h.front.own ++ (x ∷ rest) ≡ ts = sym (h.front.is (x ∷ rest)) ∙ h.at in
    (h.front.own, [], program_tree p, ap (λ (vs : List Tok). h.front.own ++ vs) rest_is ∙ parts, (p, proper, sym (same []) ∙ h.front.is [], refl))

goes_on_by : (ts us : List Tok) → (program (suc (length ts)) ts ≡ Err us) ⊎ ((x : ProgramTree × List Tok) × (program (suc (length ts)) ts ≡ Ok x) × (to_the_end x ≡ Err us)) → GoesOn ts us
goes_on_by ts us (inl e) = stopped_program ts us ((reader_program (suc (length ts))).stopped ts us (omega arith) e)
goes_on_by ts us (inr (x, e1, e2)) = read_too_far ts us x ((reader_program (suc (length ts))).done ts x e1) e2

-- All that stands before a refused token goes on to a program.
pub refused_goes_on : (ts us : List Tok) → all_of ts ≡ Err us → GoesOn ts us
unfolding all_of
refused_goes_on ts us e = goes_on_by ts us (bind_err (program (suc (length ts)) ts) to_the_end us e)
