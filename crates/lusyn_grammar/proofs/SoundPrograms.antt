-- What is read of equations, nodes and programs is spelled so.
use Rattle.std.proofs.Common.{◌≡◌, ℕ, suc, Result, Ok, Err, List, ◌∷◌, [], ◌++◌, refl, ap, sym, ◌∙◌, Bool, false, map, length, arith}
use Rattle.std.specs.List.{flat_map}
use Rattle.std.proofs.lemmas.List.Concat.{flat_map_single}
use Rattle.lutree.specs.Tree.{Tree, trees_of, TypeTree, DeclarationTree, EquationTree, NodeTree, ProgramTree}
use Rattle.lutree.specs.Tree as t
use Rattle.lusyn_grammar.specs.declared.token.Fixed.TheVariants as f
use Rattle.lusyn_grammar.specs.Tokens.{Tok, identifier, fixed}
use Rattle.lusyn_grammar.specs.Grammar as w
use Rattle.lusyn_grammar.specs.Grammar.{Written, WrittenDeclaration, WrittenEquation, WrittenNode, WrittenProgram, tree, tokens, repeated, led, separated, optional, left_tokens, Each, IsNonempty, IsProper, IsCall, IsDefinedBy, IsProperDeclaration, IsProperEquation, IsProperNode, IsProperType, IsProperProgram, equation_tree, node_tree, program_tree, Spells}
use Rattle.lusyn_grammar.specs.Reading.{after, begins, past, name, many, expr, operands, further_name, names, declarations, inputs, ended, locals, single, call, tuple_names, tuple, equation_by, equation, ended_equation, begins_equation, equations, heading, body, node, further_node, nodes, type_declaration, types, program, to_the_end, all_of}
use Rattle.lusyn_grammar.proofs.Pieces.{bind_ok, same_ok, after-is, name-is, past-is, Reads, reads, Begins, Sound, many_sound}
use Rattle.lusyn_grammar.proofs.SoundExpressions.{Expressed, Holds, between-tokens, operands_sound, expr_sound}
use Rattle.lusyn_grammar.proofs.SoundDeclarations.{Any, alone, flat_map-alone, itself, further_name_sound, names_sound, AreDeclarations, declarations_tree, declarations_sound, inputs_sound, ended-is, locals_sound}

single_spelled : (v : List ℕ) (c : Written) (ts a b rest : List Tok) → identifier v ∷ a ≡ ts → fixed f.Equal ∷ b ≡ a → tokens c rest ≡ b → identifier v ∷ fixed f.Equal ∷ tokens c rest ≡ ts
single_spelled v c ts a b rest h1 h2 h3 = rw (h3, h2) h1

abbrev defined : List (List ℕ) → Tree → EquationTree
defined left right = record { left = left; right = right }

single_sound : (n : ℕ) (ts : List Tok) (x : EquationTree × List Tok) → single n ts ≡ Ok x → Reads w.equation equation_tree IsProperEquation ts x
unfolding single
single_sound n ts x e =
    let (v, one, e1) = bind_ok (name ts) _ x e in
    let (a, two, e2) = bind_ok (after f.Equal v.1) _ x e1 in
    let (c, three, e3) = bind_ok (expr n 0 a) (λ c. Ok (defined (v.0 ∷ []) c.0, c.1)) x e2 in
    let d : Expressed 0 a c = expr_sound n 0 a c (omega arith) three in
    let q : WrittenEquation = record { left = v.0 ∷ []; right = d.written } in
    reads w.equation equation_tree IsProperEquation q ts c.1 (defined (v.0 ∷ []) c.0) x (tt, d.proper.1)
    (single_spelled v.0 d.written ts v.1 a c.1 (name-is ts v one) (after-is f.Equal v.1 a two) d.spelled)
    (ap (defined (v.0 ∷ [])) d.stands) (same_ok (defined (v.0 ∷ []) c.0, c.1) x e3)

abbrev IsWrittenCall : Written → Type 0
IsWrittenCall c = IsCall c × IsProper c

call_sound : (n : ℕ) (ts : List Tok) (x : Tree × List Tok) → call n ts ≡ Ok x → Reads tokens tree IsWrittenCall ts x
unfolding call
call_sound n ts x e =
    let (g, one, e1) = bind_ok (name ts) _ x e in
    let (a, two, e2) = bind_ok (after f.Open g.1) _ x e1 in
    let (xs, three, e3) = bind_ok (operands (expr n) n a) (λ xs. Ok (t.call g.0 (trees_of xs.0), xs.1)) x e2 in
    let r : Holds (expr n) (expr_sound n) a xs = operands_sound (expr n) (expr_sound n) n a xs three in
    reads tokens tree IsWrittenCall (w.call g.0 r.written) ts xs.1 (t.call g.0 (trees_of xs.0)) x (tt, r.proper)
    (between-tokens g.0 r.written xs.1 ∙ ap (λ (us : List Tok). identifier g.0 ∷ fixed f.Open ∷ us) r.spelled ∙ ap (λ (us : List Tok). identifier g.0 ∷ us) (after-is f.Open g.1 a two) ∙ name-is ts g one)
    (ap (t.call g.0) r.stands) (same_ok (t.call g.0 (trees_of xs.0), xs.1) x e3)

-- two and more
abbrev IsTuple : List (List ℕ) → Type 0
IsTuple [] = ⊥
IsTuple (x ∷ []) = ⊥
IsTuple (x ∷ y ∷ zs) = Unit {0}

abbrev tuple_tokens : List (List ℕ) → List Tok → List Tok
tuple_tokens xs rest = separated f.Comma w.name xs (fixed f.Close ∷ rest)

left_tokens-tuple : (xs : List (List ℕ)) (rest : List Tok) → IsTuple xs → left_tokens xs rest ≡ fixed f.Open ∷ tuple_tokens xs rest
left_tokens-tuple [] rest h = absurd h
left_tokens-tuple (x ∷ []) rest h = absurd h
left_tokens-tuple (x ∷ y ∷ zs) rest h = refl

defined_by_call : (xs : List (List ℕ)) (c : Written) → IsTuple xs → IsCall c → IsDefinedBy xs (IsCall c)
defined_by_call [] c h k = absurd h
defined_by_call (x ∷ []) c h k = absurd h
defined_by_call (x ∷ y ∷ zs) c h k = k

tuple_names_sound : (n : ℕ) (ts : List Tok) (x : List (List ℕ) × List Tok) → tuple_names n ts ≡ Ok x → Reads tuple_tokens itself IsTuple ts x
unfolding tuple_names
tuple_names_sound n ts x e =
    let (v, one, e1) = bind_ok (name ts) _ x e in
    let (y, two, e2) = bind_ok (further_name (v.0 ∷ []) v.1) _ x e1 in
    let (zs, three, e3) = bind_ok (many (begins f.Comma) further_name n y.0 y.1) _ x e2 in
    let (rest, four, e4) = bind_ok (after f.Close zs.1) (λ rest. Ok (zs.0, rest)) x e3 in
    let h : Begins (led f.Comma w.name) alone Any (v.0 ∷ []) v.1 y = further_name_sound (v.0 ∷ []) v.1 y two in
    let k : Begins (repeated (led f.Comma w.name)) (flat_map alone) (Each Any) y.0 y.1 zs =
    many_sound (begins f.Comma) further_name (led f.Comma w.name) alone Any further_name_sound n y.0 y.1 zs three in
    reads tuple_tokens itself IsTuple (v.0 ∷ h.written ∷ k.written) ts rest zs.0 x tt
    (ap (λ (us : List Tok). identifier v.0 ∷ fixed f.Comma ∷ identifier h.written ∷ repeated (led f.Comma w.name) k.written us) (after-is f.Close zs.1 rest four)
    ∙ ap (λ (us : List Tok). identifier v.0 ∷ fixed f.Comma ∷ identifier h.written ∷ us) k.spelled ∙ ap (λ (us : List Tok). identifier v.0 ∷ us) h.spelled ∙ name-is ts v one)
    (ap (λ (xs : List (List ℕ)). v.0 ∷ h.written ∷ xs) (sym (flat_map-alone k.written)) ∙ ap (λ (xs : List (List ℕ)). xs ++ flat_map alone k.written) h.stands ∙ k.stands)
    (same_ok (zs.0, rest) x e4)

same_equation : (xs ys : List (List ℕ)) (a b : Tree) → xs ≡ ys → a ≡ b → defined xs a ≡ defined ys b
same_equation xs ys a b h k = ap (λ (zs : List (List ℕ)). defined zs a) h ∙ ap (defined ys) k

tuple_sound : (n : ℕ) (ts : List Tok) (x : EquationTree × List Tok) → tuple n ts ≡ Ok x → Reads w.equation equation_tree IsProperEquation (fixed f.Open ∷ ts) x
unfolding tuple
tuple_sound n ts x e =
    let (xs, one, e1) = bind_ok (tuple_names n ts) _ x e in
    let (a, two, e2) = bind_ok (after f.Equal xs.1) _ x e1 in
    let (c, three, e3) = bind_ok (call n a) (λ c. Ok (defined xs.0 c.0, c.1)) x e2 in
    let l : Reads tuple_tokens itself IsTuple ts xs = tuple_names_sound n ts xs one in
    let r : Reads tokens tree IsWrittenCall a c = call_sound n a c three in
    let q : WrittenEquation = record { left = l.written; right = r.written } in
    reads w.equation equation_tree IsProperEquation q (fixed f.Open ∷ ts) c.1 (defined xs.0 c.0) x (defined_by_call l.written r.written l.proper r.proper.0, r.proper.1)
    (left_tokens-tuple l.written (fixed f.Equal ∷ tokens r.written c.1) l.proper
    ∙ ap (λ (us : List Tok). fixed f.Open ∷ tuple_tokens l.written (fixed f.Equal ∷ us)) r.spelled
    ∙ ap (λ (us : List Tok). fixed f.Open ∷ tuple_tokens l.written us) (after-is f.Equal xs.1 a two)
    ∙ ap (λ (us : List Tok). fixed f.Open ∷ us) l.spelled)
    (same_equation l.written xs.0 (tree r.written) c.0 l.stands r.stands) (same_ok (defined xs.0 c.0, c.1) x e3)

equation_by_sound : (n : ℕ) (ts : List Tok) (x : EquationTree × List Tok) (r : Result (List Tok) (List Tok)) → after f.Open ts ≡ r → equation_by n ts r ≡ Ok x → Reads w.equation equation_tree IsProperEquation ts x
equation_by_sound n ts x (Err us) h e = single_sound n ts x e
equation_by_sound n ts x (Ok rest) h e =
    let k : Reads w.equation equation_tree IsProperEquation (fixed f.Open ∷ rest) x = tuple_sound n rest x e in
    record { written = k.written; proper = k.proper; spelled = k.spelled ∙ after-is f.Open ts rest h; stands = k.stands }

pub equation_sound : (n : ℕ) (ts : List Tok) (x : EquationTree × List Tok) → equation n ts ≡ Ok x → Reads w.equation equation_tree IsProperEquation ts x
unfolding equation
equation_sound n ts x e = equation_by_sound n ts x (after f.Open ts) refl e

abbrev pub ended_tokens : WrittenEquation → List Tok → List Tok
ended_tokens = w.ended f.Semicolon w.equation

abbrev pub equation_trees : WrittenEquation → List EquationTree
equation_trees e = equation_tree e ∷ []

ended_equation_sound : (n : ℕ) → Sound ended_tokens equation_trees IsProperEquation (ended_equation n)
ended_equation_sound n found ts x e =
    let (y, first, second) = bind_ok (ended (equation n ts)) (λ y. Ok (found ++ y.0 ∷ [], y.1)) x e in
    let (us, third, last) = ended-is (equation n ts) y first in
    let h : Reads w.equation equation_tree IsProperEquation ts (y.0, us) = equation_sound n ts (y.0, us) third in
    reads ended_tokens (λ q. found ++ equation_trees q) IsProperEquation h.written ts y.1 (found ++ y.0 ∷ []) x h.proper (ap (w.equation h.written) last ∙ h.spelled)
    (ap (λ (q : EquationTree). found ++ q ∷ []) h.stands) (same_ok (found ++ y.0 ∷ [], y.1) x second)

abbrev equations_tree : List WrittenEquation → List EquationTree
equations_tree = map equation_tree

pub equations_sound : (n : ℕ) (ts : List Tok) (x : List EquationTree × List Tok) → equations n ts ≡ Ok x → Reads (repeated ended_tokens) equations_tree (Each IsProperEquation) ts x
unfolding equations
equations_sound n ts x e =
    let k : Begins (repeated ended_tokens) (flat_map equation_trees) (Each IsProperEquation) [] ts x =
    many_sound begins_equation (ended_equation n) ended_tokens equation_trees IsProperEquation (ended_equation_sound n) n [] ts x e in
    record { written = k.written; proper = k.proper; spelled = k.spelled; stands = sym (flat_map_single equation_tree k.written) ∙ k.stands }

-- NODES

abbrev decls : List WrittenDeclaration → List Tok → List Tok
decls = separated f.Semicolon w.declaration

heading_spelled : (q : WrittenNode) (ts a b c c1 d g h i last rest : List Tok)
    → after f.Node ts ≡ Ok a → name a ≡ Ok (q.name, b) → after f.Open b ≡ Ok c → decls q.inputs c1 ≡ c → after f.Close c1 ≡ Ok d → after f.Returns d ≡ Ok g → after f.Open g ≡ Ok h
    → decls q.outputs i ≡ h → after f.Close i ≡ Ok last → optional q.is_heading_ended rest ≡ last → w.heading q rest ≡ ts
heading_spelled q ts a b c c1 d g h i last rest h1 h2 h3 k4 h5 h6 h7 k8 h9 k10 =
    let k9 : fixed f.Close ∷ last ≡ i = after-is f.Close i last h9 in
    let k7 : fixed f.Open ∷ h ≡ g = after-is f.Open g h h7 in
    let k6 : fixed f.Returns ∷ g ≡ d = after-is f.Returns d g h6 in
    let k5 : fixed f.Close ∷ d ≡ c1 = after-is f.Close c1 d h5 in
    let k3 : fixed f.Open ∷ c ≡ b = after-is f.Open b c h3 in
    let k2 : identifier q.name ∷ b ≡ a = name-is a (q.name, b) h2 in
    let k1 : fixed f.Node ∷ a ≡ ts = after-is f.Node ts a h1 in
    rw (k10, k9, k8, k7, k6, k5, k4, k3, k2) k1

abbrev headed : List ℕ → List DeclarationTree → List DeclarationTree → NodeTree
headed v ins outs = record { name = v; inputs = ins; outputs = outs; locals = []; equations = [] }

same_heading : (v : List ℕ) (a b c d : List DeclarationTree) → a ≡ b → c ≡ d → headed v a c ≡ headed v b d
same_heading v a b c d h k = ap (λ (xs : List DeclarationTree). headed v xs c) h ∙ ap (headed v b) k

heading_sound : (n : ℕ) (ts : List Tok) (x : NodeTree × List Tok) → heading n ts ≡ Ok x → Reads w.heading node_tree IsProperNode ts x
unfolding heading
heading_sound n ts x e =
    let (a, h1, e1) = bind_ok (after f.Node ts) _ x e in
    let (v, h2, e2) = bind_ok (name a) _ x e1 in
    let (b, h3, e3) = bind_ok (after f.Open v.1) _ x e2 in
    let (ins, h4, e4) = bind_ok (inputs n b) _ x e3 in
    let (c, h5, e5) = bind_ok (after f.Close ins.1) _ x e4 in
    let (d, h6, e6) = bind_ok (after f.Returns c) _ x e5 in
    let (g, h7, e7) = bind_ok (after f.Open d) _ x e6 in
    let (outs, h8, e8) = bind_ok (declarations n g) _ x e7 in
    let (last, h9, e9) = bind_ok (after f.Close outs.1) (λ last. Ok (headed v.0 ins.0 outs.0, past f.Semicolon last)) x e8 in
    let rest = past f.Semicolon last in
    let i : Reads decls declarations_tree (Each IsProperDeclaration) b ins = inputs_sound n b ins h4 in
    let o : Reads decls declarations_tree AreDeclarations g outs = declarations_sound n g outs h8 in
    let (flag, h10) = past-is last in
    let q : WrittenNode = record { name = v.0; inputs = i.written; outputs = o.written; is_heading_ended = flag; locals = []; equations = []; is_ended = false } in
    reads w.heading node_tree IsProperNode q ts rest (headed v.0 ins.0 outs.0) x (i.proper, o.proper.0, o.proper.1, tt, tt)
    (heading_spelled q ts a v.1 b ins.1 c d g outs.1 last rest h1 h2 h3 i.spelled h5 h6 h7 o.spelled h9 h10)
    (same_heading v.0 (declarations_tree i.written) ins.0 (declarations_tree o.written) outs.0 i.stands o.stands) (same_ok (headed v.0 ins.0 outs.0, rest) x e9)

abbrev body_tokens : List WrittenEquation × Bool → List Tok → List Tok
body_tokens q rest = fixed f.Let ∷ repeated ended_tokens q.0 (fixed f.Tel ∷ optional q.1 rest)

abbrev body_tree : List WrittenEquation × Bool → List EquationTree
body_tree q = equations_tree q.0

abbrev IsProperBody : List WrittenEquation × Bool → Type 0
IsProperBody q = Each IsProperEquation q.0

body_spelled : (es : List WrittenEquation) (flag : Bool) (ts a b last rest : List Tok) → after f.Let ts ≡ Ok a → repeated ended_tokens es b ≡ a → after f.Tel b ≡ Ok last
    → optional flag rest ≡ last → body_tokens (es, flag) rest ≡ ts
body_spelled es flag ts a b last rest h1 k2 h3 k4 =
    let k3 : fixed f.Tel ∷ last ≡ b = after-is f.Tel b last h3 in
    let k1 : fixed f.Let ∷ a ≡ ts = after-is f.Let ts a h1 in
    rw (k4, k3, k2) k1

body_sound : (n : ℕ) (ts : List Tok) (x : List EquationTree × List Tok) → body n ts ≡ Ok x → Reads body_tokens body_tree IsProperBody ts x
unfolding body
body_sound n ts x e =
    let (a, h1, e1) = bind_ok (after f.Let ts) _ x e in
    let (y, h2, e2) = bind_ok (equations n a) _ x e1 in
    let (last, h3, e3) = bind_ok (after f.Tel y.1) (λ last. Ok (y.0, past f.Semicolon last)) x e2 in
    let rest = past f.Semicolon last in
    let k : Reads (repeated ended_tokens) equations_tree (Each IsProperEquation) a y = equations_sound n a y h2 in
    let (flag, h4) = past-is last in
    reads body_tokens body_tree IsProperBody (k.written, flag) ts rest y.0 x k.proper (body_spelled k.written flag ts a y.1 last rest h1 k.spelled h3 h4) k.stands (same_ok (y.0, rest) x e3)

abbrev completed : NodeTree → List DeclarationTree → List EquationTree → NodeTree
completed h ls es = record { name = h.name; inputs = h.inputs; outputs = h.outputs; locals = ls; equations = es }

same_node : (a b : NodeTree) (ls ms : List DeclarationTree) (es gs : List EquationTree) → a ≡ b → ls ≡ ms → es ≡ gs → completed a ls es ≡ completed b ms gs
same_node a b ls ms es gs h k l = ap (λ (q : NodeTree). completed q ls es) h ∙ ap (λ (xs : List DeclarationTree). completed b xs es) k ∙ ap (completed b ms) l

node_sound : (n : ℕ) (ts : List Tok) (x : NodeTree × List Tok) → node n ts ≡ Ok x → Reads w.node node_tree IsProperNode ts x
unfolding node
node_sound n ts x e =
    let (h, h1, e1) = bind_ok (heading n ts) _ x e in
    let (ls, h2, e2) = bind_ok (locals n h.1) _ x e1 in
    let (es, h3, e3) = bind_ok (body n ls.1) (λ es. Ok (completed h.0 ls.0 es.0, es.1)) x e2 in
    let k1 : Reads w.heading node_tree IsProperNode ts h = heading_sound n ts h h1 in
    let k2 : Reads w.locals declarations_tree (Each IsProperDeclaration) h.1 ls = locals_sound n h.1 ls h2 in
    let k3 : Reads body_tokens body_tree IsProperBody ls.1 es = body_sound n ls.1 es h3 in
    let q : WrittenNode = record {
      name = k1.written.name;
      inputs = k1.written.inputs;
      outputs = k1.written.outputs;
      is_heading_ended = k1.written.is_heading_ended;
      locals = k2.written;
      equations = k3.written.0;
      is_ended = k3.written.1;
    } in
    reads w.node node_tree IsProperNode q ts es.1 (completed h.0 ls.0 es.0) x (k1.proper.0, k1.proper.1, k1.proper.2, k2.proper, k3.proper)
    (ap (λ (us : List Tok). w.heading k1.written (w.locals k2.written us)) k3.spelled ∙ ap (w.heading k1.written) k2.spelled ∙ k1.spelled)
    (same_node (node_tree k1.written) h.0 (declarations_tree k2.written) ls.0 (body_tree k3.written) es.0 k1.stands k2.stands k3.stands) (same_ok (completed h.0 ls.0 es.0, es.1) x e3)

abbrev pub node_trees : WrittenNode → List NodeTree
node_trees p = node_tree p ∷ []

further_node_sound : (n : ℕ) → Sound w.node node_trees IsProperNode (further_node n)
further_node_sound n found ts x e =
    let (y, first, second) = bind_ok (node n ts) (λ y. Ok (found ++ y.0 ∷ [], y.1)) x e in
    let h : Reads w.node node_tree IsProperNode ts y = node_sound n ts y first in
    reads w.node (λ q. found ++ node_trees q) IsProperNode h.written ts y.1 (found ++ y.0 ∷ []) x h.proper h.spelled
    (ap (λ (q : NodeTree). found ++ q ∷ []) h.stands) (same_ok (found ++ y.0 ∷ [], y.1) x second)

-- one and more
abbrev AreNodes : List WrittenNode → Type 0
AreNodes ps = IsNonempty ps × Each IsProperNode ps

nodes_sound : (n : ℕ) (ts : List Tok) (x : List NodeTree × List Tok) → nodes n ts ≡ Ok x → Reads (repeated w.node) (map node_tree) AreNodes ts x
unfolding nodes
nodes_sound n ts x e =
    let (y, one, others) = bind_ok (further_node n [] ts) (λ y. many (begins f.Node) (further_node n) n y.0 y.1) x e in
    let h : Begins w.node node_trees IsProperNode [] ts y = further_node_sound n [] ts y one in
    let k : Begins (repeated w.node) (flat_map node_trees) (Each IsProperNode) y.0 y.1 x = many_sound (begins f.Node) (further_node n) w.node node_trees IsProperNode (further_node_sound n) n y.0 y.1 x others in
    record {
      written = h.written ∷ k.written;
      proper = (tt, (h.proper, k.proper));
      spelled = ap (w.node h.written) k.spelled ∙ h.spelled;
      stands =
          ap (λ (xs : List NodeTree). node_tree h.written ∷ xs) (sym (flat_map_single node_tree k.written))
          ∙ ap (λ (xs : List NodeTree). xs ++ flat_map node_trees k.written) h.stands
          ∙ k.stands;
    }

-- PROGRAMS

abbrev pub enumeration : List ℕ → List (List ℕ) → TypeTree
enumeration v xs = record { name = v; names = xs }

type_spelled : (q : TypeTree) (ts a b c d g h i rest : List Tok) → fixed f.Type ∷ a ≡ ts → identifier q.name ∷ b ≡ a → fixed f.Equal ∷ c ≡ b → fixed f.Enum ∷ d ≡ c → fixed f.OpenBrace ∷ g ≡ d
    → separated f.Comma w.name q.names h ≡ g → fixed f.CloseBrace ∷ i ≡ h → fixed f.Semicolon ∷ rest ≡ i → w.type_declaration q rest ≡ ts
type_spelled q ts a b c d g h i rest k1 k2 k3 k4 k5 k6 k7 k8 = rw (k8, k7, k6, k5, k4, k3, k2) k1

type_declaration_sound : (n : ℕ) → Sound w.type_declaration alone IsProperType (type_declaration n)
unfolding type_declaration
type_declaration_sound n found ts x e =
    let (a, h1, e1) = bind_ok (after f.Type ts) _ x e in
    let (v, h2, e2) = bind_ok (name a) _ x e1 in
    let (b, h3, e3) = bind_ok (after f.Equal v.1) _ x e2 in
    let (c, h4, e4) = bind_ok (after f.Enum b) _ x e3 in
    let (d, h5, e5) = bind_ok (after f.OpenBrace c) _ x e4 in
    let (xs, h6, e6) = bind_ok (names n d) _ x e5 in
    let (g, h7, e7) = bind_ok (after f.CloseBrace xs.1) _ x e6 in
    let (rest, h8, e8) = bind_ok (after f.Semicolon g) (λ rest. Ok (found ++ enumeration v.0 xs.0 ∷ [], rest)) x e7 in
    let r : Reads (separated f.Comma w.name) itself IsNonempty d xs = names_sound n d xs h6 in
    reads w.type_declaration (λ q. found ++ alone q) IsProperType (enumeration v.0 r.written) ts rest (found ++ enumeration v.0 xs.0 ∷ []) x r.proper
    (type_spelled (enumeration v.0 r.written) ts a v.1 b c d xs.1 g rest (after-is f.Type ts a h1) (name-is a v h2) (after-is f.Equal v.1 b h3) (after-is f.Enum b c h4) (after-is f.OpenBrace c d h5)
    r.spelled (after-is f.CloseBrace xs.1 g h7) (after-is f.Semicolon g rest h8))
    (ap (λ (us : List (List ℕ)). found ++ enumeration v.0 us ∷ []) r.stands) (same_ok (found ++ enumeration v.0 xs.0 ∷ [], rest) x e8)

types_sound : (n : ℕ) (ts : List Tok) (x : List TypeTree × List Tok) → types n ts ≡ Ok x → Reads (repeated w.type_declaration) itself (Each IsProperType) ts x
unfolding types
types_sound n ts x e =
    let k : Begins (repeated w.type_declaration) (flat_map alone) (Each IsProperType) [] ts x =
    many_sound (begins f.Type) (type_declaration n) w.type_declaration alone IsProperType (type_declaration_sound n) n [] ts x e in
    record { written = k.written; proper = k.proper; spelled = k.spelled; stands = sym (flat_map-alone k.written) ∙ k.stands }

abbrev pub whole : List TypeTree → List NodeTree → ProgramTree
whole ds ns = record { types = ds; nodes = ns }

same_whole : (ds es : List TypeTree) (ns ms : List NodeTree) → ds ≡ es → ns ≡ ms → whole ds ns ≡ whole es ms
same_whole ds es ns ms h k = ap (λ (xs : List TypeTree). whole xs ns) h ∙ ap (whole es) k

program_sound : (n : ℕ) (ts : List Tok) (x : ProgramTree × List Tok) → program n ts ≡ Ok x → Reads w.program program_tree IsProperProgram ts x
unfolding program
program_sound n ts x e =
    let (ds, one, e1) = bind_ok (types n ts) _ x e in
    let (ns, two, e2) = bind_ok (nodes n ds.1) (λ ns. Ok (whole ds.0 ns.0, ns.1)) x e1 in
    let h : Reads (repeated w.type_declaration) itself (Each IsProperType) ts ds = types_sound n ts ds one in
    let k : Reads (repeated w.node) (map node_tree) AreNodes ds.1 ns = nodes_sound n ds.1 ns two in
    let q : WrittenProgram = record { types = h.written; nodes = k.written } in
    reads w.program program_tree IsProperProgram q ts ns.1 (whole ds.0 ns.0) x (k.proper.0, k.proper.1, h.proper)
    (ap (repeated w.type_declaration h.written) k.spelled ∙ h.spelled) (same_whole h.written ds.0 (map node_tree k.written) ns.0 h.stands k.stands) (same_ok (whole ds.0 ns.0, ns.1) x e2)

at_end : (x : ProgramTree × List Tok) (found : ProgramTree) → to_the_end x ≡ Ok found → (x.1 ≡ []) × (x.0 ≡ found)
at_end (p, []) found e = (refl, same_ok p found e)
at_end (p, u ∷ us) found e = absurd cc

-- what is read is spelled so
pub all_of-spells : (ts : List Tok) (found : ProgramTree) → all_of ts ≡ Ok found → Spells ts found
unfolding all_of
all_of-spells ts found e =
    let (x, first, second) = bind_ok (program (suc (length ts)) ts) to_the_end found e in
    let k : Reads w.program program_tree IsProperProgram ts x = program_sound (suc (length ts)) ts x first in
    let h = at_end x found second in
    (k.written, k.proper, ap (w.program k.written) (sym h.0) ∙ k.spelled, k.stands ∙ h.1)
