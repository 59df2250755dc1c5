-- The runs of the canonical form: those of equations are no longer than in any other text of them, and the others are short.
use Rattle.std.proofs.Common.{◌≡◌, ◌≤◌, ◌+◌, ℕ, max, Bool, true, false, List, [], ◌∷◌, map, Option, Some, None, refl, ap, ◌∙◌, arith}
use Rattle.lutree.specs.declared.expr.Pattern.{Pattern}
use Rattle.lutree.specs.declared.expr.Pattern.TheVariants as patterns
use Rattle.lutree.specs.declared.expr.Condition.{Condition}
use Rattle.lutree.specs.Tree.{TypeTree, DeclarationTree, EquationTree, NodeTree, ProgramTree}
use Rattle.lusyn_grammar.specs.declared.token.Fixed.{Fixed}
use Rattle.lusyn_grammar.specs.declared.token.Fixed.TheVariants as f
use Rattle.lusyn_grammar.specs.Tokens.{Tok, identifier, fixed}
use Rattle.lusyn_grammar.specs.Runs.{is_of_run}
use Rattle.lusyn_grammar.specs.Grammar.{Written, tokens, WrittenType, int, bool, named, WrittenDeclaration, WrittenEquation, WrittenNode, WrittenProgram, Each, IsProperEquation, IsProperNode, type_token, repeated, separated, led, ended, optional, name, clock, declaration, locals, left_tokens, equation, body, node, type_declaration, program, equation_tree, node_tree, program_tree}
use Rattle.lusyn_grammar.specs.Printing.{bare_clock, written, written_type, written_declaration, written_equation, written_node, written_program}
use Rattle.lusyn_printer.proofs.Peaks.{peak, peak-mono, peak-tail, peak-of_run}
use Rattle.lusyn_printer.proofs.Sizes.{size, when_size, pattern_size, peak-when, peak-tokens, Smallest, smallest}

-- EQUATIONS

abbrev names_size : List (List ℕ) → ℕ
names_size [] = 0
names_size (x ∷ xs) = 2 + names_size xs

abbrev left_size : List (List ℕ) → ℕ
left_size [] = 2
left_size (x ∷ []) = 1
left_size (x ∷ y ∷ zs) = 3 + names_size (y ∷ zs)

abbrev width : List (List ℕ) → Written → ℕ
width left right = left_size left + (1 + size right)

at : (j k : ℕ) (rest : List Tok) → j ≡ k → peak j rest ≡ peak k rest
at j k rest e = ap (λ (n : ℕ). peak n rest) e

peak-names : (xs : List (List ℕ)) (k : ℕ) (rest : List Tok) → peak k (repeated (led f.Comma name) xs rest) ≡ peak (k + names_size xs) rest
peak-names [] k rest = at k (k + 0) rest (omega arith)
peak-names (x ∷ xs) k rest = peak-names xs (k + 1 + 1) rest ∙ at (k + 1 + 1 + names_size xs) (k + (2 + names_size xs)) rest (omega arith)

peak-left : (xs : List (List ℕ)) (k : ℕ) (rest : List Tok) → peak k (left_tokens xs rest) ≡ peak (k + left_size xs) rest
peak-left [] k rest = at (k + 1 + 1) (k + 2) rest (omega arith)
peak-left (x ∷ []) k rest = refl
peak-left (x ∷ y ∷ zs) k rest =
    peak-names (y ∷ zs) (k + 1 + 1) (fixed f.Close ∷ rest) ∙ at (k + 1 + 1 + names_size (y ∷ zs) + 1) (k + (3 + names_size (y ∷ zs))) rest (omega arith)

peak-equation : (e : WrittenEquation) (k : ℕ) (rest : List Tok) → peak k (equation e rest) ≡ peak (k + width e.left e.right) rest
peak-equation e k rest =
    peak-left e.left k (fixed f.Equal ∷ tokens e.right rest)
    ∙ peak-tokens e.right (k + left_size e.left + 1) rest
    ∙ at (k + left_size e.left + 1 + size e.right) (k + (left_size e.left + (1 + size e.right))) rest (omega arith)

-- each is short enough in canonical form, the first behind so many tokens
abbrev pub IsNarrow : ℕ → List EquationTree → Type 0
IsNarrow j [] = Unit {0}
IsNarrow j (e ∷ es) = (j + width e.left (written e.right) ≤ 1000) × IsNarrow 0 es

-- TYPES

abbrev list_size : List (List ℕ) → ℕ
list_size [] = 0
list_size (x ∷ xs) = 1 + names_size xs

abbrev pub IsNarrowType : TypeTree → Type 0
IsNarrowType x = 6 + list_size x.names ≤ 1000

abbrev pub IsNarrowProgram : ProgramTree → Type 0
IsNarrowProgram p = Each IsNarrowType p.types × Each (λ n. IsNarrow 1 n.equations) p.nodes

peak-list : (xs : List (List ℕ)) (k : ℕ) (rest : List Tok) → peak k (separated f.Comma name xs rest) ≡ peak (k + list_size xs) rest
peak-list [] k rest = at k (k + 0) rest (omega arith)
peak-list (x ∷ xs) k rest = peak-names xs (k + 1) rest ∙ at (k + 1 + names_size xs) (k + (1 + names_size xs)) rest (omega arith)

peak-type : (x : TypeTree) (rest : List Tok) → peak 0 (type_declaration x rest) ≡ max (6 + list_size x.names) (peak 0 rest)
peak-type x rest =
    peak-list x.names 5 (fixed f.CloseBrace ∷ fixed f.Semicolon ∷ rest) ∙ ap (λ (n : ℕ). max n (peak 0 rest)) (let e : 5 + list_size x.names + 1 ≡ 6 + list_size x.names = omega arith in e)

-- FROM A TEXT'S TOKENS: WHAT STANDS BEHIND A PART IS NO HIGHER

abbrev pub IsLow : List Tok → Type 0
IsLow ts = peak 0 ts ≤ 1000

low : (k : ℕ) (ts : List Tok) → peak k ts ≤ 1000 → IsLow ts
low k ts h = let less : peak 0 ts ≤ peak k ts = peak-mono 0 k ts (omega arith) in omega (arith, less, h)

low_tail : (k : ℕ) (t : Tok) (ts : List Tok) → peak k (t ∷ ts) ≤ 1000 → IsLow ts
low_tail k t ts h = let less : peak 0 ts ≤ peak k (t ∷ ts) = peak-tail k t ts in omega (arith, less, h)

abbrev Passes : {W : Type 0} → (W → List Tok → List Tok) → Type 0
Passes of = (q : _) (k : ℕ) (rest : List Tok) → peak k (of q rest) ≤ 1000 → IsLow rest

past_names : (xs : List (List ℕ)) (k : ℕ) (rest : List Tok) → peak k (separated f.Comma name xs rest) ≤ 1000 → IsLow rest
past_names [] k rest h = low k rest h
past_names (x ∷ xs) k rest h = let e = peak-names xs (k + 1) rest in low (k + 1 + names_size xs) rest (omega (arith, e, h))

past_clock : Passes clock
past_clock None k rest h = low k rest h
past_clock (Some c) k rest h = let e = peak-when c k rest in low (k + when_size c) rest (omega (arith, e, h))

past_declaration : Passes declaration
past_declaration d k rest h =
    let behind = past_names d.names k (fixed f.Colon ∷ type_token d.kind ∷ clock d.clock rest) h in
    past_clock d.clock 0 rest (low_tail 1 (type_token d.kind) (clock d.clock rest) behind)

past_repeated : {W : Type 0} (of : W → List Tok → List Tok) → Passes of → (qs : List W) (k : ℕ) (rest : List Tok) → peak k (repeated of qs rest) ≤ 1000 → IsLow rest
past_repeated of one [] k rest h = low k rest h
past_repeated of one (q ∷ qs) k rest h = past_repeated of one qs 0 rest (one q k (repeated of qs rest) h)

past_led : {W : Type 0} (g : Fixed) (of : W → List Tok → List Tok) → Passes of → Passes (led g of)
past_led g of one q k rest h = one q 0 rest (low_tail k (fixed g) (of q rest) h)

past_ended : {W : Type 0} (g : Fixed) (of : W → List Tok → List Tok) → Passes of → Passes (ended g of)
past_ended g of one q k rest h = low_tail 0 (fixed g) rest (one q k (fixed g ∷ rest) h)

past_declarations : (ds : List WrittenDeclaration) (k : ℕ) (rest : List Tok) → peak k (separated f.Semicolon declaration ds rest) ≤ 1000 → IsLow rest
past_declarations [] k rest h = low k rest h
past_declarations (d ∷ ds) k rest h =
    let others = repeated (led f.Semicolon declaration) ds rest in
    past_repeated (led f.Semicolon declaration) (past_led f.Semicolon declaration past_declaration) ds 0 rest (past_declaration d k others h)

past_optional : (b : Bool) (k : ℕ) (rest : List Tok) → peak k (optional b rest) ≤ 1000 → IsLow rest
past_optional false k rest h = low k rest h
past_optional true k rest h = low_tail k (fixed f.Semicolon) rest h

past_locals : (ds : List WrittenDeclaration) (k : ℕ) (rest : List Tok) → peak k (locals ds rest) ≤ 1000 → IsLow rest
past_locals [] k rest h = low k rest h
past_locals (d ∷ ds) k rest h = past_repeated (ended f.Semicolon declaration) (past_ended f.Semicolon declaration past_declaration) (d ∷ ds) (k + 1) rest h

equations_narrow : (es : List WrittenEquation) (j : ℕ) (rest : List Tok) → Each IsProperEquation es → peak j (repeated (ended f.Semicolon equation) es rest) ≤ 1000
    → IsNarrow j (map equation_tree es) × IsLow rest
equations_narrow [] j rest proper h = (tt, low j rest h)
equations_narrow (e ∷ es) j rest proper h =
    let others = repeated (ended f.Semicolon equation) es rest in
    let same : peak j (equation e (fixed f.Semicolon ∷ others)) ≡ max (j + width e.left e.right) (peak 0 others) = peak-equation e j (fixed f.Semicolon ∷ others) in
    let least : Smallest e.right = smallest e.right proper.0.1 in
    let k = equations_narrow es 0 rest proper.1 (omega (arith, same, h)) in
    ((omega (arith, same, h, least.bare), k.0), k.1)

node_narrow : (n : WrittenNode) (k : ℕ) (rest : List Tok) → IsProperNode n → peak k (node n rest) ≤ 1000 → IsNarrow 1 (map equation_tree n.equations) × IsLow rest
node_narrow n k rest proper h =
    let inputs = past_declarations n.inputs (k + 1 + 1 + 1) _ h in
    let outputs = past_declarations n.outputs 3 _ inputs in
    let headed = past_optional n.is_heading_ended 1 _ outputs in
    let inner = past_locals n.locals 0 _ headed in
    let equations = equations_narrow n.equations 1 _ proper.4 inner in
    (equations.0, past_optional n.is_ended 1 rest equations.1)

abbrev AreNarrow : List NodeTree → Type 0
AreNarrow = Each (λ n. IsNarrow 1 n.equations)

nodes_narrow : (ns : List WrittenNode) → Each IsProperNode ns → IsLow (repeated node ns []) → AreNarrow (map node_tree ns)
nodes_narrow [] proper h = tt
nodes_narrow (n ∷ ns) proper h =
    let x = node_narrow n 0 (repeated node ns []) proper.0 h in
    (x.0, nodes_narrow ns proper.1 x.1)

types_narrow : (xs : List TypeTree) (rest : List Tok) → IsLow (repeated type_declaration xs rest) → Each IsNarrowType xs × IsLow rest
types_narrow [] rest h = (tt, h)
types_narrow (x ∷ xs) rest h =
    let others = repeated type_declaration xs rest in
    let same : peak 0 (type_declaration x others) ≡ max (6 + list_size x.names) (peak 0 others) = peak-type x others in
    let k = types_narrow xs rest (omega (arith, same, h)) in
    ((omega (arith, same, h), k.0), k.1)

pub program_narrow : (p : WrittenProgram) → Each IsProperNode p.nodes → IsLow (program p []) → IsNarrowProgram (program_tree p)
program_narrow p proper h = let x = types_narrow p.types (repeated node p.nodes []) h in (x.0, nodes_narrow p.nodes proper x.1)

-- TO THE CANONICAL TOKENS: NO RUN IS LONG BEHIND SO FEW OTHERS

abbrev IsCalm : ℕ → List Tok → Type 0
IsCalm most ts = (k : ℕ) → k ≤ most → peak k ts ≤ 1000

calm_less : (b c : ℕ) (ts : List Tok) → b ≤ c → IsCalm c ts → IsCalm b ts
calm_less b c ts less calm = λ k h. calm k (omega arith)

calm_token : (b : ℕ) (t : Tok) (ts : List Tok) → is_of_run t ≡ true → IsCalm (b + 1) ts → IsCalm b (t ∷ ts)
calm_token b t ts e calm = λ k h. (let same = peak-of_run k t ts e in let behind = calm (k + 1) (omega arith) in omega (arith, same, behind))

calm_semicolon : (b : ℕ) (ts : List Tok) → b ≤ 1000 → IsCalm 0 ts → IsCalm b (fixed f.Semicolon ∷ ts)
calm_semicolon b ts few calm = λ k h. (let behind = calm 0 (omega arith) in omega (arith, behind))

kind_of_run : (kind : WrittenType) → is_of_run (type_token kind) ≡ true
kind_of_run int = refl
kind_of_run bool = refl
kind_of_run (named x) = refl

pattern_few : (p : Pattern) → pattern_size p ≤ 3
pattern_few (patterns.Truth true) = omega arith
pattern_few (patterns.Truth false) = omega arith
pattern_few (patterns.Label l) = omega arith

calm_clock : (c : Option Condition) (b : ℕ) (ts : List Tok) → IsCalm (b + 5) ts → IsCalm b (clock c ts)
calm_clock None b ts calm = calm_less b (b + 5) ts (omega arith) calm
calm_clock (Some c) b ts calm =
    λ k h. (
    let same = peak-when c k ts in
    let few = pattern_few c.pattern in
    let behind = calm (k + when_size c) (omega (arith, few)) in
    omega (arith, same, behind)
    )

calm_declaration : (d : DeclarationTree) (b : ℕ) (ts : List Tok) → IsCalm (b + 8) ts → IsCalm b (declaration (written_declaration d) ts)
calm_declaration d b ts calm =
    let clocked = clock (bare_clock d.clock) ts in
    let written_kind : WrittenType = written_type d.kind d.type_name in
    let kind = type_token written_kind in
    calm_token b (identifier d.name) (fixed f.Colon ∷ kind ∷ clocked) refl
    (calm_token (b + 1) (fixed f.Colon) (kind ∷ clocked) refl
    (calm_token (b + 1 + 1) kind clocked (kind_of_run written_kind)
    (calm_clock (bare_clock d.clock) (b + 1 + 1 + 1) ts (calm_less (b + 1 + 1 + 1 + 5) (b + 8) ts (omega arith) calm))))

calm_others : (ds : List DeclarationTree) (b : ℕ) (ts : List Tok) → b ≤ 100 → IsCalm (b + 12) ts → IsCalm (b + 8) (repeated (led f.Semicolon declaration) (map written_declaration ds) ts)
calm_others [] b ts few calm = calm_less (b + 8) (b + 12) ts (omega arith) calm
calm_others (d ∷ ds) b ts few calm =
    let others = repeated (led f.Semicolon declaration) (map written_declaration ds) ts in
    calm_semicolon (b + 8) (declaration (written_declaration d) others) (omega arith)
    (calm_declaration d 0 others (calm_less 8 (b + 8) others (omega arith) (calm_others ds b ts few calm)))

calm_declarations : (ds : List DeclarationTree) (b : ℕ) (ts : List Tok) → b ≤ 100 → IsCalm (b + 12) ts → IsCalm b (separated f.Semicolon declaration (map written_declaration ds) ts)
calm_declarations [] b ts few calm = calm_less b (b + 12) ts (omega arith) calm
calm_declarations (d ∷ ds) b ts few calm = calm_declaration d b (repeated (led f.Semicolon declaration) (map written_declaration ds) ts) (calm_others ds b ts few calm)

calm_ended : (d : DeclarationTree) (b : ℕ) (ts : List Tok) → b ≤ 100 → IsCalm 0 ts → IsCalm b (ended f.Semicolon declaration (written_declaration d) ts)
calm_ended d b ts few calm = calm_declaration d b (fixed f.Semicolon ∷ ts) (calm_semicolon (b + 8) ts (omega arith) calm)

calm_each : (ds : List DeclarationTree) (ts : List Tok) → IsCalm 0 ts → IsCalm 0 (repeated (ended f.Semicolon declaration) (map written_declaration ds) ts)
calm_each [] ts calm = calm
calm_each (d ∷ ds) ts calm = calm_ended d 0 (repeated (ended f.Semicolon declaration) (map written_declaration ds) ts) (omega arith) (calm_each ds ts calm)

calm_locals : (ds : List DeclarationTree) (ts : List Tok) → IsCalm 0 ts → IsCalm 0 (locals (map written_declaration ds) ts)
calm_locals [] ts calm = calm
calm_locals (d ∷ ds) ts calm =
    let others = repeated (ended f.Semicolon declaration) (map written_declaration ds) ts in
    calm_token 0 (fixed f.Var) (ended f.Semicolon declaration (written_declaration d) others) refl (calm_ended d 1 others (omega arith) (calm_each ds ts calm))

low_equations : (es : List EquationTree) (j : ℕ) (ts : List Tok) → j ≤ 1 → IsNarrow j es → IsCalm 2 ts
    → peak j (repeated (ended f.Semicolon equation) (map written_equation es) (fixed f.Tel ∷ ts)) ≤ 1000
low_equations [] j ts few narrow calm = calm (j + 1) (omega arith)
low_equations (e ∷ es) j ts few narrow calm =
    let others = repeated (ended f.Semicolon equation) (map written_equation es) (fixed f.Tel ∷ ts) in
    let same : peak j (equation (written_equation e) (fixed f.Semicolon ∷ others)) ≡ max (j + width e.left (written e.right)) (peak 0 others) = peak-equation (written_equation e) j (fixed f.Semicolon ∷ others) in
    let behind : peak 0 others ≤ 1000 = low_equations es 0 ts (omega arith) narrow.1 calm in
    omega (arith, same, behind, narrow.0)

calm_body : (n : NodeTree) (ts : List Tok) → IsNarrow 1 n.equations → IsCalm 2 ts → IsCalm 0 (body (written_node n) ts)
calm_body n ts narrow calm =
    let inner = repeated (ended f.Semicolon equation) (map written_equation n.equations) (fixed f.Tel ∷ ts) in
    λ k h. (
    let most : peak 1 inner ≤ 1000 = low_equations n.equations 1 ts (omega arith) narrow calm in
    let less : peak (k + 1) inner ≤ peak 1 inner = peak-mono (k + 1) 1 inner (omega arith) in
    omega (arith, most, less)
    )

calm_node : (n : NodeTree) (ts : List Tok) → IsNarrow 1 n.equations → IsCalm 2 ts → IsCalm 2 (node (written_node n) ts)
calm_node n ts narrow calm =
    let inner = locals (map written_declaration n.locals) (body (written_node n) ts) in
    let h = calm_locals n.locals (body (written_node n) ts) (calm_body n ts narrow calm) in
    let closed = fixed f.Close ∷ fixed f.Semicolon ∷ inner in
    let k = calm_token 32 (fixed f.Close) (fixed f.Semicolon ∷ inner) refl (calm_semicolon 33 inner (omega arith) h) in
    let outputs = separated f.Semicolon declaration (map written_declaration n.outputs) closed in
    let l = calm_declarations n.outputs 20 closed (omega arith) k in
    let returned = fixed f.Close ∷ fixed f.Returns ∷ fixed f.Open ∷ outputs in
    let m =
    calm_token 17 (fixed f.Close) (fixed f.Returns ∷ fixed f.Open ∷ outputs) refl (calm_token 18 (fixed f.Returns) (fixed f.Open ∷ outputs) refl (calm_token 19 (fixed f.Open) outputs refl l)) in
    let inputs = separated f.Semicolon declaration (map written_declaration n.inputs) returned in
    let o = calm_declarations n.inputs 5 returned (omega arith) m in
    calm_token 2 (fixed f.Node) (identifier n.name ∷ fixed f.Open ∷ inputs) refl (calm_token 3 (identifier n.name) (fixed f.Open ∷ inputs) refl (calm_token 4 (fixed f.Open) inputs refl o))

calm_nodes : (ns : List NodeTree) → AreNarrow ns → IsCalm 2 (repeated node (map written_node ns) [])
calm_nodes [] narrow = λ k h. omega arith
calm_nodes (n ∷ ns) narrow = calm_node n (repeated node (map written_node ns) []) narrow.0 (calm_nodes ns narrow.1)

low_types : (xs : List TypeTree) (rest : List Tok) → Each IsNarrowType xs → IsLow rest → IsLow (repeated type_declaration xs rest)
low_types [] rest narrow h = h
low_types (x ∷ xs) rest narrow h =
    let others = repeated type_declaration xs rest in
    let same : peak 0 (type_declaration x others) ≡ max (6 + list_size x.names) (peak 0 others) = peak-type x others in
    let behind : peak 0 others ≤ 1000 = low_types xs rest narrow.1 h in
    omega (arith, same, behind, narrow.0)

pub canonical_low : (p : ProgramTree) → IsNarrowProgram p → IsLow (program (written_program p) [])
canonical_low p narrow = low_types p.types (repeated node (map written_node p.nodes) []) narrow.0 (calm_nodes p.nodes narrow.1 0 (omega arith))
