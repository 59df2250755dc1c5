-- The pieces of a canonical text: each is a token, a space or a line feed. A part stands before the pieces that follow it.
use Rattle.std.proofs.Common.{◌≡◌, ℕ, ◌+◌, Bool, true, false, List, [], ◌∷◌, ◌++◌, length, map, Option, Some, None, refl, ap, sym, ◌∙◌, codes, append_assoc}
use Rattle.std.specs.List.{flat_map}
use Rattle.std.specs.Fmt.{decimal}
use Rattle.lutree.specs.declared.expr.Pattern.{Pattern}
use Rattle.lutree.specs.declared.expr.Pattern.TheVariants as patterns
use Rattle.lutree.specs.declared.expr.Condition.{Condition}
use Rattle.lutree.specs.Tree.{TypeTree, DeclarationTree, EquationTree, NodeTree, ProgramTree}
use Rattle.lusyn_grammar.specs.declared.token.Fixed.{Fixed}
use Rattle.lusyn_grammar.specs.declared.token.Fixed.TheVariants as f
use Rattle.lusyn_grammar.specs.Tokens.{Tok, identifier, fixed, text_of}
use Rattle.lusyn_grammar.specs.Tokens as tok
use Rattle.lusyn_grammar.specs.Lexing.{Pieces, Placed, bytes, before, placed}
use Rattle.lusyn_grammar.specs.Tokens.{prefix_token, infix_token}
use Rattle.lusyn_grammar.specs.Grammar as grammar
use Rattle.lusyn_grammar.specs.Grammar.{Written, Writtens, number, truth, variable, unary, binary, choice, when, current, merge, call, paren, none, more, WrittenType, int, bool, named, truth_token, branch_token, type_token, tokens, repeated, separated, led, ended}
use Rattle.lusyn_grammar.specs.Printing.{written, bare_pattern, bare_clock, written_type, written_declaration, written_equation, written_node, written_program}
use Rattle.lusyn_printer.specs.Canonical as text
use Rattle.lusyn_printer.specs.Canonical.{joined, expression, canonical}

-- ONE PIECE

abbrev pub space : Pieces → Pieces
space ps = (codes " ", None) ∷ ps

abbrev pub feed : Pieces → Pieces
feed ps = (10 ∷ [], None) ∷ ps

abbrev pub sign : Fixed → Pieces → Pieces
sign g ps = (text_of g, Some (fixed g)) ∷ ps

abbrev pub word : List ℕ → Pieces → Pieces
word x ps = (x, Some (identifier x)) ∷ ps

abbrev pub numeral : ℕ → Pieces → Pieces
numeral n ps = (decimal n, Some (tok.number n)) ∷ ps

-- PARTS

abbrev pub not_pieces : Bool → Pieces → Pieces
not_pieces true ps = ps
not_pieces false ps = sign f.Not (space ps)

abbrev pub pattern_pieces : Pattern → List ℕ → Pieces → Pieces
pattern_pieces (patterns.Truth b) x ps = not_pieces b (word x ps)
pattern_pieces (patterns.Label l) x ps = word l.name (sign f.Open (word x (sign f.Close ps)))

abbrev pub branch_piece : Pattern → Pieces → Pieces
branch_piece (patterns.Truth b) ps = sign (truth_token b) ps
branch_piece (patterns.Label l) ps = word l.name ps

abbrev pub when_pieces : Condition → Pieces → Pieces
when_pieces c ps = space (sign f.When (space (pattern_pieces c.pattern c.variable ps)))

abbrev mutual
  pub pieces : Written → Pieces → Pieces
  pieces (number n) ps = numeral n ps
  pieces (truth b) ps = sign (truth_token b) ps
  pieces (variable x) ps = word x ps
  pieces (unary op c) ps = sign (prefix_token op) (space (pieces c ps))
  pieces (binary op a b) ps = pieces a (space (sign (infix_token op) (space (pieces b ps))))
  pieces (choice a b c) ps = sign f.If (space (pieces a (space (sign f.Then (space (pieces b (space (sign f.Else (space (pieces c ps))))))))))
  pieces (when c clock) ps = pieces c (when_pieces clock ps)
  pieces (current x) ps = sign f.Current (space (word x ps))
  pieces (merge x qs cs) ps = sign f.Merge (space (word x (branches cs qs ps)))
  pieces (call g none) ps = word g (sign f.Open (sign f.Close ps))
  pieces (call g (more c cs)) ps = word g (sign f.Open (pieces c (further cs (sign f.Close ps))))
  pieces (paren c) ps = sign f.Open (pieces c (sign f.Close ps))

  pub further : Writtens → Pieces → Pieces
  further none ps = ps
  further (more c cs) ps = sign f.Comma (space (pieces c (further cs ps)))

  pub branches : Writtens → List Pattern → Pieces → Pieces
  branches none qs ps = ps
  branches (more c cs) [] ps = ps
  branches (more c cs) (q ∷ qs) ps = space (sign f.Open (branch_piece q (space (sign f.Arrow (space (pieces c (sign f.Close (branches cs qs ps))))))))

abbrev pub each : {A : Type 0} → (A → Pieces → Pieces) → List A → Pieces → Pieces
each part [] ps = ps
each part (x ∷ xs) ps = part x (each part xs ps)

-- behind a sign and a space
abbrev pub behind : {A : Type 0} → Fixed → (A → Pieces → Pieces) → A → Pieces → Pieces
behind g part x ps = sign g (space (part x ps))

abbrev pub apart : {A : Type 0} → Fixed → (A → Pieces → Pieces) → List A → Pieces → Pieces
apart g part [] ps = ps
apart g part (x ∷ xs) ps = part x (each (behind g part) xs ps)

abbrev pub clock_pieces : Option Condition → Pieces → Pieces
clock_pieces None ps = ps
clock_pieces (Some c) ps = when_pieces c ps

abbrev pub type_piece : WrittenType → Pieces → Pieces
type_piece int ps = sign f.Int ps
type_piece bool ps = sign f.Bool ps
type_piece (named x) ps = word x ps

abbrev pub declaration : DeclarationTree → Pieces → Pieces
declaration d ps = word d.name (sign f.Colon (space (type_piece (written_type d.kind d.type_name) (clock_pieces d.clock ps))))

abbrev pub declarations : List DeclarationTree → Pieces → Pieces
declarations = apart f.Semicolon declaration

abbrev pub locals : List DeclarationTree → Pieces → Pieces
locals [] ps = ps
locals (d ∷ ds) ps = sign f.Var (space (declarations (d ∷ ds) (sign f.Semicolon (feed ps))))

abbrev pub left_side : List (List ℕ) → Pieces → Pieces
left_side (x ∷ []) ps = word x ps
left_side xs ps = sign f.Open (apart f.Comma word xs (sign f.Close ps))

abbrev pub equation : EquationTree → Pieces → Pieces
equation e ps = space (space (left_side e.left (space (sign f.Equal (space (pieces (written e.right) (sign f.Semicolon (feed ps))))))))

abbrev pub body : NodeTree → Pieces → Pieces
body n ps = sign f.Let (feed (each equation n.equations (sign f.Tel (feed ps))))

abbrev pub heading : NodeTree → Pieces → Pieces
heading n ps =
    sign f.Node (space (word n.name (sign f.Open (declarations n.inputs (sign f.Close (space (sign f.Returns (space (sign f.Open (declarations n.outputs
    (sign f.Close (sign f.Semicolon (feed ps)))))))))))))

abbrev pub node : NodeTree → Pieces → Pieces
node n ps = heading n (locals n.locals (body n ps))

abbrev pub type_declaration : TypeTree → Pieces → Pieces
type_declaration x ps =
    sign f.Type (space (word x.name (space (sign f.Equal (space (sign f.Enum (space (sign f.OpenBrace (space (apart f.Comma word x.names
    (space (sign f.CloseBrace (sign f.Semicolon (feed ps))))))))))))))

abbrev pub program : ProgramTree → Pieces → Pieces
program p ps = each type_declaration p.types (each node p.nodes ps)

-- THEIR BYTES

bytes-not : (b : Bool) (ps : Pieces) → bytes (not_pieces b ps) ≡ text.sign_text b ++ bytes ps
bytes-not true ps = refl
bytes-not false ps = refl

bytes-pattern : (p : Pattern) (x : List ℕ) (ps : Pieces) → bytes (pattern_pieces p x ps) ≡ text.pattern_text p x ++ bytes ps
bytes-pattern (patterns.Truth b) x ps = simp (append_assoc, bytes-not b (word x ps))
bytes-pattern (patterns.Label l) x ps = simp append_assoc

bytes-when : (c : Condition) (ps : Pieces) → bytes (when_pieces c ps) ≡ text.when_text c ++ bytes ps
bytes-when c ps = simp (append_assoc, bytes-pattern c.pattern c.variable ps)

bytes-truth : (b : Bool) (ps : Pieces) → bytes (sign (truth_token b) ps) ≡ text.truth_text b ++ bytes ps
bytes-truth true ps = refl
bytes-truth false ps = refl

bytes-branch : (p : Pattern) (ps : Pieces) → bytes (branch_piece p ps) ≡ text.branch_text p ++ bytes ps
bytes-branch (patterns.Truth b) ps = bytes-truth b ps
bytes-branch (patterns.Label l) ps = refl

regroup_branch : (a b c d e g z : List ℕ) → (((((a ++ b) ++ c) ++ d) ++ e) ++ g) ++ z ≡ a ++ (b ++ (c ++ (d ++ (e ++ (g ++ z)))))
regroup_branch a b c d e g z = simp append_assoc

regroup_call : (a b c d e z : List ℕ) → (((a ++ b) ++ (c ++ d)) ++ e) ++ z ≡ a ++ (b ++ (c ++ (d ++ (e ++ z))))
regroup_call a b c d e z = simp append_assoc

mutual
  bytes-pieces : (c : Written) (ps : Pieces) → bytes (pieces c ps) ≡ expression c ++ bytes ps
  bytes-pieces (number n) ps = refl
  bytes-pieces (truth b) ps = bytes-truth b ps
  bytes-pieces (variable x) ps = refl
  bytes-pieces (unary op c) ps = simp (append_assoc, bytes-pieces c ps)
  bytes-pieces (binary op a b) ps = simp (append_assoc, bytes-pieces a (space (sign (infix_token op) (space (pieces b ps)))), bytes-pieces b ps)
  bytes-pieces (choice a b c) ps =
      simp (append_assoc, bytes-pieces a (space (sign f.Then (space (pieces b (space (sign f.Else (space (pieces c ps)))))))), bytes-pieces b (space (sign f.Else (space (pieces c ps)))), bytes-pieces c ps)
  bytes-pieces (when c clock) ps = simp (append_assoc, bytes-pieces c (when_pieces clock ps), bytes-when clock ps)
  bytes-pieces (current x) ps = refl
  bytes-pieces (merge x qs cs) ps = simp (append_assoc, bytes-branches cs qs ps)
  bytes-pieces (call g none) ps = simp append_assoc
  bytes-pieces (call g (more c cs)) ps =
      let end = sign f.Close ps in
      ap (λ (z : List ℕ). g ++ (codes "(" ++ z)) (bytes-pieces c (further cs end) ∙ ap (λ (z : List ℕ). expression c ++ z) (bytes-further cs end))
      ∙ sym (regroup_call g (codes "(") (expression c) (text.further cs) (codes ")") (bytes ps))
  bytes-pieces (paren c) ps = simp (append_assoc, bytes-pieces c (sign f.Close ps))

  bytes-further : (cs : Writtens) (ps : Pieces) → bytes (further cs ps) ≡ text.further cs ++ bytes ps
  bytes-further none ps = refl
  bytes-further (more c cs) ps = simp (append_assoc, bytes-pieces c (further cs ps), bytes-further cs ps)

  bytes-branches : (cs : Writtens) (qs : List Pattern) (ps : Pieces) → bytes (branches cs qs ps) ≡ text.branches cs qs ++ bytes ps
  bytes-branches none qs ps = refl
  bytes-branches (more c cs) [] ps = refl
  bytes-branches (more c cs) (q ∷ qs) ps =
      let end = sign f.Close (branches cs qs ps) in
      let inner = space (sign f.Arrow (space (pieces c end))) in
      ap (λ (z : List ℕ). codes " (" ++ z) (bytes-branch q inner)
      ∙ ap (λ (z : List ℕ). codes " (" ++ (text.branch_text q ++ (codes " -> " ++ z))) (bytes-pieces c end ∙ ap (λ (z : List ℕ). expression c ++ (codes ")" ++ z)) (bytes-branches cs qs ps))
      ∙ sym (regroup_branch (codes " (") (text.branch_text q) (codes " -> ") (expression c) (codes ")") (text.branches cs qs) (bytes ps))

bytes-each : {A : Type 0} (part : A → Pieces → Pieces) (of : A → List ℕ) → ((x : A) (ps : Pieces) → bytes (part x ps) ≡ of x ++ bytes ps)
    → (xs : List A) (ps : Pieces) → bytes (each part xs ps) ≡ flat_map of xs ++ bytes ps
bytes-each part of one [] ps = refl
bytes-each part of one (x ∷ xs) ps = one x (each part xs ps) ∙ ap (λ (z : List ℕ). of x ++ z) (bytes-each part of one xs ps) ∙ sym (append_assoc (of x) (flat_map of xs) (bytes ps))

bytes-behind : {A : Type 0} (g : Fixed) (part : A → Pieces → Pieces) (of : A → List ℕ) → ((x : A) (ps : Pieces) → bytes (part x ps) ≡ of x ++ bytes ps)
    → (x : A) (ps : Pieces) → bytes (behind g part x ps) ≡ (text_of g ++ codes " " ++ of x) ++ bytes ps
bytes-behind g part of one x ps = ap (λ (z : List ℕ). text_of g ++ (32 ∷ z)) (one x ps) ∙ sym (simp append_assoc)

bytes-apart : {A : Type 0} (g : Fixed) (part : A → Pieces → Pieces) (of : A → List ℕ) → ((x : A) (ps : Pieces) → bytes (part x ps) ≡ of x ++ bytes ps)
    → (xs : List A) (ps : Pieces) → bytes (apart g part xs ps) ≡ joined (text_of g ++ codes " ") of xs ++ bytes ps
bytes-apart g part of one [] ps = refl
bytes-apart g part of one (x ∷ xs) ps =
    one x (each (behind g part) xs ps)
    ∙ ap (λ (z : List ℕ). of x ++ z) (bytes-each (behind g part) (λ y. text_of g ++ codes " " ++ of y) (bytes-behind g part of one) xs ps)
    ∙ sym (append_assoc (of x) (flat_map (λ y. text_of g ++ codes " " ++ of y) xs) (bytes ps))

regroup_declaration : (a b c d z : List ℕ) → (((a ++ b) ++ c) ++ d) ++ z ≡ a ++ (b ++ (c ++ (d ++ z)))
regroup_declaration a b c d z = simp append_assoc

bytes-clock : (c : Option Condition) (ps : Pieces) → bytes (clock_pieces c ps) ≡ text.clock_text c ++ bytes ps
bytes-clock None ps = refl
bytes-clock (Some c) ps = bytes-when c ps

bytes-type : (k : WrittenType) (ps : Pieces) → bytes (type_piece k ps) ≡ text.type_text k ++ bytes ps
bytes-type int ps = refl
bytes-type bool ps = refl
bytes-type (named x) ps = refl

bytes-declaration : (d : DeclarationTree) (ps : Pieces) → bytes (declaration d ps) ≡ text.declaration d ++ bytes ps
bytes-declaration d ps =
    let kind : WrittenType = written_type d.kind d.type_name in
    ap (λ (z : List ℕ). d.name ++ (codes ": " ++ z)) (bytes-type kind (clock_pieces d.clock ps))
    ∙ ap (λ (z : List ℕ). d.name ++ (codes ": " ++ (text.type_text kind ++ z))) (bytes-clock d.clock ps)
    ∙ sym (regroup_declaration d.name (codes ": ") (text.type_text kind) (text.clock_text d.clock) (bytes ps))

bytes-declarations : (ds : List DeclarationTree) (ps : Pieces) → bytes (declarations ds ps) ≡ text.declarations ds ++ bytes ps
bytes-declarations = bytes-apart f.Semicolon declaration text.declaration bytes-declaration

bytes-names : (xs : List (List ℕ)) (ps : Pieces) → bytes (apart f.Comma word xs ps) ≡ joined (codes ", ") (λ x. x) xs ++ bytes ps
bytes-names = bytes-apart f.Comma word (λ x. x) (λ x ps. refl)

bytes-locals : (ds : List DeclarationTree) (ps : Pieces) → bytes (locals ds ps) ≡ text.locals ds ++ bytes ps
bytes-locals [] ps = refl
bytes-locals (d ∷ ds) ps = ap (λ (z : List ℕ). codes "var " ++ z) (bytes-declarations (d ∷ ds) (sign f.Semicolon (feed ps))) ∙ sym (simp append_assoc)

bytes-left : (xs : List (List ℕ)) (ps : Pieces) → bytes (left_side xs ps) ≡ text.left_side xs ++ bytes ps
bytes-left [] ps = refl
bytes-left (x ∷ []) ps = refl
bytes-left (x ∷ y ∷ zs) ps = ap (λ (z : List ℕ). codes "(" ++ z) (bytes-names (x ∷ y ∷ zs) (sign f.Close ps)) ∙ sym (simp append_assoc)

bytes-equation : (e : EquationTree) (ps : Pieces) → bytes (equation e ps) ≡ text.equation e ++ bytes ps
bytes-equation e ps =
    let end = sign f.Semicolon (feed ps) in
    let right = space (sign f.Equal (space (pieces (written e.right) end))) in
    ap (λ (z : List ℕ). codes "  " ++ z) (bytes-left e.left right)
    ∙ ap (λ (z : List ℕ). codes "  " ++ (text.left_side e.left ++ (codes " = " ++ z))) (bytes-pieces (written e.right) end)
    ∙ sym (simp append_assoc)

bytes-body : (n : NodeTree) (ps : Pieces) → bytes (body n ps) ≡ codes "let" ++ (10 ∷ (flat_map text.equation n.equations ++ (codes "tel" ++ (10 ∷ bytes ps))))
bytes-body n ps = ap (λ (z : List ℕ). codes "let" ++ (10 ∷ z)) (bytes-each equation text.equation bytes-equation n.equations (sign f.Tel (feed ps)))

regroup : (a b c d e f g h z : List ℕ) → (((((((a ++ b) ++ c) ++ d) ++ e) ++ f) ++ g) ++ h) ++ z ≡ a ++ (b ++ (c ++ (d ++ (e ++ (f ++ (g ++ (h ++ z)))))))
regroup a b c d e f g h z = simp append_assoc

bytes-heading : (n : NodeTree) (ps : Pieces) → bytes (heading n ps) ≡ text.line (text.heading n) ++ bytes ps
bytes-heading n ps =
    let end = sign f.Close (sign f.Semicolon (feed ps)) in
    let outputs = declarations n.outputs end in
    ap (λ (z : List ℕ). codes "node " ++ (n.name ++ (codes "(" ++ z))) (bytes-declarations n.inputs (sign f.Close (space (sign f.Returns (space (sign f.Open outputs))))))
    ∙ ap (λ (z : List ℕ). codes "node " ++ (n.name ++ (codes "(" ++ (text.declarations n.inputs ++ (codes ") returns (" ++ z))))) (bytes-declarations n.outputs end)
    ∙ sym (regroup (codes "node ") n.name (codes "(") (text.declarations n.inputs) (codes ") returns (") (text.declarations n.outputs) (codes ");") (10 ∷ []) (bytes ps))

regroup_lines : (a b c d e z : List ℕ) → ((((a ++ b) ++ c) ++ d) ++ e) ++ z ≡ a ++ (b ++ (c ++ (d ++ (e ++ z))))
regroup_lines a b c d e z = simp append_assoc

bytes-node : (n : NodeTree) (ps : Pieces) → bytes (node n ps) ≡ text.node n ++ bytes ps
bytes-node n ps =
    let head = text.line (text.heading n) in
    bytes-heading n (locals n.locals (body n ps))
    ∙ ap (λ (z : List ℕ). head ++ z) (bytes-locals n.locals (body n ps))
    ∙ ap (λ (z : List ℕ). head ++ (text.locals n.locals ++ z)) (bytes-body n ps)
    ∙ sym (regroup_lines head (text.locals n.locals) (text.line (codes "let")) (flat_map text.equation n.equations) (text.line (codes "tel")) (bytes ps))

regroup_type : (a b c d e g z : List ℕ) → (((((a ++ b) ++ c) ++ d) ++ e) ++ g) ++ z ≡ a ++ (b ++ (c ++ (d ++ (e ++ (g ++ z)))))
regroup_type a b c d e g z = simp append_assoc

bytes-type_declaration : (x : TypeTree) (ps : Pieces) → bytes (type_declaration x ps) ≡ text.type_declaration x ++ bytes ps
bytes-type_declaration x ps =
    ap (λ (z : List ℕ). codes "type " ++ (x.name ++ (codes " = enum { " ++ z))) (bytes-names x.names (space (sign f.CloseBrace (sign f.Semicolon (feed ps)))))
    ∙ sym (regroup_type (codes "type ") x.name (codes " = enum { ") (joined (codes ", ") (λ y. y) x.names) (codes " };") (10 ∷ []) (bytes ps))

pub bytes-program : (p : ProgramTree) (ps : Pieces) → bytes (program p ps) ≡ canonical p ++ bytes ps
bytes-program p ps =
    bytes-each type_declaration text.type_declaration bytes-type_declaration p.types (each node p.nodes ps)
    ∙ ap (λ (z : List ℕ). flat_map text.type_declaration p.types ++ z) (bytes-each node text.node bytes-node p.nodes ps)
    ∙ sym (append_assoc (flat_map text.type_declaration p.types) (flat_map text.node p.nodes) (bytes ps))

-- THEIR TOKENS

abbrev pub show : Option Tok → List Tok → List Tok
show None ts = ts
show (Some t) ts = t ∷ ts

abbrev pub shown : Pieces → List Tok
shown [] = []
shown (p ∷ ps) = show p.1 (shown ps)

before-shown : (at : ℕ) (t : Option Tok) (ts : List Placed) → map (λ x. x.1) (before at t ts) ≡ show t (map (λ x. x.1) ts)
before-shown at None ts = refl
before-shown at (Some t) ts = refl

pub placed-shown : (ps : Pieces) (at : ℕ) → map (λ x. x.1) (placed at ps) ≡ shown ps
placed-shown [] at = refl
placed-shown ((w, t) ∷ ps) at = before-shown at t (placed (at + length w) ps) ∙ ap (show t) (placed-shown ps (at + length w))

shown-not : (b : Bool) (ps : Pieces) → shown (not_pieces b ps) ≡ grammar.sign_tokens b (shown ps)
shown-not true ps = refl
shown-not false ps = refl

shown-pattern : (p : Pattern) (x : List ℕ) (ps : Pieces) → shown (pattern_pieces p x ps) ≡ grammar.pattern_tokens p x (shown ps)
shown-pattern (patterns.Truth b) x ps = shown-not b (word x ps)
shown-pattern (patterns.Label l) x ps = refl

shown-branch : (p : Pattern) (ps : Pieces) → shown (branch_piece p ps) ≡ branch_token p ∷ shown ps
shown-branch (patterns.Truth b) ps = refl
shown-branch (patterns.Label l) ps = refl

shown-when : (c : Condition) (ps : Pieces) → shown (when_pieces c ps) ≡ grammar.when_tokens c (shown ps)
shown-when c ps = ap (λ (ts : List Tok). fixed f.When ∷ ts) (shown-pattern c.pattern c.variable ps)

mutual
  shown-pieces : (c : Written) (ps : Pieces) → shown (pieces c ps) ≡ tokens c (shown ps)
  shown-pieces (number n) ps = refl
  shown-pieces (truth b) ps = refl
  shown-pieces (variable x) ps = refl
  shown-pieces (unary op c) ps = ap (λ (ts : List Tok). fixed (prefix_token op) ∷ ts) (shown-pieces c ps)
  shown-pieces (binary op a b) ps =
      shown-pieces a (space (sign (infix_token op) (space (pieces b ps)))) ∙ ap (λ (ts : List Tok). tokens a (fixed (infix_token op) ∷ ts)) (shown-pieces b ps)
  shown-pieces (choice a b c) ps =
      ap (λ (ts : List Tok). fixed f.If ∷ ts) (shown-pieces a (space (sign f.Then (space (pieces b (space (sign f.Else (space (pieces c ps)))))))))
      ∙ ap (λ (ts : List Tok). fixed f.If ∷ tokens a (fixed f.Then ∷ ts)) (shown-pieces b (space (sign f.Else (space (pieces c ps)))))
      ∙ ap (λ (ts : List Tok). fixed f.If ∷ tokens a (fixed f.Then ∷ tokens b (fixed f.Else ∷ ts))) (shown-pieces c ps)
  shown-pieces (when c clock) ps = shown-pieces c (when_pieces clock ps) ∙ ap (tokens c) (shown-when clock ps)
  shown-pieces (current x) ps = refl
  shown-pieces (merge x qs cs) ps = ap (λ (ts : List Tok). fixed f.Merge ∷ identifier x ∷ ts) (shown-branches cs qs ps)
  shown-pieces (call g none) ps = refl
  shown-pieces (call g (more c cs)) ps =
      ap (λ (ts : List Tok). identifier g ∷ fixed f.Open ∷ ts) (shown-pieces c (further cs (sign f.Close ps)))
      ∙ ap (λ (ts : List Tok). identifier g ∷ fixed f.Open ∷ tokens c ts) (shown-further cs (sign f.Close ps))
  shown-pieces (paren c) ps = ap (λ (ts : List Tok). fixed f.Open ∷ ts) (shown-pieces c (sign f.Close ps))

  shown-further : (cs : Writtens) (ps : Pieces) → shown (further cs ps) ≡ grammar.further cs (shown ps)
  shown-further none ps = refl
  shown-further (more c cs) ps =
      ap (λ (ts : List Tok). fixed f.Comma ∷ ts) (shown-pieces c (further cs ps)) ∙ ap (λ (ts : List Tok). fixed f.Comma ∷ tokens c ts) (shown-further cs ps)

  shown-branches : (cs : Writtens) (qs : List Pattern) (ps : Pieces) → shown (branches cs qs ps) ≡ grammar.branches cs qs (shown ps)
  shown-branches none qs ps = refl
  shown-branches (more c cs) [] ps = refl
  shown-branches (more c cs) (q ∷ qs) ps =
      let end = sign f.Close (branches cs qs ps) in
      ap (λ (ts : List Tok). fixed f.Open ∷ ts) (shown-branch q (space (sign f.Arrow (space (pieces c end)))))
      ∙ ap (λ (ts : List Tok). fixed f.Open ∷ branch_token q ∷ fixed f.Arrow ∷ ts) (shown-pieces c end)
      ∙ ap (λ (ts : List Tok). fixed f.Open ∷ branch_token q ∷ fixed f.Arrow ∷ tokens c (fixed f.Close ∷ ts)) (shown-branches cs qs ps)

-- what a part shows is what it has in the grammar
abbrev Shows : {A W : Type 0} → (A → Pieces → Pieces) → (W → List Tok → List Tok) → (A → W) → Type 0
Shows part of view = (x : _) (ps : Pieces) → shown (part x ps) ≡ of (view x) (shown ps)

shown-each : {A W : Type 0} (part : A → Pieces → Pieces) (of : W → List Tok → List Tok) (view : A → W) → Shows part of view
    → (xs : List A) (ps : Pieces) → shown (each part xs ps) ≡ repeated of (map view xs) (shown ps)
shown-each part of view one [] ps = refl
shown-each part of view one (x ∷ xs) ps = one x (each part xs ps) ∙ ap (of (view x)) (shown-each part of view one xs ps)

shown-behind : {A W : Type 0} (g : Fixed) (part : A → Pieces → Pieces) (of : W → List Tok → List Tok) (view : A → W) → Shows part of view → Shows (behind g part) (led g of) view
shown-behind g part of view one x ps = ap (λ (ts : List Tok). fixed g ∷ ts) (one x ps)

shown-apart : {A W : Type 0} (g : Fixed) (part : A → Pieces → Pieces) (of : W → List Tok → List Tok) (view : A → W) → Shows part of view
    → (xs : List A) (ps : Pieces) → shown (apart g part xs ps) ≡ separated g of (map view xs) (shown ps)
shown-apart g part of view one [] ps = refl
shown-apart g part of view one (x ∷ xs) ps = one x (each (behind g part) xs ps) ∙ ap (of (view x)) (shown-each (behind g part) (led g of) view (shown-behind g part of view one) xs ps)

-- a clock is given by names alone
pattern-bare : (p : Pattern) (x : List ℕ) (ts : List Tok) → grammar.pattern_tokens p x ts ≡ grammar.pattern_tokens (bare_pattern p) x ts
pattern-bare (patterns.Truth b) x ts = refl
pattern-bare (patterns.Label l) x ts = refl

shown-clock : (c : Option Condition) (ps : Pieces) → shown (clock_pieces c ps) ≡ grammar.clock (bare_clock c) (shown ps)
shown-clock None ps = refl
shown-clock (Some c) ps = shown-when c ps ∙ ap (λ (ts : List Tok). fixed f.When ∷ ts) (pattern-bare c.pattern c.variable (shown ps))

shown-type : (k : WrittenType) (ps : Pieces) → shown (type_piece k ps) ≡ type_token k ∷ shown ps
shown-type int ps = refl
shown-type bool ps = refl
shown-type (named x) ps = refl

shown-declaration : Shows declaration grammar.declaration written_declaration
shown-declaration d ps =
    let kind : WrittenType = written_type d.kind d.type_name in
    ap (λ (ts : List Tok). identifier d.name ∷ fixed f.Colon ∷ ts) (shown-type kind (clock_pieces d.clock ps))
    ∙ ap (λ (ts : List Tok). identifier d.name ∷ fixed f.Colon ∷ type_token kind ∷ ts) (shown-clock d.clock ps)

shown-declarations : (ds : List DeclarationTree) (ps : Pieces) → shown (declarations ds ps) ≡ separated f.Semicolon grammar.declaration (map written_declaration ds) (shown ps)
shown-declarations = shown-apart f.Semicolon declaration grammar.declaration written_declaration shown-declaration

-- a semicolon between declarations and one at their end are one behind each
ended-each : (ds : List DeclarationTree) (ps : Pieces)
    → shown (each (behind f.Semicolon declaration) ds (sign f.Semicolon ps)) ≡ fixed f.Semicolon ∷ repeated (ended f.Semicolon grammar.declaration) (map written_declaration ds) (shown ps)
ended-each [] ps = refl
ended-each (d ∷ ds) ps =
    ap (λ (ts : List Tok). fixed f.Semicolon ∷ ts) (shown-declaration d (each (behind f.Semicolon declaration) ds (sign f.Semicolon ps)))
    ∙ ap (λ (ts : List Tok). fixed f.Semicolon ∷ grammar.declaration (written_declaration d) ts) (ended-each ds ps)

shown-locals : (ds : List DeclarationTree) (ps : Pieces) → shown (locals ds ps) ≡ grammar.locals (map written_declaration ds) (shown ps)
shown-locals [] ps = refl
shown-locals (d ∷ ds) ps =
    ap (λ (ts : List Tok). fixed f.Var ∷ ts) (shown-declaration d (each (behind f.Semicolon declaration) ds (sign f.Semicolon (feed ps))))
    ∙ ap (λ (ts : List Tok). fixed f.Var ∷ grammar.declaration (written_declaration d) ts) (ended-each ds (feed ps))

names-each : (xs : List (List ℕ)) (ps : Pieces) → shown (each (behind f.Comma word) xs ps) ≡ repeated (led f.Comma grammar.name) xs (shown ps)
names-each [] ps = refl
names-each (x ∷ xs) ps = ap (λ (ts : List Tok). fixed f.Comma ∷ identifier x ∷ ts) (names-each xs ps)

shown-left : (xs : List (List ℕ)) (ps : Pieces) → shown (left_side xs ps) ≡ grammar.left_tokens xs (shown ps)
shown-left [] ps = refl
shown-left (x ∷ []) ps = refl
shown-left (x ∷ y ∷ zs) ps = ap (λ (ts : List Tok). fixed f.Open ∷ identifier x ∷ ts) (names-each (y ∷ zs) (sign f.Close ps))

shown-equation : Shows equation (ended f.Semicolon grammar.equation) written_equation
shown-equation e ps =
    let end = sign f.Semicolon (feed ps) in
    shown-left e.left (space (sign f.Equal (space (pieces (written e.right) end))))
    ∙ ap (λ (ts : List Tok). grammar.left_tokens e.left (fixed f.Equal ∷ ts)) (shown-pieces (written e.right) end)

shown-body : (n : NodeTree) (ps : Pieces) → shown (body n ps) ≡ grammar.body (written_node n) (shown ps)
shown-body n ps = ap (λ (ts : List Tok). fixed f.Let ∷ ts) (shown-each equation (ended f.Semicolon grammar.equation) written_equation shown-equation n.equations (sign f.Tel (feed ps)))

shown-node : Shows node grammar.node written_node
shown-node n ps =
    let rest = locals n.locals (body n ps) in
    let of : List _ → List Tok → List Tok = λ ds ts. separated f.Semicolon grammar.declaration (map written_declaration ds) ts in
    let first : List Tok → List Tok = λ ts. fixed f.Node ∷ identifier n.name ∷ fixed f.Open ∷ ts in
    let second : List Tok → List Tok = λ ts. fixed f.Close ∷ fixed f.Returns ∷ fixed f.Open ∷ ts in
    let third : List Tok → List Tok = λ ts. fixed f.Close ∷ fixed f.Semicolon ∷ ts in
    ap first (shown-declarations n.inputs (sign f.Close (space (sign f.Returns (space (sign f.Open (declarations n.outputs (sign f.Close (sign f.Semicolon (feed rest))))))))))
    ∙ ap (λ (ts : List Tok). first (of n.inputs (second ts))) (shown-declarations n.outputs (sign f.Close (sign f.Semicolon (feed rest))))
    ∙ ap (λ (ts : List Tok). first (of n.inputs (second (of n.outputs (third ts))))) (shown-locals n.locals (body n ps))
    ∙ ap (λ (ts : List Tok). first (of n.inputs (second (of n.outputs (third (grammar.locals (map written_declaration n.locals) ts)))))) (shown-body n ps)

shown-names : (xs : List (List ℕ)) (ps : Pieces) → shown (apart f.Comma word xs ps) ≡ separated f.Comma grammar.name xs (shown ps)
shown-names [] ps = refl
shown-names (x ∷ xs) ps = ap (λ (ts : List Tok). identifier x ∷ ts) (names-each xs ps)

shown-type_declaration : (x : TypeTree) (ps : Pieces) → shown (type_declaration x ps) ≡ grammar.type_declaration x (shown ps)
shown-type_declaration x ps =
    ap (λ (ts : List Tok). fixed f.Type ∷ identifier x.name ∷ fixed f.Equal ∷ fixed f.Enum ∷ fixed f.OpenBrace ∷ ts) (shown-names x.names (space (sign f.CloseBrace (sign f.Semicolon (feed ps)))))

shown-types : (xs : List TypeTree) (ps : Pieces) → shown (each type_declaration xs ps) ≡ repeated grammar.type_declaration xs (shown ps)
shown-types [] ps = refl
shown-types (x ∷ xs) ps = shown-type_declaration x (each type_declaration xs ps) ∙ ap (grammar.type_declaration x) (shown-types xs ps)

pub shown-program : (p : ProgramTree) (ps : Pieces) → shown (program p ps) ≡ grammar.program (written_program p) (shown ps)
shown-program p ps =
    shown-types p.types (each node p.nodes ps) ∙ ap (repeated grammar.type_declaration p.types) (shown-each node grammar.node written_node shown-node p.nodes ps)
