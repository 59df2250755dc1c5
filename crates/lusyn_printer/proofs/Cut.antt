-- The canonical text is cut into its pieces: each is the longest that fits before the next.
use Rattle.std.proofs.Common.{◌≡◌, ◌≤◌, ◌<◌, ◌^◌, ◌⊎◌, ℕ, zero, suc, Bool, true, false, ◌&&◌, ◌||◌, ◌==◌, nat_le, nat_lt, List, [], ◌∷◌, ◌++◌, Option, Some, None, refl, ap, sym, subst, ◌∙◌, arith, inl, inr, slice_index}
use Rattle.std.specs.Char.{is_ascii_digit, is_ascii_alphanumeric}
use Rattle.std.specs.Int.{is_in_range}
use Rattle.std.specs.List.{list_all}
use Rattle.std.proofs.lemmas.Bool.{and_parts, eqb-true, leb-true, ltb-true}
use Rattle.std.proofs.lemmas.Str.Parse.{numerals_by_value, tells_all_ascii_digits}
use Rattle.std.specs.Str.{IsAscii, all_ascii_digits}
use Rattle.std.specs.Str.Parse.{IsNumeral}
use Rattle.std.specs.Fmt.{decimal}
use Rattle.std.proofs.lemmas.Fmt.{decimal_is_IsNumeral, IsAscii-decimal}
use Rattle.std.proofs.lemmas.Str.{IsAscii-append}
use Rattle.std.proofs.lemmas.Str.Ascii.{IsAscii-nil}
use Rattle.lutree.specs.declared.expr.Pattern.{Pattern}
use Rattle.lutree.specs.declared.expr.Pattern.TheVariants as patterns
use Rattle.lutree.specs.declared.expr.Condition.{Condition}
use Rattle.lutree.specs.Tree.{TypeTree, DeclarationTree, EquationTree, NodeTree, ProgramTree}
use Rattle.lusyn_grammar.specs.declared.token.Fixed.{Fixed}
use Rattle.lusyn_grammar.specs.declared.token.Fixed.TheVariants as f
use Rattle.lusyn_grammar.specs.Tokens.{Tok, identifier, fixed, text_of}
use Rattle.lusyn_grammar.specs.Tokens as tok
use Rattle.lusyn_grammar.specs.Lexing as lexing
use Rattle.lusyn_grammar.specs.Lexing.{Pieces, bytes, AreCut, IsPiece, IsLongest, is_letter, is_word, is_word_text, is_digits}
use Rattle.lusyn_grammar.proofs.TextPieces.{letter-is_word}
use Rattle.lusyn_grammar.specs.Grammar.{Written, Writtens, number, truth, variable, unary, binary, choice, when, current, merge, call, paren, none, more, tree, trees, Each, WrittenType, int, bool, named, truth_token}
use Rattle.lusyn_grammar.specs.Tokens.{prefix_token, infix_token}
use Rattle.lusyn_grammar.specs.Printing.{written, written_type}
use Rattle.lusyn_grammar.proofs.Printed.{tree-written}
use Rattle.lusyn_printer.proofs.Pieces.{space, feed, sign, word, numeral, not_pieces, pattern_pieces, when_pieces, branch_piece, pieces, further, branches, each, behind, apart, clock_pieces, type_piece, declaration, declarations, locals, left_side, equation, body, node, type_declaration, program}
use Rattle.lusyn_printer.proofs.Longest.{Ends, IsMark, space-longest, feed-longest, mark-longest, fixed-longest, name-longest, digits-longest}
use Rattle.lusyn_printer.proofs.Longest as ends
use Rattle.lusyn_printer.proofs.Wholes.{IsName, IsWholePattern, IsWholeCondition, IsWholeTree, AreWholeTrees, AreWholeBranches, IsWholeClock, IsWholeType, IsWholeDeclaration, IsWholeEquation, IsWholeNode, IsWholeEnumeration, IsWholeProgram, bare-whole}

-- pieces that are cut as they stand, of ASCII
pub record Sound (ps : Pieces) : Type 0 where
  pub cut : AreCut ps []
  pub ascii : IsAscii (bytes ps)

-- whose first byte also goes on with no word, number or sign
pub record Ready (ps : Pieces) : Type 0 where
  pub sound : Sound ps
  pub ends : Ends (bytes ps ++ [])

-- BYTES

more_ascii : (b : ℕ) (w : List ℕ) → b < 128 → IsAscii w → (i : ℕ) → slice_index (b ∷ w) i < 128
more_ascii b w h k zero = h
more_ascii b w h k (suc i) = k i

all_ascii : (p : ℕ → Bool) → ((b : ℕ) → p b ≡ true → b < 128) → (w : List ℕ) → list_all p w ≡ true → IsAscii w
all_ascii p low [] h = IsAscii-nil
all_ascii p low (b ∷ w) h = let k = and_parts (p b) (list_all p w) h in more_ascii b w (low b k.0) (all_ascii p low w k.1)

one_ascii : (b : ℕ) → b < 128 → IsAscii (b ∷ [])
one_ascii b h = more_ascii b [] h IsAscii-nil

fixed_ascii : (g : Fixed) → IsAscii (text_of g)
fixed_ascii f.Node = all_ascii (λ b. nat_lt b 128) (λ b. ltb-true b 128) (text_of f.Node) refl
fixed_ascii g = all_ascii (λ b. nat_lt b 128) (λ b. ltb-true b 128) (text_of g) refl

either : (x y : Bool) → (x || y) ≡ true → (x ≡ true) ⊎ (y ≡ true)
either true y h = inl refl
either false y h = inr h

range_low : (low high b : ℕ) → high < 128 → is_in_range low high b ≡ true → b < 128
range_low low high b small h =
    let k = and_parts (nat_le low b) (nat_le b high) h in
    let top : b ≤ high = leb-true b high k.1 in
    omega arith

word_low : (b : ℕ) → is_word b ≡ true → b < 128
word_low b h =
    elim (either (is_ascii_alphanumeric b) (b == 95) h) [
      | inl k ↦
          elim (either (is_in_range 48 57 b || is_in_range 65 90 b) (is_in_range 97 122 b) k) [
            | inl l ↦ elim (either (is_in_range 48 57 b) (is_in_range 65 90 b) l) [ inl d ↦ range_low 48 57 b (omega arith) d | inr c ↦ range_low 65 90 b (omega arith) c ]
            | inr s ↦ range_low 97 122 b (omega arith) s
          ]
      | inr k ↦ (let same : b ≡ 95 = eqb-true b 95 k in omega arith)
    ]

word_ascii : (x : List ℕ) → is_word_text x ≡ true → IsAscii x
word_ascii [] h = absurd cc
word_ascii (b ∷ w) h =
    let k = and_parts (is_letter b) (list_all is_word w) h in more_ascii b w (word_low b (letter-is_word b k.0)) (all_ascii is_word word_low w k.1)

all_digits : (ds : List ℕ) → all_ascii_digits ds ≡ list_all is_ascii_digit ds
all_digits [] = refl
all_digits (d ∷ ds) = ap (λ (b : Bool). is_ascii_digit d && b) (all_digits ds)

numeral_digits : (ds : List ℕ) → IsNumeral 10 ds → is_digits ds ≡ true
numeral_digits [] h = absurd (omega (arith, h.0))
numeral_digits (d ∷ ds) h = sym (all_digits (d ∷ ds)) ∙ (numerals_by_value _ tells_all_ascii_digits).from (d ∷ ds) h.1

-- ONE PIECE

pub sound_nothing : Sound []
sound_nothing = record { cut = tt; ascii = IsAscii-nil }

pub sound_space : (ps : Pieces) → Sound ps → Sound (space ps)
sound_space ps h = record {
  cut = (lexing.blank 32 refl refl refl, space-longest (bytes ps ++ []), tt, h.cut);
  ascii = IsAscii-append (32 ∷ []) (bytes ps) (one_ascii 32 (omega arith)) h.ascii;
}

pub sound_feed : (ps : Pieces) → Sound ps → Sound (feed ps)
sound_feed ps h = record {
  cut = (lexing.blank 10 refl refl refl, feed-longest (bytes ps ++ []), tt, h.cut);
  ascii = IsAscii-append (10 ∷ []) (bytes ps) (one_ascii 10 (omega arith)) h.ascii;
}

pub sound_sign : (g : Fixed) (ps : Pieces) → Ready ps → Sound (sign g ps)
sound_sign g ps h = record {
  cut = (lexing.spelled g refl refl, fixed-longest g (bytes ps ++ []) h.ends, tt, h.sound.cut);
  ascii = IsAscii-append (text_of g) (bytes ps) (fixed_ascii g) h.sound.ascii;
}

pub sound_mark : (g : Fixed) (ps : Pieces) → IsMark g → Sound ps → Sound (sign g ps)
sound_mark g ps is h = record {
  cut = (lexing.spelled g refl refl, mark-longest g (bytes ps ++ []) is, tt, h.cut);
  ascii = IsAscii-append (text_of g) (bytes ps) (fixed_ascii g) h.ascii;
}

pub sound_word : (x : List ℕ) (ps : Pieces) → IsName x → Ready ps → Sound (word x ps)
sound_word x ps is h = record {
  cut = (lexing.name is.0 is.1 refl, name-longest x (bytes ps ++ []) is.0 h.ends, tt, h.sound.cut);
  ascii = IsAscii-append x (bytes ps) (word_ascii x is.0) h.sound.ascii;
}

pub sound_numeral : (n : ℕ) (ps : Pieces) → n < 2 ^ 63 → Ready ps → Sound (numeral n ps)
sound_numeral n ps small h =
    let fits : n < 2 ^ 64 = omega arith in
    let is = decimal_is_IsNumeral n fits in
    let ds : is_digits (decimal n) ≡ true = numeral_digits (decimal n) is.0 in
    let P : ℕ → Type 0 = λ v. IsPiece (decimal n) (Some (tok.number v)) in
    record {
      cut = (subst P is.1 (lexing.digits ds refl), digits-longest (decimal n) (bytes ps ++ []) ds h.ends, small, h.sound.cut);
      ascii = IsAscii-append (decimal n) (bytes ps) (IsAscii-decimal n fits) h.sound.ascii;
    }

pub ready_space : (ps : Pieces) → Sound ps → Ready (space ps)
ready_space ps h = record { sound = sound_space ps h; ends = (ends.space, bytes ps ++ [], refl) }

pub ready_feed : (ps : Pieces) → Sound ps → Ready (feed ps)
ready_feed ps h = record { sound = sound_feed ps h; ends = (ends.feed, bytes ps ++ [], refl) }

pub ready_open : (ps : Pieces) → Sound ps → Ready (sign f.Open ps)
ready_open ps h = record { sound = sound_mark f.Open ps tt h; ends = (ends.opening, bytes ps ++ [], refl) }

pub ready_close : (ps : Pieces) → Sound ps → Ready (sign f.Close ps)
ready_close ps h = record { sound = sound_mark f.Close ps tt h; ends = (ends.closing, bytes ps ++ [], refl) }

pub ready_comma : (ps : Pieces) → Sound ps → Ready (sign f.Comma ps)
ready_comma ps h = record { sound = sound_mark f.Comma ps tt h; ends = (ends.comma, bytes ps ++ [], refl) }

pub ready_semicolon : (ps : Pieces) → Sound ps → Ready (sign f.Semicolon ps)
ready_semicolon ps h = record { sound = sound_mark f.Semicolon ps tt h; ends = (ends.semicolon, bytes ps ++ [], refl) }

pub ready_colon : (ps : Pieces) → Sound ps → Ready (sign f.Colon ps)
ready_colon ps h = record { sound = sound_mark f.Colon ps tt h; ends = (ends.colon, bytes ps ++ [], refl) }

-- EXPRESSIONS

-- a keyword or a sign and a space before the rest
said : (g : Fixed) (ps : Pieces) → Sound ps → Sound (sign g (space ps))
said g ps h = sound_sign g (space ps) (ready_space ps h)

-- and a space before it
spaced : (g : Fixed) (ps : Pieces) → Sound ps → Ready (space (sign g (space ps)))
spaced g ps h = ready_space (sign g (space ps)) (said g ps h)

not_sound : (b : Bool) (ps : Pieces) → Sound ps → Sound (not_pieces b ps)
not_sound true ps h = h
not_sound false ps h = said f.Not ps h

pattern_sound : (p : Pattern) (x : List ℕ) (ps : Pieces) → IsWholePattern p → IsName x → Ready ps → Sound (pattern_pieces p x ps)
pattern_sound (patterns.Truth b) x ps whole is h = not_sound b (word x ps) (sound_word x ps is h)
pattern_sound (patterns.Label l) x ps whole is h =
    let inner = word x (sign f.Close ps) in
    sound_word l.name (sign f.Open inner) whole (ready_open inner (sound_word x (sign f.Close ps) is (ready_close ps h.sound)))

when_ready : (c : Condition) (ps : Pieces) → IsWholeCondition c → Ready ps → Ready (when_pieces c ps)
when_ready c ps is h = spaced f.When (pattern_pieces c.pattern c.variable ps) (pattern_sound c.pattern c.variable ps is.1 is.0 h)

branch_sound : (p : Pattern) (ps : Pieces) → IsWholePattern p → Ready ps → Sound (branch_piece p ps)
branch_sound (patterns.Truth b) ps is h = sound_sign (truth_token b) ps h
branch_sound (patterns.Label l) ps is h = sound_word l.name ps is h

mutual
  cut_pieces : (c : Written) (ps : Pieces) → IsWholeTree (tree c) → Ready ps → Sound (pieces c ps)
  cut_pieces (number n) ps is h = sound_numeral n ps is h
  cut_pieces (truth b) ps is h = sound_sign (truth_token b) ps h
  cut_pieces (variable x) ps is h = sound_word x ps is h
  cut_pieces (unary op c) ps is h = said (prefix_token op) (pieces c ps) (cut_pieces c ps is h)
  cut_pieces (binary op a b) ps is h =
      let second = pieces b ps in
      cut_pieces a (space (sign (infix_token op) (space second))) is.0 (spaced (infix_token op) second (cut_pieces b ps is.1 h))
  cut_pieces (choice a b c) ps is h =
      let third = pieces c ps in
      let second = pieces b (space (sign f.Else (space third))) in
      let first = pieces a (space (sign f.Then (space second))) in
      let k = cut_pieces c ps is.2 h in
      let l = cut_pieces b (space (sign f.Else (space third))) is.1 (spaced f.Else third k) in
      said f.If first (cut_pieces a (space (sign f.Then (space second))) is.0 (spaced f.Then second l))
  cut_pieces (when c clock) ps is h = cut_pieces c (when_pieces clock ps) is.0 (when_ready clock ps is.1 h)
  cut_pieces (current x) ps is h = said f.Current (word x ps) (sound_word x ps is h)
  cut_pieces (merge x qs cs) ps is h = said f.Merge (word x (branches cs qs ps)) (sound_word x (branches cs qs ps) is.0 (cut_branches cs qs ps is.1 h))
  cut_pieces (call g none) ps is h =
      sound_word g (sign f.Open (sign f.Close ps)) is.0 (ready_open (sign f.Close ps) (sound_mark f.Close ps tt h.sound))
  cut_pieces (call g (more c cs)) ps is h =
      let end = sign f.Close ps in
      let others = cut_further cs end is.1.1 (ready_close ps h.sound) in
      sound_word g (sign f.Open (pieces c (further cs end))) is.0 (ready_open (pieces c (further cs end)) (cut_pieces c (further cs end) is.1.0 others))
  cut_pieces (paren c) ps is h = sound_mark f.Open (pieces c (sign f.Close ps)) tt (cut_pieces c (sign f.Close ps) is (ready_close ps h.sound))

  cut_further : (cs : Writtens) (ps : Pieces) → AreWholeTrees (trees cs) → Ready ps → Ready (further cs ps)
  cut_further none ps is h = h
  cut_further (more c cs) ps is h =
      let inner = pieces c (further cs ps) in
      ready_comma (space inner) (sound_space inner (cut_pieces c (further cs ps) is.0 (cut_further cs ps is.1 h)))

  cut_branches : (cs : Writtens) (qs : List Pattern) (ps : Pieces) → AreWholeBranches (trees cs) qs → Ready ps → Ready (branches cs qs ps)
  cut_branches none qs ps is h = h
  cut_branches (more c cs) [] ps is h = h
  cut_branches (more c cs) (q ∷ qs) ps is h =
      let rest = branches cs qs ps in
      let inner = pieces c (sign f.Close rest) in
      let k = cut_pieces c (sign f.Close rest) is.1 (ready_close rest (cut_branches cs qs ps is.2 h).sound) in
      let begun = branch_piece q (space (sign f.Arrow (space inner))) in
      ready_space (sign f.Open begun) (sound_mark f.Open begun tt (branch_sound q (space (sign f.Arrow (space inner))) is.0 (spaced f.Arrow inner k)))

-- LISTS OF PARTS

-- a part that can stand before what is ready
abbrev Cuts : {A : Type 0} → (A → Type 0) → (A → Pieces → Pieces) → Type 0
Cuts Is part = (x : _) (ps : Pieces) → Is x → Ready ps → Sound (part x ps)

semicolons_ready : {A : Type 0} (Is : A → Type 0) (part : A → Pieces → Pieces) → Cuts Is part → (xs : List A) (ps : Pieces) → Each Is xs → Ready ps → Ready (each (behind f.Semicolon part) xs ps)
semicolons_ready Is part one [] ps is h = h
semicolons_ready Is part one (x ∷ xs) ps is h =
    let rest = each (behind f.Semicolon part) xs ps in
    ready_semicolon (space (part x rest)) (sound_space (part x rest) (one x rest is.0 (semicolons_ready Is part one xs ps is.1 h)))

commas_ready : (xs : List (List ℕ)) (ps : Pieces) → Each IsName xs → Ready ps → Ready (each (behind f.Comma word) xs ps)
commas_ready [] ps is h = h
commas_ready (x ∷ xs) ps is h =
    let rest = each (behind f.Comma word) xs ps in
    ready_comma (space (word x rest)) (sound_space (word x rest) (sound_word x rest is.0 (commas_ready xs ps is.1 h)))

clock_ready : (c : Option Condition) (ps : Pieces) → IsWholeClock c → Ready ps → Ready (clock_pieces c ps)
clock_ready None ps is h = h
clock_ready (Some c) ps is h = when_ready c ps is h

type_sound : (k : WrittenType) (ps : Pieces) → IsWholeType k → Ready ps → Sound (type_piece k ps)
type_sound int ps is h = sound_sign f.Int ps h
type_sound bool ps is h = sound_sign f.Bool ps h
type_sound (named x) ps is h = sound_word x ps is h

cut_declaration : Cuts IsWholeDeclaration declaration
cut_declaration d ps is h =
    let clocked = clock_pieces d.clock ps in
    let kind = type_piece (written_type d.kind d.type_name) clocked in
    sound_word d.name (sign f.Colon (space kind)) is.0 (ready_colon (space kind) (sound_space kind (type_sound (written_type d.kind d.type_name) clocked is.2 (clock_ready d.clock ps is.1 h))))

cut_declarations : (ds : List DeclarationTree) (ps : Pieces) → Each IsWholeDeclaration ds → Ready ps → Sound (declarations ds ps)
cut_declarations [] ps is h = h.sound
cut_declarations (d ∷ ds) ps is h =
    cut_declaration d (each (behind f.Semicolon declaration) ds ps) is.0 (semicolons_ready IsWholeDeclaration declaration cut_declaration ds ps is.1 h)

cut_locals : (ds : List DeclarationTree) (ps : Pieces) → Each IsWholeDeclaration ds → Sound ps → Sound (locals ds ps)
cut_locals [] ps is h = h
cut_locals (d ∷ ds) ps is h =
    let end = sign f.Semicolon (feed ps) in
    said f.Var (declarations (d ∷ ds) end) (cut_declarations (d ∷ ds) end is (ready_semicolon (feed ps) (sound_feed ps h)))

cut_left : (xs : List (List ℕ)) (ps : Pieces) → Each IsName xs → Ready ps → Sound (left_side xs ps)
cut_left [] ps is h = sound_mark f.Open (sign f.Close ps) tt (sound_mark f.Close ps tt h.sound)
cut_left (x ∷ []) ps is h = sound_word x ps is.0 h
cut_left (x ∷ y ∷ zs) ps is h =
    let rest = each (behind f.Comma word) (y ∷ zs) (sign f.Close ps) in
    sound_mark f.Open (word x rest) tt (sound_word x rest is.0 (commas_ready (y ∷ zs) (sign f.Close ps) is.1 (ready_close ps h.sound)))

cut_equation : (e : EquationTree) (ps : Pieces) → IsWholeEquation e → Sound ps → Sound (equation e ps)
cut_equation e ps is h =
    let P : _ → Type 0 = IsWholeTree in
    let end = sign f.Semicolon (feed ps) in
    let right = pieces (written e.right) end in
    let k = cut_pieces (written e.right) end (subst P (sym (tree-written e.right)) (bare-whole e.right is.1)) (ready_semicolon (feed ps) (sound_feed ps h)) in
    let left = left_side e.left (space (sign f.Equal (space right))) in
    sound_space (space left) (sound_space left (cut_left e.left (space (sign f.Equal (space right))) is.0 (spaced f.Equal right k)))

cut_equations : (es : List EquationTree) (ps : Pieces) → Each IsWholeEquation es → Sound ps → Sound (each equation es ps)
cut_equations [] ps is h = h
cut_equations (e ∷ es) ps is h = cut_equation e (each equation es ps) is.0 (cut_equations es ps is.1 h)

-- a keyword at the end of a line
alone : (g : Fixed) (ps : Pieces) → Sound ps → Sound (sign g (feed ps))
alone g ps h = sound_sign g (feed ps) (ready_feed ps h)

cut_body : (n : NodeTree) (ps : Pieces) → IsWholeNode n → Sound ps → Sound (body n ps)
cut_body n ps is h =
    let end = sign f.Tel (feed ps) in alone f.Let (each equation n.equations end) (cut_equations n.equations end is.4 (alone f.Tel ps h))

cut_node : (n : NodeTree) (ps : Pieces) → IsWholeNode n → Sound ps → Sound (node n ps)
cut_node n ps is h =
    let inner = locals n.locals (body n ps) in
    let k = cut_locals n.locals (body n ps) is.3 (cut_body n ps is h) in
    let closed = sign f.Close (sign f.Semicolon (feed inner)) in
    let l = ready_close (sign f.Semicolon (feed inner)) (sound_mark f.Semicolon (feed inner) tt (sound_feed inner k)) in
    let outputs = declarations n.outputs closed in
    let m = cut_declarations n.outputs closed is.2 l in
    let returned = sign f.Close (space (sign f.Returns (space (sign f.Open outputs)))) in
    let o = ready_close (space (sign f.Returns (space (sign f.Open outputs)))) (spaced f.Returns (sign f.Open outputs) (sound_mark f.Open outputs tt m)).sound in
    let inputs = declarations n.inputs returned in
    let q = cut_declarations n.inputs returned is.1 o in
    said f.Node (word n.name (sign f.Open inputs)) (sound_word n.name (sign f.Open inputs) is.0 (ready_open inputs q))

cut_nodes : (ns : List NodeTree) → Each IsWholeNode ns → Sound (each node ns [])
cut_nodes [] is = sound_nothing
cut_nodes (n ∷ ns) is = cut_node n (each node ns []) is.0 (cut_nodes ns is.1)

cut_names : (xs : List (List ℕ)) (ps : Pieces) → Each IsName xs → Ready ps → Sound (apart f.Comma word xs ps)
cut_names [] ps is h = h.sound
cut_names (x ∷ xs) ps is h = sound_word x (each (behind f.Comma word) xs ps) is.0 (commas_ready xs ps is.1 h)

cut_type : (x : TypeTree) (ps : Pieces) → IsWholeEnumeration x → Sound ps → Sound (type_declaration x ps)
cut_type x ps is h =
    let ended = sign f.CloseBrace (sign f.Semicolon (feed ps)) in
    let k = sound_sign f.CloseBrace (sign f.Semicolon (feed ps)) (ready_semicolon (feed ps) (sound_feed ps h)) in
    let names = apart f.Comma word x.names (space ended) in
    let l = cut_names x.names (space ended) is.1 (ready_space ended k) in
    let opened = sign f.OpenBrace (space names) in
    let m = said f.OpenBrace names l in
    let counted = sign f.Enum (space opened) in
    let n = said f.Enum opened m in
    let equal = space (sign f.Equal (space counted)) in
    said f.Type (word x.name equal) (sound_word x.name equal is.0 (spaced f.Equal counted n))

cut_types : (xs : List TypeTree) (ps : Pieces) → Each IsWholeEnumeration xs → Sound ps → Sound (each type_declaration xs ps)
cut_types [] ps is h = h
cut_types (x ∷ xs) ps is h = cut_type x (each type_declaration xs ps) is.0 (cut_types xs ps is.1 h)

pub cut_program : (p : ProgramTree) → IsWholeProgram p → Sound (program p [])
cut_program p is = cut_types p.types (each node p.nodes []) is.0 (cut_nodes p.nodes is.1)
