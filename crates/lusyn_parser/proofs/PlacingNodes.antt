-- The places of nodes and of their parts are those that the tokens give.
use Rattle.std.proofs.Common.{◌≡◌, ◌+◌, ℕ, Bool, true, false, true≢false, List, [], ◌∷◌, ◌++◌, drop, Result, Ok, Err, refl, ap, sym, ◌∙◌}
use Rattle.std.specs.Result.{is_ok}
use Rattle.std.proofs.lemmas.List.{append-nil}
use Rattle.lutree.specs.declared.program.Declaration.{Declaration}
use Rattle.lutree.specs.declared.program.Equation.{Equation}
use Rattle.lutree.specs.declared.program.Node.{Node}
use Rattle.lutree.specs.Places.{TypePlaces, NodePlaces, ProgramPlaces, declaration_places, equation_places, node_places}
use Rattle.lutree.specs.Tree.{DeclarationTree, EquationTree}
use Rattle.lusyn_grammar.specs.declared.token.Fixed.{Fixed}
use Rattle.lusyn_grammar.specs.declared.token.Fixed.TheVariants as f
use Rattle.lusyn_grammar.specs.declared.token.Lexeme.{Lexeme}
use Rattle.lusyn_grammar.specs.Tokens.{Tok, identifier, fixed, toks, located}
use Rattle.lusyn_grammar.specs.Grammar.{WrittenDeclaration, optional}
use Rattle.lusyn_grammar.specs.Grammar as w
use Rattle.lusyn_grammar.specs.Reading.{after, begins, name, past, inputs, declarations, locals, equations, body}
use Rattle.lusyn_grammar.specs.Places.{Placed, first, behind, declared, begun, node_places_in, nodes_in, types_in, places_in}
use Rattle.lusyn_grammar.proofs.Pieces.{bind_ok, after-is, past-is}
use Rattle.lusyn_grammar.proofs.SoundDeclarations.{inputs_sound, declarations_sound, locals_sound}
use Rattle.lusyn_grammar.proofs.SoundPrograms.{equations_sound}
use Rattle.lusyn_grammar.proofs.Plain.{IsPlain, Own, here, token, declarations_plain, locals_plain, equations_plain}
use Rattle.lusyn_parser.specs.declared.pieces.Heading.{Heading}
use Rattle.lusyn_parser.specs.Gives.{ahead}
use Rattle.lusyn_parser.specs.Refused.{place}
use Rattle.lusyn_parser.specs.Places.{from, Declares, Defines, Grows, TypesGrow, HeadingPlaces, LocalsPlaces, BodyPlaces}
use Rattle.lusyn_parser.proofs.Placing.{stands, same_from, Passes, passes_along, passes_same, passes_plain, passes_over, returns_plain, returns_over, behind_plain, nodes_plain, types_plain}
use Rattle.lusyn_parser.proofs.PlacingPieces.{at_sign, at_name, name_first, sign_names}

-- ONE TOKEN

pub passes_token : (t : Tok) (ls : List Lexeme) (at next : ℕ) → IsPlain t → from ls at ≡ (first (from ls at), t) ∷ from ls next → Passes (from ls at) (from ls next)
passes_token t ls at next h e = passes_along (from ls at) ((first (from ls at), t) ∷ from ls next) (from ls next) (passes_same _ _ e) (passes_plain (first (from ls at), t) (from ls next) h)

returns_token : (t : Tok) (ls : List Lexeme) (at next : ℕ) → IsPlain t → from ls at ≡ (first (from ls at), t) ∷ from ls next → behind f.Returns (from ls at) ≡ behind f.Returns (from ls next)
returns_token t ls at next h e = ap (behind f.Returns) e ∙ returns_plain (first (from ls at), t) (from ls next) h

passes_returns : (p : ℕ) (xs : List Placed) → Passes ((p, fixed f.Returns) ∷ xs) xs
passes_returns p xs = record {
  locals = behind_plain f.Var (p, fixed f.Returns) xs refl refl;
  equations = behind_plain f.Let (p, fixed f.Returns) xs refl refl;
  nodes = nodes_plain (p, fixed f.Returns) xs refl;
  types = types_plain (p, fixed f.Returns) xs refl;
}

behind_returns : (p : ℕ) (xs : List Placed) → behind f.Returns ((p, fixed f.Returns) ∷ xs) ≡ xs
unfolding behind
behind_returns p xs = refl

behind_first_open : (p : ℕ) (xs : List Placed) → behind f.Open ((p, fixed f.Open) ∷ xs) ≡ xs
unfolding behind
behind_first_open p xs = refl

behind_open : (p q : ℕ) (x : List ℕ) (xs : List Placed) → behind f.Open ((p, identifier x) ∷ (q, fixed f.Open) ∷ xs) ≡ xs
unfolding behind
behind_open p q x xs = refl

behind_var : (p : ℕ) (xs : List Placed) → behind f.Var ((p, fixed f.Var) ∷ xs) ≡ xs
unfolding behind
behind_var p xs = refl

behind_let : (p : ℕ) (xs : List Placed) → behind f.Let ((p, fixed f.Let) ∷ xs) ≡ xs
unfolding behind
behind_let p xs = refl

no_locals : (p : ℕ) (xs : List Placed) → behind f.Var ((p, fixed f.Let) ∷ xs) ≡ []
unfolding behind
no_locals p xs = refl

none_declared : declared false [] ≡ []
unfolding declared
none_declared = refl

ends_at_returns : (p : ℕ) (xs : List Placed) → declared false ((p, fixed f.Returns) ∷ xs) ≡ []
unfolding declared
ends_at_returns p xs = refl

ends_at_var : (p : ℕ) (xs : List Placed) → declared false ((p, fixed f.Var) ∷ xs) ≡ []
unfolding declared
ends_at_var p xs = refl

ends_at_let : (p : ℕ) (xs : List Placed) → declared false ((p, fixed f.Let) ∷ xs) ≡ []
unfolding declared
ends_at_let p xs = refl

ends_at_tel : (p : ℕ) (xs : List Placed) → begun true ((p, fixed f.Tel) ∷ xs) ≡ []
unfolding begun
ends_at_tel p xs = refl

one_node : (p : ℕ) (xs : List Placed) → nodes_in ((p, fixed f.Node) ∷ xs) ≡ node_places_in xs ∷ nodes_in xs
unfolding nodes_in
one_node p xs = refl

-- A SEMICOLON THAT MAY BE LEFT OUT

optional_plain : (b : Bool) → Own IsPlain (optional b)
optional_plain false = here
optional_plain true = token (fixed f.Semicolon) refl here

optional_at : (ls : List Lexeme) (at next : ℕ) → ahead ls next ≡ past f.Semicolon (ahead ls at) → (b : Bool) × (optional b (ahead ls next) ≡ ahead ls at)
optional_at ls at next e = let (b, h) = past-is (ahead ls at) in (b, ap (optional b) e ∙ h)

optional_passes : (ls : List Lexeme) (at next : ℕ) → ahead ls next ≡ past f.Semicolon (ahead ls at) → Passes (from ls at) (from ls next)
optional_passes ls at next e = let (b, h) = optional_at ls at next e in passes_over (optional b) ls at next (optional_plain b) h

optional_names : (ls : List Lexeme) (at next : ℕ) → ahead ls next ≡ past f.Semicolon (ahead ls at) → declared false (from ls at) ≡ declared false (from ls next)
optional_names ls at next e = let (b, h) = optional_at ls at next e in by_flag b h
  where
    known : after f.Semicolon (fixed f.Semicolon ∷ ahead ls next) ≡ Ok (ahead ls next)
    known = refl

    by_flag : (b : Bool) → optional b (ahead ls next) ≡ ahead ls at → declared false (from ls at) ≡ declared false (from ls next)
    by_flag false h = ap (declared false) (same_from ls at next (sym h))
    by_flag true h = sign_names f.Semicolon ls at next refl refl (ap (after f.Semicolon) (sym h) ∙ known)

-- THE HEADING

module _ (ls : List Lexeme) (at a b c d e g h i j next n end : ℕ) (x : List ℕ) (ins outs : List DeclarationTree) (found : Heading)
    (is_next : a ≡ at + 1) (begins_node : after f.Node (ahead ls at) ≡ Ok (ahead ls a)) (there : found.byte ≡ place end (from ls a)) (named : name (ahead ls a) ≡ Ok (x, ahead ls b))
    (opened : after f.Open (ahead ls b) ≡ Ok (ahead ls c)) (read_inputs : inputs n (ahead ls c) ≡ Ok (ins, ahead ls d)) (inputs_at : Declares ls c d [] (declaration_places found.inputs.items))
    (closed : after f.Close (ahead ls d) ≡ Ok (ahead ls e)) (returns : after f.Returns (ahead ls e) ≡ Ok (ahead ls g)) (opened_again : after f.Open (ahead ls g) ≡ Ok (ahead ls h))
    (read_outputs : declarations n (ahead ls h) ≡ Ok (outs, ahead ls i)) (outputs_at : Declares ls h i [] (declaration_places found.outputs.items)) (closed_again : after f.Close (ahead ls i) ≡ Ok (ahead ls j))
    (ended : ahead ls next ≡ past f.Semicolon (ahead ls j)) where
  same_start : from ls (at + 1) ≡ from ls a
  same_start = ap (from ls) (sym is_next)

  passes_inputs : Passes (from ls c) (from ls d)
  passes_inputs = let r = inputs_sound n (ahead ls c) (ins, ahead ls d) read_inputs in passes_over (w.separated f.Semicolon w.declaration r.written) ls c d (declarations_plain r.written) r.spelled

  returns_inputs : behind f.Returns (from ls c) ≡ behind f.Returns (from ls d)
  returns_inputs = let r = inputs_sound n (ahead ls c) (ins, ahead ls d) read_inputs in returns_over (w.separated f.Semicolon w.declaration r.written) ls c d (declarations_plain r.written) r.spelled

  passes_outputs : Passes (from ls h) (from ls i)
  passes_outputs = let r = declarations_sound n (ahead ls h) (outs, ahead ls i) read_outputs in passes_over (w.separated f.Semicolon w.declaration r.written) ls h i (declarations_plain r.written) r.spelled

  passes_heading : Passes (from ls a) (from ls next)
  passes_heading =
      passes_along (from ls a) (from ls b) (from ls next) (passes_token (identifier x) ls a b refl (at_name ls a b x named))
      (passes_along (from ls b) (from ls c) (from ls next) (passes_token (fixed f.Open) ls b c refl (at_sign f.Open ls b c opened))
      (passes_along (from ls c) (from ls d) (from ls next) passes_inputs
      (passes_along (from ls d) (from ls e) (from ls next) (passes_token (fixed f.Close) ls d e refl (at_sign f.Close ls d e closed))
      (passes_along (from ls e) ((first (from ls e), fixed f.Returns) ∷ from ls g) (from ls next) (passes_same _ _ (at_sign f.Returns ls e g returns))
      (passes_along ((first (from ls e), fixed f.Returns) ∷ from ls g) (from ls g) (from ls next) (passes_returns (first (from ls e)) (from ls g))
      (passes_along (from ls g) (from ls h) (from ls next) (passes_token (fixed f.Open) ls g h refl (at_sign f.Open ls g h opened_again))
      (passes_along (from ls h) (from ls i) (from ls next) passes_outputs
      (passes_along (from ls i) (from ls j) (from ls next) (passes_token (fixed f.Close) ls i j refl (at_sign f.Close ls i j closed_again))
      (optional_passes ls j next ended)))))))))

  inputs_begin : behind f.Open (from ls a) ≡ from ls c
  inputs_begin =
      ap (behind f.Open) (at_name ls a b x named ∙ ap (λ (xs : List Placed). (first (from ls a), identifier x) ∷ xs) (at_sign f.Open ls b c opened))
      ∙ behind_open (first (from ls a)) (first (from ls b)) x (from ls c)

  inputs_end : declared false (from ls d) ≡ []
  inputs_end = sign_names f.Close ls d e refl refl closed ∙ ap (declared false) (at_sign f.Returns ls e g returns) ∙ ends_at_returns (first (from ls e)) (from ls g)

  outputs_begin : behind f.Returns (from ls a) ≡ from ls g
  outputs_begin =
      returns_token (identifier x) ls a b refl (at_name ls a b x named)
      ∙ returns_token (fixed f.Open) ls b c refl (at_sign f.Open ls b c opened)
      ∙ returns_inputs
      ∙ returns_token (fixed f.Close) ls d e refl (at_sign f.Close ls d e closed)
      ∙ ap (behind f.Returns) (at_sign f.Returns ls e g returns)
      ∙ behind_returns (first (from ls e)) (from ls g)

  outputs_open : behind f.Open (from ls g) ≡ from ls h
  outputs_open = ap (behind f.Open) (at_sign f.Open ls g h opened_again) ∙ behind_first_open (first (from ls g)) (from ls h)

  outputs_go : declared false (from ls i) ≡ declared false (from ls next)
  outputs_go = sign_names f.Close ls i j refl refl closed_again ∙ optional_names ls j next ended

  pub heading_places : HeadingPlaces ls at next found
  heading_places = record {
    name = there ∙ name_first ls a b end x named ∙ ap first (sym same_start);
    inputs =
        sym (append-nil (declaration_places found.inputs.items))
        ∙ ap (λ (us : List ℕ). declaration_places found.inputs.items ++ us) (sym inputs_end)
        ∙ inputs_at.same
        ∙ ap (declared false) (sym inputs_begin)
        ∙ ap (λ (xs : List Placed). declared false (behind f.Open xs)) (sym same_start);
    outputs =
        ap (λ (us : List ℕ). declaration_places found.outputs.items ++ us) (sym outputs_go)
        ∙ outputs_at.same
        ∙ ap (declared false) (sym outputs_open)
        ∙ ap (λ (xs : List Placed). declared false (behind f.Open xs)) (sym outputs_begin)
        ∙ ap (λ (xs : List Placed). declared false (behind f.Open (behind f.Returns xs))) (sym same_start);
    locals = ap (behind f.Var) same_start ∙ passes_heading.locals;
    equations = ap (behind f.Let) same_start ∙ passes_heading.equations;
    nodes =
        ap nodes_in (at_sign f.Node ls at a begins_node)
        ∙ one_node (first (from ls at)) (from ls a)
        ∙ ap (λ (xs : List Placed). node_places_in xs ∷ nodes_in (from ls a)) (sym same_start)
        ∙ ap (λ (us : List NodePlaces). node_places_in (from ls (at + 1)) ∷ us) passes_heading.nodes;
    types = ap types_in (at_sign f.Node ls at a begins_node) ∙ types_plain (first (from ls at), fixed f.Node) (from ls a) refl ∙ passes_heading.types;
  }

-- LOCALS

begun_by : (g : Fixed) (ts : List Tok) (r : Result (List Tok) (List Tok)) → after g ts ≡ r → is_ok r ≡ true → (us : List Tok) × (after g ts ≡ Ok us)
begun_by g ts (Err us) e h = absurd (true≢false (sym h))
begun_by g ts (Ok us) e h = (us, e)

at_let : (ls : List Lexeme) (at : ℕ) → begins f.Let (ahead ls at) ≡ true → (xs : List Placed) × (from ls at ≡ (first (from ls at), fixed f.Let) ∷ xs)
at_let ls at h =
    let (us, e) = begun_by f.Let (ahead ls at) (after f.Let (ahead ls at)) refl h in
    let s = stands ls at (fixed f.Let) us (sym (after-is f.Let (ahead ls at) us e)) in
    (from ls (at + 1), s.here)

pub locals_left_out : (ls : List Lexeme) (at : ℕ) (found : List Declaration) → found ≡ [] → begins f.Let (ahead ls at) ≡ true → LocalsPlaces ls at at found
locals_left_out ls at found none h =
    let (xs, e) = at_let ls at h in
    record {
      outputs = ap (declared false) e ∙ ends_at_let (first (from ls at)) xs;
      locals = ap declaration_places none ∙ sym (ap (λ (ys : List Placed). declared false (behind f.Var ys)) e ∙ ap (declared false) (no_locals (first (from ls at)) xs) ∙ none_declared);
      equations = refl;
      nodes = refl;
      types = refl;
    }

module _ (ls : List Lexeme) (at a next n : ℕ) (trees : List DeclarationTree) (found : List Declaration) (begins_var : after f.Var (ahead ls at) ≡ Ok (ahead ls a))
    (read : locals n (ahead ls at) ≡ Ok (trees, ahead ls next)) (there : Declares ls a next [] (declaration_places found)) where
  here_var : from ls at ≡ (first (from ls at), fixed f.Var) ∷ from ls a
  here_var = at_sign f.Var ls at a begins_var

  rest_of : (ts us : List Tok) → fixed f.Var ∷ ts ≡ fixed f.Var ∷ us → ts ≡ us
  rest_of ts us e = cc

  over : (ds : List WrittenDeclaration) → w.locals ds (ahead ls next) ≡ ahead ls at → (behind f.Let (from ls at) ≡ behind f.Let (from ls next)) × (nodes_in (from ls at) ≡ nodes_in (from ls next)) × (types_in (from ls at) ≡ types_in (from ls next))
  over [] e = (ap (behind f.Let) (same_from ls at next (sym e)), ap nodes_in (same_from ls at next (sym e)), ap types_in (same_from ls at next (sym e)))
  over (d ∷ ds) e =
      let parts : w.repeated (w.ended f.Semicolon w.declaration) (d ∷ ds) (ahead ls next) ≡ ahead ls a = rest_of _ _ (e ∙ sym (after-is f.Var (ahead ls at) (ahead ls a) begins_var)) in
      let p = passes_over (w.repeated (w.ended f.Semicolon w.declaration) (d ∷ ds)) ls a next (locals_plain (d ∷ ds)) parts in (
        ap (behind f.Let) here_var ∙ behind_plain f.Let (first (from ls at), fixed f.Var) (from ls a) refl refl ∙ p.equations,
        ap nodes_in here_var ∙ nodes_plain (first (from ls at), fixed f.Var) (from ls a) refl ∙ p.nodes,
        ap types_in here_var ∙ types_plain (first (from ls at), fixed f.Var) (from ls a) refl ∙ p.types,
      )

  pub locals_places : begins f.Let (ahead ls next) ≡ true → LocalsPlaces ls at next found
  locals_places h =
      let (xs, e) = at_let ls next h in
      let r = locals_sound n (ahead ls at) (trees, ahead ls next) read in
      let passed = over r.written r.spelled in
      record {
        outputs = ap (declared false) here_var ∙ ends_at_var (first (from ls at)) (from ls a);
        locals =
            sym (append-nil (declaration_places found))
            ∙ ap (λ (us : List ℕ). declaration_places found ++ us) (sym (ap (declared false) e ∙ ends_at_let (first (from ls next)) xs))
            ∙ there.same
            ∙ ap (declared false) (sym (ap (behind f.Var) here_var ∙ behind_var (first (from ls at)) (from ls a)));
        equations = passed.0;
        nodes = passed.1;
        types = passed.2;
      }

-- THE EQUATIONS

module _ (ls : List Lexeme) (at a b c next n : ℕ) (trees : List EquationTree) (found : List Equation) (begins_let : after f.Let (ahead ls at) ≡ Ok (ahead ls a))
    (read : equations n (ahead ls a) ≡ Ok (trees, ahead ls b)) (there : Defines ls a b [] (equation_places found)) (ends_tel : after f.Tel (ahead ls b) ≡ Ok (ahead ls c))
    (ended : ahead ls next ≡ past f.Semicolon (ahead ls c)) where
  here_let : from ls at ≡ (first (from ls at), fixed f.Let) ∷ from ls a
  here_let = at_sign f.Let ls at a begins_let

  here_tel : from ls b ≡ (first (from ls b), fixed f.Tel) ∷ from ls c
  here_tel = at_sign f.Tel ls b c ends_tel

  passes_equations : Passes (from ls a) (from ls b)
  passes_equations =
      let r = equations_sound n (ahead ls a) (trees, ahead ls b) read in
      passes_over (w.repeated (w.ended f.Semicolon w.equation) r.written) ls a b (equations_plain r.written) r.spelled

  pub body_places : BodyPlaces ls at next found
  body_places = record {
    equations =
        sym (append-nil (equation_places found))
        ∙ ap (λ (us : List ℕ). equation_places found ++ us) (sym (ap (begun true) here_tel ∙ ends_at_tel (first (from ls b)) (from ls c)))
        ∙ there.same
        ∙ ap (begun true) (sym (ap (behind f.Let) here_let ∙ behind_let (first (from ls at)) (from ls a)));
    nodes =
        ap nodes_in here_let
        ∙ nodes_plain (first (from ls at), fixed f.Let) (from ls a) refl
        ∙ passes_equations.nodes
        ∙ ap nodes_in here_tel
        ∙ nodes_plain (first (from ls b), fixed f.Tel) (from ls c) refl
        ∙ (optional_passes ls c next ended).nodes;
    types =
        ap types_in here_let
        ∙ types_plain (first (from ls at), fixed f.Let) (from ls a) refl
        ∙ passes_equations.types
        ∙ ap types_in here_tel
        ∙ types_plain (first (from ls b), fixed f.Tel) (from ls c) refl
        ∙ (optional_passes ls c next ended).types;
  }

pub body_begins : (n : ℕ) (ts : List Tok) (x : List EquationTree × List Tok) → body n ts ≡ Ok x → begins f.Let ts ≡ true
unfolding body
body_begins n ts x e = let (a, h, others) = bind_ok (after f.Let ts) _ x e in ap (λ (r : Result (List Tok) (List Tok)). is_ok r) h

-- A NODE

same_places : (a b : ℕ) (c d e g h i j k : List ℕ) → a ≡ b → c ≡ d → e ≡ g → h ≡ i → j ≡ k
    → (let R = NodePlaces in ◌≡◌ {A = R} (record { name = a; inputs = c; outputs = e; locals = h; equations = j }) (record { name = b; inputs = d; outputs = g; locals = i; equations = k }))
same_places a b c d e g h i j k p q r s t =
    let R = NodePlaces in
    let one : ℕ → R = λ v. record { name = v; inputs = c; outputs = e; locals = h; equations = j } in
    let two : List ℕ → R = λ v. record { name = b; inputs = v; outputs = e; locals = h; equations = j } in
    let three : List ℕ → R = λ v. record { name = b; inputs = d; outputs = v; locals = h; equations = j } in
    let four : List ℕ → R = λ v. record { name = b; inputs = d; outputs = g; locals = v; equations = j } in
    let five : List ℕ → R = λ v. record { name = b; inputs = d; outputs = g; locals = i; equations = v } in
    ap one p ∙ ap two q ∙ ap three r ∙ ap four s ∙ ap five t

pub node_at : (ls : List Lexeme) (at b c next : ℕ) (h : Heading) (declares : List Declaration) (defines : List Equation) (n : Node) → n.byte ≡ h.byte → n.inputs ≡ h.inputs.items → n.outputs ≡ h.outputs.items
    → n.locals ≡ declares → n.equations ≡ defines → HeadingPlaces ls at b h → LocalsPlaces ls b c declares → BodyPlaces ls c next defines
    → node_places n ∷ nodes_in (from ls next) ≡ nodes_in (from ls at)
node_at ls at b c next h declares defines n name_is inputs_are outputs_are locals_are equations_are heads middle ends =
    let here : node_places n ≡ node_places_in (from ls (at + 1)) =
    same_places _ _ _ _ _ _ _ _ _ _ (name_is ∙ heads.name) (ap declaration_places inputs_are ∙ heads.inputs)
    (ap declaration_places outputs_are ∙ sym (append-nil (declaration_places h.outputs.items)) ∙ ap (λ (us : List ℕ). declaration_places h.outputs.items ++ us) (sym middle.outputs) ∙ heads.outputs)
    (ap declaration_places locals_are ∙ middle.locals ∙ ap (declared false) (sym heads.locals))
    (ap equation_places equations_are ∙ ends.equations ∙ ap (begun true) (sym (heads.equations ∙ middle.equations))) in
    ap (λ (q : NodePlaces). q ∷ nodes_in (from ls next)) here
    ∙ ap (λ (us : List NodePlaces). node_places_in (from ls (at + 1)) ∷ us) (sym (middle.nodes ∙ ends.nodes))
    ∙ sym heads.nodes

pub node_types : (ls : List Lexeme) (at b c next : ℕ) (h : Heading) (declares : List Declaration) (defines : List Equation) → HeadingPlaces ls at b h → LocalsPlaces ls b c declares → BodyPlaces ls c next defines
    → types_in (from ls at) ≡ types_in (from ls next)
node_types ls at b c next h declares defines heads middle ends = heads.types ∙ middle.types ∙ ends.types

-- ALL TOKENS

no_tokens : (ls : List Lexeme) → toks ls ≡ [] → located ls ≡ []
no_tokens [] e = refl
no_tokens (l ∷ ls) e = absurd cc

no_nodes : nodes_in [] ≡ []
unfolding nodes_in
no_nodes = refl

no_types : types_in [] ≡ []
unfolding types_in
no_types = refl

abbrev whole : List TypePlaces → List NodePlaces → ProgramPlaces
whole ds ns = record { types = ds; nodes = ns }

pub all_places : (ls : List Lexeme) (mid next : ℕ) (types : List TypePlaces) (nodes : List NodePlaces) → TypesGrow ls 0 mid [] types → Grows ls mid next [] nodes → ahead ls next ≡ []
    → whole types nodes ≡ places_in (located ls)
all_places ls mid next types nodes h k e =
    let end : from ls next ≡ [] = no_tokens (drop next ls) e in
    let type_end : types_in (from ls mid) ≡ [] = k.types ∙ ap types_in end ∙ no_types in
    let node_end : nodes_in (from ls next) ≡ [] = ap nodes_in end ∙ no_nodes in
    ap (λ (ds : List TypePlaces). whole ds nodes) (sym (append-nil types) ∙ ap (λ (us : List TypePlaces). types ++ us) (sym type_end) ∙ h.same)
    ∙ ap (whole (types_in (located ls))) (sym (append-nil nodes) ∙ ap (λ (us : List NodePlaces). nodes ++ us) (sym node_end) ∙ k.same ∙ sym h.nodes)
