-- The places of a text.
use Rattle.std.proofs.Common.{◌≡◌, ℕ, nat_lt, Bool, true, List, [], ◌∷◌, Ok, codes, refl, ap, sym, ◌∙◌, arith}
use Rattle.std.specs.Str.{IsAscii}
use Rattle.std.specs.List.{list_all}
use Rattle.std.proofs.lemmas.Bool.{and_parts, ltb-true}
use Rattle.std.proofs.lemmas.Str.Ascii.{IsAscii-nil, IsAscii-cons}
use Rattle.lutree.specs.Places.{ProgramPlaces, places_view}
use Rattle.lutree.specs.declared.program.Program.{Program}
use Rattle.lusyn_grammar.specs.declared.token.Lexeme.{Lexeme}
use Rattle.lusyn_grammar.specs.Tokens.{located}
use Rattle.lusyn_grammar.specs.declared.token.Fixed.TheVariants as f
use Rattle.lusyn_grammar.specs.Tokens.{identifier, number, fixed}
use Rattle.lusyn_grammar.specs.Lexing.{Placed}
use Rattle.lusyn_grammar.specs.Scanning.{lex, piece}
use Rattle.lusyn_grammar.proofs.Whole.{whole, answer-is}
use Rattle.lusyn_grammar.specs.Places.{places_in, types_in, nodes_in, behind, declared, begun, enumerated}
use Rattle.lusyn.specs.Places.{ArePlacesOf, two_nodes, two_nodes_places, PlacesVector}
use Rattle.lusyn.proofs.Exclusive.{tokens_same}
use Rattle.lusyn.proofs.Whole.{Scanned}

pub places_of : (text : List ℕ) (ls : List Lexeme) (found : Program) → Scanned text ls → places_view found ≡ places_in (located ls) → ArePlacesOf text (places_view found)
places_of text ls found s e = (located ls, s.lexed, sym e)

pub one_places : (text : List ℕ) (one other : ProgramPlaces) → ArePlacesOf text one → ArePlacesOf text other → one ≡ other
one_places text one other (a, x, p) (b, y, q) = sym p ∙ ap places_in (tokens_same text a b x y) ∙ q

-- A WORKED TEXT

is_low : ℕ → Bool
is_low b = nat_lt b 128

low : (text : List ℕ) → list_all is_low text ≡ true → IsAscii text
unfolding is_low
low [] e = IsAscii-nil
low (b ∷ text) e = let (one, others) = and_parts (is_low b) (list_all is_low text) e in IsAscii-cons b text (ltb-true b 128 one) (low text others)

two_nodes-low : list_all is_low two_nodes ≡ true
unfolding is_low
two_nodes-low = refl

abbrev two_nodes_tokens : List Placed
two_nodes_tokens =
    (0, fixed f.Type) ∷ (5, identifier (codes "t")) ∷ (7, fixed f.Equal) ∷ (9, fixed f.Enum) ∷ (14, fixed f.OpenBrace) ∷ (16, identifier (codes "Up")) ∷
    (18, fixed f.Comma) ∷ (20, identifier (codes "Down")) ∷ (25, fixed f.CloseBrace) ∷ (26, fixed f.Semicolon) ∷ (28, fixed f.Node) ∷
    (33, identifier (codes "f")) ∷ (34, fixed f.Open) ∷ (35, identifier (codes "x")) ∷ (36, fixed f.Comma) ∷ (38, identifier (codes "y")) ∷
    (39, fixed f.Colon) ∷ (41, fixed f.Bool) ∷ (45, fixed f.Semicolon) ∷ (47, identifier (codes "m")) ∷ (48, fixed f.Colon) ∷
    (50, identifier (codes "t")) ∷ (51, fixed f.Close) ∷ (53, fixed f.Returns) ∷ (61, fixed f.Open) ∷ (62, identifier (codes "z")) ∷
    (63, fixed f.Colon) ∷ (65, fixed f.Int) ∷ (69, fixed f.When) ∷ (74, fixed f.Not) ∷ (78, identifier (codes "y")) ∷ (79, fixed f.Semicolon) ∷
    (81, identifier (codes "w")) ∷ (82, fixed f.Colon) ∷ (84, identifier (codes "t")) ∷ (86, fixed f.When) ∷ (91, identifier (codes "Up")) ∷
    (93, fixed f.Open) ∷ (94, identifier (codes "m")) ∷ (95, fixed f.Close) ∷ (96, fixed f.Close) ∷ (97, fixed f.Semicolon) ∷ (99, fixed f.Let) ∷
    (103, identifier (codes "z")) ∷ (105, fixed f.Equal) ∷ (107, number 1) ∷ (108, fixed f.Semicolon) ∷ (110, identifier (codes "w")) ∷
    (112, fixed f.Equal) ∷ (114, identifier (codes "Up")) ∷ (117, fixed f.When) ∷ (122, identifier (codes "Up")) ∷ (124, fixed f.Open) ∷
    (125, identifier (codes "m")) ∷ (126, fixed f.Close) ∷ (127, fixed f.Semicolon) ∷ (129, fixed f.Tel) ∷ (133, fixed f.Node) ∷
    (138, identifier (codes "g")) ∷ (139, fixed f.Open) ∷ (140, identifier (codes "a")) ∷ (141, fixed f.Colon) ∷ (143, fixed f.Int) ∷
    (146, fixed f.Close) ∷ (148, fixed f.Returns) ∷ (156, fixed f.Open) ∷ (157, identifier (codes "b")) ∷ (158, fixed f.Comma) ∷
    (160, identifier (codes "c")) ∷ (161, fixed f.Colon) ∷ (163, fixed f.Int) ∷ (166, fixed f.Close) ∷ (168, fixed f.Var) ∷
    (172, identifier (codes "k")) ∷ (173, fixed f.Colon) ∷ (175, fixed f.Bool) ∷ (179, fixed f.Semicolon) ∷ (181, identifier (codes "v")) ∷
    (182, fixed f.Colon) ∷ (184, fixed f.Int) ∷ (188, fixed f.When) ∷ (193, identifier (codes "k")) ∷ (194, fixed f.Semicolon) ∷ (196, fixed f.Let) ∷
    (212, fixed f.Open) ∷ (213, identifier (codes "b")) ∷ (214, fixed f.Comma) ∷ (216, identifier (codes "c")) ∷ (217, fixed f.Close) ∷
    (219, fixed f.Equal) ∷ (221, identifier (codes "h")) ∷ (222, fixed f.Open) ∷ (223, identifier (codes "a")) ∷ (224, fixed f.Close) ∷
    (225, fixed f.Semicolon) ∷ (229, identifier (codes "k")) ∷ (231, fixed f.Equal) ∷ (233, fixed f.True) ∷ (237, fixed f.Semicolon) ∷
    (239, fixed f.Tel) ∷ []

two_nodes-scanned : whole two_nodes ≡ Ok two_nodes_tokens
unfolding lex piece
two_nodes-scanned = refl

two_nodes-reported : places_in two_nodes_tokens ≡ two_nodes_places
unfolding types_in nodes_in behind declared begun enumerated
two_nodes-reported = refl

pub two_nodes-places : PlacesVector
two_nodes-places = (two_nodes_tokens, answer-is two_nodes (Ok two_nodes_tokens) (omega arith, low two_nodes two_nodes-low) two_nodes-scanned, two_nodes-reported)
