-- Where the parts of a program stand in its text, in bytes from 0.
use Rattle.std.specs.Prelude.{◌≡◌, ℕ, List, [], ◌∷◌, ◌++◌, codes}
use Rattle.lutree.specs.Places.{ProgramPlaces}
use Rattle.lusyn_grammar.specs.Lexing.{Placed}
use Rattle.lusyn_grammar.specs.Refusals.{IsLexed}
use Rattle.lusyn_grammar.specs.Places.{places_in}

-- the places that the tokens of the text give
abbrev pub ArePlacesOf : List ℕ → ProgramPlaces → Type 0
ArePlacesOf text places = (ts : List Placed) × IsLexed text ts × (places_in ts ≡ places)

-- no text has two lists of places
abbrev pub OnePlacesLaw : Type 0
OnePlacesLaw = (text : List ℕ) (one other : ProgramPlaces) → ArePlacesOf text one → ArePlacesOf text other
    → one ≡ other

-- A text of a type and of two nodes, with a comment and with clocks of all three kinds, and its places. A `;`
-- behind a clock or in a comment begins nothing, and what a type, a clock or an expression names is declared
-- elsewhere.
abbrev pub two_nodes : List ℕ
two_nodes = codes
    "type t = enum { Up, Down };\nnode f(x, y: bool; m: t) returns (z: int when not y; w: t when Up(m));\n"
    ++ codes "let z = 1; w = Up when Up(m); tel\nnode g(a: int) returns (b, c: int) var k: bool; v: int when k; let -- v = 1;\n" ++ codes "  (b, c) = h(a);\n  k = true; tel"

abbrev pub two_nodes_places : ProgramPlaces
two_nodes_places = record {
  types = record { name = 5; names = 16 ∷ 20 ∷ [] } ∷ [];
  nodes =
      record {
        name = 33;
        inputs = 35 ∷ 38 ∷ 47 ∷ [];
        outputs = 62 ∷ 81 ∷ [];
        locals = [];
        equations = 103 ∷ 110 ∷ [];
      }
      ∷ record {
        name = 138;
        inputs = 140 ∷ [];
        outputs = 157 ∷ 160 ∷ [];
        locals = 172 ∷ 181 ∷ [];
        equations = 212 ∷ 229 ∷ [];
      }
      ∷ [];
}

abbrev pub PlacesVector : Type 0
PlacesVector = ArePlacesOf two_nodes two_nodes_places
