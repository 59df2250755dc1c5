-- The places that the functions of the parser answer, against those that the tokens give.
use Rattle.std.specs.Prelude.{◌≡◌, ◌+◌, ◌++◌, ◌∷◌, ℕ, false, true, [], List, drop}
use Rattle.lutree.specs.Places.{TypePlaces, NodePlaces, declaration_places, equation_places}
use Rattle.lutree.specs.declared.program.Declaration.{Declaration}
use Rattle.lutree.specs.declared.program.Equation.{Equation}
use Rattle.lusyn_grammar.specs.declared.token.Fixed.TheVariants as f
use Rattle.lusyn_grammar.specs.declared.token.Lexeme.{Lexeme}
use Rattle.lusyn_grammar.specs.Tokens.{identifier, fixed, located}
use Rattle.lusyn_grammar.specs.Places.{Placed, first, behind, declared, begun, node_places_in, nodes_in}
use Rattle.lusyn_grammar.specs.Places.{types_in}
use Rattle.lusyn_parser.specs.declared.pieces.Heading.{Heading}

-- the tokens from one of them on, with their places
abbrev pub from : List Lexeme → ℕ → List Placed
from ls at = located (drop at ls)

-- a function of tokens that gives the place of each name before the others, and passes over commas
pub record SpellsNames (F : List Placed → List ℕ) : Type 0 where
  pub name : (p : ℕ) (x : List ℕ) (xs : List Placed) → F ((p, identifier x) ∷ xs) ≡ p ∷ F xs
  pub comma : (p : ℕ) (xs : List Placed) → F ((p, fixed f.Comma) ∷ xs) ≡ F xs

-- From one token to another, what was found has grown by the names there: as each such function says,
-- together with what stands from the second token on it is what was found before together with what stands
-- from the first token on.
pub record Lists (ls : List Lexeme) (at next : ℕ) (old new : List ℕ) : Type 0 where
  pub same : (F : List Placed → List ℕ) → SpellsNames F → new ++ F (from ls next) ≡ old ++ F (from ls at)

-- From one token to another, what was found has grown by the names that are declared there: together with
-- those from the second token on it is what was found before together with those from the first token on.
pub record Declares (ls : List Lexeme) (at next : ℕ) (old new : List ℕ) : Type 0 where
  pub same : new ++ declared false (from ls next) ≡ old ++ declared false (from ls at)

-- the same of the equations that begin there
pub record Defines (ls : List Lexeme) (at next : ℕ) (old new : List ℕ) : Type 0 where
  pub same : new ++ begun true (from ls next) ≡ old ++ begun true (from ls at)

-- the same of the nodes there, with no types among them
pub record Grows (ls : List Lexeme) (at next : ℕ) (old new : List NodePlaces) : Type 0 where
  pub same : new ++ nodes_in (from ls next) ≡ old ++ nodes_in (from ls at)
  pub types : types_in (from ls at) ≡ types_in (from ls next)

-- the same of the types there, with no nodes among them
pub record TypesGrow (ls : List Lexeme) (at next : ℕ) (old new : List TypePlaces) : Type 0 where
  pub same : new ++ types_in (from ls next) ≡ old ++ types_in (from ls at)
  pub nodes : nodes_in (from ls at) ≡ nodes_in (from ls next)

-- A heading stands from one token, which is `node`, to another: its places are those of the node, whose
-- locals and equations are still to come.
pub record HeadingPlaces (ls : List Lexeme) (at next : ℕ) (h : Heading) : Type 0 where
  pub name : h.byte ≡ first (from ls (at + 1))
  pub inputs : declaration_places h.inputs.items ≡ declared false (behind f.Open (from ls (at + 1)))
  pub outputs : declaration_places h.outputs.items ++ declared false (from ls next) ≡ declared false
      (behind f.Open (behind f.Returns (from ls (at + 1))))
  pub locals : behind f.Var (from ls (at + 1)) ≡ behind f.Var (from ls next)
  pub equations : behind f.Let (from ls (at + 1)) ≡ behind f.Let (from ls next)
  pub nodes : nodes_in (from ls at) ≡ node_places_in (from ls (at + 1)) ∷ nodes_in (from ls next)
  pub types : types_in (from ls at) ≡ types_in (from ls next)

-- Locals, or none, stand from one token to another, which is `let`: outputs end with the first token.
pub record LocalsPlaces (ls : List Lexeme) (at next : ℕ) (found : List Declaration) : Type 0 where
  pub outputs : declared false (from ls at) ≡ []
  pub locals : declaration_places found ≡ declared false (behind f.Var (from ls at))
  pub equations : behind f.Let (from ls at) ≡ behind f.Let (from ls next)
  pub nodes : nodes_in (from ls at) ≡ nodes_in (from ls next)
  pub types : types_in (from ls at) ≡ types_in (from ls next)

-- The equations of a node stand from one token, which is `let`, to another.
pub record BodyPlaces (ls : List Lexeme) (at next : ℕ) (found : List Equation) : Type 0 where
  pub equations : equation_places found ≡ begun true (behind f.Let (from ls at))
  pub nodes : nodes_in (from ls at) ≡ nodes_in (from ls next)
  pub types : types_in (from ls at) ≡ types_in (from ls next)
