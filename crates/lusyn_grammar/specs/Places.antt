-- The places of a program's parts, as its tokens give them: where the names of its types and of their
-- enumerations, the names of its nodes, its declared names and its equations begin.
use Rattle.std.specs.Prelude.{ℕ, Bool, true, false, not, ◌||◌, List, [], ◌∷◌, if◌then◌else◌}
use Rattle.lutree.specs.Places.{TypePlaces, NodePlaces, ProgramPlaces}
use Rattle.lusyn_grammar.specs.declared.token.Fixed.{Fixed}
use Rattle.lusyn_grammar.specs.declared.token.Fixed.TheVariants as f
use Rattle.lusyn_grammar.specs.Tokens.{Tok, identifier, number, fixed}
use Rattle.lusyn_grammar.specs.Reading.{same}

-- a token with its place
abbrev pub Placed : Type 0
Placed = ℕ × Tok

-- it is this keyword or sign
abbrev pub is : Fixed → Tok → Bool
is g (identifier x) = false
is g (number n) = false
is g (fixed h) = same g h

-- the place of the first token
abbrev pub first : List Placed → ℕ
first [] = 0
first (x ∷ xs) = x.0

-- what stands behind the first such keyword or sign; nothing, where `let` stands before it
unfoldable pub behind : Fixed → List Placed → List Placed
behind g [] = []
behind g (x ∷ xs) = if is g x.1 then xs else if is f.Let x.1 then [] else behind g xs

-- declarations end at `returns`, at `var` or at `let`
abbrev pub ends_declarations : Tok → Bool
ends_declarations t = is f.Returns t || is f.Var t || is f.Let t

-- the name of a type stands behind `:`, that of a clock or its variable behind `when`, `not` or `(`
abbrev pub begins_use : Tok → Bool
begins_use t = is f.Colon t || is f.When t || is f.Not t || is f.Open t

-- any other identifier of declarations is a declared name
abbrev pub is_declared : Bool → Tok → Bool
is_declared used (identifier x) = not used
is_declared used _ = false

-- the places of the names that are declared here; the truth value says whether the first token is behind `:`,
-- `when`, `not` or `(`
unfoldable pub declared : Bool → List Placed → List ℕ
declared used [] = []
declared used (x ∷ xs) =
    let others = declared (begins_use x.1) xs in
    if ends_declarations x.1 then [] else if is_declared used x.1 then x.0 ∷ others else others

-- The places at which equations begin here, up to `tel`: one begins behind each `;`, and the truth value says
-- whether one begins at the first token.
unfoldable pub begun : Bool → List Placed → List ℕ
begun here [] = []
begun here (x ∷ xs) =
    let others = begun (is f.Semicolon x.1) xs in
    if is f.Tel x.1 then [] else if here then x.0 ∷ others else others

-- The places of a node, of the tokens behind `node`: its name comes first, inputs are declared behind `(`,
-- outputs behind the `(` behind `returns`, locals behind `var`, and equations begin behind `let`.
abbrev pub node_places_in : List Placed → NodePlaces
node_places_in xs = record {
  name = first xs;
  inputs = declared false (behind f.Open xs);
  outputs = declared false (behind f.Open (behind f.Returns xs));
  locals = declared false (behind f.Var xs);
  equations = begun true (behind f.Let xs);
}

-- the places of the nodes, each of which begins with `node`
unfoldable pub nodes_in : List Placed → List NodePlaces
nodes_in [] = []
nodes_in (x ∷ xs) = let others = nodes_in xs in if is f.Node x.1 then node_places_in xs ∷ others else others

abbrev pub is_name : Tok → Bool
is_name (identifier x) = true
is_name _ = false

-- the places of all names up to `}`
unfoldable pub enumerated : List Placed → List ℕ
enumerated [] = []
enumerated (x ∷ xs) =
    let others = enumerated xs in
    if is f.CloseBrace x.1 then [] else if is_name x.1 then x.0 ∷ others else others

-- the places of a type, of the tokens behind `type`: its name comes first, and those of its enumeration
-- behind `{`
abbrev pub type_places_in : List Placed → TypePlaces
type_places_in xs = record { name = first xs; names = enumerated (behind f.OpenBrace xs) }

-- the places of the types, each of which begins with `type`
unfoldable pub types_in : List Placed → List TypePlaces
types_in [] = []
types_in (x ∷ xs) = let others = types_in xs in if is f.Type x.1 then type_places_in xs ∷ others else others

-- those of a program
abbrev pub places_in : List Placed → ProgramPlaces
places_in xs = record { types = types_in xs; nodes = nodes_in xs }
