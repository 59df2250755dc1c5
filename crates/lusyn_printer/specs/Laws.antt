-- What holds of the canonical text of every program that a text spells.
use Rattle.std.specs.Prelude.{◌≡◌, ◌++◌, codes, ℕ, List, map}
use Rattle.std.specs.Str.{IsAscii}
use Rattle.lutree.specs.Tree.{ProgramTree}
use Rattle.lusyn_grammar.specs.Lexing.{Placed, HasTokens}
use Rattle.lusyn_grammar.specs.Runs.{HasShortRuns}
use Rattle.lusyn_grammar.specs.Grammar.{Spells}
use Rattle.lusyn_grammar.specs.Examples.{switch}
use Rattle.lusyn_printer.specs.Canonical.{line, canonical}

-- it has tokens, they spell the same program, and no run of them is too long where none of the text was
abbrev pub ReadBackLaw : Type 0
ReadBackLaw = (text : List ℕ) (ts : List Placed) (p : ProgramTree) → HasTokens text ts
    → Spells (map (λ x. x.1) ts) p
    → (us : List Placed) × HasTokens (canonical p) us × Spells (map (λ x. x.1) us) p × (HasShortRuns ts
    → HasShortRuns us)

-- all its bytes are below 128
abbrev pub AsciiLaw : Type 0
AsciiLaw = (text : List ℕ) (ts : List Placed) (p : ProgramTree) → HasTokens text ts
    → Spells (map (λ x. x.1) ts) p → IsAscii (canonical p)

-- the canonical text of a worked program with an enumeration
abbrev pub CanonicalVector : Type 0
CanonicalVector = canonical switch ≡
    line (codes "type t = enum { Up, Down };")
    ++ line (codes "node main(m: t; x: int) returns (y: int);")
    ++ line (codes "let")
    ++ line (codes "  y = merge m (Up -> x when Up(m)) (Down -> (0 - x) when Down(m));")
    ++ line (codes "tel")
