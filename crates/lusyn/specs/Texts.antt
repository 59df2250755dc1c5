-- Which text spells which program.
use Rattle.std.specs.Prelude.{◌≡◌, ◌≤◌, ◌<◌, ◌⊎◌, ℕ, List, [], ◌∷◌, length}
use Rattle.lubase.specs.Limits.{longest_program, most_nodes, most_types, most_names}
use Rattle.lutree.specs.Tree.{TypeTree, ProgramTree}
use Rattle.lusyn_grammar.specs.Lexing.{Placed}
use Rattle.lusyn_grammar.specs.Refusals.{IsLexed}
use Rattle.lusyn_grammar.specs.Grammar.{Spells}
use Rattle.lusyn_parser.specs.Refused.{unplaced}
use Rattle.lusyn_parser.specs.Resolved.{resolved}
use Rattle.lusyn_parser.specs.Tables.{AreFew}

-- a text that is accepted as tokens, which spell the program as it is written
abbrev pub HasProgram : List ℕ → ProgramTree → Type 0
HasProgram text written = (ts : List Placed) × IsLexed text ts × Spells (unplaced ts) written

-- at most 256 nodes, at most 64 types, and at most 64 names in each
abbrev pub IsSmall : ProgramTree → Type 0
IsSmall p = (length p.nodes ≤ most_nodes) × AreFew p.types

-- a type has more than 64 names
abbrev pub HasLongType : List TypeTree → Type 0
HasLongType [] = ⊥
HasLongType (x ∷ xs) = (most_names < length x.names) ⊎ HasLongType xs

-- more than 256 nodes, more than 64 types, or more than 64 names in one
abbrev pub IsLarge : ProgramTree → Type 0
IsLarge p = (most_nodes < length p.nodes) ⊎ ((most_types < length p.types) ⊎ HasLongType p.types)

-- The text spells the program that it has as it is written, with what its names stand for, where that isn't
-- too large.
abbrev pub SpellsText : List ℕ → ProgramTree → Type 0
SpellsText text found = (written : ProgramTree) × HasProgram text written × IsSmall written
    × (resolved written ≡ found)

-- This text spells the program again, if some text spells it and this one isn't longer than a text may be.
abbrev pub IsReadBack : List ℕ → ProgramTree → Type 0
IsReadBack text found = (source : List ℕ) → SpellsText source found → length text ≤ longest_program
    → SpellsText text found
