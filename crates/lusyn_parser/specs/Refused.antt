-- What a refusal reports.
use Rattle.std.specs.Prelude.{◌≡◌, ℕ, List, [], ◌∷◌, ◌++◌, map, Result, Ok, Err}
use Rattle.lutree.specs.Tree.{ProgramTree, program_view}
use Rattle.lutree.specs.declared.program.Program.{Program}
use Rattle.lusyn_grammar.specs.Tokens.{Tok}
use Rattle.lusyn_grammar.specs.Lexing.{Placed}
use Rattle.lusyn_grammar.specs.Grammar.{Spells}
use Rattle.lusyn_parser.specs.declared.error.ParseError.{ParseError}
use Rattle.lusyn_parser.specs.declared.error.ParseError.TheVariants as e

-- tokens without their places
abbrev pub unplaced : List Placed → List Tok
unplaced = map (λ x. x.1)

-- the place of the first of these tokens, or the text's end
abbrev pub place : ℕ → List Placed → ℕ
place end [] = end
place end (x ∷ xs) = x.0

-- no program goes on after these tokens with the first of those, or ends there if there are none
abbrev pub NoneGoesOn : List Tok → List Tok → Type 0
NoneGoesOn before [] = (found : ProgramTree) → Spells before found → ⊥
NoneGoesOn before (refused ∷ rest) = (others : List Tok) (found : ProgramTree)
    → Spells (before ++ refused ∷ others) found → ⊥

-- Tokens of a text that ends at `end` are wrong from this byte on: those before it begin a program, and no
-- program goes on with the one at it, or ends there if there is none.
pub record IsWrongFrom (ts : List Placed) (end byte : ℕ) : Type 0 where
  pub before : List Placed
  pub rest : List Placed
  pub parts : before ++ rest ≡ ts
  pub reported : byte ≡ place end rest
  pub begun : (others : List Tok) × (found : ProgramTree) × Spells (unplaced before ++ others) found
  pub none : NoneGoesOn (unplaced before) (unplaced rest)

-- the error is true of these tokens; out of memory is none of theirs
abbrev pub IsRefused : List Placed → ℕ → ParseError → Type 0
IsRefused ts end e.OutOfMemory = Unit {0}
IsRefused ts end (e.Syntax byte) = IsWrongFrom ts end byte

-- this tree is answered, unless memory ran out
abbrev pub IsAnswered : Result Program ParseError → ProgramTree → Type 0
IsAnswered (Ok found) tree = tree ≡ program_view found
IsAnswered (Err e.OutOfMemory) tree = Unit {0}
IsAnswered (Err (e.Syntax byte)) tree = ⊥

-- it is refused at this byte, unless memory ran out
abbrev pub IsRefusedAt : Result Program ParseError → ℕ → Type 0
IsRefusedAt (Ok found) byte = ⊥
IsRefusedAt (Err e.OutOfMemory) byte = Unit {0}
IsRefusedAt (Err (e.Syntax reported)) byte = byte ≡ reported
