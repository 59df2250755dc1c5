-- What holds of reading and printing, over all tokens and all trees.
use Rattle.std.specs.Prelude.{◌≡◌, ◌↔◌, List, [], ◌∷◌, ◌++◌, Ok, Err}
use Rattle.lutree.specs.Tree.{ProgramTree}
use Rattle.lusyn_grammar.specs.Tokens.{Tok}
use Rattle.lusyn_grammar.specs.Grammar.{Spells, program}
use Rattle.lusyn_grammar.specs.Reading.{all_of}
use Rattle.lusyn_grammar.specs.Printing.{IsPrintable, bare, written_program}

-- what is read is spelled so, and what is spelled so is read
abbrev pub ReadingLaw : Type 0
ReadingLaw = (ts : List Tok) (found : ProgramTree) → (all_of ts ≡ Ok found) ↔ Spells ts found

-- the grammar is unambiguous
abbrev pub OneTreeLaw : Type 0
OneTreeLaw = (ts : List Tok) (one other : ProgramTree) → Spells ts one → Spells ts other → one ≡ other

-- what is printed of a tree spells that tree, without what its names of enumerations stand for
abbrev pub PrintingLaw : Type 0
PrintingLaw = (found : ProgramTree) → IsPrintable found → Spells (program (written_program found) [])
    (bare found)

-- nothing but printable trees is spelled, none of which knows what a name of an enumeration stands for
abbrev pub PrintableLaw : Type 0
PrintableLaw = (ts : List Tok) (found : ProgramTree) → Spells ts found → IsPrintable found
    × (bare found ≡ found)

-- where a token is refused, no text goes on with it: none that is spelled has the same tokens up to it and it
-- next
abbrev pub RefusalLaw : Type 0
RefusalLaw = (before : List Tok) (refused : Tok) (rest others : List Tok) (found : ProgramTree)
    → all_of (before ++ refused ∷ rest) ≡ Err (refused ∷ rest) → Spells (before ++ refused ∷ others) found → ⊥

-- these tokens are some and then that rest, and a program begins with the some
abbrev pub GoesOn : List Tok → List Tok → Type 0
GoesOn ts rest = (before : List Tok) × (others : List Tok) × (found : ProgramTree) × (before ++ rest ≡ ts)
    × Spells (before ++ others) found

-- what stands before a refused token goes on to a program, so the refused one is the first with which none
-- goes on
abbrev pub BeginningLaw : Type 0
BeginningLaw = (ts rest : List Tok) → all_of ts ≡ Err rest → GoesOn ts rest
