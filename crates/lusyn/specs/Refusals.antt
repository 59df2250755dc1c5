-- Which refusal is true of a text that spells no program.
use Rattle.std.specs.Prelude.{◌⊎◌, ℕ, List, length}
use Rattle.lutree.specs.Tree.{ProgramTree}
use Rattle.lusyn_grammar.specs.declared.error.LexError.TheVariants as l
use Rattle.lusyn_grammar.specs.Lexing.{Placed}
use Rattle.lusyn_grammar.specs.Refusals.{IsLexed}
use Rattle.lusyn_grammar.specs.Refusals as lexing
use Rattle.lusyn_parser.specs.Refused.{IsWrongFrom}
use Rattle.lusyn.specs.declared.error.SynError.{SynError}
use Rattle.lusyn.specs.declared.error.SynError.TheVariants as e
use Rattle.lusyn.specs.Texts.{HasProgram, IsLarge}

-- The text has tokens, and they are wrong from this byte on: it is the first byte of the first token with
-- which no program goes on, or the text's length where it ends too early.
abbrev pub HasWrongTokens : List ℕ → ℕ → Type 0
HasWrongTokens text byte = (ts : List Placed) × IsLexed text ts × IsWrongFrom ts (length text) byte

-- its program has more than 256 nodes, more than 64 types, or more than 64 names in one
abbrev pub HasLargeProgram : List ℕ → Type 0
HasLargeProgram text = (written : ProgramTree) × HasProgram text written × IsLarge written

-- This refusal is true of the text, and none of those before it in order: the length, a byte above 127, a
-- byte that begins no token or a number too large, a long run, the grammar, the numbers of nodes, types and
-- names. Want of memory is none of a text.
abbrev pub IsRefused : List ℕ → SynError → Type 0
IsRefused text e.TooLong = lexing.IsRefused text l.TooLong ⊎ HasLargeProgram text
IsRefused text e.NotAscii = lexing.IsRefused text l.NotAscii
IsRefused text (e.Syntax byte) = lexing.IsRefused text (l.NoToken byte) ⊎ HasWrongTokens text byte
IsRefused text (e.NumberTooLarge byte) = lexing.IsRefused text (l.NumberTooLarge byte)
IsRefused text (e.LongRun byte) = lexing.IsRefused text (l.LongRun byte)
IsRefused text e.OutOfMemory = ⊥
