-- The pages, which tools/faults makes from docs/FAULTS.md.
use Rattle.std.specs.Prelude.{ℕ, List, [], ◌∷◌, ◌++◌, codes, Option, Some, None, if◌then◌else◌}
use Rattle.std.specs.Str.{bytes_eq}
use Rattle.std.specs.List.{flat_map}
use Rattle.lusdist_shell.specs.declared.clocks.TheConstants.{E20, E21, E22, E23}
use Rattle.lusdist_shell.specs.declared.names.TheConstants.{E10, E11, E12, E13, E14, E15, E16, E17, E18, E19}
use Rattle.lusdist_shell.specs.declared.placements.TheConstants.{P01, P02, P03, P04, P05, P06, P07, P08}
use Rattle.lusdist_shell.specs.declared.runs.TheConstants.{R1, A1, R2, R3, R4}
use Rattle.lusdist_shell.specs.declared.schedules.TheConstants.{S01, S02}
use Rattle.lusdist_shell.specs.declared.starts.TheConstants.{E30, E31, E40, E50}
use Rattle.lusdist_shell.specs.declared.tables.TheConstants.{T01, T02, T03, T04}
use Rattle.lusdist_shell.specs.declared.texts.TheConstants.{E01, E02, E03, E04, E05}
use Rattle.lusdist_shell.specs.declared.words.TheConstants.{F01, F02}

-- a page: a code, the name beside it, and the text
pub record Page : Type 0 where
  pub code : List ℕ
  pub name : List ℕ
  pub text : List ℕ

-- those on words and files
unfoldable pub words : List Page
words =
    record { code = codes "F01"; name = codes "CannotRead"; text = F01.now } ∷
    record { code = codes "F02"; name = codes "CannotWrite"; text = F02.now } ∷
    []

-- those on a program's text
unfoldable pub texts : List Page
texts =
    record { code = codes "E01"; name = codes "Syntax"; text = E01.now } ∷
    record { code = codes "E02"; name = codes "NumberTooLarge"; text = E02.now } ∷
    record { code = codes "E03"; name = codes "NotAscii"; text = E03.now } ∷
    record { code = codes "E04"; name = codes "TooLong"; text = E04.now } ∷
    record { code = codes "E05"; name = codes "LongRun"; text = E05.now } ∷
    []

-- those on names and types
unfoldable pub names : List Page
names =
    record { code = codes "E10"; name = codes "DuplicateName"; text = E10.now } ∷
    record { code = codes "E11"; name = codes "UnknownName"; text = E11.now } ∷
    record { code = codes "E12"; name = codes "UnknownNode"; text = E12.now } ∷
    record { code = codes "E13"; name = codes "TypeMismatch"; text = E13.now } ∷
    record { code = codes "E14"; name = codes "WrongArity"; text = E14.now } ∷
    record { code = codes "E15"; name = codes "Undefined"; text = E15.now } ∷
    record { code = codes "E16"; name = codes "DefinedTwice"; text = E16.now } ∷
    record { code = codes "E17"; name = codes "RecursiveNode"; text = E17.now } ∷
    record { code = codes "E18"; name = codes "NoMain"; text = E18.now } ∷
    record { code = codes "E19"; name = codes "BadMerge"; text = E19.now } ∷
    []

-- those on clocks
unfoldable pub clocks : List Page
clocks =
    record { code = codes "E20"; name = codes "ClockMismatch"; text = E20.now } ∷
    record { code = codes "E21"; name = codes "NotAClock"; text = E21.now } ∷
    record { code = codes "E22"; name = codes "ClockedParameter"; text = E22.now } ∷
    record { code = codes "E23"; name = codes "HiddenClock"; text = E23.now } ∷
    []

-- those on initialisation and the program as a whole
unfoldable pub starts : List Page
starts =
    record { code = codes "E30"; name = codes "MaybeNil"; text = E30.now } ∷
    record { code = codes "E31"; name = codes "CurrentMayBeNil"; text = E31.now } ∷
    record { code = codes "E40"; name = codes "Cycle"; text = E40.now } ∷
    record { code = codes "E50"; name = codes "TooLarge"; text = E50.now } ∷
    []

-- those on placements
unfoldable pub placements : List Page
placements =
    record { code = codes "P01"; name = codes "NotToml"; text = P01.now } ∷
    record { code = codes "P02"; name = codes "BadKey"; text = P02.now } ∷
    record { code = codes "P03"; name = codes "UnknownSite"; text = P03.now } ∷
    record { code = codes "P04"; name = codes "UnknownVariable"; text = P04.now } ∷
    record { code = codes "P05"; name = codes "Unplaced"; text = P05.now } ∷
    record { code = codes "P06"; name = codes "DuplicateSite"; text = P06.now } ∷
    record { code = codes "P07"; name = codes "OutOfRange"; text = P07.now } ∷
    record { code = codes "P08"; name = codes "SplitCall"; text = P08.now } ∷
    []

-- those on tables
unfoldable pub tables : List Page
tables =
    record { code = codes "T01"; name = codes "BadHeader"; text = T01.now } ∷
    record { code = codes "T02"; name = codes "BadRow"; text = T02.now } ∷
    record { code = codes "T03"; name = codes "BadValue"; text = T03.now } ∷
    record { code = codes "T04"; name = codes "TooLong"; text = T04.now } ∷
    []

-- those on schedules
unfoldable pub schedules : List Page
schedules =
    record { code = codes "S01"; name = codes "BadSchedule"; text = S01.now } ∷
    record { code = codes "S02"; name = codes "LongSchedule"; text = S02.now } ∷
    []

-- those on values and the machine
unfoldable pub runs : List Page
runs =
    record { code = codes "R1"; name = codes "Fault"; text = R1.now } ∷
    record { code = codes "A1"; name = codes "Violated"; text = A1.now } ∷
    record { code = codes "R2"; name = codes "OutOfMemory"; text = R2.now } ∷
    record { code = codes "R3"; name = codes "LinkLost"; text = R3.now } ∷
    record { code = codes "R4"; name = codes "NoThread"; text = R4.now } ∷
    []

-- the pages in the order of the manual, by what they are on
abbrev pub parts : List (List Page)
parts = words ∷ texts ∷ names ∷ clocks ∷ starts ∷ placements ∷ tables ∷ schedules ∷ runs ∷ []

abbrev pub pages : List Page
pages = flat_map (λ part. part) parts

-- the text of the page of this code
abbrev pub text_among : List Page → List ℕ → Option (List ℕ)
text_among [] code = None
text_among (p ∷ ps) code = if bytes_eq code p.code then Some p.text else text_among ps code

-- that of the first part that has one
abbrev pub first_text : Option (List ℕ) → Option (List ℕ) → Option (List ℕ)
first_text (Some text) other = Some text
first_text None other = other

abbrev pub text_in : List (List Page) → List ℕ → Option (List ℕ)
text_in [] code = None
text_in (part ∷ others) code = first_text (text_among part code) (text_in others code)

abbrev pub page_of : List ℕ → Option (List ℕ)
page_of = text_in parts

-- the line of a page: its code and its name, which is the first line of its text too, or a prefix of that
-- line
abbrev pub title_of : Page → List ℕ
title_of page = page.code ++ (codes " " ++ page.name)

-- a line for each code
abbrev pub listing : List ℕ
listing = flat_map (λ page. title_of page ++ 10 ∷ []) pages
