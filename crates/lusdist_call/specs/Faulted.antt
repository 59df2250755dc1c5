-- The reason of a fault: where its operator stands and what it reads.
use Rattle.std.specs.Prelude.{◌≡◌, ◌⊎◌, ℕ, List, ◌++◌, Some, string_bytes}
use Rattle.lutree.specs.declared.program.Program.{Program}
use Rattle.lutree.specs.Places.{places_view}
use Rattle.lutree.specs.Tree.{program_view}
use Rattle.luflow.specs.declared.form.FaultKind.{FaultKind}
use Rattle.luflow.specs.Program.{FlatView, InputsView}
use Rattle.lusyn.specs.Places.{ArePlacesOf}
use Rattle.lusyn.specs.Texts.{SpellsText}
use Rattle.lucore.specs.Result.{IsFlatOf}
use Rattle.luinside.specs.declared.first.FirstFault.{FirstFault}
use Rattle.luinside.specs.Told.{IsAlwaysOperator, IsFirstTold, IsNotFirst, IsToldAs}
use Rattle.luexplain.specs.declared.said.Explanation.{Explanation}
use Rattle.luexplain.specs.Explanations.{whole}
use Rattle.luexplain.specs.Place.{place}
use Rattle.lusdist_shell.specs.Files.{FileFacts}
use Rattle.lusdist_call.specs.Asked.{IsTableAt}

-- the program that the file of a path gave, its flat program, and the table that the file of another path gave
pub record IsRun (gives : FileFacts) (path main table_path : List ℕ) (text : List ℕ) (program : Program)
    (flat : FlatView) (inputs : InputsView) : Type 0 where
  pub given : gives path (Some text)
  pub spelled : SpellsText text (program_view program)
  pub placed : ArePlacesOf text (places_view program)
  pub flat_is : IsFlatOf (program_view program) main flat
  pub table_is : IsTableAt gives table_path flat inputs

-- the place of the operator of the first fault in the text, and what is told of it
pub record StandsAtOperator (path text main : List ℕ) (program : Program) (flat : FlatView)
    (inputs : InputsView) (variable : List ℕ) (instant : ℕ) (kind : FaultKind) (at : List ℕ) : Type 0 where
  pub first : FirstFault
  pub is_first : IsFirstTold flat inputs first.found variable instant kind
  pub always : IsAlwaysOperator (program_view program) main inputs first
  pub byte : ℕ
  pub lines : List ℕ
  pub told : IsToldAs text (program_view program) (places_view program) main flat inputs first byte lines
  pub is : at ≡ place path text byte ++ lines

-- some place of the text, or the whole, where another fault is the first
pub record StandsSomewhere (path text : List ℕ) (flat : FlatView) (inputs : InputsView) (variable : List ℕ)
    (instant : ℕ) (kind : FaultKind) (at : List ℕ) : Type 0 where
  pub not_first : IsNotFirst flat inputs variable instant kind
  pub is : ((byte : ℕ) × (at ≡ place path text byte)) ⊎ (at ≡ whole path)

-- it stands at its operator, where it is the first fault
abbrev pub StandsForFault : List ℕ → List ℕ → List ℕ → Program → FlatView → InputsView → List ℕ → ℕ → FaultKind
    → List ℕ → Type 0
StandsForFault path text main program flat inputs variable instant kind at =
    StandsAtOperator path text main program flat inputs variable instant kind at
    ⊎ StandsSomewhere path text flat inputs variable instant kind at

-- The reason of a fault at a main variable, an instant and a kind, by what the files of the program and of the
-- table gave: where it is the first fault, it stands at its operator, and what that reads is told.
pub record IsFaultReason (gives : FileFacts) (path main table_path variable : List ℕ) (instant : ℕ)
    (kind : FaultKind) (reason : Explanation) : Type 0 where
  pub text : List ℕ
  pub program : Program
  pub flat : FlatView
  pub inputs : InputsView
  pub run : IsRun gives path main table_path text program flat inputs
  pub stands : StandsForFault path text main program flat inputs variable instant kind (string_bytes reason.place)
