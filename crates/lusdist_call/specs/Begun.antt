-- What a design begins with, and that its table is one of the program's inputs.
use Rattle.std.specs.Prelude.{◌≡◌, ◌≤◌, ℕ, List, Option, Some, None}
use Rattle.lubase.specs.Limits.{most_instants}
use Rattle.luflow.specs.Program.{FlatView}
use Rattle.luflow.specs.Variables.{inputs_of}
use Rattle.lutab.specs.Table.{IsTextOf}
use Rattle.lutab.specs.FirstPlacement.{first_placement}
use Rattle.lutab.specs.FirstTable.{first_inputs, first_table}
use Rattle.lusdist_shell.specs.Files.{FileFacts}
use Rattle.lusdist_shell.specs.declared.request.NewRequest.{NewRequest}
use Rattle.lusdist_call.specs.Asked.{HasFlat, IsFlatAt}

-- a table of inputs of so many instants, where one is asked for, else a placement
abbrev pub start_text : Option ℕ → FlatView → List ℕ
start_text None flat = first_placement flat
start_text (Some instants) flat = first_table flat instants

-- the beginning of a design that a request asks for: that of the program that the file spells, which keeps
-- all rules and has a flat program
pub record IsBegun (gives : FileFacts) (request : NewRequest) (text : List ℕ) : Type 0 where
  pub flat : FlatView
  pub flat_at : IsFlatAt gives request.program.now request.main.now flat
  pub text_is : text ≡ start_text request.table flat

-- The text of the table is that of a table of the inputs of the program that a text spells: an evaluation
-- reads it, where it isn't too long.
abbrev pub BeginsWithInputs : Type 0
BeginsWithInputs = (text main : List ℕ) (flat : FlatView) (n : ℕ) → HasFlat text main flat → n ≤ most_instants
    → IsTextOf flat.types (inputs_of flat.variables) (first_inputs flat n) (first_table flat n)
