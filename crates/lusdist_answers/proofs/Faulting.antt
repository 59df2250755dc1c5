-- The reason of a fault.
use Rattle.std.proofs.Common.{◌≡◌, ◌++◌, inl, inr, ℕ, List, Some, Result, Ok, Err, IfOk, subst, string_bytes}
use Rattle.lutree.specs.declared.program.Program.{Program}
use Rattle.lutree.specs.Places.{places_view}
use Rattle.lutree.specs.Tree.{program_view}
use Rattle.luflow.specs.declared.form.FaultKind.{FaultKind}
use Rattle.luflow.specs.Program.{FlatView, InputsView}
use Rattle.lusyn.specs.Places.{ArePlacesOf}
use Rattle.lusyn.specs.Texts.{SpellsText}
use Rattle.lucore.specs.Result.{IsFlatOf}
use Rattle.luinside.specs.declared.told.Telling.TheVariants.{Whole, Other}
use Rattle.luinside.specs.declared.told.ToldFault.{ToldFault}
use Rattle.luinside.specs.Told.{Tells}
use Rattle.luexplain.specs.declared.said.Explanation.{Explanation}
use Rattle.luexplain.specs.Place.{place}
use Rattle.luexplain.specs.Texts.{IsExplainedSomewhere}
use Rattle.lusdist_shell.specs.Files.{FileFacts}
use Rattle.lusdist_call.specs.Asked.{IsTableAt}
use Rattle.lusdist_call.specs.Faulted.{IsFaultReason, StandsForFault}

-- what holds of an answer, if there is one
pub ok_as : {X E : Type 0} {P Q : X → Type 0} (r : Result X E) → ((x : X) → P x → Q x) → IfOk r P → IfOk r Q
ok_as (Ok x) f p = f x p
ok_as (Err e) f p = tt

module _ (path text main : List ℕ) (program : Program) (flat : FlatView) (inputs : InputsView) (variable : List ℕ) (t : ℕ) (kind : FaultKind) where
  -- the first fault, at its operator
  pub told_whole : (told : ToldFault) (at : List ℕ) → Tells text (program_view program) (places_view program) main flat inputs variable t kind (Whole told) → at ≡ place path text told.byte ++ string_bytes told.lines
      → StandsForFault path text main program flat inputs variable t kind at
  told_whole told at (x, first, always, so) is = inl (record { first = x; is_first = first; always = always; byte = told.byte; lines = string_bytes told.lines; told = so; is = is })

  -- another, by its equation
  pub told_by_equation : (reason : Explanation) → Tells text (program_view program) (places_view program) main flat inputs variable t kind Other → IsExplainedSomewhere path text reason
      → StandsForFault path text main program flat inputs variable t kind (string_bytes reason.place)
  told_by_equation reason not_first somewhere = inr (record { not_first = not_first; is = elim somewhere [ inl (byte, at) ↦ inl (byte, at.is) | inr at ↦ inr at.is ] })

-- the reason, of the program and the table that the files gave
pub reason_of : (gives : FileFacts) (path main table_path variable : List ℕ) (t : ℕ) (kind : FaultKind) (reason : Explanation) (text : List ℕ) (g h : Program) (main_is : List ℕ) (flat : FlatView) (inputs : InputsView) → gives path (Some text)
    → SpellsText text (program_view g) → ArePlacesOf text (places_view g) → IsFlatOf (program_view g) main flat → IsTableAt gives table_path flat inputs → h ≡ g → main_is ≡ main
    → StandsForFault path text main_is h flat inputs variable t kind (string_bytes reason.place) → IsFaultReason gives path main table_path variable t kind reason
reason_of gives path main table_path variable t kind reason text g h main_is flat inputs given spelled placed flat_is table_is same_program same_main stands = record {
  text = text;
  program = g;
  flat = flat;
  inputs = inputs;
  run = record { given = given; spelled = spelled; placed = placed; flat_is = flat_is; table_is = table_is };
  stands = subst (λ g. StandsForFault path text main g flat inputs variable t kind (string_bytes reason.place)) same_program
      (subst (λ m. StandsForFault path text m h flat inputs variable t kind (string_bytes reason.place)) same_main stands);
}
