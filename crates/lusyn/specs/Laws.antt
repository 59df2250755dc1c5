-- What holds of texts, over all texts and all programs.
use Rattle.std.specs.Prelude.{◌≡◌, ℕ, List}
use Rattle.lutree.specs.Tree.{ProgramTree}
use Rattle.lusyn.specs.declared.error.SynError.{SynError}
use Rattle.lusyn.specs.Texts.{SpellsText}
use Rattle.lusyn.specs.Refusals.{IsRefused}

-- no text spells two programs
abbrev pub OneProgramLaw : Type 0
OneProgramLaw = (text : List ℕ) (one other : ProgramTree) → SpellsText text one → SpellsText text other
    → one ≡ other

-- no refusal is true of a text that spells a program
abbrev pub NotRefusedLaw : Type 0
NotRefusedLaw = (text : List ℕ) (found : ProgramTree) (refusal : SynError) → SpellsText text found
    → ¬ IsRefused text refusal

-- no two refusals are true of one text
abbrev pub OneRefusalLaw : Type 0
OneRefusalLaw = (text : List ℕ) (one other : SynError) → IsRefused text one → IsRefused text other
    → one ≡ other
