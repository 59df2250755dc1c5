-- The canonical text of a program that a text spells has tokens that spell it.
use Rattle.std.proofs.Common.{◌≡◌, ℕ, List, [], map, refl, ap, sym, subst, ◌∙◌, append-nil}
use Rattle.std.specs.Str.{IsAscii}
use Rattle.lutree.specs.Tree.{ProgramTree}
use Rattle.lusyn_grammar.specs.Tokens.{Tok}
use Rattle.lusyn_grammar.specs.Lexing.{Placed, bytes, placed, HasTokens}
use Rattle.lusyn_grammar.specs.Runs.{HasShortRuns}
use Rattle.lusyn_grammar.specs.Grammar as grammar
use Rattle.lusyn_grammar.specs.Grammar.{Spells}
use Rattle.lusyn_grammar.specs.Printing.{written_program}
use Rattle.lusyn_grammar.proofs.Printed.{spelled-printable, spelled-bare, printed-spells}
use Rattle.lusyn_printer.specs.Canonical.{canonical}
use Rattle.lusyn_printer.proofs.Pieces.{program, bytes-program, placed-shown, shown-program}
use Rattle.lusyn_printer.proofs.Wholes.{AreWhole, IsWholeProgram, cut-whole, program-whole}
use Rattle.lusyn_printer.proofs.Cut.{Sound, cut_program}
use Rattle.lusyn_printer.proofs.Peaks.{short-peak, peak-short}
use Rattle.lusyn_printer.proofs.Narrow.{IsLow, IsNarrowProgram, program_narrow, canonical_low}

canonical-bytes : (p : ProgramTree) → bytes (program p []) ≡ canonical p
canonical-bytes p = bytes-program p [] ∙ append-nil (canonical p)

canonical-tokens : (p : ProgramTree) → map (λ x. x.1) (placed 0 (program p [])) ≡ grammar.program (written_program p) []
canonical-tokens p = placed-shown (program p []) 0 ∙ shown-program p []

sound : (text : List ℕ) (ts : List Placed) (p : ProgramTree) → HasTokens text ts → Spells (map (λ x. x.1) ts) p → Sound (program p [])
sound text ts p (ps, (cut, same), found) (q, proper, spelled, stands) =
    let P : List Tok → Type 0 = AreWhole in
    let Q : ProgramTree → Type 0 = IsWholeProgram in
    let tokens : map (λ x. x.1) (placed 0 ps) ≡ grammar.program q [] = ap (λ (us : List Placed). map (λ x. x.1) us) found ∙ sym spelled in
    cut_program p (subst Q stands (program-whole q (subst P tokens (cut-whole ps 0 cut))))

short : (ts : List Placed) (p : ProgramTree) → Spells (map (λ x. x.1) ts) p → HasShortRuns ts → HasShortRuns (placed 0 (program p []))
short ts p (q, proper, spelled, stands) runs =
    let P : List Tok → Type 0 = IsLow in
    let Q : ProgramTree → Type 0 = IsNarrowProgram in
    let narrow = program_narrow q proper.1 (subst P (sym spelled) (short-peak ts runs)) in
    peak-short (placed 0 (program p [])) (subst P (sym (canonical-tokens p)) (canonical_low p (subst Q stands narrow)))

pub read_back : (text : List ℕ) (ts : List Placed) (p : ProgramTree) → HasTokens text ts → Spells (map (λ x. x.1) ts) p
    → (us : List Placed) × HasTokens (canonical p) us × Spells (map (λ x. x.1) us) p × (HasShortRuns ts → HasShortRuns us)
read_back text ts p has spells =
    let h = sound text ts p has spells in
    let P : List Tok → Type 0 = λ us. Spells us p in
    let Q : ProgramTree → Type 0 = λ found. Spells (grammar.program (written_program p) []) found in (
      placed 0 (program p []),
      (program p [], (h.cut, append-nil (bytes (program p [])) ∙ canonical-bytes p), refl),
      subst P (sym (canonical-tokens p)) (subst Q (spelled-bare (map (λ x. x.1) ts) p spells) (printed-spells p (spelled-printable (map (λ x. x.1) ts) p spells))),
      short ts p spells,
    )

pub ascii : (text : List ℕ) (ts : List Placed) (p : ProgramTree) → HasTokens text ts → Spells (map (λ x. x.1) ts) p → IsAscii (canonical p)
ascii text ts p has spells = let P : List ℕ → Type 0 = IsAscii in subst P (canonical-bytes p) (sound text ts p has spells).ascii
