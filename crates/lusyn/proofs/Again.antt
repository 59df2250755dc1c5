-- A canonical text is read back.
use Rattle.std.proofs.Common.{◌≡◌, ◌≤◌, ℕ, List, length, Result, Ok, Err, IfOk, subst, sym, ap, ◌∙◌}
use Rattle.lubase.specs.Limits.{longest_program}
use Rattle.lutree.specs.Tree.{ProgramTree}
use Rattle.lusyn_printer.specs.Canonical.{canonical}
use Rattle.lusyn_printer.proofs.Bare.{canonical-bare}
use Rattle.lusyn_printer.proofs.ReadBack.{read_back, ascii}
use Rattle.lusyn_parser.specs.Resolved.{resolved}
use Rattle.lusyn_parser.proofs.Bare.{bare-resolved}
use Rattle.lusyn.specs.Texts.{IsReadBack, SpellsText}

-- what names stand for isn't printed
canonical-resolved : (p : ProgramTree) → canonical (resolved p) ≡ canonical p
canonical-resolved p = sym (canonical-bare (resolved p)) ∙ ap canonical (bare-resolved p) ∙ canonical-bare p

canonical-again : (found : ProgramTree) → IsReadBack (canonical found) found
canonical-again found source (written, (ts, (plain, has, runs), spells), few, same) short =
    let printed : canonical found ≡ canonical written = ap canonical (sym same) ∙ canonical-resolved written in
    let (us, has_again, spells_again, runs_again) = read_back source ts written has spells in
    let P : List ℕ → Type 0 = λ t. SpellsText t found in
    let Q : List ℕ → Type 0 = λ t. length t ≤ longest_program in
    subst P (sym printed) (written, (us, ((subst Q printed short, ascii source ts written has spells), has_again, runs_again runs), spells_again), few, same)

pub again : (text : List ℕ) (found : ProgramTree) → text ≡ canonical found → IsReadBack text found
again text found e = let P : List ℕ → Type 0 = λ t. IsReadBack t found in subst P (sym e) (canonical-again found)

pub again_if : {X E : Type 0} (bytes : X → List ℕ) (r : Result X E) (found : ProgramTree) → IfOk r (λ x. bytes x ≡ canonical found) → IfOk r (λ x. IsReadBack (bytes x) found)
again_if bytes (Ok x) found h = again (bytes x) found h
again_if bytes (Err e) found h = tt
