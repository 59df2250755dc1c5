-- The line of a type, piece after piece.
use Rattle.std.proofs.Common.{◌≡◌, ◌++◌, [], ◌∷◌, ℕ, List, Result, Ok, Err, IfOk, ap, ◌∙◌, codes, append_assoc, if◌then◌else◌}
use Rattle.std.specs.Result.{is_ok}
use Rattle.lutree.specs.Tree.{TypeTree}
use Rattle.lusyn_printer.specs.Canonical.{joined, type_declaration}

line_of : (start a b c d e f : List ℕ) → ((((start ++ a) ++ b) ++ c) ++ d) ++ (e ++ f) ≡ start ++ (((((a ++ b) ++ c) ++ d) ++ e) ++ f)
line_of start a b c d e f = simp append_assoc

pub type_put : {A E : Type 0} (r : Result A E) (x : TypeTree) (start typed named begun listed end : List ℕ)
    → typed ≡ start ++ codes "type " → named ≡ typed ++ x.name → begun ≡ named ++ codes " = enum { " → listed ≡ begun ++ joined (codes ", ") (λ y. y) x.names
    → end ≡ (if is_ok r then listed ++ codes " };\n" else listed) → IfOk r (λ _. end ≡ start ++ type_declaration x)
type_put (Err e) x start typed named begun listed end to_typed to_named to_begun to_listed to_end = tt
type_put (Ok u) x start typed named begun listed end to_typed to_named to_begun to_listed to_end =
    let all = joined (codes ", ") (λ y. y) x.names in
    let written : listed ≡ (((start ++ codes "type ") ++ x.name) ++ codes " = enum { ") ++ all =
    to_listed
    ∙ ap (λ (text : List ℕ). text ++ all) (to_begun
    ∙ ap (λ (text : List ℕ). text ++ codes " = enum { ") (to_named
    ∙ ap (λ (text : List ℕ). text ++ x.name) to_typed))
    in
    to_end
    ∙ ap (λ (text : List ℕ). text ++ codes " };\n") written
    ∙ line_of start (codes "type ") x.name (codes " = enum { ") all (codes " };") (10 ∷ [])
