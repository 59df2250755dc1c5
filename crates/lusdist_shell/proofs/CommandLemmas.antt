-- The command line, and a request that was read from it.
use Rattle.std.proofs.Common.{◌≡◌, ◌⊎◌, ℕ, ◌∙◌, sym, ap, refl, subst, inl, inr, List, [], ◌∷◌, Bool, true, false, cond, not, Option, Some, None, Result, Ok, Err, IfOk, codes, get_or}
use Rattle.std.specs.List.{list_any, find}
use Rattle.std.proofs.Math.Bool.{or-false}
use Rattle.std.proofs.lemmas.Slice.Eq.{bytes_eq-Decides}
use Rattle.std.specs.Prelude.{◌&&◌, is_some, option_map}
use Rattle.clap.specs.Kinds.{FailsBy, Kinds, check_kinds, or_else}
use Rattle.clap.specs.declared.error.Error.{Error}
use Rattle.clap.specs.declared.parser.matches.ArgMatches.{ArgMatches}
use Rattle.clap.specs.Faults.{check_fault, defaults_fault, entered_fault, fault_of, level_fault, settle_fault, walk_fault}
use Rattle.clap.specs.Facts.{explicit_source}
use Rattle.clap.specs.Takes.{is_given}
use Rattle.clap.specs.Walk.{Held, Names, Row, Rule, Text, answers_to, finished, nothing_held, settled, stop_after, walk, walk_from}
use Rattle.clap.specs.Simple.{Shape, argument_words, built, entered, help_shape, is_simple, label_of, names_of, rows_at, subcommand_of, subcommand_rows_of}
use Rattle.clap.specs.Faults.{is_simple_and_free}
use Rattle.lusdist_shell.specs.CommandLine.{lusdist}
use Rattle.lusdist_shell.specs.Request.{IsCommand}
use Rattle.lusdist_shell.proofs.NoHelp.{IsNoHelp, left_nil, walk_no_help}

-- the command line is one whose parse is known to the letter
pub lusdist_is_simple : is_simple lusdist ≡ true
lusdist_is_simple = refl

pub lusdist_is_free : is_simple_and_free lusdist ≡ true
lusdist_is_free = refl

-- ---- no fault, so a command

or_else-nil : (a b : Kinds) → or_else a b ≡ [] → b ≡ []
or_else-nil [] b e = e
or_else-nil (k ∷ ks) b e = absurd cc

last_of : (a b d e f : Kinds) → or_else a (or_else b (or_else d (or_else e f))) ≡ [] → f ≡ []
last_of a b d e f none =
    or_else-nil e f (or_else-nil d (or_else e f) (or_else-nil b (or_else d (or_else e f)) (or_else-nil a (or_else b (or_else d (or_else e f))) none)))

wanted : (help has required argument : Bool) → required ≡ true → check_kinds help (not has && required) argument ≡ [] → has ≡ true
wanted help true required argument is none = refl
wanted true false required argument is none = absurd cc
wanted false false true argument is none = absurd cc
wanted false false false argument is none = absurd cc

has_from_fault : (s : Shape) (names : Names) (h : Held) (words : List Text) (has : Bool) (below : Kinds) → s.subcommand_required ≡ true → level_fault s names h words has below ≡ [] → has ≡ true
has_from_fault s names h words has below required none =
    let end : Held = (walk s.rules names h words).held in
    let rows = finished s.rules end in
    let checked = last_of (walk_fault s names (walk_from h) words) below (settle_fault s.rules s.args_override_self end) (defaults_fault (settled s.rules end).rows s.rules) (check_fault s rows has) none in
    wanted (not has && (s.arg_required_else_help && not (list_any (λ (r : Row). explicit_source r.source) rows))) has s.subcommand_required (not (s.subcommand_negates_reqs && has)
    && list_any (λ (a : Rule). a.required && not (is_given a.id rows)) s.rules) required checked

pub has_command : (words : List Text) → fault_of lusdist words ≡ [] → is_some (subcommand_of lusdist words) ≡ true
has_command words none =
    let stop = stop_after (built lusdist).top.rules (names_of (built lusdist)) (argument_words lusdist words) in
    has_from_fault (built lusdist).top (names_of (built lusdist)) nothing_held (argument_words lusdist words) (is_some (entered (built lusdist) stop)) (entered_fault (built lusdist) stop) refl none

-- ---- which command that is

abbrev stop_at : List Text → Option (Text × List Text)
stop_at words = stop_after (built lusdist).top.rules (names_of (built lusdist)) (argument_words lusdist words)

no_help : (words : List Text) → fault_of lusdist words ≡ [] → IsNoHelp (stop_at words)
no_help words none =
    walk_no_help (built lusdist).top (names_of (built lusdist)) refl (walk_from nothing_held) (argument_words lusdist words) (λ p e. absurd cc) (left_nil _ _ none)

-- what is found among eight is one of the first seven, or the eighth passes
one_of_eight : (a b d e g f h i : Bool) (x y z u v w m n found : Shape) → cond a (Some x) (cond b (Some y) (cond d (Some z) (cond e (Some u) (cond g (Some v) (cond f (Some w) (cond h (Some m) (cond i (Some n) None))))))) ≡ Some found
    → ((found ≡ x) ⊎ ((found ≡ y) ⊎ ((found ≡ z) ⊎ ((found ≡ u) ⊎ ((found ≡ v) ⊎ ((found ≡ w) ⊎ (found ≡ m))))))) ⊎ (i ≡ true)
one_of_eight true b d e g f h i x y z u v w m n found is = inl (inl (let s : found ≡ x = cc in s))
one_of_eight false true d e g f h i x y z u v w m n found is = inl (inr (inl (let s : found ≡ y = cc in s)))
one_of_eight false false true e g f h i x y z u v w m n found is = inl (inr (inr (inl (let s : found ≡ z = cc in s))))
one_of_eight false false false true g f h i x y z u v w m n found is = inl (inr (inr (inr (inl (let s : found ≡ u = cc in s)))))
one_of_eight false false false false true f h i x y z u v w m n found is = inl (inr (inr (inr (inr (inl (let s : found ≡ v = cc in s))))))
one_of_eight false false false false false true h i x y z u v w m n found is = inl (inr (inr (inr (inr (inr (inl (let s : found ≡ w = cc in s)))))))
one_of_eight false false false false false false true i x y z u v w m n found is = inl (inr (inr (inr (inr (inr (inr (let s : found ≡ m = cc in s)))))))
one_of_eight false false false false false false false true x y z u v w m n found is = inr refl
one_of_eight false false false false false false false false x y z u v w m n found is = absurd cc

abbrev shape_at : ℕ → Shape
shape_at k = get_or (built lusdist).subs k help_shape

is_command_at : (stop : Option (Text × List Text)) → IsNoHelp stop → is_some (entered (built lusdist) stop) ≡ true → IsCommand (entered (built lusdist) stop)
is_command_at None other some = absurd cc
is_command_at (Some p) other some =
    go (find (λ s. answers_to p.0 (label_of s)) (built lusdist).subs) refl some
  where
    name_of : Shape → Text
    name_of s = s.name

    one_of : {found : Shape} → (found ≡ shape_at 0) ⊎ ((found ≡ shape_at 1) ⊎ ((found ≡ shape_at 2) ⊎ ((found ≡ shape_at 3) ⊎ ((found ≡ shape_at 4) ⊎ ((found ≡ shape_at 5) ⊎ (found ≡ shape_at 6))))))
        → (found.name ≡ codes "check") ⊎ ((found.name ≡ codes "eval") ⊎ ((found.name ≡ codes "new") ⊎ ((found.name ≡ codes "plan") ⊎ ((found.name ≡ codes "replay") ⊎ ((found.name ≡ codes "run") ⊎ (found.name ≡ codes "explain"))))))
    one_of (inl first) = inl (ap name_of first)
    one_of (inr (inl second)) = inr (inl (ap name_of second))
    one_of (inr (inr (inl third))) = inr (inr (inl (ap name_of third)))
    one_of (inr (inr (inr (inl fourth)))) = inr (inr (inr (inl (ap name_of fourth))))
    one_of (inr (inr (inr (inr (inl fifth))))) = inr (inr (inr (inr (inl (ap name_of fifth)))))
    one_of (inr (inr (inr (inr (inr (inl sixth)))))) = inr (inr (inr (inr (inr (inl (ap name_of sixth))))))
    one_of (inr (inr (inr (inr (inr (inr seventh)))))) = inr (inr (inr (inr (inr (inr (ap name_of seventh))))))

    is_help : answers_to p.0 (label_of (shape_at 7)) ≡ true → ⊥
    is_help e = other p refl (sym ((bytes_eq-Decides (codes "help") p.0).0 (sym (or-false _) ∙ e)))

    go : (o : Option Shape) → find (λ s. answers_to p.0 (label_of s)) (built lusdist).subs ≡ o → is_some (option_map (λ s. rows_at s p.1) o) ≡ true
        → IsCommand (option_map (λ s. rows_at s p.1) o)
    go None e is = absurd cc
    go (Some found) e is = record {
      found = rows_at found p.1;
      is = refl;
      named = elim (one_of_eight (answers_to p.0 (label_of (shape_at 0))) (answers_to p.0 (label_of (shape_at 1))) (answers_to p.0 (label_of (shape_at 2))) (answers_to p.0 (label_of (shape_at 3))) (answers_to p.0 (label_of (shape_at 4))) (answers_to p.0 (label_of (shape_at 5))) (answers_to p.0 (label_of (shape_at 6))) (answers_to p.0 (label_of (shape_at 7))) (shape_at 0) (shape_at 1) (shape_at 2) (shape_at 3) (shape_at 4) (shape_at 5) (shape_at 6) (shape_at 7) found e) [
        | inl named ↦ one_of named
        | inr help ↦ absurd (is_help help)
      ];
    }

-- what was matched has a command
pub command_from : (words : List Text) (r : Result ArgMatches Error) → FailsBy (fault_of lusdist words) r → IfOk r (λ m. subcommand_rows_of m ≡ subcommand_of lusdist words) → IfOk r (λ m. IsCommand (subcommand_rows_of m))
command_from words (Ok m) none rows =
    subst IsCommand (sym rows) (is_command_at (stop_at words) (no_help words none) (has_command words none))
command_from words (Err e) none rows = tt
