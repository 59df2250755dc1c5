-- Runs of tokens. A run's tokens are those before the first `;`, those between two, and those after the last.
use Rattle.std.specs.Prelude.{◌≡◌, ◌≤◌, ℕ, Bool, true, false, List, ◌∷◌, ◌++◌, length}
use Rattle.std.specs.List.{list_all}
use Rattle.lubase.specs.Limits.{longest_run}
use Rattle.lusyn_grammar.specs.declared.token.Fixed.TheVariants as f
use Rattle.lusyn_grammar.specs.Tokens.{Tok, fixed}
use Rattle.lusyn_grammar.specs.Lexing.{Placed}

-- every token but `;` is one of a run
abbrev pub is_of_run : Tok → Bool
is_of_run (fixed f.Semicolon) = false
is_of_run _ = true

-- none of them is a `;`
abbrev pub are_of_run : List Placed → Bool
are_of_run = list_all (λ x. is_of_run x.1)

-- no more than 1,000 tokens stand next to one another without a `;`
abbrev pub HasShortRuns : List Placed → Type 0
HasShortRuns ts = (front run rest : List Placed) → front ++ (run ++ rest) ≡ ts → are_of_run run ≡ true
    → length run ≤ longest_run

-- the token at this place is the first one with 1,000 others of its run before it
abbrev pub IsTooMany : List Placed → ℕ → Type 0
IsTooMany ts at =
    (front run rest : List Placed) × (t : Tok)
    × ((front ++ run) ++ ((at, t) ∷ rest) ≡ ts) × HasShortRuns (front ++ run)
    × (are_of_run run ≡ true) × (length run ≡ longest_run) × (is_of_run t ≡ true)
