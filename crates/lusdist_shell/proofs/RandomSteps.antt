-- Random turns, turn by turn.
use Rattle.std.proofs.Common.{◌≡◌, ℕ, ◌+◌, ◌<◌, List, [], ◌∷◌, ◌++◌, All, refl, add-one, zero-add}
use Rattle.std.proofs.lemmas.List.Elements.{All-append, All-cons, All-nil}
use Rattle.std.proofs.lemmas.List.FromFn.{map-range_with_len_more}
use Rattle.lusdist_shell.specs.RandomTurns.{next_state, state_after, random_turn, random_turns}

-- the next state
pub state_more : (seed turns : ℕ) → state_after seed (turns + 1) ≡ next_state (state_after seed turns)
unfolding state_after
state_more seed turns = rw (add-one turns) refl

-- one turn more
pub turns_more : (seed sites count : ℕ) → random_turns seed sites (count + 1) ≡ random_turns seed sites count ++ random_turn seed sites count ∷ []
turns_more seed sites count = map-range_with_len_more (random_turn seed sites) 0 count count (zero-add count)

-- one site more below a number
pub below_more_turn : (sites : ℕ) (turns : List ℕ) (site : ℕ) → All (λ (s : ℕ). s < sites) turns → site < sites → All (λ (s : ℕ). s < sites) (turns ++ site ∷ [])
below_more_turn sites turns site all one =
    let P : ℕ → Type 0 = λ s. s < sites in
    All-append P turns (site ∷ []) all (All-cons P site [] one (All-nil P))
