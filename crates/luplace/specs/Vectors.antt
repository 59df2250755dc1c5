-- Worked placements: where each puts the variables of sampled_sum (x and c, y and z, s), and which is
-- refused.
use Rattle.std.specs.Prelude.{◌≡◌, ℕ, List, [], ◌∷◌, codes, true, false, Some, None}
use Rattle.luflow.specs.Vectors.{sampled_sum}
use Rattle.luplace_file.specs.Content.{PlaceView}
use Rattle.luplace_file.specs.declared.place.Placed.{Placed}
use Rattle.luplace_file.specs.declared.error.PlaceError.TheVariants.{UnknownVariable, Unplaced}
use Rattle.luplace.specs.Placing.{sites_put, placed_by, are_together, refusal}

-- sites A and B, a default, and entries
abbrev pub at_two_sites : List ℕ → List Placed → PlaceView
at_two_sites default entries = record {
  sites = codes "A" ∷ codes "B" ∷ [];
  default = default;
  capacity = 16;
  place = entries;
}

abbrev pub entry : List ℕ → List ℕ → Placed
entry variable sites = record { variable = variable; sites = sites }

-- all at A, but c at both and z at B
abbrev pub shared_clock : PlaceView
shared_clock = at_two_sites (0 ∷ []) (entry (codes "c") (0 ∷ 1 ∷ []) ∷ entry (codes "z") (1 ∷ []) ∷ [])

pub record PlacingVectors : Type 0 where
  pub by_entry : sites_put shared_clock (codes "c") ≡ 0 ∷ 1 ∷ []
  pub by_default : sites_put shared_clock (codes "y") ≡ 0 ∷ []
  pub nowhere : sites_put (at_two_sites [] (entry (codes "c") (1 ∷ []) ∷ [])) (codes "y") ≡ []
  pub placed : placed_by sampled_sum.variables shared_clock ≡ (0 ∷ []) ∷ (0 ∷ 1 ∷ []) ∷ (0 ∷ []) ∷ (1 ∷ [])
      ∷ (0 ∷ []) ∷ []
  pub accepted : refusal sampled_sum shared_clock ≡ None
  -- w is no variable, and x has no site: the first of the two is reported
  pub unknown : refusal sampled_sum (at_two_sites [] (entry (codes "w") (0 ∷ []) ∷ [])) ≡ Some UnknownVariable
  pub unplaced : refusal sampled_sum (at_two_sites [] (entry (codes "c") (0 ∷ []) ∷ [])) ≡ Some Unplaced
  -- two variables of one equation, which is the first's, at the same two sites, at one of them alone, and at
  -- two that differ
  pub together : are_together (0 ∷ 0 ∷ []) ((0 ∷ 1 ∷ []) ∷ (0 ∷ 1 ∷ []) ∷ []) ≡ true
  pub fewer : are_together (0 ∷ 0 ∷ []) ((0 ∷ 1 ∷ []) ∷ (0 ∷ []) ∷ []) ≡ false
  pub apart : are_together (0 ∷ 0 ∷ []) ((0 ∷ []) ∷ (1 ∷ []) ∷ []) ≡ false
  pub alone : are_together (0 ∷ 1 ∷ []) ((0 ∷ []) ∷ (1 ∷ []) ∷ []) ≡ true
