-- One program's run as an example: node main(x: int; c: bool) returns (y: int; z: int when c), with s = x
-- when c, z = 2 * s at site 1 and all else at site 0; c is true, false, true, true. Flows are x 0, c 1, y 2,
-- z 3, s 4, 2 at 5, pre y at 6, pre y + x at 7.
use Rattle.std.specs.Prelude.{◌≡◌, ◌≤◌, ℕ, Bool, true, false, cond, List, [], ◌∷◌, ◌&&◌, ◌||◌, not, nat_eq}
use Rattle.std.specs.Prelude.{length, slice_get, Some, None, replicate, ◌++◌}
use Rattle.luworld.specs.Systems.{Puts, reached, moved_turns, item_count, enabled_below}
use Rattle.luworld.specs.Outline.{Outline, IsOutline, script, system, left, list_length}

abbrev pub is_slow : ℕ → Bool
is_slow flow = nat_eq flow 3 || (nat_eq flow 4 || nat_eq flow 5)

abbrev pub example : ℕ → ℕ → Outline
example instants capacity = record {
  sites = 2;
  capacity = capacity;
  instants = instants;
  ranked = 0 ∷ 1 ∷ 4 ∷ 5 ∷ 3 ∷ 6 ∷ 7 ∷ 2 ∷ [];
  stands = λ flow site. nat_eq site (cond (nat_eq flow 3 || nat_eq flow 5) 1 0);
  home = λ flow. cond (nat_eq flow 3 || nat_eq flow 5) 1 0;
  links = 2;
  flow_of = λ link. cond (nat_eq link 0) 1 4;
  receiver = λ link. 1;
  present = λ flow instant. not (is_slow flow && nat_eq instant 1);
  broken = λ flow instant. false;
}

abbrev pub eight_four : List ℕ
eight_four = replicate 8 0 ++ replicate 4 1

-- node main(x: int) returns (z: int); y = 1 div x, p = pre y, z = 0 -> p, with z at site 1; x is 1, 0, so y
-- breaks at instant 1.
-- Flows are x 0, z 1, y 2, p 3, 1 at 4, 0 at 5.
abbrev pub faulty : Outline
faulty = record {
  sites = 2;
  capacity = 16;
  instants = 2;
  ranked = 0 ∷ 3 ∷ 4 ∷ 2 ∷ 5 ∷ 1 ∷ [];
  stands = λ flow site. nat_eq site (cond (nat_eq flow 1 || nat_eq flow 5) 1 0);
  home = λ flow. cond (nat_eq flow 1 || nat_eq flow 5) 1 0;
  links = 1;
  flow_of = λ link. 3;
  receiver = λ link. 1;
  present = λ flow instant. true;
  broken = λ flow instant. nat_eq flow 2 && nat_eq instant 1;
}

-- the first example, with c at both sites
abbrev pub shared : Outline
shared = record {
  sites = 2;
  capacity = 16;
  instants = 4;
  ranked = 0 ∷ 1 ∷ 4 ∷ 5 ∷ 3 ∷ 6 ∷ 7 ∷ 2 ∷ [];
  stands = λ flow site. nat_eq flow 1 || nat_eq site (cond (nat_eq flow 3 || nat_eq flow 5) 1 0);
  home = λ flow. cond (nat_eq flow 3 || nat_eq flow 5) 1 0;
  links = 1;
  flow_of = λ link. 4;
  receiver = λ link. 1;
  present = λ flow instant. not (is_slow flow && nat_eq instant 1);
  broken = λ flow instant. false;
}

abbrev pub ten_six : List ℕ
ten_six = replicate 12 0 ++ replicate 9 1

pub record VectorsLaw : Type 0 where
  pub items : item_count (system (example 4 16)) ≡ 47
  pub first_script : length (script (example 4 16) 0) ≡ 32
  pub second_script : length (script (example 4 16) 1) ≡ 15
  pub left_new : left (example 4 16) (reached (system (example 4 16)) []) ≡ 52
  pub left_later : left (example 4 16) (reached (system (example 4 16)) eight_four) ≡ 40
  pub moved_later : moved_turns (system (example 4 16)) eight_four ≡ 12
  pub enabled_new : enabled_below (system (example 4 16)) (reached (system (example 4 16)) []) 2 ≡ Some 0
  pub left_no_instants : left (example 0 16) (reached (system (example 0 16)) []) ≡ 4
  pub tenth : slice_get (script (example 4 16) 0) 10 ≡ Some (Puts 0)
  pub lists : list_length (example 4 16) 1 ≡ 4
  pub blocked_at_ten : reached (system (example 4 1)) (replicate 40 0) ≡ 10 ∷ 0 ∷ []
  pub faulty_items : item_count (system faulty) ≡ 17
  pub faulty_end : reached (system faulty) ten_six ≡ 10 ∷ 6 ∷ []
  pub faulty_enabled : enabled_below (system faulty) (reached (system faulty) ten_six) 2 ≡ None
  pub faulty_left : left faulty (reached (system faulty) ten_six) ≡ 1
  pub faulty_new : left faulty (reached (system faulty) []) ≡ 18
  pub shared_items : item_count (system shared) ≡ 41

abbrev pub ExampleIsOutline : Type 0
ExampleIsOutline = (instants capacity : ℕ) → 1 ≤ capacity → IsOutline (example instants capacity)
