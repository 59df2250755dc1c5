use Rattle.std.proofs.Common.{◌≡◌, ◌∷◌, ◌-◌, ℕ, List, Some, [], arith, drop, get_or, length, refl, rules, take}
use Rattle.std.proofs.lemmas.List.{take_all}
use Rattle.lutab.specs.Reading.{number_at}
use Rattle.lutab.proofs.field.number.Goals as goal

zero_read : (bytes : List ℕ) → get_or bytes 0 0 ≡ 48 → Some (0, take (length bytes - 1) (drop 1 bytes)) ≡ number_at bytes
unfolding number_at
zero_read [] e = absurd cc
zero_read (b ∷ bs) e = rw (e, take_all (length (b ∷ bs) - 1) bs (omega arith)) refl

pub returns-in-48 : goal.returns-in-48
returns-in-48 c = zero_read c.args.bytes.now (search rules)
