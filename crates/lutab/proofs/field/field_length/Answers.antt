use Rattle.std.proofs.Common.{◌≡◌, ◌≤◌, ℕ, Bool, true, false, cond, length, Some, None, refl, sym, ◌∙◌, arith, nat_lt, not}
use Rattle.std.specs.List.{position_or_len}
use Rattle.std.proofs.lemmas.List.Sums.{prefix_len-le-length}
use Rattle.std.proofs.lemmas.Bool.Decides.{nat_tests}
use Rattle.lutab.specs.Text.{is_end}
use Rattle.lutab.proofs.field.field_length.Goals as goal

-- a place that isn't before the end isn't reported
unreported : (i n : ℕ) (b : Bool) → nat_lt i n ≡ b → i ≤ n → cond b (Some i) None ≡ None → n ≡ i
unreported i n true e le h = cc
unreported i n false e le h = grind (arith, nat_tests)

pub returns-in-None-clause-length : goal.returns-in-None-clause-length
returns-in-None-clause-length c =
    let bytes = c.args.bytes.now in
    unreported (position_or_len is_end bytes) (length bytes) (nat_lt (position_or_len is_end bytes) (length bytes)) refl (prefix_len-le-length (λ b. not (is_end b)) bytes)
    (sym c.field_end.ensures.first ∙ c.in-None.is)
