-- What is reported of a refusal.
use Rattle.std.specs.Prelude.{◌≡◌, ◌≤◌, ◌+◌, ℕ, Bool, not, nat_eq, List, ◌++◌, drop, codes, string_bytes}
use Rattle.std.specs.List.{prefix_len}
use Rattle.luexplain.specs.declared.said.Explanation.{Explanation}
use Rattle.lustat_rules.specs.declared.error.StatError.{StatError}
use Rattle.lustat_rules.specs.declared.error.StatError.TheVariants.{NoMain, OutOfMemory}
use Rattle.lustat_rules.specs.declared.error.StatError.TheVariants.{DuplicateName, Undefined}
use Rattle.lustat_rules.specs.declared.error.StatError.TheVariants.{RecursiveNode, HiddenClock}
use Rattle.lustat_rules.specs.Reported.{byte_of}
use Rattle.luexplain.specs.Place.{place}

-- what is reported stands at this place
pub record IsExplanation (place : List ℕ) (reported : Explanation) : Type 0 where
  pub is : string_bytes reported.place ≡ place

-- WHERE

-- the line of a path, which stands for the whole file
abbrev pub whole : List ℕ → List ℕ
whole path = path ++ codes "\n"

-- 59 is the `;`, which ends an equation
abbrev pub is_before_end : ℕ → Bool
is_before_end b = not (nat_eq b 59)

-- a byte of the equation, or of the declaration, that begins at another: no `;` stands between them
pub record IsInEquation (text : List ℕ) (begin byte : ℕ) : Type 0 where
  pub behind : begin ≤ byte
  pub before_end : byte ≤ begin + prefix_len is_before_end (drop begin text)

-- A broken rule is reported at its byte, or, where it is one of an equation, at the token that is at fault;
-- but that there is no main node in the whole.
abbrev pub IsRulePlace : List ℕ → List ℕ → StatError → List ℕ → Type 0
IsRulePlace path text NoMain at = at ≡ whole path
IsRulePlace path text OutOfMemory at = at ≡ whole path
IsRulePlace path text (DuplicateName byte) at = at ≡ place path text byte
IsRulePlace path text (Undefined byte) at = at ≡ place path text byte
IsRulePlace path text (RecursiveNode byte) at = at ≡ place path text byte
IsRulePlace path text (HiddenClock byte) at = at ≡ place path text byte
IsRulePlace path text e at = (byte : ℕ) × IsInEquation text (byte_of e) byte × (at ≡ place path text byte)
