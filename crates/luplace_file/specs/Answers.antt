-- What a call answers where memory may run out.
use Rattle.std.specs.Prelude.{◌≡◌, ◌⊎◌, Option, Some, None, Result, Ok, Err, MatchResult}
use Rattle.luplace_file.specs.declared.error.PlaceError.{PlaceError}
use Rattle.luplace_file.specs.declared.error.PlaceError.TheVariants.{BadKey, OutOfMemory}

-- The call gives what is reported, unless memory ran out.
abbrev pub Gives : {X : Type 0} → Result X PlaceError → Result X PlaceError → Type 0
Gives reported result = MatchResult result (λ x. reported ≡ Ok x)
    (λ e. (e ≡ OutOfMemory) ⊎ (reported ≡ Err e))

-- the value, or that a key or its value is none of a placement's
abbrev pub or_bad_key : {X : Type 0} → Option X → Result X PlaceError
or_bad_key None = Err BadKey
or_bad_key (Some x) = Ok x
