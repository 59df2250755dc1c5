-- What is printed of a code, and of which code nothing is.
use Rattle.std.specs.Prelude.{◌≡◌, ℕ, List, map, Option, Some, None, option_map}
use Rattle.std.specs.Char.{to_ascii_uppercase}
use Rattle.lusdist_shell.specs.Pages.{page_of, listing}
use Rattle.lusdist_shell.specs.declared.request.ExplainRequest.{ExplainRequest}
use Rattle.lusdist_call.specs.declared.mistake.Mistake.TheVariants.{UnknownCode}
use Rattle.lusdist_call.specs.declared.call_error.CallError.{CallError}
use Rattle.lusdist_call.specs.declared.call_error.CallError.TheVariants.{Mistaken, OutOfMemory}

-- the code that a request asks for, as it was written
abbrev pub code_in : ExplainRequest → Option (List ℕ)
code_in request = option_map (λ s. s.now) request.code

-- the page of a code, whose letter may be small, where there is one; without a code a line for each code
abbrev pub explanation : Option (List ℕ) → Option (List ℕ)
explanation (Some code) = page_of (map to_ascii_uppercase code)
explanation None = Some listing

-- an explanation stops so: no page has the code
pub data IsExplainStopped (code : Option (List ℕ)) (stop : CallError) : Type 0 where
  explain_unknown : (name : List ℕ) → code ≡ Some name → explanation code ≡ None
      → stop ≡ Mistaken (UnknownCode name) → IsExplainStopped code stop
  explain_memory : stop ≡ OutOfMemory → IsExplainStopped code stop
