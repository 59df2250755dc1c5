-- Where a text that is no program is refused.
use Rattle.std.specs.Prelude.{ℕ, List, Bool, nat_lt}
use Rattle.std.specs.List.{prefix_len}
use Rattle.lusyn.specs.declared.error.SynError.{SynError}
use Rattle.lusyn.specs.declared.error.SynError.TheVariants.{Syntax, NumberTooLarge, NotAscii, TooLong}
use Rattle.lusyn.specs.declared.error.SynError.TheVariants.{LongRun, OutOfMemory}
use Rattle.luexplain.specs.Place.{place}
use Rattle.luexplain.specs.Explanations.{whole}

abbrev pub is_ascii : ℕ → Bool
is_ascii b = nat_lt b 128

-- a text that is no program is reported at the byte of its refusal, or at the first byte above 127
abbrev pub place_of_syntax : List ℕ → List ℕ → SynError → List ℕ
place_of_syntax path text (Syntax byte) = place path text byte
place_of_syntax path text (NumberTooLarge byte) = place path text byte
place_of_syntax path text (LongRun byte) = place path text byte
place_of_syntax path text NotAscii = place path text (prefix_len is_ascii text)
place_of_syntax path text TooLong = whole path
place_of_syntax path text OutOfMemory = whole path
