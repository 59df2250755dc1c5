-- The words of the call, and the texts.
use Rattle.std.proofs.Common.{◌≡◌, refl, sym, true, ◌∙◌}
use Rattle.clap.specs.Walk.{walked}
use Rattle.clap.specs.Words.{takes}
use Rattle.clap.specs.Takes.{walk_passes}
use Rattle.lusdist_shell.specs.CommandLine.{lusdist}
use Rattle.lusdist_call.specs.Exact.{HasOneText}
use Rattle.example_embed.specs.Texts.{text_of}
use Rattle.example_embed.specs.Words.{words}

pub taken : takes lusdist words ≡ true
unfolding walk_passes walked
taken = refl

pub one_text : HasOneText (λ path given. given ≡ text_of path)
one_text path one other is also = is ∙ sym also
