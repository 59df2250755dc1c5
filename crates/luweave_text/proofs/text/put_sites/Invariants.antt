use Rattle.std.proofs.Common.{◌≡◌, ◌++◌, ℕ, List, string_bytes}
use Rattle.luweave_text.specs.WorldText.{AreSiteLines}
use Rattle.luweave_text.proofs.text.put_sites.Given as goal

abbrev pub invariant-loop-site : goal.invariant-loop-site
invariant-loop-site l = (lines : List ℕ) × AreSiteLines l.world l.site lines × (string_bytes l.text ≡ string_bytes l.initial.text ++ lines)
