-- What the theorem says of the design.
use Rattle.std.specs.Prelude.{ℕ, List, codes}
use Rattle.lusdist_call.specs.Headline.{IsTrueReplay}
use Rattle.example_embed.specs.declared.design.TheConstants.{DESIGN, TABLE}

-- the text is a report that is true of the design at its table, in each of its solutions
abbrev pub IsTrueOfDesign : List ℕ → Type 0
IsTrueOfDesign text = IsTrueReplay DESIGN.now TABLE.now (codes "main") text
