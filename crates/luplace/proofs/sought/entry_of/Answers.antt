use Rattle.std.proofs.Common.{◌∙◌, ap, sym}
use Rattle.lubase.specs.Places.{first_place}
use Rattle.lubase.proofs.Sought.{at}
use Rattle.luplace.proofs.Sited.{entry_sought}
use Rattle.luplace.proofs.sought.entry_of.Goals as goal

pub returns-in-Some : goal.returns-in-Some
returns-in-Some c =
    let entries = c.args.entries.now in
    let x = c.args.variable.now in
    let place = sym c.in-Some.is ∙ c.find.ensures ∙ ap (λ ns. first_place ns x) c.requires in
    c.entry_at.ensures ∙ ap (at entries) place ∙ entry_sought entries x

pub returns-in-None : goal.returns-in-None
returns-in-None c =
    let entries = c.args.entries.now in
    let x = c.args.variable.now in
    let place = sym c.in-None.is ∙ c.find.ensures ∙ ap (λ ns. first_place ns x) c.requires in
    ap (at entries) place ∙ entry_sought entries x
