use Rattle.std.proofs.Common.{◌≡◌, ◌∙◌, Some, None, true, false, sym, ap, arith}
use Rattle.std.specs.Prelude.{slice_get}
use Rattle.std.proofs.lemmas.List.{length-map}
use Rattle.std.proofs.lemmas.Option.{slice_get_within, slice_get-get_or}
use Rattle.lubase.specs.Places.{first_place}
use Rattle.lubase.proofs.Finding.{there}
use Rattle.lustat_init.specs.declared.begun.Beginning.{Beginning}
use Rattle.lustat_init.specs.Beginnings.{spelled}
use Rattle.lustat_init.proofs.Tabled.{none_there, only_there}
use Rattle.lustat_init.proofs.begun.BeginningTable.has.Goals as goal

pub index-requires : goal.index-requires
index-requires c =
    let all = c.args.self.now.all.items in
    let x = c.args.name.now in
    let first : first_place (spelled all) x ≡ Some c.in-Some.place = ap (λ names. first_place names x) (sym c.args.self.now.named) ∙ sym c.find.ensures ∙ c.in-Some.is in
    let w = slice_get_within (spelled all) c.in-Some.place x (there (spelled all) x c.in-Some.place first) in
    let n = length-map all (λ (y : Beginning). y.name.now) in
    omega (arith, n, w)

pub returns-in-None : goal.returns-in-None
returns-in-None c =
    let all = c.args.self.now.all.items in
    let x = c.args.name.now in
    let none : first_place (spelled all) x ≡ None = ap (λ names. first_place names x) (sym c.args.self.now.named) ∙ sym c.find.ensures ∙ c.in-None.is in
    (λ h. absurd (let no : false ≡ true = h in cc), λ h. absurd (none_there all x c.args.pattern.now none h))

pub returns-then-self : goal.returns-then-self
returns-then-self c =
    let all = c.args.self.now.all.items in
    let x = c.args.name.now in
    let first : first_place (spelled all) x ≡ Some c.in-Some.place = ap (λ names. first_place names x) (sym c.args.self.now.named) ∙ sym c.find.ensures ∙ c.in-Some.is in
    let w = slice_get_within (spelled all) c.in-Some.place x (there (spelled all) x c.in-Some.place first) in
    let n = length-map all (λ (y : Beginning). y.name.now) in
    let at : slice_get all c.in-Some.place ≡ Some c.index.result.now = slice_get-get_or all c.in-Some.place c.index.result.now (omega (arith, n, w)) ∙ ap Some (sym c.index.ensures) in
    let same = only_there all x c.in-Some.place c.index.result.now c.args.pattern.now (c.args.self.now.once c.if-self.true) first at in
    (λ h. same.0 (c.is.ensures.0 h ∙ c.of-asked.ensures), λ h. c.is.ensures.1 (same.1 h ∙ sym c.of-asked.ensures))
