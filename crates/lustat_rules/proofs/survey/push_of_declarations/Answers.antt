use Rattle.std.proofs.Common.{◌≡◌, ◌∙◌, ◌≤◌, refl, ap, sym, length, arith, Bor}
use Rattle.std.specs.Prelude.{slice_get}
use Rattle.std.proofs.lemmas.Option.{slice_get_read}
use Rattle.std.proofs.lemmas.List.{length-map}
use Rattle.lutree.specs.declared.program.Declaration.{Declaration}
use Rattle.lustat_rules.specs.Faults.{declared_in}
use Rattle.lustat_rules.proofs.Keeping.{item_view}
use Rattle.lustat_rules.proofs.Gaining.{gains_more, gains_all}
use Rattle.lustat_rules.proofs.survey.push_of_declarations.Goals as goal

pub loop-j-preserved : goal.loop-j-preserved
loop-j-preserved g c =
    let n = c.args.scope.now in
    let items = c.declarations-declarations.result.now in
    let j = c.loop-j.j in
    let item = c.index-declarations-j.result in
    let at = ap (λ l. slice_get l j) (sym c.declarations-declarations.ensures) ∙ item_view (λ (d : Bor Declaration). d.now) items j item (slice_get_read items (length items) j item refl c.loop-j-test.true c.index-declarations-j.is) in
    gains_more (declared_in n) (g.S.Stage.breaks_declaration c.args.survey.now n) j item.now c.args.found.now.items c.loop-j.found.items c.push_declaration_faults.new.found.items
    at c.loop-j.invariant c.in_ok-push_declaration_faults.ensures

pub returns : goal.returns
returns g c =
    let n = c.args.scope.now in
    let items = c.declarations-declarations.result.now in
    let size : length (declared_in n) ≡ length items = ap length (sym c.declarations-declarations.ensures) ∙ length-map items (λ (d : Bor Declaration). d.now) in
    let end : length (declared_in n) ≤ c.loop-j.j = (let e = c.loop-j-test.false in omega (arith, size, e)) in
    gains_all (declared_in n) (g.S.Stage.breaks_declaration c.args.survey.now n) c.loop-j.j c.args.found.now.items c.loop-j.found.items end c.loop-j.invariant
