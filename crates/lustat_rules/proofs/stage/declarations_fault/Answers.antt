use Rattle.std.proofs.Common.{◌≡◌, ◌∙◌, ◌≤◌, refl, ap, sym, length, arith, Bor}
use Rattle.std.specs.Prelude.{slice_get}
use Rattle.std.proofs.lemmas.Option.{slice_get_read}
use Rattle.std.proofs.lemmas.List.{length-map}
use Rattle.lutree.specs.declared.program.Declaration.{Declaration}
use Rattle.lustat_rules.specs.Faults.{declared_in}
use Rattle.lustat_rules.proofs.Judging.{judged_step, judged_all}
use Rattle.lustat_rules.proofs.Keeping.{item_view}
use Rattle.lustat_rules.proofs.stage.declarations_fault.Goals as goal

pub loop-j-preserved : goal.loop-j-preserved
loop-j-preserved g c =
    let n = c.args.scope.now in
    let items = c.declarations-declarations.result.now in
    let j = c.loop-j.j in
    let item = c.index-declarations-j.result in
    let at = ap (λ l. slice_get l j) (sym c.declarations-declarations.ensures) ∙ item_view (λ (d : Bor Declaration). d.now) items j item (slice_get_read items (length items) j item refl c.loop-j-test.true c.index-declarations-j.is) in
    judged_step (declared_in n) (g.S.Stage.breaks_declaration c.args.stage.now n) (g.S.Stage.keeps_declaration c.args.stage.now n) j item.now c.loop-j.best c.declaration_fault-found.result c.lesser-best.result
    at c.lesser-best.ensures c.loop-j.invariant c.declaration_fault-found.ensures

pub returns : goal.returns
returns g c =
    let n = c.args.scope.now in
    let items = c.declarations-declarations.result.now in
    let size : length (declared_in n) ≡ length items = ap length (sym c.declarations-declarations.ensures) ∙ length-map items (λ (d : Bor Declaration). d.now) in
    let end : length (declared_in n) ≤ c.loop-j.j = (let e = c.loop-j-test.false in omega (arith, size, e)) in
    judged_all (declared_in n) (g.S.Stage.breaks_declaration c.args.stage.now n) (g.S.Stage.keeps_declaration c.args.stage.now n) c.loop-j.j c.loop-j.best end c.loop-j.invariant
