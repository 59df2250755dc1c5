use Rattle.std.proofs.Common.{◌∙◌, ◌≤◌, refl, ap, sym, length, arith}
use Rattle.std.specs.Prelude.{slice_get}
use Rattle.std.proofs.lemmas.Option.{slice_get_read}
use Rattle.lustat_rules.proofs.Judging.{judged_step, judged_all}
use Rattle.lustat_rules.proofs.stage.names_fault.Goals as goal

pub loop-j-preserved : goal.loop-j-preserved
loop-j-preserved g c =
    let s = c.args.stage.now in
    let t = c.args.declaration.now in
    let i = c.args.place in
    let items = c.as_slice-names.result.now in
    let j = c.loop-j.j in
    let item = c.index-names-j.result in
    let at = ap (λ l. slice_get l j) (sym c.as_slice-names.ensures) ∙ slice_get_read items (length items) j item refl c.loop-j-test.true c.index-names-j.is in
    judged_step t.names (g.S.Stage.breaks_name s i t) (g.S.Stage.keeps_name s i t) j item c.loop-j.best c.name_fault-found.result c.lesser-best.result
    at c.lesser-best.ensures c.loop-j.invariant c.name_fault-found.ensures

pub returns : goal.returns
returns g c =
    let s = c.args.stage.now in
    let t = c.args.declaration.now in
    let i = c.args.place in
    let end : length t.names ≤ c.loop-j.j = (let e = c.loop-j-test.false in let size = ap length c.as_slice-names.ensures in omega (arith, size, e)) in
    judged_all t.names (g.S.Stage.breaks_name s i t) (g.S.Stage.keeps_name s i t) c.loop-j.j c.loop-j.best end c.loop-j.invariant
