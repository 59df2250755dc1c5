use Rattle.std.proofs.Common.{◌∙◌, ◌≤◌, refl, ap, sym, length, arith}
use Rattle.std.specs.Prelude.{slice_get}
use Rattle.std.proofs.lemmas.Option.{slice_get_read}
use Rattle.lustat_rules.proofs.Gaining.{gains_more, gains_all}
use Rattle.lustat_rules.proofs.survey.push_of_names.Goals as goal

pub loop-j-preserved : goal.loop-j-preserved
loop-j-preserved g c =
    let t = c.args.declaration.now in
    let items = c.as_slice-names.result.now in
    let j = c.loop-j.j in
    let item = c.index-names-j.result in
    let at = ap (λ l. slice_get l j) (sym c.as_slice-names.ensures) ∙ slice_get_read items (length items) j item refl c.loop-j-test.true c.index-names-j.is in
    gains_more t.names (g.S.Stage.breaks_name c.args.survey.now c.args.place t) j item c.args.found.now.items c.loop-j.found.items c.push_name_faults.new.found.items
    at c.loop-j.invariant c.in_ok-push_name_faults.ensures

pub returns : goal.returns
returns g c =
    let t = c.args.declaration.now in
    let end : length t.names ≤ c.loop-j.j = (let e = c.loop-j-test.false in let size = ap length c.as_slice-names.ensures in omega (arith, size, e)) in
    gains_all t.names (g.S.Stage.breaks_name c.args.survey.now c.args.place t) c.loop-j.j c.args.found.now.items c.loop-j.found.items end c.loop-j.invariant
