use Rattle.std.proofs.Common.{◌≤◌, ◌∙◌, refl, ap, length, arith}
use Rattle.std.specs.Prelude.{slice_get}
use Rattle.std.proofs.lemmas.Option.{slice_get_read}
use Rattle.lustat_rules.specs.Stages.{BrokenInType}
use Rattle.lustat_rules.proofs.Gaining.{gains_more, gains_all}
use Rattle.lustat_rules.proofs.survey.push_of_types.Goals as goal

pub push_in_type-requires : goal.push_in_type-requires
push_in_type-requires g c =
    let types = c.args.types.now in
    let i = c.loop-i.i in
    let there = ap (λ l. slice_get l i) c.requires ∙ slice_get_read types (length types) i c.index-types-i.result refl c.loop-i-test.true c.index-types-i.is in
    λ k. ((refl, tt), there)

pub loop-i-preserved : goal.loop-i-preserved
loop-i-preserved g c =
    let types = c.args.types.now in
    let s = c.args.survey.now in
    let i = c.loop-i.i in
    let t = c.index-types-i.result in
    let here = slice_get_read types (length types) i t refl c.loop-i-test.true c.index-types-i.is in
    gains_more types (BrokenInType (g.S.Stage.breaks_type s) (g.S.Stage.breaks_name s)) i t c.args.found.now.items c.loop-i.found.items c.push_in_type.new.found.items
    here c.loop-i.invariant c.in_ok-push_in_type.ensures

pub returns : goal.returns
returns g c =
    let types = c.args.types.now in
    let s = c.args.survey.now in
    let end : length types ≤ c.loop-i.i = (let e = c.loop-i-test.false in omega (arith, e)) in
    gains_all types (BrokenInType (g.S.Stage.breaks_type s) (g.S.Stage.breaks_name s)) c.loop-i.i c.args.found.now.items c.loop-i.found.items end c.loop-i.invariant
