use Rattle.std.proofs.Common.{◌≤◌, ◌∙◌, refl, ap, length, arith}
use Rattle.std.specs.Prelude.{slice_get}
use Rattle.std.proofs.lemmas.Option.{slice_get_read}
use Rattle.lustat_rules.proofs.Judging.{judged_step, judged_all}
use Rattle.lustat_rules.specs.Stages.{BrokenInType, KeptInType}
use Rattle.lustat_rules.proofs.stage.types_fault.Goals as goal

pub whole_type_fault-found-requires : goal.whole_type_fault-found-requires
whole_type_fault-found-requires g c =
    let types = c.args.types.now in
    let i = c.loop-i.i in
    let there = ap (λ l. slice_get l i) c.requires ∙ slice_get_read types (length types) i c.index-types-i.result refl c.loop-i-test.true c.index-types-i.is in
    λ k. ((refl, tt), there)

pub loop-i-preserved : goal.loop-i-preserved
loop-i-preserved g c =
    let types = c.args.types.now in
    let s = c.args.stage.now in
    let i = c.loop-i.i in
    let t = c.index-types-i.result in
    let here = slice_get_read types (length types) i t refl c.loop-i-test.true c.index-types-i.is in
    judged_step types (BrokenInType (g.S.Stage.breaks_type s) (g.S.Stage.breaks_name s)) (KeptInType (g.S.Stage.keeps_type s) (g.S.Stage.keeps_name s)) i t c.loop-i.best c.whole_type_fault-found.result
    c.lesser-best.result here c.lesser-best.ensures c.loop-i.invariant c.whole_type_fault-found.ensures

pub returns : goal.returns
returns g c =
    let types = c.args.types.now in
    let s = c.args.stage.now in
    let end : length types ≤ c.loop-i.i = (let e = c.loop-i-test.false in omega (arith, e)) in
    judged_all types (BrokenInType (g.S.Stage.breaks_type s) (g.S.Stage.breaks_name s)) (KeptInType (g.S.Stage.keeps_type s) (g.S.Stage.keeps_name s)) c.loop-i.i c.loop-i.best end c.loop-i.invariant
