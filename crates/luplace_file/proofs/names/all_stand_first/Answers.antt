use Rattle.std.proofs.Common.{rules, ◌∙◌, ◌<◌, Some, sym, ap, length, arith}
use Rattle.std.proofs.lemmas.Bool.{false≢true}
use Rattle.std.proofs.lemmas.Option.{slice_get-get_or}
use Rattle.lubase.specs.Places.{first_place}
use Rattle.luplace_file.proofs.Differing.{differ_where_first, not_first, one_first_more}
use Rattle.luplace_file.proofs.names.all_stand_first.Goals as goal

pub returns-then-not-stands_first : goal.returns-then-not-stands_first
returns-then-not-stands_first c =
    let within : c.loop-i.i < length c.args.names.now = search rules in
    let here = slice_get-get_or c.args.names.now c.loop-i.i c.index-names-i.result within ∙ ap Some (sym c.index-names-i.is) in
    let asked = ap (λ names. first_place names c.as_str.result.now) c.requires ∙ ap (first_place c.args.names.now) c.as_str.ensures in
    not_first c.args.names.now c.loop-i.i c.index-names-i.result here
    (λ is. false≢true (sym c.if-not-stands_first.true ∙ c.stands_first.ensures.1 (asked ∙ is)))

pub loop-i-preserved : goal.loop-i-preserved
loop-i-preserved c =
    let within : c.loop-i.i < length c.args.names.now = search rules in
    let here = slice_get-get_or c.args.names.now c.loop-i.i c.index-names-i.result within ∙ ap Some (sym c.index-names-i.is) in
    let asked = ap (λ names. first_place names c.as_str.result.now) c.requires ∙ ap (first_place c.args.names.now) c.as_str.ensures in
    one_first_more c.args.names.now c.loop-i.i c.index-names-i.result c.loop-i.invariant here
    (sym asked ∙ c.stands_first.ensures.0 c.if-not-stands_first.false)

pub returns : goal.returns
returns c =
    let past = c.loop-i-test.false in
    differ_where_first c.args.names.now (λ k name lt is. c.loop-i.invariant k name (omega (arith, lt, past)) is)
