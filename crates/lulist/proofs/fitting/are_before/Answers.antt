use Rattle.std.proofs.Common.{arith}
use Rattle.std.proofs.lemmas.Option.{slice_get_within}
use Rattle.lulist.specs.Rows.{IsBefore}
use Rattle.lueval_lines.proofs.Elements.{all_from}
use Rattle.lulist.proofs.fitting.are_before.Goals as goal

pub returns : goal.returns
returns c = λ _. all_from (IsBefore c.args.places.now c.args.numbers.now c.args.k) c.args.reads.now (λ i r there.
    let l = slice_get_within c.args.reads.now i r there in
    let a = c.loop-j-test.false in
    let b = c.loop-j.auto.j-end in
    c.loop-j.invariant.before i r (omega (arith, l, a, b)) there)
