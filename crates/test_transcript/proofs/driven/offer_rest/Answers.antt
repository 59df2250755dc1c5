use Rattle.std.proofs.Common.{arith, take, ap, ap₂, sym, ◌∙◌, length, length-append}
use Rattle.std.proofs.lemmas.List.{length-take-le}
use Rattle.lulink.specs.Lists.{list_of}
use Rattle.test_transcript.proofs.Ends.{rest_next}
use Rattle.test_transcript.proofs.driven.offer_rest.Goals as goal

pub offer_run-requires : goal.offer_run-requires
offer_run-requires c =
    rest_next c.args.tx.now c.args.list.now c.split_at.result.0.now c.split_at.result.1.now c.args.at c.requires.list c.requires.at c.split_at.ensures.by_index.0 c.split_at.ensures.front_len

pub returns-clause-list : goal.returns-clause-list
returns-clause-list c = let p = c.offer_run.ensures.put in c.requires.list ∙ ap₂ list_of (sym p.0) (sym p.1)

pub returns-clause-at : goal.returns-clause-at
returns-clause-at c =
    let p = c.offer_run.ensures.put in
    let n = c.offer_run.result in
    let rest = c.split_at.result.1.now in
    let all = ap length p.2 ∙ length-append c.args.tx.now.put (take n rest) in
    let some = length-take-le n rest c.offer_run.ensures.within in
    let at = c.requires.at in
    omega (arith, all, some, at)

pub returns-clause-within : goal.returns-clause-within
returns-clause-within c = let a = c.offer_run.ensures.within in let b = c.split_at.ensures.back_len in omega (arith, a, b)
