use Rattle.std.proofs.Common.{arith, ◌≡◌, ◌<◌, Some, length, refl, sym, ap, ◌∙◌}
use Rattle.std.specs.Prelude.{slice_get}
use Rattle.std.proofs.lemmas.Option.{slice_get-get_or}
use Rattle.lublock_kernels.proofs.Steps.{len_set}
use Rattle.lublock.proofs.Renewing.{spans_renewed, spans_left, all_renewed}
use Rattle.lublock.proofs.board.renew_spans.Goals as goal

pub loop-i-init : goal.loop-i-init
loop-i-init c = record { len = refl; done = λ r l. absurd (omega (arith, l)); left = λ r l. refl }

pub loop-i-preserved : goal.loop-i-preserved
loop-i-preserved c =
    let flat = c.args.flat.now in
    let old = c.args.spans.now.items in
    let spans = c.loop-i.spans.items in
    let i = c.loop-i.i in
    let inv = c.loop-i.invariant in
    let low = c.loop-i-test.true in
    let all = c.len-i-end.ensures in
    let long = inv.len in
    let inside : i < length spans = omega (arith, low, all, long) in
    let at : slice_get spans i ≡ Some c.index.result.now = slice_get-get_or spans i c.index.result.now inside ∙ ap Some (sym c.index.ensures) in
    record {
      len = len_set spans i c.renewed.result ∙ inv.len;
      done = spans_renewed flat old spans i c.index.result.now c.renewed.result c.is_constant.result inside at c.renewed.ensures c.is_constant.ensures inv.done inv.left;
      left = spans_left flat old spans i c.renewed.result inv.left;
    }

pub returns-clause-was : goal.returns-clause-was
returns-clause-was c = λ r. (all_renewed c.args.flat.now c.args.spans.now.items c.loop-i.spans.items c.loop-i.i c.loop-i.invariant.len (let no = c.loop-i-test.false in let all = c.len-i-end.ensures in let len = c.loop-i.invariant.len in omega (arith, no, all, len)) c.loop-i.invariant.done r).was

pub returns-clause-upto : goal.returns-clause-upto
returns-clause-upto c = λ r. (all_renewed c.args.flat.now c.args.spans.now.items c.loop-i.spans.items c.loop-i.i c.loop-i.invariant.len (let no = c.loop-i-test.false in let all = c.len-i-end.ensures in let len = c.loop-i.invariant.len in omega (arith, no, all, len)) c.loop-i.invariant.done r).upto

pub returns-clause-known : goal.returns-clause-known
returns-clause-known c = λ r. (all_renewed c.args.flat.now c.args.spans.now.items c.loop-i.spans.items c.loop-i.i c.loop-i.invariant.len (let no = c.loop-i-test.false in let all = c.len-i-end.ensures in let len = c.loop-i.invariant.len in omega (arith, no, all, len)) c.loop-i.invariant.done r).known

pub returns-clause-taken : goal.returns-clause-taken
returns-clause-taken c = λ r. (all_renewed c.args.flat.now c.args.spans.now.items c.loop-i.spans.items c.loop-i.i c.loop-i.invariant.len (let no = c.loop-i-test.false in let all = c.len-i-end.ensures in let len = c.loop-i.invariant.len in omega (arith, no, all, len)) c.loop-i.invariant.done r).taken

pub returns-clause-none : goal.returns-clause-none
returns-clause-none c = λ r. (all_renewed c.args.flat.now c.args.spans.now.items c.loop-i.spans.items c.loop-i.i c.loop-i.invariant.len (let no = c.loop-i-test.false in let all = c.len-i-end.ensures in let len = c.loop-i.invariant.len in omega (arith, no, all, len)) c.loop-i.invariant.done r).none
