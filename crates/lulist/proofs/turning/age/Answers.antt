use Rattle.std.proofs.Common.{◌<◌, ℕ, List, length, get_or, refl, ap, ◌∙◌, arith}
use Rattle.std.specs.Prelude.{slice_index, All}
use Rattle.std.proofs.lemmas.List.{length-set}
use Rattle.std.proofs.lemmas.List.Elements.{All-get_or}
use Rattle.std.proofs.lemmas.Option.{slice_get-get_or, slice_get_within}
use Rattle.luflow.proofs.Solutions.{some_at}
use Rattle.lueval_lines.specs.declared.cell.Cell.TheVariants.{Absent}
use Rattle.lueval_lines.specs.Cells.{newest}
use Rattle.lulist.proofs.Instants.{aged_none, aged_more}
use Rattle.lulist.proofs.turning.age.Goals as goal

inside : (kept : List ℕ) (n j : ℕ) → All (λ k. k < n) kept → j < length kept → slice_index kept j < n
inside kept n j h l = All-get_or (λ k. k < n) kept j 0 l h

pub loop-j-init : goal.loop-j-init
loop-j-init c = record { aged = aged_none c.args.kept.now c.args.shown.now c.args.lasts.now; len = refl }

pub renew-requires : goal.renew-requires
renew-requires c =
    let l = inside c.args.kept.now (length c.args.shown.now) c.loop-j.j c.requires.inside c.loop-j-test.true in
    let n = c.loop-j.invariant.len in
    let m = c.requires.len in
    omega (arith, l, n, m)

pub loop-j-preserved : goal.loop-j-preserved
loop-j-preserved c =
    let kept = c.args.kept.now in
    let shown = c.args.shown.now in
    let j = c.loop-j.j in
    let k = slice_index kept j in
    let lk = inside kept (length shown) j c.requires.inside c.loop-j-test.true in
    let n = c.loop-j.invariant.len in
    let m = c.requires.len in
    let x = get_or shown k Absent in
    let z = some_at c.loop-j.lasts k (omega (arith, lk, n, m)) in
    let is = c.renew.ensures z.0 z.1 in
    record {
      aged = aged_more kept shown c.args.lasts.now c.loop-j.lasts c.renew.new.lasts j k x z.0 (slice_get-get_or kept j 0 c.loop-j-test.true) (slice_get-get_or shown k Absent lk) z.1 is c.loop-j.invariant.aged;
      len = ap length is ∙ length-set c.loop-j.lasts k (newest x z.0) ∙ n;
    }

pub returns-clause-aged : goal.returns-clause-aged
returns-clause-aged c = λ k x y kept shows was.
    let l = slice_get_within c.args.kept.now kept.0 k kept.1 in
    let a = c.loop-j-test.false in
    let b = c.loop-j.auto.j-end in
    c.loop-j.invariant.aged.first kept.0 k x y (omega (arith, l, a, b)) kept.1 shows was
