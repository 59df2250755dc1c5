use Rattle.std.proofs.Common.{◌≡◌, ℕ, ◌+◌, ◌<◌, ◌≤◌, List, length, get_or, sym, ap, subst, ◌∙◌, arith}
use Rattle.std.specs.Prelude.{slice_get, slice_index, All}
use Rattle.std.proofs.lemmas.List.Elements.{All-get_or, All-set}
use Rattle.std.proofs.lemmas.Option.{slice_get-get_or, slice_get_within, get_or_from_slice_get}
use Rattle.luflow.proofs.Solutions.{some_at}
use Rattle.lueval_lines.specs.declared.cell.Cell.{Cell}
use Rattle.lueval_lines.specs.declared.cell.Cell.TheVariants.{Absent}
use Rattle.lueval_lines.specs.Cells.{newest}
use Rattle.lusite.specs.Machine.{more_of}
use Rattle.lusite.proofs.Counting.{AreRenewed, renewed_none, renewed_here, renewed_more, more_low, low_there, all_later}
use Rattle.lusite.proofs.kept.age_cells.Goals as goal

inside : (kept : List ℕ) (n j : ℕ) → All (λ k. k < n) kept → j < length kept → slice_index kept j < n
inside kept n j h l = All-get_or (λ k. k < n) kept j 0 l h

pub loop-j-init : goal.loop-j-init
loop-j-init c = record {
  lasts = renewed_none Cell newest c.args.kept.now c.args.shown.now c.args.lasts.now;
  counts = renewed_none ℕ more_of c.args.kept.now c.args.shown.now c.args.counts.now;
  low = all_later c.args.instant c.args.counts.now c.requires.counts;
}

pub renew-requires : goal.renew-requires
renew-requires c =
    let n = c.loop-j.invariant.lasts.len in
    let l = inside c.args.kept.now (length c.args.shown.now) c.loop-j.j c.requires.inside c.loop-j-test.true in
    omega (arith, l, n, c.requires.lasts_len)

pub count-requires-clause-within : goal.count-requires-clause-within
count-requires-clause-within c =
    let n = c.loop-j.invariant.counts.len in
    let l = inside c.args.kept.now (length c.args.shown.now) c.loop-j.j c.requires.inside c.loop-j-test.true in
    omega (arith, l, n, c.requires.counts_len)

pub count-requires-clause-few : goal.count-requires-clause-few
count-requires-clause-few c n has =
    let before = c.args.counts.now in
    let here = renewed_here ℕ more_of c.args.kept.now c.requires.rising c.args.shown.now before c.loop-j.counts c.loop-j.j c.loop-j-test.true c.loop-j.invariant.counts in
    let low = low_there c.args.instant before (slice_index c.args.kept.now c.loop-j.j) n c.requires.counts (sym here ∙ has) in
    let few = c.requires.few in
    omega (arith, low, few)

pub loop-j-preserved : goal.loop-j-preserved
loop-j-preserved c =
    let kept = c.args.kept.now in
    let shown = c.args.shown.now in
    let j = c.loop-j.j in
    let k = slice_index kept j in
    let lj = c.loop-j-test.true in
    let inv = c.loop-j.invariant in
    let lasts = c.loop-j.lasts in
    let counts = c.loop-j.counts in
    let before = c.args.counts.now in
    let lk = inside kept (length shown) j c.requires.inside lj in
    let x = get_or shown k Absent in
    let shows = slice_get-get_or shown k Absent lk in
    let y = some_at lasts k (let n = inv.lasts.len in omega (arith, lk, n, c.requires.lasts_len)) in
    let n = some_at counts k (let m = inv.counts.len in omega (arith, lk, m, c.requires.counts_len)) in
    let here = renewed_here ℕ more_of kept c.requires.rising shown before counts j lj inv.counts in
    let low = low_there c.args.instant before k n.0 c.requires.counts (sym here ∙ n.1) in
    record {
      lasts = subst (λ (ys : List Cell). AreRenewed Cell newest kept shown c.args.lasts.now ys (j + 1)) (sym (c.renew.ensures y.0 y.1))
          (renewed_more Cell newest kept c.requires.rising shown c.args.lasts.now lasts j lj inv.lasts x y.0 shows y.1);
      counts = subst (λ (ms : List ℕ). AreRenewed ℕ more_of kept shown before ms (j + 1)) (sym (c.count.ensures n.0 n.1))
          (renewed_more ℕ more_of kept c.requires.rising shown before counts j lj inv.counts x n.0 shows n.1);
      low = subst (λ (ms : List ℕ). All (λ m. m ≤ c.args.instant + 1) ms) (sym (c.count.ensures n.0 n.1))
          (All-set (λ m. m ≤ c.args.instant + 1) counts k (more_of x n.0) (more_low x n.0 c.args.instant low) inv.low);
    }

pub returns-clause-lasts : goal.returns-clause-lasts
returns-clause-lasts c j k x y ej ex ey =
    let kept = c.args.kept.now in
    let l = slice_get_within kept j k ej in
    let same : slice_index kept j ≡ k = get_or_from_slice_get kept j k 0 ej in
    ap (slice_get c.loop-j.lasts) (sym same)
    ∙ c.loop-j.invariant.lasts.done j x y (omega (arith, l, c.loop-j-test.false)) (ap (slice_get c.args.shown.now) same ∙ ex) (ap (slice_get c.args.lasts.now) same ∙ ey)

pub returns-clause-counted : goal.returns-clause-counted
returns-clause-counted c j k x n ej ex en =
    let kept = c.args.kept.now in
    let l = slice_get_within kept j k ej in
    let same : slice_index kept j ≡ k = get_or_from_slice_get kept j k 0 ej in
    ap (slice_get c.loop-j.counts) (sym same)
    ∙ c.loop-j.invariant.counts.done j x n (omega (arith, l, c.loop-j-test.false)) (ap (slice_get c.args.shown.now) same ∙ ex) (ap (slice_get c.args.counts.now) same ∙ en)

pub returns-clause-counts : goal.returns-clause-counts
returns-clause-counts c = c.loop-j.invariant.low
