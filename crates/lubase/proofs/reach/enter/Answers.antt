use Rattle.std.proofs.Common.{true, false, set, ◌<◌, ◌+◌, ◌++◌, [], ◌∷◌, ℕ, length, take, get_or, sym, subst, arith}
use Rattle.std.proofs.lemmas.List.{take_more}
use Rattle.std.proofs.lemmas.List.Elements.{All-get_or}
use Rattle.lubase.specs.Search.{Has, Lacks}
use Rattle.lubase.specs.ReachStates.{IsEntered}
use Rattle.lubase.proofs.Stepping.{read_mark}
use Rattle.lubase.proofs.Entering.{entered_seen, entered_new}
use Rattle.lubase.proofs.reach.enter.Goals as goal

pub loop-v-preserved-then-index : goal.loop-v-preserved-then-index
loop-v-preserved-then-index c =
    let row = c.args.row.now in
    let i : ℕ = c.loop-v.v-index in
    let v : ℕ = get_or row i 0 in
    let lt : i < length row = omega (arith, c.loop-v-test.true) in
    let e = c.loop-v.invariant in
    let inside : v < length c.loop-v.marks.items = omega (arith, All-get_or (λ u. u < length c.args.marks.now.items) row i 0 lt c.requires, e.long) in
    let has : Has c.loop-v.marks.items v = read_mark c.loop-v.marks.items v c.index.result.now true inside c.index.ensures c.if-index.true in
    subst (λ xs. IsEntered xs c.args.marks.now.items c.loop-v.marks.items c.args.stack.now.items c.loop-v.stack.items) (sym (take_more row i 0 lt))
    (entered_seen (take i row) c.args.marks.now.items c.loop-v.marks.items c.args.stack.now.items c.loop-v.stack.items v e has)

pub loop-v-preserved : goal.loop-v-preserved
loop-v-preserved c =
    let row = c.args.row.now in
    let i : ℕ = c.loop-v.v-index in
    let v : ℕ = get_or row i 0 in
    let lt : i < length row = omega (arith, c.loop-v-test.true) in
    let e = c.loop-v.invariant in
    let inside : v < length c.loop-v.marks.items = omega (arith, All-get_or (λ u. u < length c.args.marks.now.items) row i 0 lt c.requires, e.long) in
    let lacks : Lacks c.loop-v.marks.items v = read_mark c.loop-v.marks.items v c.index.result.now false inside c.index.ensures c.if-index.false in
    let stack = c.loop-v.stack.items in
    let marks = set c.loop-v.marks.items v true in
    let after = entered_new (take i row) c.args.marks.now.items c.loop-v.marks.items c.args.stack.now.items stack v e inside lacks in
    let on_row = subst (λ xs. IsEntered xs c.args.marks.now.items marks c.args.stack.now.items (stack ++ v ∷ [])) (sym (take_more row i 0 lt)) after in
    subst (λ xs. IsEntered (take (i + 1) row) c.args.marks.now.items marks c.args.stack.now.items xs) (sym c.in_ok-push.ensures.items) on_row
