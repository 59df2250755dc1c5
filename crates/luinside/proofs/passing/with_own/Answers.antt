use Rattle.std.proofs.Common.{subst, sym, arith}
use Rattle.lutree.specs.Tree.{view, program_view}
use Rattle.luinside.specs.declared.passing.Here.{Here}
use Rattle.luinside.specs.Parts.{operands}
use Rattle.luinside.specs.FlowsPassed.{PassesAll, PassesOwn}
use Rattle.luinside.proofs.Passed.{own_behind, inside_at}
use Rattle.luinside.proofs.passing.with_own.Goals as goal

pub returns-in_ok-sum_of-in-Behind : goal.returns-in_ok-sum_of-in-Behind
returns-in_ok-sum_of-in-Behind c = λ h old new passed.
    let p = program_view c.args.search.now.catalog.now in
    let s = c.args.search.now.counts.now in
    let t = c.args.search.now.target in
    let e = view c.args.e.now in
    let b' : Here = record { place = c.in_ok-behind-in-Behind.behind; calls = c.in_ok-sum_of-in-Behind.field-0 } in
    let add = c.in_ok-sum_of-in-Behind.ensures in
    let one = c.calls.ensures in
    own_behind p s t e c.args.count h c.in-Behind.here b' old new (subst (PassesAll p s t (operands e) h old new) c.in-Behind.is passed) c.in_ok-behind-in-Behind.ensures (omega (arith, add, one)) (omega (arith, c.if-search-behind.false))

pub returns-in-At : goal.returns-in-At
returns-in-At c = λ h old new passed.
    let p = program_view c.args.search.now.catalog.now in
    let s = c.args.search.now.counts.now in
    let t = c.args.search.now.target in
    let e = view c.args.e.now in
    subst (PassesOwn p s t e c.args.count h old new) (sym c.in-At.is) (inside_at p s t e c.args.count h c.in-At.field-0 old new (subst (PassesAll p s t (operands e) h old new) c.in-At.is passed))
