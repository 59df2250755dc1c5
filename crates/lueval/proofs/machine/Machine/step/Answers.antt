use Rattle.std.proofs.Common.{◌≡◌, ◌<◌, ℕ, List, Some, length, sym, ap, ◌∙◌, subst, refl, arith}
use Rattle.std.specs.Prelude.{slice_get}
use Rattle.std.proofs.lemmas.Option.{slice_get_within}
use Rattle.std.proofs.lemmas.List.{length-map}
use Rattle.lueval_lines.specs.declared.cell.Answer.{Answer}
use Rattle.lueval_lines.specs.declared.cell.Answer.TheVariants as answer
use Rattle.lueval_lines.specs.declared.ordered.OrderedLine.{OrderedLine}
use Rattle.lueval_lines.specs.Cells.{status_of}
use Rattle.lueval.specs.Steps.{Computes}
use Rattle.lueval.proofs.Answering.{absent_next, gives_next, never_stuck, first_here}
use Rattle.lueval.proofs.machine.Machine.step.Goals as goal

pub index_mut-requires : goal.index_mut-requires
index_mut-requires c =
    let here : slice_get c.args.lines.now.rows.items c.args.p ≡ Some c.row_at.result.now = ap (λ (xs : List OrderedLine). slice_get xs c.args.p) (sym c.deref.ensures.value) ∙ c.row_at.ensures in
    let line = (c.requires.lines.each c.args.p c.row_at.result.now here).line in
    let l = slice_get_within c.args.flat.now.flows c.row_at.result.now.line.place line.flow line.there in
    let n = c.requires.stands.shown_len in
    let m = length-map c.args.self.now.shown.items status_of in omega (arith, l, n, m)

pub returns-then-not-here-clause-goes : goal.returns-then-not-here-clause-goes
returns-then-not-here-clause-goes c =
    let r = c.requires in
    let here : slice_get c.args.lines.now.rows.items c.args.p ≡ Some c.row_at.result.now = ap (λ (xs : List OrderedLine). slice_get xs c.args.p) (sym c.deref.ensures.value) ∙ c.row_at.ensures in
    let line = (c.requires.lines.each c.args.p c.row_at.result.now here).line in
    let off = sym c.if-not-here.true ∙ c.here.ensures in
    let lp : c.args.p < length c.args.flat.now.order = let n = r.lines.len in let l = r.place in omega (arith, n, l) in
    absent_next c.args.flat.now c.args.inputs.now c.args.self.now c.args.t c.args.lines.now.branches.items c.args.p c.row_at.result.now.line r.flat r.fit r.stands lp r.instant line off

pub index_mut-requires-in-Gives : goal.index_mut-requires-in-Gives
index_mut-requires-in-Gives c =
    let here : slice_get c.args.lines.now.rows.items c.args.p ≡ Some c.row_at.result.now = ap (λ (xs : List OrderedLine). slice_get xs c.args.p) (sym c.deref.ensures.value) ∙ c.row_at.ensures in
    let line = (c.requires.lines.each c.args.p c.row_at.result.now here).line in
    let l = slice_get_within c.args.flat.now.flows c.row_at.result.now.line.place line.flow line.there in
    let n = c.requires.stands.shown_len in
    let m = length-map c.args.self.now.shown.items status_of in omega (arith, l, n, m)

pub unreachable-requires : goal.unreachable-requires
unreachable-requires c =
    let r = c.requires in
    let here : slice_get c.args.lines.now.rows.items c.args.p ≡ Some c.row_at.result.now = ap (λ (xs : List OrderedLine). slice_get xs c.args.p) (sym c.deref.ensures.value) ∙ c.row_at.ensures in
    let line = (c.requires.lines.each c.args.p c.row_at.result.now here).line in
    let on = sym c.if-not-here.false ∙ c.here.ensures in
    let lp : c.args.p < length c.args.flat.now.order = let n = r.lines.len in let l = r.place in omega (arith, n, l) in
    let computes = subst (λ (bs : List ℕ). Computes c.args.inputs.now c.args.self.now c.args.t bs c.row_at.result.now.line c.compute.result) c.deref-2.ensures.value c.compute.ensures in
    let now = subst (λ (a : Answer). Computes c.args.inputs.now c.args.self.now c.args.t c.args.lines.now.branches.items c.row_at.result.now.line a) c.in-Stuck.is computes in
    never_stuck c.args.flat.now c.args.inputs.now c.args.self.now c.args.t c.args.lines.now.branches.items c.args.p c.row_at.result.now.line r.flat r.fit r.stands lp r.instant line answer.Stuck refl on now

pub returns-in-Gives-clause-goes : goal.returns-in-Gives-clause-goes
returns-in-Gives-clause-goes c =
    let r = c.requires in
    let here : slice_get c.args.lines.now.rows.items c.args.p ≡ Some c.row_at.result.now = ap (λ (xs : List OrderedLine). slice_get xs c.args.p) (sym c.deref.ensures.value) ∙ c.row_at.ensures in
    let line = (c.requires.lines.each c.args.p c.row_at.result.now here).line in
    let on = sym c.if-not-here.false ∙ c.here.ensures in
    let lp : c.args.p < length c.args.flat.now.order = let n = r.lines.len in let l = r.place in omega (arith, n, l) in
    let computes = subst (λ (bs : List ℕ). Computes c.args.inputs.now c.args.self.now c.args.t bs c.row_at.result.now.line c.compute.result) c.deref-2.ensures.value c.compute.ensures in
    let now = subst (λ (a : Answer). Computes c.args.inputs.now c.args.self.now c.args.t c.args.lines.now.branches.items c.row_at.result.now.line a) c.in-Gives.is computes in
    gives_next c.args.flat.now c.args.inputs.now c.args.self.now c.args.t c.args.lines.now.branches.items c.args.p c.row_at.result.now.line r.flat r.fit r.stands lp r.instant line c.in-Gives.cell on now

pub returns-in-Faults-clause-goes : goal.returns-in-Faults-clause-goes
returns-in-Faults-clause-goes c =
    let r = c.requires in
    let here : slice_get c.args.lines.now.rows.items c.args.p ≡ Some c.row_at.result.now = ap (λ (xs : List OrderedLine). slice_get xs c.args.p) (sym c.deref.ensures.value) ∙ c.row_at.ensures in
    let line = (c.requires.lines.each c.args.p c.row_at.result.now here).line in
    let on = sym c.if-not-here.false ∙ c.here.ensures in
    let lp : c.args.p < length c.args.flat.now.order = let n = r.lines.len in let l = r.place in omega (arith, n, l) in
    let computes = subst (λ (bs : List ℕ). Computes c.args.inputs.now c.args.self.now c.args.t bs c.row_at.result.now.line c.compute.result) c.deref-2.ensures.value c.compute.ensures in
    let now = subst (λ (a : Answer). Computes c.args.inputs.now c.args.self.now c.args.t c.args.lines.now.branches.items c.row_at.result.now.line a) c.in-Faults.is computes in
    first_here c.args.flat.now c.args.inputs.now c.args.self.now c.args.t c.args.lines.now.branches.items c.args.p c.row_at.result.now.line r.flat r.fit r.stands lp r.instant line c.in-Faults.kind on now
