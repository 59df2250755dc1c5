use Rattle.std.proofs.Common.{◌∷◌, [], sym, ap, ◌∙◌, take}
use Rattle.lutree.specs.Tree.{view}
use Rattle.lutree.specs.Tree as tree
use Rattle.lutree.proofs.Views.{viewed-If, viewed-Merge, viewed-Call}
use Rattle.lusyn_grammar.specs.Tokens.{identifier}
use Rattle.luinside.specs.Signs.{signs_to}
use Rattle.luinside.proofs.Signing.{signs_among, pushes_as, then_pushes, merge_front, merge_front_is, merge_same, call_front, call_front_is}
use Rattle.luinside.proofs.signs.push_to.Goals as goal

pub returns-in-If : goal.returns-in-If
returns-in-If c =
    let n = c.args.number in
    let k = c.in-If.c in
    let a = c.in-If.a in
    let b = c.in-If.field-2 in
    let same = ap (λ x. tree.choice (view x) (view c.deref-in-If-2.result.now) (view b.value)) c.deref-in-If.ensures ∙ ap (λ x. tree.choice (view k.value) (view x) (view b.value)) c.deref-in-If-2.ensures
    ∙ sym (ap view c.in-If.is ∙ viewed-If k a b) in
    pushes_as c.push_to_choice.result c.args.signs.now.items c.push_to_choice.new.signs.items (signs_to (tree.choice (view c.deref-in-If.result.now) (view c.deref-in-If-2.result.now) (view b.value)) n) (signs_to (view c.args.e.now) n)
    (ap (λ t. signs_to t n) same) (c.push_to_choice.ensures (view b.value))

pub returns-in-Merge : goal.returns-in-Merge
returns-in-Merge c =
    let n = c.args.number in
    let x = c.in-Merge.x in
    let ps = c.in-Merge.patterns in
    let es = c.in-Merge.branches in
    pushes_as c.push_to_branch.result c.args.signs.now.items c.push_to_branch.new.signs.items (merge_front n c.as_str.result.now c.as_slice.result.now c.deref-in-Merge-2.result.now) (signs_to (view c.args.e.now) n)
    (
    merge_same n c.as_str.result.now x c.as_slice.result.now ps.value c.deref-in-Merge-2.result.now es.items c.as_str.ensures (c.as_slice.ensures ∙ c.deref-in-Merge.ensures) c.deref-in-Merge-2.ensures.value
    ∙ merge_front_is n x ps.value es.items ∙ ap (λ t. signs_to t n) (sym (ap view c.in-Merge.is ∙ viewed-Merge x ps es))
    )
    c.push_to_branch.ensures

pub returns-in_ok-push_name-in-Call : goal.returns-in_ok-push_name-in-Call
returns-in_ok-push_name-in-Call c =
    let n = c.args.number in
    let g = c.in-Call.f in
    let es = c.in-Call.arguments in
    then_pushes c.push_all_signs.result c.args.signs.now.items c.push_name.new.signs.items c.push_all_signs.new.signs.items (identifier c.as_str-in-Call.result.now ∷ []) (signs_among c.front_of.result.now) (signs_to (view c.args.e.now) n)
    c.in_ok-push_name-in-Call.ensures
    (
    ap (λ ds. identifier c.as_str-in-Call.result.now ∷ signs_among ds) c.front_of.ensures ∙ ap (λ ds. call_front n c.as_str-in-Call.result.now ds) c.deref-in-Call.ensures.value ∙ ap (λ x. call_front n x es.items) c.as_str-in-Call.ensures
    ∙ call_front_is n g es.items ∙ ap (λ t. signs_to t n) (sym (ap view c.in-Call.is ∙ viewed-Call g es))
    )
    c.push_all_signs.ensures
