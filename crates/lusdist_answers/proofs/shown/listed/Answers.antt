use Rattle.std.proofs.Common.{◌≡◌, ◌+◌, ◌++◌, ◌∷◌, [], cond, drop, sym, ap, ◌∙◌, append_assoc, append-nil, ◌||◌, List}
use Rattle.std.proofs.lemmas.List.{drop_more, drop_all}
use Rattle.luflow.specs.Variables.{is_output}
use Rattle.luflow.specs.declared.variable.Variable.{Variable}
use Rattle.luinside.specs.declared.variables.DeepVariable.{DeepVariable}
use Rattle.lusdist_call.specs.Shown.{listed_from}
use Rattle.lusdist_answers.proofs.Lists.{one_listed}
use Rattle.lusdist_answers.proofs.shown.listed.Goals as goal

pub loop-v-preserved : goal.loop-v-preserved
loop-v-preserved c =
    let v = c.loop-v.v in
    let xs = c.args.variables.now in
    let x = c.index-variables-v.result in
    let all = c.args.all in
    let old = c.loop-v.list.items in
    let rest = listed_from all (v + 1) (drop (v + 1) xs) in
    let piece = cond (all || is_output x.role) (one_listed x v ∷ []) [] in
    let next : drop v xs ≡ x ∷ drop (v + 1) xs = drop_more xs v x c.loop-v-test.true ∙ ap (λ (y : Variable). y ∷ drop (v + 1) xs) (sym c.index-variables-v.is) in
    ap (λ (ys : List DeepVariable). ys ++ rest) c.in_ok-push_listed.ensures ∙ append_assoc old piece rest
    ∙ ap (λ (ys : List Variable). old ++ listed_from all v ys) (sym next) ∙ c.loop-v.invariant

pub returns : goal.returns
returns c =
    let v = c.loop-v.v in
    let xs = c.args.variables.now in
    sym (append-nil c.loop-v.list.items) ∙ ap (λ (ys : List Variable). c.loop-v.list.items ++ listed_from c.args.all v ys) (sym (drop_all v xs c.loop-v-test.false)) ∙ c.loop-v.invariant
