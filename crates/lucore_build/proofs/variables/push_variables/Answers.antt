use Rattle.std.proofs.Common.{List, ℕ, [], ◌∷◌, ◌++◌, take, sym, ap, ◌∙◌, append_assoc, arith}
use Rattle.luflow.specs.declared.variable.Variable.{Variable}
use Rattle.lutree.specs.Tree.{DeclarationTree, declaration_view, declarations_view}
use Rattle.lucore_laws.specs.Layout.{variables_as}
use Rattle.lucore_build.proofs.Growing.{mapped_twice_more}
use Rattle.lucore_build.proofs.variables.push_variables.Goals as goal

pub loop-declaration-preserved : goal.loop-declaration-preserved
loop-declaration-preserved c =
    let ds = c.args.declarations.now in
    let i = c.loop-declaration.declaration-index in
    let d = c.declaration-item.result in
    let role = c.args.role in
    let old = c.args.variables.now.items in
    let variable = λ (name : List ℕ). let v : Variable = record { name = name; role = role; kind = d.kind } in v in
    let so_far = variables_as role (declarations_view (take i ds)) in
    c.in_ok-push.ensures.items ∙ ap (λ xs. xs ++ variable c.in_ok-name.name ∷ []) c.loop-declaration.invariant
    ∙ append_assoc old so_far (variable c.in_ok-name.name ∷ []) ∙ ap (λ name. old ++ (so_far ++ variable name ∷ [])) c.in_ok-name.ensures
    ∙ ap (λ xs. old ++ xs)
    (sym
    (mapped_twice_more (λ (t : DeclarationTree). let v : Variable = record { name = t.name; role = role; kind = t.kind } in v) declaration_view ds i d (omega (arith, c.loop-declaration-test.true)) c.declaration-item.is))
