use Rattle.std.proofs.Common.{◌≡◌, ◌+◌, ◌++◌, List, length, ap, ap₂, ◌∙◌, arith}
use Rattle.std.proofs.lemmas.Result.{on_ok_weaker}
use Rattle.lutree.specs.declared.program.Declaration.{Declaration}
use Rattle.luflow.specs.declared.variable.Role.TheVariants.{Input, Output, Local}
use Rattle.luflow.specs.declared.variable.Variable.{Variable}
use Rattle.lusource.specs.Source.{Path}
use Rattle.lutree.specs.Tree.{node_view}
use Rattle.lucore_laws.specs.Layout.{main_variables}
use Rattle.luinside.specs.Passing.{named_from}
use Rattle.luinside.proofs.ListedVariables.{declared_as, declared_long, three}
use Rattle.luinside.proofs.variables.push_variables.Goals as goal

pub returns : goal.returns
returns c =
    let pre = c.args.prefix.now in
    let x = c.args.instance.now in
    let path = c.as_slice-path.result.now in
    let inputs = c.as_slice-inputs.result.now in
    let outputs = c.as_slice-outputs.result.now in
    let locals = c.as_slice-locals.result.now in
    let start = x.start in
    let middle = start + length inputs in
    let last = middle + length outputs in
    let all = λ (a b d : List Declaration). declared_as Input a ++ (declared_as Output b ++ declared_as Local d) in
    let old = c.args.found.now.items in
    let one = c.push_declared.new.found.items in
    let two = c.push_declared-2.new.found.items in
    let same : all inputs outputs locals ≡ all c.args.node.now.inputs c.args.node.now.outputs c.args.node.now.locals =
    ap (λ a. all a outputs locals) c.as_slice-inputs.ensures ∙ ap₂ (λ b d. all c.args.node.now.inputs b d) c.as_slice-outputs.ensures c.as_slice-locals.ensures in
    let more : c.push_declared-3.new.found.items ≡ two ++ named_from pre path last (declared_as Local locals) → c.push_declared-3.new.found.items ≡ old ++ named_from pre x.path start (main_variables (node_view c.args.node.now)) =
    λ e.
    three pre path start middle last (declared_as Input inputs) (declared_as Output outputs) (declared_as Local locals) old one two c.push_declared-3.new.found.items (omega (arith, declared_long Input inputs)) (omega (arith, declared_long Output outputs))
    c.in_ok-push_declared.ensures c.in_ok-push_declared-2.ensures e
    ∙ ap₂ (λ (q : Path) (xs : List Variable). old ++ named_from pre q start xs) c.as_slice-path.ensures same in
    on_ok_weaker c.push_declared-3.result more c.push_declared-3.ensures
