use Rattle.std.proofs.Common.{◌+◌, ◌++◌, ℕ, List, ap, ap₂, ◌∙◌}
use Rattle.luflow.specs.declared.variable.Role.{Role}
use Rattle.luinside.specs.declared.variables.DeepVariable.{DeepVariable}
use Rattle.luinside.proofs.ListedVariables.{declared_more}
use Rattle.luinside.proofs.variables.push_declared.Goals as goal

pub loop-i-preserved : goal.loop-i-preserved
loop-i-preserved c =
    let pre = c.args.prefix.now in
    let path = c.args.path.now in
    let i = c.loop-i.i in
    let d = c.index-declarations-i.result in
    let variable = λ (name : List ℕ) (role : Role). let v : DeepVariable = record { variable = record { name = name; role = role; kind = d.kind }; flow = c.args.start + i } in v in
    let name = c.in_ok-joined.ensures ∙ ap (λ text. pre ++ text) c.as_str.ensures in
    declared_more pre path c.args.role c.args.start c.args.declarations.now i d (variable c.in_ok-joined.field-0 c.role_at-here.result) c.args.found.now.items c.loop-i.found.items c.push.new.self.items
    c.loop-i-test.true c.index-declarations-i.is (ap₂ variable name c.role_at-here.ensures) c.loop-i.invariant c.in_ok-push.ensures.items
