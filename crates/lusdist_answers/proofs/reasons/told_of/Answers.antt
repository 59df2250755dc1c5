use Rattle.std.proofs.Common.{◌≡◌, List, ℕ, Some, sym, subst, string_bytes}
use Rattle.lutree.specs.Places.{places_view}
use Rattle.lutree.specs.Tree.{program_view}
use Rattle.luexplain.specs.declared.said.Explanation.{Explanation}
use Rattle.luinside.specs.Told.{Tells}
use Rattle.lusdist_answers.proofs.Faulting.{ok_as, told_whole, told_by_equation}
use Rattle.lusdist_answers.proofs.reasons.told_of.Goals as goal

pub returns-in-Whole : goal.returns-in-Whole
returns-in-Whole c =
    let g = c.args.program.now.program in
    let main = c.args.program.now.main in
    let flat = c.args.flat.now in
    let inputs = c.args.inputs.now in
    let tells = subst (λ (text : List ℕ). Tells text (program_view g) (places_view g) main flat inputs c.args.variable.now c.args.instant c.args.kind c.in_ok-telling.telling) c.in-Some.ensures.0 c.in_ok-telling.ensures in
    let whole = subst (Tells c.args.bytes.now (program_view g) (places_view g) main flat inputs c.args.variable.now c.args.instant c.args.kind) c.in-Whole.is tells in
    ok_as c.at_operator.result (λ (x : Explanation) is. told_whole c.args.path.now c.args.bytes.now main g flat inputs c.args.variable.now c.args.instant c.args.kind c.in-Whole.told (string_bytes x.place) whole is) c.at_operator.ensures

pub returns-in-Other : goal.returns-in-Other
returns-in-Other c =
    let g = c.args.program.now.program in
    let main = c.args.program.now.main in
    let flat = c.args.flat.now in
    let inputs = c.args.inputs.now in
    let tells = subst (λ (text : List ℕ). Tells text (program_view g) (places_view g) main flat inputs c.args.variable.now c.args.instant c.args.kind c.in_ok-telling.telling) c.in-Some.ensures.0 c.in_ok-telling.ensures in
    let other = subst (Tells c.args.bytes.now (program_view g) (places_view g) main flat inputs c.args.variable.now c.args.instant c.args.kind) c.in-Other.is tells in
    told_by_equation c.args.path.now c.args.bytes.now main g flat inputs c.args.variable.now c.args.instant c.args.kind c.in_ok-reason.reason other c.in_ok-reason.ensures
