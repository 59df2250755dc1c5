use Rattle.std.proofs.Common.{◌≡◌, ℕ, List, subst}
use Rattle.std.proofs.lemmas.Result.{IfOk-weaker}
use Rattle.lutree.specs.declared.program.Declaration.{Declaration}
use Rattle.lutree.specs.declared.program.Equation.{Equation}
use Rattle.lutree.specs.Tree.{node_view}
use Rattle.lustat_warn.specs.declared.warning.WarningKind.{WarningKind}
use Rattle.lustat_warn.specs.declared.warning.WarningKind.TheVariants.{UnusedInput, UnusedLocal}
use Rattle.lustat_warn.specs.declared.warning.Warning.{Warning}
use Rattle.lustat_warn.specs.Warnings.{Among, UnreadIn, DividingIn, InNode, names_read}
use Rattle.lustat_warn.specs.Scans.{Adds}
use Rattle.lustat_warn.proofs.Parts.{adds_in_node}
use Rattle.lustat_warn.proofs.survey.push_in_node.Goals as goal

-- of the variables that are lent, by the table of what is read
unread : (kind : WarningKind) (i : ℕ) (read names : List (List ℕ)) (xs ds : List Declaration) (a b : List Warning) → read ≡ names → xs ≡ ds → Adds (Among xs (UnreadIn read kind i)) a b → Adds (Among ds (UnreadIn names kind i)) a b
unread kind i read names xs ds a b table whole h = subst (λ l. Adds (Among l (UnreadIn names kind i)) a b) whole (subst (λ r. Adds (Among xs (UnreadIn r kind i)) a b) table h)

pub returns : goal.returns
returns c =
    let i = c.args.place in
    let n = c.args.node.now in
    let names = names_read (node_view n) in
    let called = c.args.called.now in
    let main = c.args.main.now in
    let x0 = c.args.found.now.items in
    let x1 = c.push_unused_node.new.found.items in
    let x2 = c.push_unread.new.found.items in
    let x3 = c.push_unread-2.new.found.items in
    let x4 = c.push_dividing.new.found.items in
    let inputs = unread UnusedInput i c.in_ok-read.read names c.as_slice.result.now n.inputs x1 x2 c.in_ok-read.ensures c.as_slice.ensures c.in_ok-push_unread.ensures in
    let locals = unread UnusedLocal i c.in_ok-read.read names c.as_slice-2.result.now n.locals x2 x3 c.in_ok-read.ensures c.as_slice-2.ensures c.in_ok-push_unread-2.ensures in
    IfOk-weaker c.push_dividing.result (λ _. Adds (Among c.as_slice-3.result.now (DividingIn i)) x3 x4) (λ _. Adds (InNode called main i n) x0 x4)
    (λ _ h. adds_in_node called main i n x0 x1 x2 x3 x4 c.in_ok-push_unused_node.ensures inputs locals (subst (λ (qs : List Equation). Adds (Among qs (DividingIn i)) x3 x4) c.as_slice-3.ensures h))
    c.push_dividing.ensures
