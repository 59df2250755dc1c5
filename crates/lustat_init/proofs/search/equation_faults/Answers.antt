use Rattle.std.proofs.Common.{◌↔◌, IsTrue, refl, sym, subst}
use Rattle.lutree.specs.declared.program.Node.{Node}
use Rattle.lutree.specs.Tree.{node_view, equation_view}
use Rattle.lustat_rules.specs.Accepted.{Rule, maybe_nil, current_may_be_nil}
use Rattle.lustat_rules.specs.Classes.{CurrentsStart}
use Rattle.lustat_rules.specs.declared.error.StatError.TheVariants.{MaybeNil, CurrentMayBeNil}
use Rattle.lustat_rules.proofs.Telling.{told_reported}
use Rattle.lustat_init.specs.Assigned.{assigned}
use Rattle.lustat_init.specs.Faults.{EquationSays}
use Rattle.lustat_init.proofs.Equations.{keeps_least, equation_told}
use Rattle.lustat_init.proofs.search.equation_faults.Goals as goal

pub keeps_classes-keeps-requires : goal.keeps_classes-keeps-requires
keeps_classes-keeps-requires c = c.requires.named_by_clocks

pub currents_start-starts-requires : goal.currents_start-starts-requires
currents_start-starts-requires c = sym c.requires.own

pub returns : goal.returns
returns c =
    let n = c.args.scope.now in
    let q = c.args.equation.now in
    let K : Rule → Type 0 = EquationSays n q in
    let serves = c.requires in
    let all = keeps_least (node_view n) (assigned (node_view n) c.args.prepared.now.marks.now) (equation_view q) serves.least in
    let one = c.keeps_classes-keeps.ensures in
    let start = subst (λ (m : Node). IsTrue c.currents_start-starts.result ↔ CurrentsStart (node_view m) (equation_view q)) serves.own c.currents_start-starts.ensures in
    equation_told q.byte K c.reported-nil.result c.reported-current.result
    (told_reported maybe_nil q.byte (K maybe_nil) c.keeps_classes-keeps.result (MaybeNil q.byte) c.reported-nil.result c.reported-nil.ensures refl refl (λ h. all.0 (one.0 h), λ h. one.1 (all.1 h)))
    (told_reported current_may_be_nil q.byte (K current_may_be_nil) c.currents_start-starts.result (CurrentMayBeNil q.byte) c.reported-current.result c.reported-current.ensures refl refl start)
