use Rattle.std.proofs.Common.{◌≡◌, ◌∙◌, ◌↔◌, IsTrue, Bool, true, List, Option, Some, None, refl, sym, ap, subst}
use Rattle.std.specs.Prelude.{slice_get, unwrap_or}
use Rattle.lutree.specs.declared.program.Node.{Node}
use Rattle.lutree.specs.Tree.{node_view}
use Rattle.lustat_rules.specs.Scope.{clock_of}
use Rattle.lustat_rules.specs.Scopes.{clock_list}
use Rattle.lustat_rules.specs.Faults.{declared_in}
use Rattle.lustat_rules.proofs.Placed.{clock_at_place, copied_item}
use Rattle.lustat_init.specs.Currents.{IsStarted}
use Rattle.lustat_init.proofs.Beginning.{is_started, stray_started}
use Rattle.lustat_init.proofs.current.Firsts.starts.Goals as goal

pub returns-in-None : goal.returns-in-None
returns-in-None c =
    let x = c.args.name.now in
    let none : clock_of (node_view c.args.scope.now) x ≡ None = sym (clock_at_place c.args.scope.now x None (sym c.in-None.is ∙ c.place.ensures)) in
    let here = subst (λ (n : Node). clock_of (node_view n) x ≡ None) c.requires none in
    (λ h. stray_started (node_view c.args.self.now) x here, λ h. refl)

pub returns-in-Some : goal.returns-in-Some
returns-in-Some c =
    let m : Node = c.self.inside.node.now in
    let x = c.args.name.now in
    let i = c.in-Some.place in
    let clocks = clock_list (declared_in m) in
    let same : c.args.scope.now ≡ m = c.requires ∙ sym c.self.view_is in
    let at = subst (λ (n : Node). clock_of (node_view n) x ≡ slice_get (clock_list (declared_in n)) i) same (sym (clock_at_place c.args.scope.now x (Some i) (sym c.in-Some.is ∙ c.place.ensures))) in
    let marked = c.copied.ensures ∙ copied_item c.deref.result.now i c.get.result c.get.ensures.lookup ∙ ap (λ (l : List Bool). slice_get l i) c.deref.ensures.value in
    let reported = c.unwrap_or.ensures ∙ ap (λ (o : Option Bool). unwrap_or o true) marked in
    subst (λ (n : Node). IsTrue c.unwrap_or.result ↔ IsStarted (node_view n) x) c.self.view_is
    (is_started (node_view m) x c.self.inside.started.items clocks i c.unwrap_or.result c.self.invariant.started at reported)
