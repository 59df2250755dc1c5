use Rattle.std.proofs.Common.{◌≡◌, ◌+◌, ◌∙◌, ◌↔◌, ℕ, List, All, length, map, refl, sym, ap, subst}
use Rattle.std.proofs.lemmas.Result.{IfOk-weaker}
use Rattle.lutree.specs.declared.program.Equation.{Equation}
use Rattle.lutree.specs.declared.program.Node.{Node}
use Rattle.lutree.specs.Tree.{equation_view, node_view}
use Rattle.lustat_rules.specs.Scope.{declarations_of}
use Rattle.lustat_rules.specs.Classes.{IsLeast}
use Rattle.lubase.specs.Search.{Has}
use Rattle.lubase.specs.Reach.{IsWithin, IsReached}
use Rattle.lustat_init.specs.Assigned.{assigned, IsCaused}
use Rattle.lustat_init.specs.Linked.{links_in}
use Rattle.lustat_rules.proofs.Lent.{same_lent, length_lent}
use Rattle.lustat_init.proofs.Leasts.{length_views, found, starts_inside, links_within}
use Rattle.lustat_init.proofs.least.least_classes.Goals as goal

pub reached-requires-clause-starts : goal.reached-requires-clause-starts
reached-requires-clause-starts c =
    let first = length c.declarations-variables.result.now in
    let qs : List Equation = c.as_slice-equations.result.now in
    starts_inside (node_view c.args.scope.now) first (length qs) (first + length qs) (map equation_view qs) c.in_ok-starts.starts.items c.deref.result.now c.deref.ensures.value refl c.in_ok-starts.ensures

pub reached-requires-clause-links : goal.reached-requires-clause-links
reached-requires-clause-links c =
    let n = node_view c.args.scope.now in
    let lent = c.declarations-variables.result.now in
    let qs : List Equation = c.as_slice-equations.result.now in
    let whole : length (declarations_of n) ≡ length lent = sym (ap length (same_lent lent c.args.scope.now c.declarations-variables.ensures)) ∙ length_lent lent in
    let same_qs : qs ≡ c.args.scope.now.equations = c.as_slice-equations.ensures ∙ ap (λ (m : Node). m.equations) c.node.ensures in
    let same : map equation_view qs ≡ n.equations = ap (map equation_view) same_qs in
    let long : length qs ≡ length n.equations = length_views qs ∙ ap length same in
    let made : c.deref-2.result.now ≡ links_in n (length lent) n.equations = c.deref-2.ensures.value ∙ c.in_ok-links.ensures ∙ ap (links_in n (length lent)) same in
    subst (All (IsWithin (length lent + length qs))) (sym made) (links_within n (length lent) (length lent + length qs) whole (ap (λ k. length lent + k) long))

pub returns-clause-least : goal.returns-clause-least
returns-clause-least c =
    let n = node_view c.args.scope.now in
    let lent = c.declarations-variables.result.now in
    let qs : List Equation = c.as_slice-equations.result.now in
    let whole : length (declarations_of n) ≡ length lent = sym (ap length (same_lent lent c.args.scope.now c.declarations-variables.ensures)) ∙ length_lent lent in
    let same_qs : qs ≡ c.args.scope.now.equations = c.as_slice-equations.ensures ∙ ap (λ (m : Node). m.equations) c.node.ensures in
    let same : map equation_view qs ≡ n.equations = ap (map equation_view) same_qs in
    let long : length qs ≡ length n.equations = length_views qs ∙ ap length same in
    IfOk-weaker c.reached.result (λ marks. (v : ℕ) → Has marks.items v ↔ IsReached c.deref.result.now c.deref-2.result.now v) (λ marks. IsLeast (assigned n marks.items) n)
    (λ marks exact. (found n (length lent) (length qs) c.requires (map equation_view qs) c.in_ok-starts.starts.items c.deref.result.now c.in_ok-links.links.items c.deref-2.result.now marks.items
    whole same long c.deref.ensures.value c.deref-2.ensures.value c.in_ok-links.ensures c.in_ok-starts.ensures exact).0)
    c.reached.ensures.exact

pub returns-clause-caused : goal.returns-clause-caused
returns-clause-caused c =
    let n = node_view c.args.scope.now in
    let lent = c.declarations-variables.result.now in
    let qs : List Equation = c.as_slice-equations.result.now in
    let whole : length (declarations_of n) ≡ length lent = sym (ap length (same_lent lent c.args.scope.now c.declarations-variables.ensures)) ∙ length_lent lent in
    let same_qs : qs ≡ c.args.scope.now.equations = c.as_slice-equations.ensures ∙ ap (λ (m : Node). m.equations) c.node.ensures in
    let same : map equation_view qs ≡ n.equations = ap (map equation_view) same_qs in
    let long : length qs ≡ length n.equations = length_views qs ∙ ap length same in
    IfOk-weaker c.reached.result (λ marks. (v : ℕ) → Has marks.items v ↔ IsReached c.deref.result.now c.deref-2.result.now v) (λ marks. IsCaused (assigned n marks.items) n)
    (λ marks exact. (found n (length lent) (length qs) c.requires (map equation_view qs) c.in_ok-starts.starts.items c.deref.result.now c.in_ok-links.links.items c.deref-2.result.now marks.items
    whole same long c.deref.ensures.value c.deref-2.ensures.value c.in_ok-links.ensures c.in_ok-starts.ensures exact).1)
    c.reached.ensures.exact
