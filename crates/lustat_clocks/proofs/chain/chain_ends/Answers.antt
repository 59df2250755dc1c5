use Rattle.std.proofs.Common.{◌≡◌, ◌<◌, ◌∙◌, ◌↔◌, ℕ, List, length, refl, sym, ap, subst, All}
use Rattle.std.proofs.lemmas.Result.{IfOk-weaker}
use Rattle.lubase.specs.Search.{Has}
use Rattle.lutree.specs.Tree.{node_view}
use Rattle.lustat_rules.specs.Scope.{declarations_of}
use Rattle.lubase.specs.declared.link.Link.{Link}
use Rattle.lubase.specs.Reach.{IsWithin, IsReached}
use Rattle.lustat_clocks.specs.Chains.{AreBased, AreClocked, MarksEnds}
use Rattle.lustat_rules.proofs.Lent.{same_lent, length_lent}
use Rattle.lustat_clocks.proofs.Chaining.{ends, reaches, within, starts_within}
use Rattle.lustat_clocks.proofs.chain.chain_ends.Goals as goal

pub reached-requires-clause-starts : goal.reached-requires-clause-starts
reached-requires-clause-starts c =
    let lent = c.declarations-declarations.result.now in
    let n = node_view c.args.scope.now in
    let same = same_lent lent c.args.scope.now c.declarations-declarations.ensures in
    let starts : List ℕ = c.in_ok-starts.starts.items in
    let based = subst (λ ds. AreBased ds (length lent) starts) same c.in_ok-starts.ensures in
    let clocked = subst (λ ds. AreClocked n ds (length lent) c.in_ok-links.links.items) same c.in_ok-links.ensures in
    subst (λ xs. All (λ v. v < length lent) xs) (sym c.deref.ensures.value) (starts_within n (length lent) starts c.in_ok-links.links.items based clocked)

pub reached-requires-clause-links : goal.reached-requires-clause-links
reached-requires-clause-links c =
    let lent = c.declarations-declarations.result.now in
    let n = node_view c.args.scope.now in
    let same = same_lent lent c.args.scope.now c.declarations-declarations.ensures in
    let links : List Link = c.in_ok-links.links.items in
    let based = subst (λ ds. AreBased ds (length lent) c.in_ok-starts.starts.items) same c.in_ok-starts.ensures in
    let clocked = subst (λ ds. AreClocked n ds (length lent) links) same c.in_ok-links.ensures in
    let whole : length (declarations_of n) ≡ length lent = sym (ap length same) ∙ length_lent lent in
    subst (All (IsWithin (length lent))) (sym c.deref-2.ensures.value) (within n (length lent) c.in_ok-starts.starts.items links based clocked whole)

pub returns : goal.returns
returns c =
    let lent = c.declarations-declarations.result.now in
    let n = node_view c.args.scope.now in
    let same = same_lent lent c.args.scope.now c.declarations-declarations.ensures in
    let starts : List ℕ = c.in_ok-starts.starts.items in
    let links : List Link = c.in_ok-links.links.items in
    let based = subst (λ ds. AreBased ds (length lent) starts) same c.in_ok-starts.ensures in
    let clocked = subst (λ ds. AreClocked n ds (length lent) links) same c.in_ok-links.ensures in
    let whole : length (declarations_of n) ≡ length lent = sym (ap length same) ∙ length_lent lent in
    IfOk-weaker c.reached.result (λ marks. (v : ℕ) → Has marks.items v ↔ IsReached c.deref.result.now c.deref-2.result.now v) (λ marks. MarksEnds n marks.items)
    (λ marks exact i d here.
    let at_i : Has marks.items i ↔ IsReached starts links i = subst (λ xs. Has marks.items i ↔ IsReached xs links i) c.deref.ensures.value
    (subst (λ ls. Has marks.items i ↔ IsReached c.deref.result.now ls i) c.deref-2.ensures.value (exact i)) in (
      λ has. ends n (length lent) starts links based clocked i (at_i.0 has) d here,
      λ e. at_i.1 (reaches n (length lent) starts links based clocked whole d.clock e i d here refl),
    ))
    c.reached.ensures.exact
