use Rattle.std.proofs.Common.{ℕ, List, ◌<◌, length, map, ◌∙◌, sym, ap, subst}
use Rattle.std.specs.Prelude.{All, slice_get, slice_index}
use Rattle.luflow.specs.declared.form.Flow.{Flow}
use Rattle.luflow.specs.declared.variable.Variable.{Variable}
use Rattle.luflow.specs.declared.variable.Enum.{Enum}
use Rattle.luflow.specs.Program.{reads, FlatView}
use Rattle.luflow.specs.Rank.{IsRankOrder, Chain}
use Rattle.luflow.specs.Flats.{IsFlat}
use Rattle.lutree.specs.Tree.{program_view}
use Rattle.lucore_laws.specs.Answer.{IfOrdered, IfCyclic}
use Rattle.lucore_laws.specs.Rank.{AreClosed, IsLeastOnCycle}
use Rattle.lucore.specs.Result.{IsFlatOf}
use Rattle.lucore.proofs.Reported.{too_large, listed_for, are_closed, few_if, flat_is, has_owner, owners_in, cycle_reported}
use Rattle.lucore.proofs.flattening.flatten.Goals as goal

abbrev flat_record : List Enum → List Flow → List ℕ → List ℕ → List Variable → FlatView
flat_record types flows order owners variables = record { types = types; flows = flows; order = order; owners = owners; variables = variables }

pub returns-then-branch-clause-refuses : goal.returns-then-branch-clause-refuses
returns-then-branch-clause-refuses c =
    let program = c.args.program.now.program in
    let p = program_view program in
    let main = c.args.program.now.main in
    let accepted = c.catalog-catalog.ensures.accepted in
    too_large p main accepted c.in_ok-is_too_large.field-0 c.in_ok-is_too_large.ensures.flows c.if-branch.true

pub ranking-requires : goal.ranking-requires
ranking-requires c =
    let program = c.args.program.now.program in
    let p = program_view program in
    let main = c.args.program.now.main in
    let accepted = c.catalog-catalog.ensures.accepted in
    let laid = c.in_ok-laid.laid in
    let listed = listed_for program c.catalog-catalog.result.now main c.main.result.now laid c.catalog-catalog.ensures.catalog c.main.ensures c.in_ok-laid.ensures in
    subst (λ fs. AreClosed (map reads fs)) (sym c.deref.ensures.value) (are_closed p main laid accepted listed)

pub new-requires-in-Ordered-4 : goal.new-requires-in-Ordered-4
new-requires-in-Ordered-4 c =
    let program = c.args.program.now.program in
    let p = program_view program in
    let main = c.args.program.now.main in
    let accepted = c.catalog-catalog.ensures.accepted in
    let laid = c.in_ok-laid.laid in
    let listed = listed_for program c.catalog-catalog.result.now main c.main.result.now laid c.catalog-catalog.ensures.catalog c.main.ensures c.in_ok-laid.ensures in
    let few = few_if p main laid accepted listed c.in_ok-is_too_large.field-0 c.in_ok-is_too_large.ensures.flows c.if-branch.false in
    let ranked = subst (λ fs. IsRankOrder (map reads fs) c.in-Ordered.order) c.deref.ensures.value (subst (λ r. IfOrdered r (IsRankOrder (map reads c.deref.result.now))) c.in-Ordered.is c.in_ok-order.ensures.order) in
    let straight = subst (λ fs. (x : ℕ) → ¬ Chain (map reads fs) x x) c.deref.ensures.value (subst (λ r. IfOrdered r (λ _. (x : ℕ) → ¬ Chain (map reads c.deref.result.now) x x)) c.in-Ordered.is c.in_ok-order.ensures.straight) in
    let done = flat_is p main laid accepted listed c.in-Ordered.order few ranked straight in
    let t = subst (λ ts. IsFlat (flat_record ts laid.flows.items c.in-Ordered.order laid.owners.items laid.variables.items)) (sym c.new.ensures) done.is_flat in
    let a = subst (λ fs. IsFlat (flat_record c.new.result fs c.in-Ordered.order laid.owners.items laid.variables.items)) (sym c.new-in-Ordered.ensures) t in
    let b = subst (λ os. IsFlat (flat_record c.new.result c.new-in-Ordered.result c.in-Ordered.order os laid.variables.items)) (sym c.new-in-Ordered-2.ensures) a in
    subst (λ vs. IsFlat (flat_record c.new.result c.new-in-Ordered.result c.in-Ordered.order c.new-in-Ordered-2.result vs)) (sym c.new-in-Ordered-3.ensures) b

pub returns-in-Ordered-clause-flat : goal.returns-in-Ordered-clause-flat
returns-in-Ordered-clause-flat c =
    let program = c.args.program.now.program in
    let p = program_view program in
    let main = c.args.program.now.main in
    let accepted = c.catalog-catalog.ensures.accepted in
    let laid = c.in_ok-laid.laid in
    let listed = listed_for program c.catalog-catalog.result.now main c.main.result.now laid c.catalog-catalog.ensures.catalog c.main.ensures c.in_ok-laid.ensures in
    let few = few_if p main laid accepted listed c.in_ok-is_too_large.field-0 c.in_ok-is_too_large.ensures.flows c.if-branch.false in
    let ranked = subst (λ fs. IsRankOrder (map reads fs) c.in-Ordered.order) c.deref.ensures.value (subst (λ r. IfOrdered r (IsRankOrder (map reads c.deref.result.now))) c.in-Ordered.is c.in_ok-order.ensures.order) in
    let straight = subst (λ fs. (x : ℕ) → ¬ Chain (map reads fs) x x) c.deref.ensures.value (subst (λ r. IfOrdered r (λ _. (x : ℕ) → ¬ Chain (map reads c.deref.result.now) x x)) c.in-Ordered.is c.in_ok-order.ensures.straight) in
    let done = flat_is p main laid accepted listed c.in-Ordered.order few ranked straight in
    let t = subst (λ ts. IsFlatOf p main (flat_record ts laid.flows.items c.in-Ordered.order laid.owners.items laid.variables.items)) (sym c.new.ensures) done in
    let a = subst (λ fs. IsFlatOf p main (flat_record c.new.result fs c.in-Ordered.order laid.owners.items laid.variables.items)) (sym c.new-in-Ordered.ensures) t in
    let b = subst (λ os. IsFlatOf p main (flat_record c.new.result c.new-in-Ordered.result c.in-Ordered.order os laid.variables.items)) (sym c.new-in-Ordered-2.ensures) a in
    let d = subst (λ vs. IsFlatOf p main (flat_record c.new.result c.new-in-Ordered.result c.in-Ordered.order c.new-in-Ordered-2.result vs)) (sym c.new-in-Ordered-3.ensures) b in
    subst (IsFlatOf p main) (sym c.new-in-Ordered-4.ensures) d

pub owner_name-requires-clause-inside : goal.owner_name-requires-clause-inside
owner_name-requires-clause-inside c =
    let program = c.args.program.now.program in
    let p = program_view program in
    let main = c.args.program.now.main in
    let accepted = c.catalog-catalog.ensures.accepted in
    let laid = c.in_ok-laid.laid in
    let listed = listed_for program c.catalog-catalog.result.now main c.main.result.now laid c.catalog-catalog.ensures.catalog c.main.ensures c.in_ok-laid.ensures in
    let least = subst (λ fs. IsLeastOnCycle (map reads fs) c.in-Cyclic.place) c.deref.ensures.value (subst (λ r. IfCyclic r (IsLeastOnCycle (map reads c.deref.result.now))) c.in-Cyclic.is c.in_ok-order.ensures.cycle) in
    subst (λ os. c.in-Cyclic.place < length os) (sym c.deref-in-Cyclic.ensures.value) (has_owner p main laid accepted listed c.in-Cyclic.place least.cycle)

pub owner_name-requires-clause-owners_in : goal.owner_name-requires-clause-owners_in
owner_name-requires-clause-owners_in c =
    let program = c.args.program.now.program in
    let p = program_view program in
    let main = c.args.program.now.main in
    let accepted = c.catalog-catalog.ensures.accepted in
    let laid = c.in_ok-laid.laid in
    let listed = listed_for program c.catalog-catalog.result.now main c.main.result.now laid c.catalog-catalog.ensures.catalog c.main.ensures c.in_ok-laid.ensures in
    let a = subst (λ os. All (λ v. v < length laid.variables.items) os) (sym c.deref-in-Cyclic.ensures.value) (owners_in p main laid accepted listed) in
    subst (λ vs. All (λ v. v < length vs) c.deref-in-Cyclic.result.now) (sym c.deref-in-Cyclic-2.ensures.value) a

pub returns-in_ok-variable-in-Cyclic-clause-refuses : goal.returns-in_ok-variable-in-Cyclic-clause-refuses
returns-in_ok-variable-in-Cyclic-clause-refuses c =
    let program = c.args.program.now.program in
    let p = program_view program in
    let main = c.args.program.now.main in
    let accepted = c.catalog-catalog.ensures.accepted in
    let laid = c.in_ok-laid.laid in
    let listed = listed_for program c.catalog-catalog.result.now main c.main.result.now laid c.catalog-catalog.ensures.catalog c.main.ensures c.in_ok-laid.ensures in
    let few = few_if p main laid accepted listed c.in_ok-is_too_large.field-0 c.in_ok-is_too_large.ensures.flows c.if-branch.false in
    let least = subst (λ fs. IsLeastOnCycle (map reads fs) c.in-Cyclic.place) c.deref.ensures.value (subst (λ r. IfCyclic r (IsLeastOnCycle (map reads c.deref.result.now))) c.in-Cyclic.is c.in_ok-order.ensures.cycle) in
    let place = c.in-Cyclic.place in
    cycle_reported p main laid accepted listed c.in_ok-variable-in-Cyclic.variable place few least (λ x there.
    c.in_ok-variable-in-Cyclic.ensures x
    (ap (λ vs. slice_get vs (slice_index c.deref-in-Cyclic.result.now place)) c.deref-in-Cyclic-2.ensures.value
    ∙ ap (λ os. slice_get laid.variables.items (slice_index os place)) c.deref-in-Cyclic.ensures.value ∙ there))
