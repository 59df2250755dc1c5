use Rattle.std.proofs.Common.{List, ℕ, sym, ap, subst, ◌∙◌}
use Rattle.std.specs.Prelude.{All}
use Rattle.std.specs.List.Sorted.{IsStrictlyIncreasing}
use Rattle.luflow.specs.Program.{FlatView}
use Rattle.luworld.specs.Needs.{PlanView, IsPlan}
use Rattle.luplace.proofs.plan.Plan.make.Goals as goal

pub of_parts-requires : goal.of_parts-requires
of_parts-requires c =
    let flat = c.args.flat in
    let x = c.in_ok-names.field-0 in
    let seen = c.as_slice.result.now in
    subst (λ (f : FlatView). IsPlan (record { flat = f; names = x.names; placed = c.new-2.result; needs = x.needs; links = x.links; capacity = c.capacity.result })) (sym c.in_ok-shared.ensures.ok)
    (subst (λ (ps : List (List ℕ)). IsPlan (record { flat = flat; names = x.names; placed = ps; needs = x.needs; links = x.links; capacity = c.capacity.result })) (c.as_slice.ensures.value ∙ sym c.new-2.ensures)
    (subst (λ (k : ℕ). IsPlan (record { flat = flat; names = x.names; placed = seen; needs = x.needs; links = x.links; capacity = k })) (sym c.capacity.ensures) c.in_ok-names.ensures.plan))

pub returns-clause-made : goal.returns-clause-made
returns-clause-made c =
    let e = c.of_parts.ensures in
    record {
      accepted = c.in_ok-placed.ensures.accepted;
      plan_is = record {
        flat_is = ap (λ (p : PlanView). p.flat) e ∙ c.in_ok-shared.ensures.ok;
        names_are = ap (λ (p : PlanView). p.names) e ∙ c.in_ok-names.ensures.names;
        capacity_is = ap (λ (p : PlanView). p.capacity) e ∙ c.capacity.ensures;
        placed_are = ap (λ (p : PlanView). p.placed) e ∙ c.new-2.ensures ∙ c.in_ok-placed.ensures.rows;
        in_order = subst (All IsStrictlyIncreasing) (sym (ap (λ (p : PlanView). p.needs) e)) c.in_ok-names.ensures.in_order;
      };
    }
