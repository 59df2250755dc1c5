use Rattle.std.proofs.Common.{◌≡◌, ◌+◌, ℕ, List, Some, sym, ap, ◌∙◌, subst, arith}
use Rattle.std.specs.Prelude.{slice_get, vec_capacity, Vec}
use Rattle.std.specs.declared.alloc.Global.{Global}
use Rattle.std.proofs.lemmas.Option.{slice_get-get_or, slice_get_within}
use Rattle.luflow.specs.declared.variable.Variable.{Variable}
use Rattle.lueval_lines.specs.Columns.{is_wanted}
use Rattle.lueval_lines.proofs.Keeping.{KeptTo, kept_skip, kept_more}
use Rattle.lueval_lines.proofs.columns.kept_of.Goals.{then-is_wanted, else-is_wanted}
use Rattle.lueval_lines.proofs.columns.kept_of.Goals as goal

pub loop-v-preserved : goal.loop-v-preserved
loop-v-preserved c =
    let wanted = c.args.wanted in
    let xs = c.args.variables.now in
    let v = c.loop-v.v in
    let x = c.index-variables-v.result in
    let inv = c.loop-v.invariant in
    let there : slice_get xs v ≡ Some x = slice_get-get_or xs v x c.loop-v-test.true ∙ ap (λ (y : Variable). Some y) (sym c.index-variables-v.is) in
    let wants : is_wanted wanted x.role ≡ c.is_wanted.result = ap (λ (y : Variable). is_wanted wanted y.role) c.index-variables-v.is ∙ sym c.is_wanted.ensures in
    elim c.if-is_wanted.branch [
      | then-is_wanted w ↦
          let more = kept_more wanted xs c.loop-v.kept.items v x there (wants ∙ w.if-is_wanted.true) inv.kept in
          let items = ap (λ (ks : Vec ℕ Global). ks.items) w.kept-is ∙ w.push_reserved.ensures.items in
          record {
            room = let r = inv.room in let a = ap (λ (ks : Vec ℕ Global). vec_capacity ks) w.kept-is in let b = w.push_reserved.ensures.capacity in omega (arith, a, b, r);
            kept = subst (λ (ks : List ℕ). KeptTo wanted xs ks (v + 1)) (sym items) more;
          }
      | else-is_wanted w ↦
          let skip = kept_skip wanted xs c.loop-v.kept.items v x there (wants ∙ w.if-is_wanted.false) inv.kept in
          record {
            room = let r = inv.room in let a = ap (λ (ks : Vec ℕ Global). vec_capacity ks) w.kept-is in omega (arith, a, r);
            kept = subst (λ (ks : Vec ℕ Global). KeptTo wanted xs ks.items (v + 1)) (sym w.kept-is) skip;
          }
    ]

pub returns-clause-all : goal.returns-clause-all
returns-clause-all c v x there is =
    let l = slice_get_within c.args.variables.now v x there in
    let f = c.loop-v-test.false in
    c.loop-v.invariant.kept.all v x (omega (arith, l, f)) there is
