use Rattle.std.proofs.Common.{List, [], ◌∷◌, ◌++◌, length, length-append, ℕ, sym, ap, ap₂, ◌∙◌, arith}
use Rattle.luflow.specs.declared.variable.Variable.{Variable}
use Rattle.luplace.specs.Placing.{sites_put}
use Rattle.luplace.proofs.OwnColumns.{map_taken}
use Rattle.luplace.proofs.placing.rows_of.Goals as goal

pub loop-variable-preserved : goal.loop-variable-preserved
loop-variable-preserved c =
    let put : Variable → List ℕ = λ x. sites_put c.args.place.now x.name in
    let p = c.push_reserved.ensures in
    let n = length-append c.loop-variable.rows.items (c.in_ok-row.row ∷ []) in
    let e = ap length p.items in
    record {
      made =
          p.items
          ∙ ap₂ (λ (xs : List (List ℕ)) (x : List ℕ). xs ++ x ∷ []) c.loop-variable.invariant.made (c.in_ok-row.ensures ∙ c.sites_put-sites.ensures ∙ ap (sites_put c.args.place.now) c.as_str.ensures)
          ∙ sym (map_taken put c.args.variables.now c.loop-variable.variable-index c.variable-item.result c.variable-item.result c.loop-variable-test.true c.variable-item.is);
      room = let a = p.capacity in let b = c.loop-variable.invariant.room in omega (arith, a, b);
      len = let b = c.loop-variable.invariant.len in omega (arith, e, n, b);
    }
