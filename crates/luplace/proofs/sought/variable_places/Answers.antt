use Rattle.std.proofs.Common.{List, [], ◌∷◌, ◌++◌, map, length, length-append, ℕ, Bor, sym, ap, ap₂, ◌∙◌, arith}
use Rattle.luflow.specs.declared.variable.Variable.{Variable}
use Rattle.std.proofs.lemmas.List.{map-append}
use Rattle.luplace.proofs.OwnColumns.{map_taken}
use Rattle.luplace.proofs.sought.variable_places.Goals as goal

pub loop-variable-preserved : goal.loop-variable-preserved
loop-variable-preserved c =
    let seen : Bor (List ℕ) → List ℕ = λ n. n.now in
    let name : Variable → List ℕ = λ x. x.name in
    let p = c.push_reserved.ensures in
    let n = length-append c.loop-variable.names.items (c.as_str.result ∷ []) in
    let e = ap length p.items in
    record {
      made =
          ap (map seen) p.items
          ∙ map-append seen c.loop-variable.names.items (c.as_str.result ∷ [])
          ∙ ap₂ (λ (xs : List (List ℕ)) (x : List ℕ). xs ++ x ∷ []) c.loop-variable.invariant.made c.as_str.ensures
          ∙ sym (map_taken name c.args.variables.now c.loop-variable.variable-index c.variable-item.result c.variable-item.result c.loop-variable-test.true c.variable-item.is);
      room = let a = p.capacity in let b = c.loop-variable.invariant.room in omega (arith, a, b);
      len = let b = c.loop-variable.invariant.len in omega (arith, e, n, b);
    }
