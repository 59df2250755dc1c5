use Rattle.std.proofs.Common.{List, [], ◌∷◌, ◌++◌, map, length, length-append, ℕ, Bor, sym, ap, ap₂, ◌∙◌, arith}
use Rattle.luplace_file.specs.declared.place.Placed.{Placed}
use Rattle.std.proofs.lemmas.List.{map-append}
use Rattle.luplace.proofs.OwnColumns.{map_taken}
use Rattle.luplace.proofs.sought.entry_places.Goals as goal

pub loop-entry-preserved : goal.loop-entry-preserved
loop-entry-preserved c =
    let seen : Bor (List ℕ) → List ℕ = λ n. n.now in
    let name : Placed → List ℕ = λ x. x.variable in
    let p = c.push_reserved.ensures in
    let n = length-append c.loop-entry.names.items (c.as_str.result ∷ []) in
    let e = ap length p.items in
    record {
      made =
          ap (map seen) p.items
          ∙ map-append seen c.loop-entry.names.items (c.as_str.result ∷ [])
          ∙ ap₂ (λ (xs : List (List ℕ)) (x : List ℕ). xs ++ x ∷ []) c.loop-entry.invariant.made c.as_str.ensures
          ∙ sym (map_taken name c.args.entries.now c.loop-entry.entry-index c.entry-item.result c.entry-item.result c.loop-entry-test.true c.entry-item.is);
      room = let a = p.capacity in let b = c.loop-entry.invariant.room in omega (arith, a, b);
      len = let b = c.loop-entry.invariant.len in omega (arith, e, n, b);
    }
