use Rattle.std.proofs.Common.{◌++◌, ◌∷◌, [], List, cond, ap₂, ap, ◌∙◌, sym, slice_get, arith, ℕ, length, length-append, map, Option, Some, None}
use Rattle.std.proofs.lemmas.List.{map-append}
use Rattle.std.specs.Option.{option_map}
use Rattle.luflow.specs.Packed.{data_in}
use Rattle.luflow.specs.declared.data.Datum.{Datum}
use Rattle.luflow.specs.Program.{data_of}
use Rattle.luflow.specs.Tables.{columns_view}
use Rattle.luworld.specs.Needs.{stands}
use Rattle.luplace.proofs.OwnColumns.{map_more}
use Rattle.luplace.proofs.job.columns_of.Goals as goal

pub loop-c-preserved : goal.loop-c-preserved
loop-c-preserved c =
    let f : ℕ → Option (List Datum) = λ k. cond (stands c.args.plan.now k c.args.site) (Some (data_of (slice_get (columns_view c.args.columns.now) k))) None in
    let p = c.push_reserved.ensures in
    let n = length-append c.loop-c.all.items (c.in_ok-column.column ∷ []) in
    let e = ap length p.items in
    record {
      made = ap (map (option_map data_in)) p.items
          ∙ map-append (option_map data_in) c.loop-c.all.items (c.in_ok-column.column ∷ [])
          ∙ ap₂ (λ xs (x : Option (List Datum)). xs ++ x ∷ []) c.loop-c.invariant.made c.in_ok-column.ensures
          ∙ sym (map_more f c.loop-c.c);
      room = let a = p.capacity in let b = c.loop-c.invariant.room in omega (arith, a, b);
      len = let b = c.loop-c.invariant.len in omega (arith, e, n, b);
    }
