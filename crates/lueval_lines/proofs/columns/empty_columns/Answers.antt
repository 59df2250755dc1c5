use Rattle.std.proofs.Common.{arith, ◌≡◌, [], ◌∷◌, length, length-append, sym, ap, subst}
use Rattle.std.specs.Prelude.{All}
use Rattle.std.proofs.lemmas.List.Elements.{All-push}
use Rattle.lueval_lines.specs.Columns.{Column}
use Rattle.lueval_lines.proofs.columns.empty_columns.Goals as goal

pub loop-v-preserved : goal.loop-v-preserved
loop-v-preserved c =
    let p = c.push_reserved.ensures in
    let inv = c.loop-v.invariant in
    let more = ap length p.items in
    let both = length-append c.loop-v.columns.items (c.new.result ∷ []) in
    record {
      len = let n = inv.len in omega (arith, more, both, n);
      room = let a = p.capacity in let b = inv.room in omega (arith, a, b);
      empty = subst (All (λ (column : Column). column.items ≡ [])) (sym p.items) (All-push (λ (column : Column). column.items ≡ []) c.loop-v.columns.items c.new.result inv.empty c.new.ensures.items);
    }
