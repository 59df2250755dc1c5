use Rattle.std.proofs.Common.{◌++◌, ◌∷◌, [], ◌+◌, List, set, refl, sym, ap, ◌∙◌, arith, append-nil}
use Rattle.std.proofs.lemmas.List.{length-set}
use Rattle.luflow.specs.Tables.{OutputColumn, outputs_view}
use Rattle.lueval_lines.specs.Columns.{lists_of}
use Rattle.lueval_lines.specs.Outputs.{columns_in}
use Rattle.lueval_lines.proofs.Reported.{more}
use Rattle.lueval_lines.proofs.Named.{Left, step, done, from_past}
use Rattle.lueval_lines.proofs.outputs.taken_columns.Goals as goal

pub loop-v-init : goal.loop-v-init
loop-v-init c = record {
  so_far = ap (λ xs. outputs_view xs ++ columns_in c.args.variables.now (lists_of c.args.columns.items)) c.in_ok-named.ensures.items;
  len = refl;
}

pub loop-v-preserved : goal.loop-v-preserved
loop-v-preserved c =
    let xs = c.args.variables.now in
    let cs = c.loop-v.left.items in
    let v = c.loop-v.v in
    let inv = c.loop-v.invariant in
    let lt = c.loop-v-test.true in
    let column = c.index_mut.result.now in
    let x = c.index-variables-v.result in
    let old = outputs_view c.loop-v.named.items in
    let one : OutputColumn = record { name = x.name; statuses = column.items } in
    let cut = step xs cs v x column lt (let l = inv.len in let r = c.requires in omega (arith, lt, l, r)) c.index-variables-v.is c.index_mut.ensures.value in
    let past = from_past xs cs v c.take_column.new.column in
    record {
      so_far = more old (outputs_view c.take_column.new.named.items) (one ∷ []) (Left xs (set cs v c.take_column.new.column) (v + 1)) (columns_in xs (lists_of c.args.columns.items)) c.in_ok-take_column.ensures
          (ap (λ (ys : List OutputColumn). old ++ ys) (sym (cut ∙ ap (λ (zs : List OutputColumn). one ∷ zs) (sym past))) ∙ inv.so_far);
      len = length-set cs v c.take_column.new.column ∙ inv.len;
    }

pub returns : goal.returns
returns c =
    let xs = c.args.variables.now in
    let cs = c.loop-v.left.items in
    let so_far = outputs_view c.loop-v.named.items in
    sym (append-nil so_far) ∙ ap (λ (ys : List OutputColumn). so_far ++ ys) (sym (done xs cs c.loop-v.v c.loop-v-test.false)) ∙ c.loop-v.invariant.so_far
