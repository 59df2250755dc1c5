use Rattle.std.proofs.Common.{◌++◌, ◌+◌, List, set, refl, sym, ap, ◌∙◌, arith, append-nil}
use Rattle.std.proofs.lemmas.List.{length-set}
use Rattle.luflow.specs.Tables.{OutputColumn, outputs_view}
use Rattle.lueval_lines.specs.Columns.{lists_of}
use Rattle.lueval_lines.specs.Outputs.{output_in, outputs_in}
use Rattle.lueval_lines.proofs.Reported.{From, step, done, more, from_past}
use Rattle.lueval_lines.proofs.outputs.taken_outputs.Goals as goal

pub loop-v-init : goal.loop-v-init
loop-v-init c = record {
  so_far = ap (λ xs. outputs_view xs ++ outputs_in c.args.variables.now (lists_of c.args.columns.items)) c.new-outputs.ensures.items;
  len = refl;
}

pub loop-v-preserved : goal.loop-v-preserved
loop-v-preserved c =
    let xs = c.args.variables.now in
    let cs = c.loop-v.left.items in
    let v = c.loop-v.v in
    let inv = c.loop-v.invariant in
    let lt = c.loop-v-test.true in
    let column = c.index_mut.result.now in
    let x = c.index-variables-v.result in
    let old = outputs_view c.loop-v.outputs.items in
    let cut = step xs cs v x column lt (let l = inv.len in let r = c.requires in omega (arith, lt, l, r)) c.index-variables-v.is c.index_mut.ensures.value in
    let past = from_past xs cs v c.take_output.new.column in
    record {
      so_far = more old (outputs_view c.take_output.new.outputs.items) (output_in x column.items) (From xs (set cs v c.take_output.new.column) (v + 1)) (outputs_in xs (lists_of c.args.columns.items)) c.in_ok-take_output.ensures
          (ap (λ (ys : List OutputColumn). old ++ ys) (sym (cut ∙ ap (λ (zs : List OutputColumn). output_in x column.items ++ zs) (sym past))) ∙ inv.so_far);
      len = length-set cs v c.take_output.new.column ∙ inv.len;
    }

pub returns : goal.returns
returns c =
    let xs = c.args.variables.now in
    let cs = c.loop-v.left.items in
    let so_far = outputs_view c.loop-v.outputs.items in
    sym (append-nil so_far) ∙ ap (λ (ys : List OutputColumn). so_far ++ ys) (sym (done xs cs c.loop-v.v c.loop-v-test.false)) ∙ c.loop-v.invariant.so_far
