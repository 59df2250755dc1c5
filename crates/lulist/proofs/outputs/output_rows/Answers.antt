use Rattle.std.proofs.Common.{◌≡◌, ◌+◌, ℕ, suc, List, [], ◌∷◌, ◌++◌, length, Some, None, sym, subst, ap, ◌∙◌, arith, length-append}
use Rattle.std.specs.Prelude.{slice_get, vec_capacity, Vec}
use Rattle.std.specs.declared.alloc.Global.{Global}
use Rattle.std.specs.Vec.Iter.{into_iter_items}
use Rattle.std.proofs.lemmas.Option.{slice_get-get_or}
use Rattle.lusite_program.specs.Logs.{Log}
use Rattle.lulist.proofs.Told.{EachRow, row_more}
use Rattle.lulist.proofs.outputs.output_rows.Goals as goal
use Rattle.lulist.proofs.outputs.output_rows.Goals.{in-Some+else-not-is_at+in_ok-row-in-Some, in-None}

-- a row more
longer : (old new : Vec Log Global) (row : Log) (n : ℕ) → new.items ≡ old.items ++ row ∷ [] → length old.items ≡ n → length new.items ≡ n + 1
longer old new row n items len =
    let more = ap length items in
    let long = length-append old.items (row ∷ []) in
    omega (arith, more, long, len)

pub loop-number-preserved : goal.loop-number-preserved
loop-number-preserved c =
    let reported = c.args.reported.now in
    let noted = c.args.noted.now in
    let logs = c.args.logs.items in
    let inv = c.loop-number.invariant in
    let m = c.loop-number.number-index in
    let n = c.loop-number.n in
    let old = c.loop-number.rows in
    let few = inv.few in
    let room = inv.room in
    let here = slice_get-get_or reported m None c.loop-number-test.true in
    elim c.match-number.branch [
      | in-Some+else-not-is_at+in_ok-row-in-Some w ↦
          let row = w.in_ok-row-in-Some.row in
          let items : c.match-number.rows.items ≡ old.items ++ row ∷ [] = ap (λ (v : Vec Log Global). v.items) w.rows-is ∙ w.push_reserved.ensures.items in
          let capacity : vec_capacity c.match-number.rows ≡ vec_capacity old = ap (λ (v : Vec Log Global). vec_capacity v) w.rows-is ∙ w.push_reserved.ensures.capacity in
          let gone : into_iter_items c.loop-number.left ≡ row ∷ into_iter_items w.next.new.self = w.in_ok-row-in-Some.ensures.items in
          let next : c.match-number.n ≡ n + 1 = w.n-is in
          let log : slice_get logs n ≡ Some row = subst (λ (i : ℕ). slice_get logs i ≡ Some row) (omega arith) (inv.rest 0 row (ap (λ (xs : List Log). slice_get xs 0) gone)) in
          record {
            len = longer old c.match-number.rows row m items inv.len;
            room = omega (arith, capacity, room);
            few = omega (arith, next, few);
            rows = subst (EachRow reported noted logs) (sym items)
                (row_more reported noted logs old.items m (Some w.in-Some.k) row inv.len (here ∙ ap Some w.in-Some.is) (n, w.is_at.ensures w.if-not-is_at.false, log) inv.rows);
            rest = λ j x there. subst (λ (i : ℕ). slice_get logs i ≡ Some x) (omega (arith, next))
                (inv.rest (suc j) x (ap (λ (xs : List Log). slice_get xs (suc j)) gone ∙ subst (λ left. slice_get (into_iter_items left) j ≡ Some x) w.left-is there));
          }
      | in-None w ↦
          let row = w.new.result in
          let items : c.match-number.rows.items ≡ old.items ++ row ∷ [] = ap (λ (v : Vec Log Global). v.items) w.rows-is ∙ w.push_reserved-in-None.ensures.items in
          let capacity : vec_capacity c.match-number.rows ≡ vec_capacity old = ap (λ (v : Vec Log Global). vec_capacity v) w.rows-is ∙ w.push_reserved-in-None.ensures.capacity in
          let next : c.match-number.n ≡ n = w.n-is in
          record {
            len = longer old c.match-number.rows row m items inv.len;
            room = omega (arith, capacity, room);
            few = omega (arith, next, few);
            rows = subst (EachRow reported noted logs) (sym items)
                (row_more reported noted logs old.items m None row inv.len (here ∙ ap Some w.in-None.is) w.new.ensures.items inv.rows);
            rest = λ j x there. subst (λ (i : ℕ). slice_get logs (i + j) ≡ Some x) (sym next)
                (inv.rest j x (subst (λ left. slice_get (into_iter_items left) j ≡ Some x) w.left-is there));
          }
    ]
