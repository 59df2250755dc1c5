use Rattle.std.proofs.Common.{◌≡◌, ◌∙◌, ap, take, drop, length, ◌++◌, arith, map}
use Rattle.std.proofs.lemmas.Result.{err_from_is_err_and}
use Rattle.luflow.specs.Tables.{columns_view}
use Rattle.lutab.specs.Table.{kinds_of}
use Rattle.lutab.proofs.Headers.{written}
use Rattle.lutab.proofs.reading.read_columns.Goals as goal

pub read_rows-requires-clause-empty : goal.read_rows-requires-clause-empty
read_rows-requires-clause-empty c =
    let kinds : c.deref.result.now ≡ kinds_of c.args.inputs.now = c.deref.ensures.value ∙ c.in_ok-kinds.ensures in
    rw (kinds, c.deref_mut.ensures.value) (c.in_ok-columns.ensures c.args.types.now).1

pub returns : goal.returns
returns c =
    let w = c.deref_mut.ensures in
    let kinds : c.deref.result.now ≡ kinds_of c.args.inputs.now = c.deref.ensures.value ∙ c.in_ok-kinds.ensures in
    let names : map (λ c. c.name) (columns_view c.deref_mut.result.now) ≡ map (λ x. x.name) c.args.inputs.now = ap (λ xs. map (λ c. c.name) (columns_view xs)) w.value ∙ (c.in_ok-columns.ensures c.args.types.now).0 in
    let len : c.in_ok-columns.columns.len ≡ length c.in_ok-columns.columns.items = omega (arith, ap length w.value, w.len) in
    let same : length c.read_rows.new.columns ≡ length c.in_ok-columns.columns.items = omega (arith, ap length w.value, c.read_rows.auto.columns) in
    let e : take c.in_ok-columns.columns.len (c.read_rows.new.columns ++ drop (length c.read_rows.new.columns) c.in_ok-columns.columns.items) ≡ c.read_rows.new.columns = written c.in_ok-columns.columns.len c.read_rows.new.columns c.in_ok-columns.columns.items same len in
    rw (e, ← kinds, ← names) c.in_ok-instants.ensures

pub returns-in_err-instants : goal.returns-in_err-instants
returns-in_err-instants c =
    let kinds : c.deref.result.now ≡ kinds_of c.args.inputs.now = c.deref.ensures.value ∙ c.in_ok-kinds.ensures in
    let p = err_from_is_err_and c.from_residual-in_err-instants.result c.from_residual-in_err-instants.ensures.1 in
    rw (p.1, p.2, ← kinds) c.in_err-instants.ensures
