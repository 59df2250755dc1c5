use Rattle.std.proofs.Common.{◌≡◌, ◌++◌, ◌∙◌, ap, sym, false, List, ℕ}
use Rattle.lutab.specs.Table.{header_text, is_too_long}
use Rattle.lutab.proofs.Texts.{table_read, text_read}
use Rattle.lutab.proofs.reading.read_text.Goals as goal

pub table_of-requires : goal.table_of-requires
table_of-requires c =
    let text = c.as_bytes-bytes.ensures.value in
    let short : is_too_long c.args.text.now ≡ false = ap is_too_long (sym text) ∙ (sym c.is_too_long.ensures ∙ c.if-is_too_long.false) in
    let header = c.as_bytes.ensures.value ∙ c.in_ok-header.ensures in
    let is : c.args.text.now ≡ header_text c.args.inputs.now ++ c.in-Some.body.now = sym text ∙ (c.in-Some.ensures.found ∙ ap (λ (h : List ℕ). h ++ c.in-Some.body.now) header) in
    table_read c.args.types.now c.args.inputs.now c.args.text.now c.in-Some.body.now _ _ short is c.in_ok-instants.ensures

pub returns : goal.returns
returns c =
    let text = c.as_bytes-bytes.ensures.value in
    let short : is_too_long c.args.text.now ≡ false = ap is_too_long (sym text) ∙ (sym c.is_too_long.ensures ∙ c.if-is_too_long.false) in
    let header = c.as_bytes.ensures.value ∙ c.in_ok-header.ensures in
    let is : c.args.text.now ≡ header_text c.args.inputs.now ++ c.in-Some.body.now = sym text ∙ (c.in-Some.ensures.found ∙ ap (λ (h : List ℕ). h ++ c.in-Some.body.now) header) in
    rw c.table_of.ensures (short, text_read c.args.types.now c.args.inputs.now c.args.text.now c.in-Some.body.now _ _ short is c.in_ok-instants.ensures)
