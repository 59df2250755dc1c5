use Rattle.std.proofs.Common.{◌≡◌, ◌++◌, ◌+◌, List, ℕ, Some, map, sym, ap, ◌∙◌, string_bytes}
use Rattle.std.specs.Prelude.{slice_get, option_map}
use Rattle.std.proofs.lemmas.Option.{slice_get-get_or, slice_get-map}
use Rattle.lutree.specs.declared.program.Equation.{Equation}
use Rattle.lutree.specs.Tree.{node_view, equation_view}
use Rattle.lustat_rules.specs.Naming.{called_by}
use Rattle.lusource.specs.Names.{name_at}
use Rattle.luinside.specs.Words.{call_text, texts_in}
use Rattle.luinside.proofs.Wording.{name_at_some, text_of_call}
use Rattle.luinside.proofs.words.step.Goals as goal

pub returns-in_ok-push_str-in-Some-get-clause-called : goal.returns-in_ok-push_str-in-Some-get-clause-called
returns-in_ok-push_str-in-Some-get-clause-called c =
    sym (name_at_some (called_by (node_view c.args.node.now)) c.args.number c.in-Some.call.name.now (sym c.in-Some.ensures.called))

pub returns-in_ok-push_str-in-Some-get-clause-text : goal.returns-in_ok-push_str-in-Some-get-clause-text
returns-in_ok-push_str-in-Some-get-clause-text c =
    let node = node_view c.args.node.now in
    let call = c.in-Some.call in
    let qs = c.as_slice.result.now in
    let q = c.in-Some-get.equation.now in
    let found = c.in-Some-get.ensures.lookup in
    let here : slice_get qs call.equation ≡ Some q = slice_get-get_or qs call.equation q found.3.0 ∙ ap Some (sym found.1) in
    let at : slice_get node.equations call.equation ≡ Some (equation_view q) =
    ap (λ (l : List Equation). slice_get (map equation_view l) call.equation) (sym c.as_slice.ensures) ∙ slice_get-map equation_view qs call.equation ∙ ap (option_map equation_view) here in
    let named = text_of_call node c.args.number call (equation_view q) c.in-Some.ensures.there at in
    let first = c.first_name-variable.ensures ∙ ap (λ (l : List (List ℕ)). name_at l 0) c.as_slice-in-Some-get.ensures in
    let told : string_bytes c.in_ok-text-in-Some-get.text ≡ name_at (texts_in (Some node)) c.args.number = c.in_ok-text-in-Some-get.ensures ∙ ap (λ (v : List ℕ). call_text v (call.number + 1) call.name.now) first ∙ sym named in
    c.in_ok-push_str-in-Some-get.ensures.bytes ∙ ap (λ (t : List ℕ). t ++ c.args.rest.now) told
