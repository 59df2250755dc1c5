use Rattle.std.proofs.Common.{Some, sym, ap, ◌∙◌}
use Rattle.std.proofs.lemmas.Option.{slice_get-get_or}
use Rattle.luinside.proofs.Calling.{name_at_some, name_at_past}
use Rattle.luinside.proofs.names.name_in.Goals as goal

pub returns-in-Some : goal.returns-in-Some
returns-in-Some c =
    let names = c.args.names.now in
    let found = c.in-Some.ensures.lookup in
    let here = slice_get-get_or names c.args.place c.in-Some.name.now found.3.0 ∙ ap Some (sym found.1) in
    c.as_str.ensures ∙ sym (name_at_some names c.args.place c.in-Some.name.now here)

pub returns-in-None : goal.returns-in-None
returns-in-None c = sym (name_at_past c.args.names.now c.args.place c.in-None.ensures.lookup.3)
