use Rattle.std.proofs.Common.{Some, refl, sym, ap, ◌∙◌}
use Rattle.std.proofs.lemmas.Option.{slice_get-get_or}
use Rattle.lusite_program.specs.Carriers.{LinkRow}
use Rattle.lusite_program.proofs.carriers.push_at.Goals as goal

pub returns : goal.returns
returns c =
    let row : LinkRow = c.index_mut-row.result.now in
    record {
      old = row;
      row = c.push.new.self;
      was = slice_get-get_or c.args.rows.now.items c.args.flow row c.requires ∙ ap Some (sym c.index_mut-row.ensures.value);
      is = refl;
      items = c.in_ok-push.ensures.items;
    }
