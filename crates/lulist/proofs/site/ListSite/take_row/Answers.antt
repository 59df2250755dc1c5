use Rattle.std.proofs.Common.{rules, ◌≡◌, ◌+◌, true, false, List, Some, sym, ap, ◌∙◌}
use Rattle.std.specs.Prelude.{slice_get, unwrap_or}
use Rattle.lueval_lines.specs.declared.cell.Cell.{Cell}
use Rattle.lueval_lines.specs.Cells.{clock_of, statuses}
use Rattle.lueval_lines.specs.Frames.{clock_in}
use Rattle.lueval_lines.proofs.Elements.{got}
use Rattle.lulist.proofs.Linked.{going_none, going_skipped, going_taken}
use Rattle.lulist.proofs.site.ListSite.take_row.Goals as goal

pub returns-then-not-is_on-clause-going : goal.returns-then-not-is_on-clause-going
returns-then-not-is_on-clause-going c =
    let x = c.args.self.now in
    let row = c.index-row.result.now in
    let s = c.index-source.result.now in
    let here = got x.flows.lines.rows.items x.at row c.requires.within c.index-row.ensures in
    let there : slice_get x.sources.items c.number_at-e.result ≡ Some s = got x.sources.items c.number_at-e.result s (search rules) c.index-source.ensures in
    let off : false ≡ unwrap_or (clock_in (statuses x.shown.items) (clock_of row.line.clock)) false = sym c.if-not-is_on.true ∙ c.is_on.ensures ∙ ap (λ (xs : List Cell). unwrap_or (clock_in (statuses xs) (clock_of row.line.clock)) false) c.deref-2.ensures.value in
    going_skipped x c.requires.going c.requires.early row here c.number_at-e.result s there (search rules) (search rules) (search rules) c.show.new.shown c.skip_at.new.sources off c.show.ensures (c.skip_at.ensures s there)

pub returns-in-Value-clause-going : goal.returns-in-Value-clause-going
returns-in-Value-clause-going c =
    let x = c.args.self.now in
    let row = c.index-row.result.now in
    let s = c.index-source.result.now in
    let here = got x.flows.lines.rows.items x.at row c.requires.within c.index-row.ensures in
    let there : slice_get x.sources.items c.number_at-e.result ≡ Some s = got x.sources.items c.number_at-e.result s (search rules) c.index-source.ensures in
    let on : true ≡ unwrap_or (clock_in (statuses x.shown.items) (clock_of row.line.clock)) false = sym c.if-not-is_on.false ∙ c.is_on.ensures ∙ ap (λ (xs : List Cell). unwrap_or (clock_in (statuses xs) (clock_of row.line.clock)) false) c.deref-2.ensures.value in
    let t = c.in-Value.ensures s there in
    going_taken x c.requires.going c.requires.early row here c.number_at-e.result s there (search rules) (search rules) (search rules) c.show-in-Value.new.shown c.take_at.new.sources t.0 c.in-Value.datum c.cell_of.result on c.cell_of.ensures t.2 c.show-in-Value.ensures t.1

pub returns-in-Nothing-clause-going : goal.returns-in-Nothing-clause-going
returns-in-Nothing-clause-going c =
    let x = c.args.self.now in
    let row = c.index-row.result.now in
    let s = c.index-source.result.now in
    let there : slice_get x.sources.items c.number_at-e.result ≡ Some s = got x.sources.items c.number_at-e.result s (search rules) c.index-source.ensures in
    let t = c.in-Nothing.ensures s there in
    going_none x c.number_at-e.result (x.t + 1) s t.0 c.take_at.new.sources c.requires.going there t.1 t.2
