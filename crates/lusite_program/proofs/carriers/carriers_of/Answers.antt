use Rattle.std.proofs.Common.{get_or}
use Rattle.std.proofs.lemmas.Option.{slice_get-get_or}
use Rattle.luworld.specs.declared.link.Link.{Link}
use Rattle.lusite_program.proofs.Carried.{pass_step}
use Rattle.lusite_program.proofs.carriers.carriers_of.Goals as goal

pub loop-l-preserved : goal.loop-l-preserved
loop-l-preserved c =
    let links = c.links-links.result.now in
    let l = c.loop-l.l in
    let none : Link = record { flow = 0; from = 0; to = 0 } in
    pass_step links c.args.site c.args.flows l (get_or links l none) c.loop-l.sources.items c.note_source.new.sources.items c.loop-l.rows.items c.note_row.new.rows.items
    c.loop-l.invariant
    (slice_get-get_or links l none c.loop-l-test.true)
    c.loop-l-test.true
    c.note_source.ensures.len
    c.note_source.ensures.each
    c.in_ok-note_row.ensures
