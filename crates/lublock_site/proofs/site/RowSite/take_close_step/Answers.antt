use Rattle.std.proofs.Common.{rules}
use Rattle.luflow.proofs.Solutions.{some_at}
use Rattle.lublock_site.specs.Going.{IsGoing, IsLaterAt}
use Rattle.lublock_site.proofs.Moving.{goes_map, going_later}
use Rattle.lublock_site.proofs.site.RowSite.take_close_step.Goals as goal

pub returns-clause-going : goal.returns-clause-going
returns-clause-going c =
    let x = c.args.self.now in
    goes_map c.take_close_at.result (IsLaterAt c.args.k x.sources.items c.take_close_at.new.sources.items) (IsGoing (record x { sources = c.take_close_at.new.sources }))
    (λ has.
    let s = some_at x.sources.items c.args.k (search rules) in
    let h = has s.0 s.1 in
    going_later x c.take_close_at.new.sources c.args.k s.0 h.0 c.requires s.1 h.1 h.2)
    c.take_close_at.ensures
