use Rattle.std.proofs.Common.{◌≡◌, ◌≤◌, IsTrue, length, refl, arith}
use Rattle.std.proofs.lemmas.Option.{slice_get_read}
use Rattle.lustat_warn.specs.Warnings.{UnreadIn}
use Rattle.lustat_warn.proofs.Adding.{adds_same, adds_more, adds_all}
use Rattle.lustat_warn.proofs.Parts.{warning_of, unread_ascend}
use Rattle.lustat_warn.proofs.survey.push_unread.Goals as goal

pub loop-j-preserved : goal.loop-j-preserved
loop-j-preserved c =
    let ds = c.args.declarations.now in
    let j = c.loop-j.j in
    let d = c.index-declarations-j.result in
    let F = UnreadIn c.args.read.now c.args.kind c.args.place in
    let here = slice_get_read ds (length ds) j d refl c.loop-j-test.true c.index-declarations-j.is in
    let told = adds_same (λ w. (w ≡ warning_of c.args.kind c.args.place j d.byte) × IsTrue c.is_unread.result) (F j d) c.loop-j.found.items c.push_if.new.found.items
    (λ w h. record { is = h.0; unread = c.is_unread.ensures.0 h.1 }) (λ w h. (h.is, c.is_unread.ensures.1 h.unread)) c.in_ok-push_if.ensures in
    adds_more ds F j d c.args.found.now.items c.loop-j.found.items c.push_if.new.found.items (unread_ascend c.args.read.now c.args.kind c.args.place) here c.loop-j.invariant told

pub returns : goal.returns
returns c =
    let ds = c.args.declarations.now in
    let end : length ds ≤ c.loop-j.j = (let e = c.loop-j-test.false in omega (arith, e)) in
    adds_all ds (UnreadIn c.args.read.now c.args.kind c.args.place) c.loop-j.j c.args.found.now.items c.loop-j.found.items end c.loop-j.invariant
