use Rattle.std.proofs.Common.{◌+◌, ℕ, List, subst, sym, string_bytes}
use Rattle.luweave_text.specs.Waits.{AreStandLines, NoStands, OneStandMore}
use Rattle.luweave_text.proofs.waits.text_of_stands.Goals as goal

pub loop-site-init : goal.loop-site-init
loop-site-init c = subst (λ (text : List ℕ). AreStandLines c.args.world.now 0 text) (sym c.new-text.ensures.bytes) NoStands

pub loop-site-preserved : goal.loop-site-preserved
loop-site-preserved c =
    let w = c.args.world.now in
    let n = c.loop-site.site in
    let (line, is, e) = c.in_ok-put_line.ensures in
    subst (λ (text : List ℕ). AreStandLines w (n + 1) text) (sym e) (OneStandMore n (string_bytes c.loop-site.text) line c.loop-site.invariant is)
