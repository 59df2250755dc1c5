use Rattle.std.proofs.Common.{◌++◌, ℕ, List, ap, codes, sym, subst, ◌∙◌, string_bytes}
use Rattle.std.proofs.lemmas.Result.{IfOk-weaker}
use Rattle.luworld.specs.Systems.{Puts}
use Rattle.lusite.specs.Machine.{IsNext}
use Rattle.luweave_text.specs.Waits.{wait_cell}
use Rattle.luweave_text.proofs.Lines.{is_item, not_over}
use Rattle.luweave_text.proofs.waits.put_wait_cell.Goals as goal

pub returns-in-Put : goal.returns-in-Put
returns-in-Put c = λ job s n item is there.
    let same = ap (wait_cell c.args.plan.now) (is_item job s n item there (Puts c.in-Put.link) (subst (IsNext job s n) c.in-Put.is is).0) in
    let before = string_bytes c.args.text.now in
    let flow = ap (λ (xs : List ℕ). before ++ (codes "waits to put " ++ xs)) c.flow_name.ensures in
    IfOk-weaker c.write.result _ _ (λ r more. more ∙ flow ∙ ap (λ (xs : List ℕ). before ++ xs) (sym same)) c.write.ensures.bytes

pub returns-in-Ended : goal.returns-in-Ended
returns-in-Ended c = λ job s n item is there. absurd (not_over job s n item there (subst (IsNext job s n) c.in-Ended.is is).0)

pub returns-in-Faulted : goal.returns-in-Faulted
returns-in-Faulted c = λ job s n item is there. absurd (not_over job s n item there (subst (IsNext job s n) c.in-Faulted.is is).0)
