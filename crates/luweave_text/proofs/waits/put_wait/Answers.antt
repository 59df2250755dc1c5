use Rattle.std.proofs.Common.{ap, codes, subst, string_bytes}
use Rattle.luworld.specs.Systems.{Puts, Takes}
use Rattle.lusite.specs.Machine.{IsNext}
use Rattle.luweave_text.specs.Waits.{wait_text, inward, outward}
use Rattle.luweave_text.proofs.Lines.{is_item, not_over, then_added}
use Rattle.luweave_text.proofs.waits.put_wait.Goals as goal

pub returns-in_ok-push_str-in-Put : goal.returns-in_ok-push_str-in-Put
returns-in_ok-push_str-in-Put c = λ job s n item is there.
    let plan = c.args.plan.now in
    let l = c.in-Put.link in
    let same = is_item job s n item there (Puts l) (subst (IsNext job s n) c.in-Put.is is).0 in
    then_added c.put_outward.result (string_bytes c.args.text.now) (string_bytes c.push_str.new.self) (string_bytes c.put_outward.new.text) (codes "waits for room in ") (outward plan l) (wait_text plan item)
    c.in_ok-push_str-in-Put.ensures.bytes c.put_outward.ensures (ap (wait_text plan) same)

pub returns-in_ok-push_str-in-Take : goal.returns-in_ok-push_str-in-Take
returns-in_ok-push_str-in-Take c = λ job s n item is there.
    let plan = c.args.plan.now in
    let l = c.in-Take.link in
    let same = is_item job s n item there (Takes l) (subst (IsNext job s n) c.in-Take.is is).0 in
    then_added c.put_inward.result (string_bytes c.args.text.now) (string_bytes c.push_str-in-Take.new.self) (string_bytes c.put_inward.new.text) (codes "waits for a message of ") (inward plan l) (wait_text plan item)
    c.in_ok-push_str-in-Take.ensures.bytes c.put_inward.ensures (ap (wait_text plan) same)

pub returns-in-Ended : goal.returns-in-Ended
returns-in-Ended c = λ job s n item is there. absurd (not_over job s n item there (subst (IsNext job s n) c.in-Ended.is is).0)

pub returns-in-Faulted : goal.returns-in-Faulted
returns-in-Faulted c = λ job s n item is there. absurd (not_over job s n item there (subst (IsNext job s n) c.in-Faulted.is is).0)
