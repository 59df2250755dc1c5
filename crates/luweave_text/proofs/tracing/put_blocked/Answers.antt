use Rattle.std.proofs.Common.{◌≡◌, ◌++◌, ℕ, List, Bool, [], ap, sym, ◌∙◌, if◌then◌else◌, string_bytes}
use Rattle.std.proofs.lemmas.Result.{IfOk-weaker}
use Rattle.luweave_text.specs.Traced.{report, wait_words}
use Rattle.luweave_text.proofs.Lines.{blocked_then}
use Rattle.luweave_text.proofs.tracing.put_blocked.Goals as goal

pub returns : goal.returns
returns c = λ job s n item is there.
    let how = c.args.how in
    let plan = c.args.plan.now in
    let site = c.args.site in
    let words : c.as_str.result.now ≡ wait_words how.form plan item =
    c.as_str.ensures.value ∙ c.in_ok-put_wait_words.ensures job s n item is there ∙ ap (λ (xs : List ℕ). xs ++ wait_words how.form plan item) c.new-words.ensures.bytes in
    let all = report how.form plan c.args.counts site site (wait_words how.form plan item) in
    let asked = ap (λ (b : Bool). if b then all else []) (sym (blocked_then how.blocked c.if-not-how.false)) in
    IfOk-weaker c.put_report.result _ _ (λ r more. more ∙ ap (λ (xs : List ℕ). string_bytes c.args.text.now ++ xs) (ap (report how.form plan c.args.counts site site) words ∙ asked)) c.put_report.ensures
