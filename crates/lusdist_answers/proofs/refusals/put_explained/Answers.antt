use Rattle.std.proofs.Common.{ℕ, List, ◌++◌, ap, ◌∙◌, codes, string_bytes}
use Rattle.lusdist_answers.proofs.Tellings.{seven}
use Rattle.lusdist_answers.proofs.refusals.put_explained.Goals as goal

pub returns : goal.returns
returns c =
    let t = c.args.text.now.items in
    let reason = c.args.reason.now in
    let line = c.in_ok-extend_from_slice.ensures.items ∙ ap (λ (xs : List ℕ). t ++ xs) c.as_bytes.ensures.value in
    seven t c.extend_from_slice.new.self.items c.extend_from_slice-2.new.self.items c.extend_from_slice-3.new.self.items c.extend_from_slice-4.new.self.items c.extend_from_slice-5.new.self.items c.extend_from_slice-6.new.self.items c.extend_from_slice-7.new.self.items
    c.args.line.now (codes "\n") (string_bytes reason.place) (string_bytes reason.what) (codes "\n") (string_bytes reason.mend) (codes "\n")
    line c.in_ok-extend_from_slice-2.ensures.items
    (c.in_ok-extend_from_slice-3.ensures.items ∙ ap (λ (xs : List ℕ). c.extend_from_slice-2.new.self.items ++ xs) c.as_bytes-2.ensures.value)
    (c.in_ok-extend_from_slice-4.ensures.items ∙ ap (λ (xs : List ℕ). c.extend_from_slice-3.new.self.items ++ xs) c.as_bytes-3.ensures.value)
    c.in_ok-extend_from_slice-5.ensures.items
    (c.in_ok-extend_from_slice-6.ensures.items ∙ ap (λ (xs : List ℕ). c.extend_from_slice-5.new.self.items ++ xs) c.as_bytes-4.ensures.value)
    c.in_ok-extend_from_slice-7.ensures.items
