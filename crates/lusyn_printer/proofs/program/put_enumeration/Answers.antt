use Rattle.std.proofs.Common.{◌++◌, ℕ, List, ap, ◌∙◌, string_bytes, codes}
use Rattle.lutree.specs.declared.program.DeclaredName.{DeclaredName}
use Rattle.lusyn_printer.proofs.Joined.{joined_loop, joined_map}
use Rattle.lusyn_printer.proofs.program.put_enumeration.Goals as goal

pub returns-after-loop-other : goal.returns-after-loop-other
returns-after-loop-other c =
    joined_loop (codes ", ") (λ (x : DeclaredName). x.name) c.first-item.result c.args.names.now c.loop-other.other-index
    (string_bytes c.args.text.now) (string_bytes c.push_str.new.self) (string_bytes c.loop-other.text)
    c.in-len1-up.len_at_least c.first-item.is c.loop-other-test.false (c.in_ok-push_str-in-len1-up.ensures.bytes ∙ ap (λ (name : List ℕ). string_bytes c.args.text.now ++ name) c.as_str.ensures) c.loop-other.invariant
    ∙ ap (λ (text : List ℕ). string_bytes c.args.text.now ++ text) (joined_map (codes ", ") (λ (x : List ℕ). x) (λ (x : DeclaredName). x.name) c.args.names.now)
