use Rattle.std.proofs.Common.{◌++◌, ℕ, List, ap, ◌∙◌, string_bytes, codes}
use Rattle.lutree.specs.declared.program.Declaration.{Declaration}
use Rattle.lutree.specs.Tree.{declaration_view}
use Rattle.lusyn_printer.specs.Canonical.{declaration}
use Rattle.lusyn_printer.proofs.Joined.{joined_loop, joined_map}
use Rattle.lusyn_printer.proofs.program.put_declarations.Goals as goal

pub returns-after-loop-other : goal.returns-after-loop-other
returns-after-loop-other c =
    joined_loop (codes "; ") (λ (d : Declaration). declaration (declaration_view d)) c.first-item.result c.args.declared.now c.loop-other.other-index
    (string_bytes c.args.text.now) (string_bytes c.put_declaration.new.text) (string_bytes c.loop-other.text)
    c.in-len1-up.len_at_least c.first-item.is c.loop-other-test.false c.in_ok-put_declaration-in-len1-up.ensures c.loop-other.invariant
    ∙ ap (λ (text : List ℕ). string_bytes c.args.text.now ++ text) (joined_map (codes "; ") declaration declaration_view c.args.declared.now)
