use Rattle.std.proofs.Common.{◌++◌, ℕ, List, map, ap, ◌∙◌, string_bytes, codes}
use Rattle.lutree.specs.declared.program.DeclaredName.{DeclaredName}
use Rattle.lutree.specs.Tree.{type_view}
use Rattle.lusyn_printer.specs.Canonical.{joined}
use Rattle.lusyn_printer.proofs.Types.{type_put}
use Rattle.lusyn_printer.proofs.program.put_type_declaration.Goals as goal

pub returns : goal.returns
returns c =
    type_put c.push_str-4.result (type_view c.args.printed.now) (string_bytes c.args.text.now) (string_bytes c.push_str.new.self) (string_bytes c.push_str-2.new.self) (string_bytes c.push_str-3.new.self)
    (string_bytes c.put_enumeration.new.text) (string_bytes c.push_str-4.new.self)
    c.in_ok-push_str.ensures.bytes
    (c.in_ok-push_str-2.ensures.bytes ∙ ap (λ (name : List ℕ). string_bytes c.push_str.new.self ++ name) c.as_str.ensures)
    c.in_ok-push_str-3.ensures.bytes
    (c.in_ok-put_enumeration.ensures ∙ ap (λ (names : List DeclaredName). string_bytes c.push_str-3.new.self ++ joined (codes ", ") (λ (y : List ℕ). y) (map (λ (x : DeclaredName). x.name) names)) c.as_slice.ensures)
    c.push_str-4.ensures.bytes
