use Rattle.std.proofs.Common.{rules, ◌≡◌, ◌∙◌, ◌++◌, ◌∷◌, [], Some, sym, ap, refl, string_bytes}
use Rattle.toml.specs.Data.{member}
use Rattle.toml.specs.View.{view, members_view}
use Rattle.luplace_file.specs.declared.draft.Wanted.{Wanted}
use Rattle.luplace_file.specs.Keys.{◌>>=◌, choice_in, entries_in}
use Rattle.luplace_file.proofs.Walks.{with_front, one_more}
use Rattle.luplace_file.proofs.draft.entries_in.Goals as goal

pub loop-key-preserved : goal.loop-key-preserved
loop-key-preserved c =
    let key = string_bytes c.in-Some.key.now in
    let wanted : Wanted = record { variable = key; sites = c.in_ok-sites.sites } in
    let front = c.loop-key.entries.items in
    let after = entries_in c.args.version (members_view c.next.new.self) in
    let whole = entries_in c.args.version (members_view c.args.table.now.entries) in
    let next : members_view c.loop-key.key-iterator ≡ member key (view c.in-Some.value.now) (members_view c.next.new.self) = search rules in
    let pushed : c.push.new.self.items ≡ front ++ wanted ∷ [] = search rules in
    let before = ap (λ values. with_front front (entries_in c.args.version values)) (sym next) ∙ c.loop-key.invariant in
    ap (λ items. with_front items after) pushed ∙ one_more front (choice_in c.args.version (view c.in-Some.value.now)) c.in_ok-sites.sites wanted
    (λ sites. after >>= λ others. Some (record { variable = key; sites = sites } ∷ others)) after whole c.in_ok-sites.ensures refl before
