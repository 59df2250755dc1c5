use Rattle.std.proofs.Common.{rules, ◌≡◌, subst, true}
use Rattle.luplace_file.specs.Content.{PlaceView}
use Rattle.luplace_file.specs.Rules.{stated, is_capacity}
use Rattle.luplace_file.specs.Lawful.{IsLawful}
use Rattle.luplace_file.proofs.LawfulLemmas.{stated_is_lawful, in_range_parts}
use Rattle.luplace_file.proofs.rules.stated.Goals as goal

pub size_of-requires : goal.size_of-requires
size_of-requires c =
    let fits : is_capacity c.args.draft.capacity ≡ true = (in_range_parts c.args.draft c.requires.in_range).0 in
    search rules

pub of_parts-requires : goal.of_parts-requires
of_parts-requires c =
    let made : PlaceView = record { sites = c.args.draft.sites; default = c.in_ok-default.default; capacity = c.size_of.result; place = c.in_ok-entries.entries } in
    let same : stated c.args.draft ≡ made = search rules in
    subst IsLawful same (stated_is_lawful c.args.draft c.requires.drafted c.requires.in_range c.requires.differ c.requires.known)
