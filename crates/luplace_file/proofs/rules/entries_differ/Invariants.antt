use Rattle.std.proofs.Common.{◌≡◌, drop}
use Rattle.std.specs.List.{list_all}
use Rattle.luplace_file.specs.Rules.{all_differ}
use Rattle.luplace_file.proofs.rules.entries_differ.Given as goal

-- whether no entry names a site twice is left to those from here on
abbrev pub invariant-loop-wanted : goal.invariant-loop-wanted
invariant-loop-wanted l = list_all (λ wanted. all_differ wanted.sites) (drop l.wanted-index l.place) ≡ list_all (λ wanted. all_differ wanted.sites) l.place
