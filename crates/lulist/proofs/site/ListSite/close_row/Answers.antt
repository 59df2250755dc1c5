use Rattle.std.proofs.Common.{rules, ◌≡◌, ◌+◌, ◌<◌, List, length, set, Some, refl, ap, ◌∙◌}
use Rattle.std.specs.Prelude.{slice_get, true}
use Rattle.luflow.proofs.Solutions.{some_at}
use Rattle.lusite_program.proofs.Written.{slice_get-set_same}
use Rattle.lulist.specs.declared.ends.Source.{Source}
use Rattle.lueval_lines.proofs.Elements.{len_set, set_twice}
use Rattle.lulist.proofs.Linked.{going_closed, going_none}
use Rattle.lulist.proofs.site.ListSite.close_row.Goals as goal

pub close_at-requires : goal.close_at-requires
close_at-requires c =
    let x = c.args.self.now in
    let e = c.number_at-e.result in
    let l : e < length x.sources.items = search rules in
    let s = some_at x.sources.items e l in
    let t = c.take_at.ensures s.0 s.1 in
    len_set x.sources.items c.take_at.new.sources.items e t.0 t.1 l

pub returns-in-Close-clause-going : goal.returns-in-Close-clause-going
returns-in-Close-clause-going c =
    let x = c.args.self.now in
    let e = c.number_at-e.result in
    let l : e < length x.sources.items = search rules in
    let s = some_at x.sources.items e l in
    let t = c.take_at.ensures s.0 s.1 in
    let y : Source = record t.0 { closed = true } in
    let here : slice_get c.take_at.new.sources.items e ≡ Some t.0 = ap (λ (xs : List Source). slice_get xs e) t.1 ∙ slice_get-set_same x.sources.items e t.0 l in
    let shut : c.close_at.new.sources.items ≡ set x.sources.items e y =
    c.close_at.ensures t.0 here ∙ ap (λ (xs : List Source). set xs e y) t.1 ∙ set_twice x.sources.items e t.0 y in
    going_closed x e y c.close_at.new.sources (x.at + 1) c.requires.going c.requires.late refl shut

pub returns-in-Nothing-clause-going : goal.returns-in-Nothing-clause-going
returns-in-Nothing-clause-going c =
    let x = c.args.self.now in
    let e = c.number_at-e.result in
    let l : e < length x.sources.items = search rules in
    let s = some_at x.sources.items e l in
    let t = c.in-Nothing.ensures s.0 s.1 in
    going_none x e x.t s.0 t.0 c.take_at.new.sources c.requires.going s.1 t.1 t.2
