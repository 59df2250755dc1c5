use Rattle.std.proofs.Common.{◌≡◌, ◌++◌, codes, string_bytes, rules}
use Rattle.lustats.specs.Text.{Adds, link_counts, link_ends, counted_link}
use Rattle.lustats.proofs.Adding.{adds_after}
use Rattle.lustats.proofs.text.put_link.Goals as goal

pub returns : goal.returns
returns c =
    let r = c.put_counted_link.result in
    let end = c.put_counted_link.new.text in
    let plan = c.args.plan.now in
    let ends = link_ends plan c.args.link in
    let counted = counted_link plan.capacity (link_counts c.args.counts.now c.args.number) in
    let first : string_bytes c.push_str.new.self ≡ string_bytes c.args.text.now ++ codes "link " = search rules in
    let last : Adds r c.put_link_ends.new.text end counted = search rules in
    adds_after r c.args.text.now c.push_str.new.self end (codes "link ") (ends ++ counted) first
    (adds_after r c.push_str.new.self c.put_link_ends.new.text end ends counted c.in_ok-put_link_ends.ensures last)
