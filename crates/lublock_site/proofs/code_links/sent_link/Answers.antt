use Rattle.std.proofs.Common.{sym, ◌∙◌}
use Rattle.lublock_site.proofs.code_links.sent_link.Goals as goal

pub returns : goal.returns
returns c = record {
  own_is = c.in_ok-link.ensures;
  never = c.requires c.in_ok-link.link.flow (sym c.class_in.ensures ∙ c.if-class_in.false);
}
