use Rattle.lucore_laws.proofs.Reading.{pushed_reader}
use Rattle.lucore_laws.proofs.readers.Readers.push.Goals as goal

pub returns : goal.returns
returns c =
    pushed_reader c.self.inside.lists.items c.args.self.now c.args.place c.args.reader c.index_mut.result.now c.push.new.self c.requires c.self.view_is c.index_mut.ensures.value c.in_ok-push.ensures.items
