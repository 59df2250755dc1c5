use Rattle.lutype.proofs.search.NameStageStage.name_fault.Goals as goal

pub returns : goal.returns
returns c = c.label_fault.ensures c.args.self.now.main.now
