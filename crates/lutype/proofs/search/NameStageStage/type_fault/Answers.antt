use Rattle.lutype.proofs.search.NameStageStage.type_fault.Goals as goal

pub returns : goal.returns
returns c = c.type_fault.ensures c.args.self.now.main.now
