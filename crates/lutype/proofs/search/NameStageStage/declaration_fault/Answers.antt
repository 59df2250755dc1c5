use Rattle.lutype.proofs.search.NameStageStage.declaration_fault.Goals as goal

pub returns : goal.returns
returns c = c.declaration_fault.ensures c.args.self.now.main.now
