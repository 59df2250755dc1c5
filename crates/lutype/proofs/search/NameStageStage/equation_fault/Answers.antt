use Rattle.lutype.proofs.search.NameStageStage.equation_fault.Goals as goal

pub returns : goal.returns
returns c = c.equation_fault.ensures c.args.self.now.main.now
