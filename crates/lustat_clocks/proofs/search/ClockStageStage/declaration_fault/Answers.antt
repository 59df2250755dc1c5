use Rattle.lustat_clocks.proofs.search.ClockStageStage.declaration_fault.Goals as goal

pub returns : goal.returns
returns c = c.declaration_fault.ensures c.args.self.now.catalog.now
