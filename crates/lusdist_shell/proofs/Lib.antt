mod ScheduleSteps
mod RandomSteps
mod NoHelp
mod CommandLemmas
