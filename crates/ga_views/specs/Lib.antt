-- What subcommands show of a run of a chip, by the page of its name.
pub mod Witness
pub mod RaceText
pub mod Race
pub mod MapJob
pub mod ProfileJob
pub mod TraceJob
pub mod CountsJob
pub mod ReportJob
pub mod inner
