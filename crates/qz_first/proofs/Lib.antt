pub mod WireLemmas
pub mod Growing
pub mod Walks
pub mod FirstInduction
pub mod BitLemmas
pub mod NameLemmas
pub mod PlaceLemmas
pub mod StartMirror
pub mod ResumeMirror
pub mod ResumeSequences
pub mod FirstResuming
pub mod SameWalks
pub mod BitVerdicts
pub mod FirstSteps
pub mod AlwaysDefinite
pub mod BitModules
pub mod BitClocks
pub mod ClockRuns
pub mod Driving
mod ReadingLemmas
mod GrammarLemmas
mod FormalLemmas
mod SourceLemmas
pub mod Implementing
mod InstantLemmas
pub mod DoingPrograms
pub mod Declaring
mod CoreLemmas
pub mod RestsLemmas
pub mod FirstSources
pub mod BuiltLemmas
mod TextLemmas
