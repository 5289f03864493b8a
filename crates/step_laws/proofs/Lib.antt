pub mod WritesRead
pub mod FormalsSame
pub mod StepReads
pub mod TargetsMet
pub mod StepTargets
pub mod CallFree
