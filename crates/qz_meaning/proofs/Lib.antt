pub mod Walking
pub mod Evaluating
pub mod Folding
pub mod JoinLemmas
mod LineLemmas
pub mod Lists
pub mod Fitting
pub mod Resting
pub mod Telling
pub mod TellingAll
pub mod Rising
pub mod OpenRising
pub mod Settles
pub mod Finding
pub mod RoundsRise
pub mod MetOnce
pub mod Orderly
pub mod Rows
pub mod Solutions
pub mod PlaceBits
pub mod Reading
pub mod CarriedMet
pub mod NextPlaces
pub mod OneStep
pub mod OneRun
pub mod WellTyped
pub mod Keeping
pub mod Permitting
pub mod Situations
mod EmitsAlways
mod Preemptions
mod EntersAgain
mod CarriesStores
mod ReadsAnew
mod TakesDelayed
mod WaitsForItself
mod Contradicts
mod WrittenOut
mod EmitsInOneRun
mod Clashing
mod TwoSolutions
mod Permitted
mod Lending
mod Reentry
