-- Bench cases beside document 01's own (model/specs/Cases.antt) and those with logins (`login_cases`); which calls demand 3 strikes out, and
-- samples for the claims' hypotheses.
pub mod Frames
pub mod Reading
pub mod Locks
pub mod PairLocks
pub mod Settings
pub mod Counters
pub mod Themes
pub mod DirectForm
pub mod States
pub mod Direct
pub mod Struck
pub mod Samples
