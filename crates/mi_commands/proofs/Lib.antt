pub mod BuildAnswers
pub mod EveryPair
pub mod ClaimLemmas
mod TagNames
mod Hexadecimal
pub mod OutputLemmas
pub mod PossibleLemmas
pub mod PartLemmas
pub mod LineLemmas
pub mod MeantLemmas
mod NumberLemmas
pub mod ReadingSteps
pub mod CauseLemmas
mod SourceLemmas
mod Spaces
mod OnlyWord
pub mod CutLemmas
pub mod RunLemmas
pub mod RunOutput
pub mod DecodingSteps
pub mod EndLine
pub mod StopLemmas
pub mod Told
mod WordLemmas
pub mod WritingSteps
