pub mod QuietLemmas
pub mod LeftLemmas
pub mod DriveLemmas
pub mod SpecLemmas
pub mod RunLemmas
pub mod CloseLemmas
pub mod ReportLemmas
pub mod TopLemmas
pub mod AnswerLemmas
mod ReportVectors
mod RunVectors
mod AnswerVectors
