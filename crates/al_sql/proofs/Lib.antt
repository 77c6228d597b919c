pub mod BarringLaw
pub mod PhraseLaws
pub mod TransactionLaws
pub mod TableLaws
pub mod RowLaws
pub mod QueryLaws
pub mod ScriptLaws
pub mod ScriptTexts
