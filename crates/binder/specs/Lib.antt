pub mod AppendedLaws
pub mod Records
pub mod RecordsLaws
pub mod Written
pub mod WrittenLaws
