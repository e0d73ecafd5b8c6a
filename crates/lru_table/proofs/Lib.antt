pub mod EntryLemmas
pub mod LawLemmas
pub mod SearchLemmas
pub mod SlotLemmas
pub mod TableLemmas
pub mod VacancyLemmas
