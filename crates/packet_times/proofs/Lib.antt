pub mod CalendarLemmas
pub mod FractionLemmas
