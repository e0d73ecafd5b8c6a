pub mod TextLemmas
pub mod SearchLemmas
pub mod HexTextLemmas
pub mod RequestLemmas
pub mod PoolLemmas
pub mod StreamLemmas
pub mod AskLemmas
pub mod AnswerLemmas
