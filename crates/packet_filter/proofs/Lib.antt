mod AddressTextLemmas
mod DecideAddressLemmas
mod DecideLemmas
mod DecideNumberLemmas
mod DecideValueLemmas
mod DecidedLemmas
pub mod FilterLemmas
mod FitLemmas
pub mod HostLemmas
mod KeywordTextLemmas
mod LawLemmas
mod LexingLemmas
mod MoreBytesLemmas
mod MoreChainLemmas
mod MoreLayers
mod MoreNetLemmas
mod MorePrimitiveLemmas
mod MoreTagLemmas
mod PrintedLemmas
mod PrintedTextLemmas
mod PrintedTokens
mod ReadBackLemmas
pub mod StepLemmas
pub mod TagLemmas
mod TextLemmas
mod WordTextLemmas
