use Rattle.packet_filter.proofs.MoreBytesLemmas.{more_bytes}
use Rattle.packet_filter.proofs.laws.more_bytes.Goals as goal

pub returns : goal.returns
returns c = more_bytes
