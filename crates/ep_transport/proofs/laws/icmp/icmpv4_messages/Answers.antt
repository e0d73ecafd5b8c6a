use Rattle.ep_base.proofs.TableLemmas.{decided}
use Rattle.ep_transport.proofs.Icmpv4Lemmas.{icmpv4_is_read}
use Rattle.ep_transport.proofs.laws.icmp.icmpv4_messages.Goals as goal

pub returns : goal.returns
returns c = decided icmpv4_is_read
