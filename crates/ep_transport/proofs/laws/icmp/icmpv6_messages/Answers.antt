use Rattle.ep_base.proofs.TableLemmas.{decided}
use Rattle.ep_transport.proofs.Icmpv6Lemmas.{icmpv6_is_read}
use Rattle.ep_transport.proofs.laws.icmp.icmpv6_messages.Goals as goal

pub returns : goal.returns
returns c = decided icmpv6_is_read
