use Rattle.packet_text.proofs.AddressLemmas.{pair-in_table}
use Rattle.packet_text.proofs.addresses.hex_pair.Goals as goal

pub returns : goal.returns
returns c = rw c.from-at.ensures (pair-in_table c.args.byte c.ranges.byte.fits)
