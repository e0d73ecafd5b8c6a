-- Texts about the checksums of a packet, each with a leading space.
use Rattle.std.specs.Prelude.{ℕ, List, [], ◌++◌, Option, Some, None, codes}
use Rattle.etherparse.specs.Types.ChecksumVerdict.{ChecksumVerdict}
use Rattle.etherparse.specs.Types.ChecksumVerdict.TheVariants.{Valid, Invalid, Absent, Unknown}
use Rattle.etherparse.specs.Types.TransportSlice.{TransportSlice}
use Rattle.etherparse.specs.Types.TransportSlice.TheVariants.{Udp, Tcp, Icmpv4, Icmpv6}

-- the text about a checksum, after the name of its layer, by its verdict; empty if there is none, if the sender computed
-- no checksum, and if it cannot be verified; a network card may fill in the checksum of an outgoing packet only after it
-- was captured
abbrev pub checksum_text : List ℕ → Option ChecksumVerdict → List ℕ
checksum_text name (Some Valid) = name ++ codes " checksum right"
checksum_text name (Some Invalid) = name ++ codes " checksum wrong (or left to the card)"
checksum_text name (Some Absent) = []
checksum_text name (Some Unknown) = []
checksum_text name None = []

-- the text about the checksum of the IPv4 header
abbrev pub header_checksum_text : Option ChecksumVerdict → List ℕ
header_checksum_text verdict = checksum_text (codes " header") verdict

-- the name of a transport layer
abbrev pub transport_name_text : TransportSlice → List ℕ
transport_name_text (Udp datagram) = codes " udp"
transport_name_text (Tcp segment) = codes " tcp"
transport_name_text (Icmpv4 message) = codes " icmpv4"
transport_name_text (Icmpv6 message) = codes " icmpv6"

-- the text about the checksum of the transport layer, if there is one
abbrev pub transport_checksum_text : Option TransportSlice → Option ChecksumVerdict → List ℕ
transport_checksum_text (Some transport) verdict = checksum_text (transport_name_text transport) verdict
transport_checksum_text None verdict = []
