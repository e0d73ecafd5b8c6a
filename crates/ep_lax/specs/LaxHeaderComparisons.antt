-- Equality of packets parsed laxly into owned headers.
use Rattle.std.specs.Prelude.{◌&&◌}
use Rattle.std.specs.Option.{option_eq}
use Rattle.std.specs.Cmp.Lexicographic.{pointwise}
use Rattle.ep_base.specs.declared.err.layer.Layer.{Layer}
use Rattle.ep_link.specs.declared.link.link_header.LinkHeader.{LinkHeader}
use Rattle.ep_link.specs.declared.link_ext.link_ext_header.LinkExtHeader.{LinkExtHeader}
use Rattle.ep_transport.specs.declared.transport_header.TransportHeader.{TransportHeader}
use Rattle.ep_packet.specs.declared.err.slice_error.SliceError.{SliceError}
use Rattle.ep_packet.specs.declared.net_headers.NetHeaders.{NetHeaders}
use Rattle.ep_packet.specs.PacketComparisons.{Equality}
use Rattle.ep_lax.specs.declared.lax_packet_headers.LaxPacketHeaders.{LaxPacketHeaders}
use Rattle.ep_lax.specs.declared.lax_payload_slice.LaxPayloadSlice.{LaxPayloadSlice}

-- Packets are equal if each header is absent in both, or equal, and the payloads and the errors at which parsing
-- stopped are equal.
abbrev pub same_lax_headers : Equality LinkHeader → Equality LinkExtHeader → Equality NetHeaders
    → Equality TransportHeader → Equality LaxPayloadSlice → Equality (SliceError × Layer) → Equality LaxPacketHeaders
same_lax_headers link extension net transport payload stop a b =
    option_eq link a.link b.link && (pointwise extension a.link_exts.items b.link_exts.items
    && (option_eq net a.net b.net && (option_eq transport a.transport b.transport
    && (payload a.payload b.payload && option_eq stop a.stop_err b.stop_err))))
