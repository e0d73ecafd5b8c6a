-- Errors of frames, and the number of missing bytes that they report.
use Rattle.std.proofs.Common.{◌≡◌, ◌⊎◌, ℕ, zero, suc, ◌+◌, ◌<◌, ◌≤◌, List, [], ◌++◌, length, Option, Some, None, refl, sym, ap, subst, ◌∙◌, inl, inr, arith, length-append}
use Rattle.std.specs.Prelude.{⊤}
use Rattle.std.specs.Int.{w16, to_be_bytes}
use Rattle.ep_base.specs.Bytes.{AreBytes}
use Rattle.ep_base.specs.IpPayload.{IpPayload}
use Rattle.ep_base.specs.Readings.{Reading, limited_by}
use Rattle.ep_base.specs.Missing.{CountsMissing, HasExactLength, IsOfAvailableBytes, that_row}
use Rattle.ep_base.specs.Tables.{Parts, parts_of, rows_as}
use Rattle.ep_base.proofs.BytesLemmas.{AreBytes-payload}
use Rattle.ep_base.proofs.CutRefusalLemmas.{longer_payload}
use Rattle.ep_base.proofs.MissingLemmas.{not_total, not_udp, short_once}
use Rattle.ep_base.proofs.TableLemmas.{refusal_is}
use Rattle.ep_base.specs.declared.ether_type.EtherType.{EtherType}
use Rattle.ep_base.specs.declared.err.len_error.LenError.{LenError}
use Rattle.ep_base.specs.declared.len_source.LenSource.{LenSource}
use Rattle.ep_base.specs.declared.len_source.LenSource.TheVariants as source
use Rattle.ep_base.specs.declared.err.ip.HeadersError.{HeadersError as IpHeadersError}
use Rattle.ep_base.specs.declared.err.ip.HeadersError.TheVariants as ip_content
use Rattle.ep_base.specs.declared.err.ip.SliceError.{SliceError as IpSliceError}
use Rattle.ep_base.specs.declared.err.ip.SliceError.TheVariants as ip_error
use Rattle.ep_base.specs.declared.err.ipv4.SliceError.{SliceError as Ipv4SliceError}
use Rattle.ep_base.specs.declared.err.ipv4.SliceError.TheVariants as ipv4_error
use Rattle.ep_base.specs.declared.err.ipv6.SliceError.{SliceError as Ipv6SliceError}
use Rattle.ep_base.specs.declared.err.ipv6.SliceError.TheVariants as ipv6_error
use Rattle.ep_base.specs.declared.err.linux_sll.HeaderSliceError.{HeaderSliceError as SllError}
use Rattle.ep_base.specs.declared.err.linux_sll.HeaderSliceError.TheVariants as sll_error
use Rattle.ep_base.specs.declared.err.macsec.HeaderSliceError.{HeaderSliceError as ExtensionError}
use Rattle.ep_base.specs.declared.err.macsec.HeaderSliceError.TheVariants as extension_error
use Rattle.ep_base.specs.declared.err.tcp.HeaderSliceError.{HeaderSliceError as TransportError}
use Rattle.ep_base.specs.declared.err.tcp.HeaderSliceError.TheVariants as transport_error
use Rattle.ep_link.specs.declared.link.ethernet2_header.Ethernet2Header.{Ethernet2Header}
use Rattle.ep_link.specs.declared.link.linux_sll_header.LinuxSllHeader.{LinuxSllHeader}
use Rattle.ep_link.specs.declared.link_ext.link_ext_header.LinkExtHeader.{LinkExtHeader}
use Rattle.ep_link.specs.declared.link_ext.link_ext_header.LinkExtHeader.TheVariants as tag_header
use Rattle.ep_link.specs.declared.link_ext.macsec_ptype.MacsecPType.{MacsecPType}
use Rattle.ep_link.specs.declared.link_ext.macsec_ptype.MacsecPType.TheVariants as ptype
use Rattle.ep_link.specs.Ethernet2.{FitsEthernet2, IsEthernet2, RefusesEthernet2, ethernet2_bytes, ethernet2_header_len, ethernet2_rows}
use Rattle.ep_link.specs.LinuxSll.{FitsLinuxSll, IsLinuxSll, RefusesLinuxSll, linux_sll_bytes, linux_sll_header_len, linux_sll_rows, protocol_ether_type, protocol_number}
use Rattle.ep_link.specs.LinkExtensions.{LinkExtension, vlan, macsec, IsLinkExtension, RefusesLinkExtension, extension_header, extension_payload, extension_type, link_ext_header_len}
use Rattle.ep_link.specs.Macsec.{macsec_len_source, macsec_payload, macsec_payload_bytes, macsec_payload_type, macsec_rows, payload_by, ptype_type}
use Rattle.ep_link.specs.Vlan.{vlan_bytes, vlan_rows}
use Rattle.ep_link.proofs.LinkExtensionLemmas.{extension_len}
use Rattle.ep_link.proofs.MacsecLemmas.{payload_by_bytes}
use Rattle.ep_link.proofs.MissingLemmas.{arp_tells, ethernet2_tells, extension_tells, linux_sll_tells}
use Rattle.ep_ip.specs.declared.ipv4_header.Ipv4Header.{Ipv4Header}
use Rattle.ep_ip.specs.declared.ipv6_header.Ipv6Header.{Ipv6Header}
use Rattle.ep_ip.specs.IpBytes.{ipv4_headers_len, ipv6_headers_len}
use Rattle.ep_ip.specs.IpPackets.{IpPacket, ipv4_part, ipv6_part, IsIpv4, IsIpv6, RefusesIp, RefusesIpv4, RefusesIpv6}
use Rattle.ep_ip.proofs.IpBytesLemmas.{ipv6_packet_bytes}
use Rattle.ep_ip.proofs.MissingLemmas.{ip_tells, ipv4_tells, ipv6_tells, open_payload}
use Rattle.ep_transport.specs.TransportParts.{RefusesTransportPart}
use Rattle.ep_transport.proofs.MissingLemmas.{transport_counts}
use Rattle.ep_packet.specs.declared.entry.Entry.{Entry}
use Rattle.ep_packet.specs.declared.entry.Entry.TheVariants.{Ethernet as ethernet, LinuxSll as linux_sll, EtherType as ether_type, Ip as ip}
use Rattle.ep_packet.specs.declared.err.slice_error.SliceError.{SliceError}
use Rattle.ep_packet.specs.declared.err.slice_error.SliceError.TheVariants as slice_error
use Rattle.ep_packet.specs.Layers.{NetLayer, ipv4_layer, ipv6_layer, net_payload}
use Rattle.ep_packet.specs.Frame.{NetKind, only_ipv4, only_ipv6, only_arp, any_ip, net_kind, most_link_exts, IsNetLayer}
use Rattle.ep_packet.specs.FrameRefusals.{RefusesExtensionAt, RefusesFrameIn, RefusesInside, RefusesNetLayer, RefusesNetPart, RefusesTransportAfterNet, RefusesTransportIn, extension_refusal, with_further_offset, ip_content_refusal, ip_refusal, ipv4_refusal, ipv6_refusal, linux_sll_refusal, net_payload_offset, transport_refusal}
use Rattle.ep_packet.specs.UncutTags.{AreUncut, CutsNothing, HasNoShortLength}
use Rattle.ep_packet.proofs.DeciderLemmas.{ExtensionPart}
use Rattle.ep_packet.proofs.LayerLawLemmas.{layer_laws}

-- ---- length errors

-- The error is no length error, or has this property.
abbrev OfLen : (LenError → Type 0) → SliceError → Type 0
OfLen Such (slice_error.Len error) = Such error
OfLen Such error = ⊤

-- The error is no length error, or counts the available bytes up to `limit`.
abbrev Counts : ℕ → SliceError → Type 0
Counts limit = OfLen (CountsMissing limit)

-- The error is no length error, or its layer starts at `offset` or later.
abbrev StartsAt : ℕ → SliceError → Type 0
StartsAt offset = OfLen (λ (error : LenError). offset ≤ error.layer_start_offset)

-- An error of the content of headers has any property of length errors.
content_has : (Such : LenError → Type 0) (error : IpHeadersError)
    → OfLen Such (ip_content_refusal error)
content_has Such (ip_content.Ip error) = tt
content_has Such (ip_content.Ipv4Ext error) = tt
content_has Such (ip_content.Ipv6Ext error) = tt

-- A length error moved by `offset` counts the bytes up to an end moved by `offset`.
further : (offset limit : ℕ) (error : LenError) → CountsMissing limit error
    → CountsMissing (offset + limit) (with_further_offset offset error)
further offset limit error counts at_hand inexact =
    let short = counts at_hand inexact in
    record { available = omega (arith, short.available); needed = short.needed }

-- ---- network layer

ipv4_at : (reading : Reading) (offset : ℕ) (bytes : List ℕ) (refusal : Ipv4SliceError)
    → RefusesIpv4 reading bytes refusal → Counts (offset + length bytes) (ipv4_refusal offset refusal)
ipv4_at reading offset bytes (ipv4_error.Len error) refused =
    further offset (length bytes) error ((ipv4_tells reading).counts bytes error refused)
ipv4_at reading offset bytes (ipv4_error.Header error) refused = tt
ipv4_at reading offset bytes (ipv4_error.Exts error) refused = tt

ipv6_at : (reading : Reading) (offset : ℕ) (bytes : List ℕ) (refusal : Ipv6SliceError)
    → RefusesIpv6 reading bytes refusal → Counts (offset + length bytes) (ipv6_refusal offset refusal)
ipv6_at reading offset bytes (ipv6_error.Len error) refused =
    further offset (length bytes) error ((ipv6_tells reading).counts bytes error refused)
ipv6_at reading offset bytes (ipv6_error.Header error) refused = tt
ipv6_at reading offset bytes (ipv6_error.Exts error) refused = tt

ip_at : (reading : Reading) (offset : ℕ) (bytes : List ℕ) (refusal : IpSliceError)
    → RefusesIp reading bytes refusal → Counts (offset + length bytes) (ip_refusal offset refusal)
ip_at reading offset bytes (ip_error.Len error) refused =
    further offset (length bytes) error ((ip_tells reading).counts bytes error refused)
ip_at reading offset bytes (ip_error.IpHeaders error) refused =
    content_has (CountsMissing (offset + length bytes)) error

layer_counts : (reading : Reading) (kind : NetKind) (offset : ℕ) (bytes : List ℕ) (error : SliceError)
    → RefusesNetLayer reading kind offset bytes error → Counts (offset + length bytes) error
layer_counts reading only_ipv4 offset bytes error refused =
    subst (Counts (offset + length bytes)) (sym refused.2) (ipv4_at reading offset bytes refused.0 refused.1)
layer_counts reading only_ipv6 offset bytes error refused =
    subst (Counts (offset + length bytes)) (sym refused.2) (ipv6_at reading offset bytes refused.0 refused.1)
layer_counts reading only_arp offset bytes error refused =
    subst (Counts (offset + length bytes)) (sym refused.2)
    (further offset (length bytes) refused.0 (arp_tells.counts bytes refused.0 refused.1))
layer_counts reading any_ip offset bytes error refused =
    subst (Counts (offset + length bytes)) (sym refused.2) (ip_at reading offset bytes refused.0 refused.1)

-- ---- transport layer

-- The limit of a layer within another is the end of the slice only if both limits are.
both_at_hand : (outer inner : LenSource) → (inner ≡ source.Slice) ⊎ (inner ≡ source.UdpHeaderLen)
    → IsOfAvailableBytes (limited_by outer inner) → (inner ≡ source.Slice) × IsOfAvailableBytes outer
both_at_hand outer inner (inl same) at_hand =
    (same, subst (λ (s : LenSource). IsOfAvailableBytes (limited_by outer s)) same at_hand)
both_at_hand outer inner (inr field) at_hand =
    absurd (not_udp (subst (λ (s : LenSource). IsOfAvailableBytes (limited_by outer s)) field at_hand))

-- A payload that ends at the end of the slice is the bytes after the headers.
abbrev EndsWith : ℕ → ℕ → IpPayload → Type 0
EndsWith total headers payload = IsOfAvailableBytes payload.source → total ≡ headers + length payload.bytes

transport_at : (reading : Reading) (offset headers total : ℕ) (payload : IpPayload) → EndsWith total headers payload
    → (refusal : TransportError) → RefusesTransportPart reading payload.number payload.fragmented payload.bytes refusal
    → Counts (offset + total) (transport_refusal (offset + headers) payload.source refusal)
transport_at reading offset headers total payload ends (transport_error.Len error) refused =
    λ at_hand inexact.
    let known = transport_counts reading payload.number payload.fragmented payload.bytes (transport_error.Len error)
    refused in
    let both = both_at_hand payload.source error.len_source known.1 at_hand in
    let short = known.0 (inl both.0) inexact in
    let complete = ends both.1 in
    record { available = omega (arith, short.available, complete); needed = short.needed }
transport_at reading offset headers total payload ends (transport_error.Content error) refused = tt

transport_in : (reading : Reading) (offset headers total : ℕ) (payload : IpPayload) → EndsWith total headers payload
    → (error : SliceError) → RefusesTransportIn reading (offset + headers) payload error
    → Counts (offset + total) error
transport_in reading offset headers total payload ends error refused =
    subst (Counts (offset + total)) (sym refused.2)
    (transport_at reading offset headers total payload ends refused.0 refused.1)

ipv4_ends : (reading : Reading) (bytes : List ℕ) (packet : IpPacket Ipv4Header) → IsIpv4 reading bytes packet
    → EndsWith (length bytes) (ipv4_headers_len packet.header packet.extensions) packet.payload
ipv4_ends reading bytes packet is at_hand = absurd (not_total (subst IsOfAvailableBytes is.source at_hand))

ipv6_ends : (reading : Reading) (bytes : List ℕ) (packet : IpPacket Ipv6Header) → IsIpv6 reading bytes packet
    → EndsWith (length bytes) (ipv6_headers_len packet.extensions) packet.payload
ipv6_ends reading bytes packet is at_hand =
    let are = ipv6_packet_bytes reading bytes packet is in
    let nothing = open_payload reading bytes packet is at_hand in
    omega (
      arith,
      ap length are.parts,
      are.len_is,
      ap length nothing,
      length-append (are.headers ++ packet.payload.bytes) packet.left,
      length-append are.headers packet.payload.bytes,
    )

-- The errors of the transport layer after a network layer.
abbrev pub RefusesAfter : Reading → ℕ → SliceError → NetLayer → Type 0
RefusesAfter reading offset error layer =
    RefusesTransportAfterNet reading (offset + net_payload_offset layer) (net_payload layer) error

after_ipv4 : (reading : Reading) (offset : ℕ) (bytes : List ℕ) (layer : NetLayer) (packet : IpPacket Ipv4Header)
    → IsIpv4 reading bytes packet → layer ≡ ipv4_layer packet → (error : SliceError)
    → RefusesAfter reading offset error layer → Counts (offset + length bytes) error
after_ipv4 reading offset bytes layer packet is same error refused =
    transport_in reading offset (ipv4_headers_len packet.header packet.extensions) (length bytes) packet.payload
    (ipv4_ends reading bytes packet is) error (subst (RefusesAfter reading offset error) same refused)

after_ipv6 : (reading : Reading) (offset : ℕ) (bytes : List ℕ) (layer : NetLayer) (packet : IpPacket Ipv6Header)
    → IsIpv6 reading bytes packet → layer ≡ ipv6_layer packet → (error : SliceError)
    → RefusesAfter reading offset error layer → Counts (offset + length bytes) error
after_ipv6 reading offset bytes layer packet is same error refused =
    transport_in reading offset (ipv6_headers_len packet.extensions) (length bytes) packet.payload
    (ipv6_ends reading bytes packet is) error (subst (RefusesAfter reading offset error) same refused)

after_counts : (reading : Reading) (kind : NetKind) (offset : ℕ) (bytes : List ℕ) (layer : NetLayer)
    → IsNetLayer reading kind bytes layer → (error : SliceError) → RefusesAfter reading offset error layer
    → Counts (offset + length bytes) error
after_counts reading only_ipv4 offset bytes layer is error refused =
    after_ipv4 reading offset bytes layer is.0 is.1 is.2 error refused
after_counts reading only_ipv6 offset bytes layer is error refused =
    after_ipv6 reading offset bytes layer is.0 is.1 is.2 error refused
after_counts reading only_arp offset bytes layer is error refused =
    absurd (subst (RefusesAfter reading offset error) is.2 refused)
after_counts reading any_ip offset bytes layer (ipv4_part packet, is, same) error refused =
    after_ipv4 reading offset bytes layer packet is same error refused
after_counts reading any_ip offset bytes layer (ipv6_part packet, is, same) error refused =
    after_ipv6 reading offset bytes layer packet is same error refused

net_counts : (reading : Reading) (offset : ℕ) (kind : Option NetKind) (bytes : List ℕ) (error : SliceError)
    → RefusesNetPart reading offset kind bytes error → Counts (offset + length bytes) error
net_counts reading offset None bytes error refused = absurd refused
net_counts reading offset (Some kind) bytes error (inl refused) =
    layer_counts reading kind offset bytes error refused
net_counts reading offset (Some kind) bytes error (inr refused) =
    after_counts reading kind offset bytes refused.0 refused.1 error refused.2

-- ---- link extensions

extension_at : (offset : ℕ) (type : EtherType) (bytes : List ℕ) (refusal : ExtensionError)
    → RefusesLinkExtension type bytes refusal → Counts (offset + length bytes) (extension_refusal offset refusal)
extension_at offset type bytes (extension_error.Len error) refused =
    further offset (length bytes) error ((extension_tells type).counts bytes error refused)
extension_at offset type bytes (extension_error.Content error) refused = tt

tag_counts : (offset : ℕ) (type : EtherType) (bytes : List ℕ) (error : SliceError)
    → RefusesExtensionAt offset type bytes error → Counts (offset + length bytes) error
tag_counts offset type bytes error refused =
    subst (Counts (offset + length bytes)) (sym refused.2) (extension_at offset type bytes refused.0 refused.1)

-- A link extension without a short length has no trailing bytes.
pub uncut_left : (type : EtherType) (bytes : List ℕ) (extension : LinkExtension) (left : List ℕ)
    → IsLinkExtension type bytes (extension, left) → CutsNothing extension → left ≡ []
uncut_left type bytes (vlan tag payload) left is uncut = is.1.cut
uncut_left type bytes (macsec tag payload) left is uncut =
    elim is.1.cut [
      | inl counted ↦ absurd (omega (arith, counted.0, uncut))
      | inr complete ↦ complete.1
    ]

inside_counts : (reading : Reading) (space offset : ℕ) (type : Option EtherType) (bytes : List ℕ) (error : SliceError)
    → RefusesInside reading space offset type bytes error → AreUncut space type bytes
    → Counts (offset + length bytes) error
inside_counts reading space offset None bytes error refused uncut = absurd refused
inside_counts reading zero offset (Some type) bytes error refused uncut =
    net_counts reading offset (net_kind type) bytes error refused
inside_counts reading (suc space) offset (Some type) bytes error (inl refused) uncut =
    net_counts reading offset (net_kind type) bytes error refused.1
inside_counts reading (suc space) offset (Some type) bytes error (inr (inl refused)) uncut =
    tag_counts offset type bytes error refused
inside_counts reading (suc space) offset (Some type) bytes error (inr (inr refused)) uncut =
    let extension = refused.0 in
    let holds = uncut extension refused.1 refused.2 in
    let header = link_ext_header_len (extension_header extension) in
    let nothing = uncut_left type bytes extension refused.1 refused.2 holds.0 in
    let same : offset + header + length (extension_payload extension) ≡ offset + length bytes =
    omega (arith, extension_len type bytes (extension, refused.1) refused.2, ap length nothing) in
    subst (λ (n : ℕ). Counts n error) same
    (inside_counts reading space (offset + header) (extension_type extension) (extension_payload extension) error
    refused.3 holds.1)

-- ---- offsets of errors

transport_starts : (offset start : ℕ) (limit : LenSource) (error : TransportError) → offset ≤ start
    → StartsAt offset (transport_refusal start limit error)
transport_starts offset start limit (transport_error.Len error) within = omega (arith, within)
transport_starts offset start limit (transport_error.Content error) within = tt

after_starts : (reading : Reading) (offset start : ℕ) (payload : Option IpPayload) (error : SliceError)
    → offset ≤ start → RefusesTransportAfterNet reading start payload error → StartsAt offset error
after_starts reading offset start None error within refused = absurd refused
after_starts reading offset start (Some payload) error within refused =
    subst (StartsAt offset) (sym refused.2) (transport_starts offset start payload.source refused.0 within)

ipv4_starts : (offset : ℕ) (error : Ipv4SliceError) → StartsAt offset (ipv4_refusal offset error)
ipv4_starts offset (ipv4_error.Len error) = omega arith
ipv4_starts offset (ipv4_error.Header error) = tt
ipv4_starts offset (ipv4_error.Exts error) = tt

ipv6_starts : (offset : ℕ) (error : Ipv6SliceError) → StartsAt offset (ipv6_refusal offset error)
ipv6_starts offset (ipv6_error.Len error) = omega arith
ipv6_starts offset (ipv6_error.Header error) = tt
ipv6_starts offset (ipv6_error.Exts error) = tt

ip_starts : (offset : ℕ) (error : IpSliceError) → StartsAt offset (ip_refusal offset error)
ip_starts offset (ip_error.Len error) = omega arith
ip_starts offset (ip_error.IpHeaders error) = content_has (λ (e : LenError). offset ≤ e.layer_start_offset) error

extension_starts : (offset : ℕ) (error : ExtensionError) → StartsAt offset (extension_refusal offset error)
extension_starts offset (extension_error.Len error) = omega arith
extension_starts offset (extension_error.Content error) = tt

layer_starts : (reading : Reading) (kind : NetKind) (offset : ℕ) (bytes : List ℕ) (error : SliceError)
    → RefusesNetLayer reading kind offset bytes error → StartsAt offset error
layer_starts reading only_ipv4 offset bytes error refused =
    subst (StartsAt offset) (sym refused.2) (ipv4_starts offset refused.0)
layer_starts reading only_ipv6 offset bytes error refused =
    subst (StartsAt offset) (sym refused.2) (ipv6_starts offset refused.0)
layer_starts reading only_arp offset bytes error refused =
    let start : offset ≤ refused.0.layer_start_offset + offset = omega arith in
    subst (StartsAt offset) (sym refused.2) start
layer_starts reading any_ip offset bytes error refused =
    subst (StartsAt offset) (sym refused.2) (ip_starts offset refused.0)

net_starts : (reading : Reading) (offset : ℕ) (kind : Option NetKind) (bytes : List ℕ) (error : SliceError)
    → RefusesNetPart reading offset kind bytes error → StartsAt offset error
net_starts reading offset None bytes error refused = absurd refused
net_starts reading offset (Some kind) bytes error (inl refused) = layer_starts reading kind offset bytes error refused
net_starts reading offset (Some kind) bytes error (inr refused) =
    after_starts reading offset (offset + net_payload_offset refused.0) (net_payload refused.0) error (omega arith)
    refused.2

-- An error whose layer starts at `far` or later starts at `near` or later.
earlier : (near far : ℕ) (error : SliceError) → near ≤ far → StartsAt far error → StartsAt near error
earlier near far (slice_error.Len error) within starts = omega (arith, within, starts)
earlier near far (slice_error.LinuxSll error) within starts = tt
earlier near far (slice_error.Macsec error) within starts = tt
earlier near far (slice_error.Ip error) within starts = tt
earlier near far (slice_error.Ipv4 error) within starts = tt
earlier near far (slice_error.Ipv6 error) within starts = tt
earlier near far (slice_error.Ipv4Exts error) within starts = tt
earlier near far (slice_error.Ipv6Exts error) within starts = tt
earlier near far (slice_error.Tcp error) within starts = tt

-- The layer of an error in a payload does not start before the payload.
inside_starts : (reading : Reading) (space offset : ℕ) (type : Option EtherType) (bytes : List ℕ) (error : SliceError)
    → RefusesInside reading space offset type bytes error → StartsAt offset error
inside_starts reading space offset None bytes error refused = absurd refused
inside_starts reading zero offset (Some type) bytes error refused =
    net_starts reading offset (net_kind type) bytes error refused
inside_starts reading (suc space) offset (Some type) bytes error (inl refused) =
    net_starts reading offset (net_kind type) bytes error refused.1
inside_starts reading (suc space) offset (Some type) bytes error (inr (inl refused)) =
    subst (StartsAt offset) (sym refused.2) (extension_starts offset refused.0)
inside_starts reading (suc space) offset (Some type) bytes error (inr (inr refused)) =
    let header = link_ext_header_len (extension_header refused.0) in
    earlier offset (offset + header) error (omega arith)
    (inside_starts reading space (offset + header) (extension_type refused.0) (extension_payload refused.0) error
    refused.3)

-- ---- valid layers with more bytes after them

-- The link extension with more bytes in its payload.
pub record IsLonger (extension longer : LinkExtension) (more : List ℕ) : Type 0 where
  pub header : extension_header longer ≡ extension_header extension
  pub type : extension_type longer ≡ extension_type extension
  pub payload : extension_payload longer ≡ extension_payload extension ++ more

type_of_payload : (of : MacsecPType) (limit : LenSource) (bytes : List ℕ)
    → macsec_payload_type (payload_by of limit bytes) ≡ ptype_type of
type_of_payload (ptype.Unmodified type) limit bytes = refl
type_of_payload ptype.Modified limit bytes = refl
type_of_payload ptype.Encrypted limit bytes = refl
type_of_payload ptype.EncryptedUnmodified limit bytes = refl

-- A link extension without a short length is valid with any bytes after it, which belong to its payload.
pub longer_extension : (type : EtherType) (bytes more : List ℕ) (extension : LinkExtension) (left : List ℕ)
    → IsLinkExtension type bytes (extension, left) → CutsNothing extension
    → (longer : LinkExtension) × IsLinkExtension type (bytes ++ more) (longer, []) × IsLonger extension longer more
longer_extension type bytes more (vlan tag payload) left is uncut = (
  vlan tag (payload ++ more),
  (
    is.0,
    record {
      fits = is.1.fits;
      parts = longer_payload bytes (vlan_bytes tag) payload left more is.1.parts is.1.cut;
      cut = refl;
    },
  ),
  record { header = refl; type = refl; payload = refl },
)
longer_extension type bytes more (macsec tag payload) left is uncut =
    let inner = macsec_payload_bytes payload in
    let limit = macsec_len_source tag.short_len in
    let same = payload_by_bytes tag.ptype limit (inner ++ more) in
    let nothing = uncut_left type bytes (macsec tag payload) left is uncut in (
      macsec tag (macsec_payload tag (inner ++ more)),
      (
        is.0,
        record {
          encoded = is.1.encoded;
          encodes = is.1.encodes;
          parts = longer_payload bytes is.1.encoded inner left more is.1.parts nothing
              ∙ ap (λ (l : List ℕ). (is.1.encoded ++ l) ++ []) (sym same);
          cut = inr (uncut, refl);
        },
        ap (macsec_payload tag) (sym same),
      ),
      record {
        header = refl;
        type = type_of_payload tag.ptype limit (inner ++ more) ∙ sym (type_of_payload tag.ptype limit inner)
            ∙ ap macsec_payload_type (sym is.2);
        payload = same;
      },
    )

-- A tag has at least one byte.
pub tag_len : (header : LinkExtHeader) → 0 < link_ext_header_len header
tag_len (tag_header.Vlan tag) = omega arith
tag_len (tag_header.Macsec tag) = omega arith

-- ---- the check that failed, with more bytes

-- The error of that check with `len` bytes available.
abbrev Again : LenError → ℕ → SliceError
Again error len = slice_error.Len (that_row error len)

abbrev pub ExtensionStart : ExtensionError → Type 0
ExtensionStart (extension_error.Len error) = error.layer_start_offset ≡ 0
ExtensionStart (extension_error.Content error) = ⊤

-- The error of a link extension has the offset of the link extension.
pub extension_at_start : (type : EtherType) (bytes : List ℕ) (error : ExtensionError)
    → RefusesLinkExtension type bytes error → ExtensionStart error
extension_at_start type bytes error (inl refused) =
    refusal_is ExtensionStart (rows_as extension_error.Len (vlan_rows bytes)) (refl, tt) error refused.1
extension_at_start type bytes error (inr refused) =
    refusal_is ExtensionStart (macsec_rows bytes) (refl, (tt, (tt, (refl, (refl, tt))))) error refused.1

start_of_tag : (offset : ℕ) (refusal : ExtensionError) (error : LenError) → ExtensionStart refusal
    → slice_error.Len error ≡ extension_refusal offset refusal → error.layer_start_offset ≡ offset
start_of_tag offset (extension_error.Len refusal) error start same =
    let known : error ≡ with_further_offset offset refusal = cc in
    omega (arith, start, ap (λ (e : LenError). e.layer_start_offset) known)
start_of_tag offset (extension_error.Content refusal) error start same = absurd cc

tag_start : (offset : ℕ) (type : EtherType) (bytes : List ℕ) (error : LenError)
    → RefusesExtensionAt offset type bytes (slice_error.Len error) → error.layer_start_offset ≡ offset
tag_start offset type bytes error refused =
    start_of_tag offset refused.0 error (extension_at_start type bytes refused.0 refused.1) refused.2

-- If bytes are rejected, and that check fails again with more bytes after them, it counts all of them.
again_inside : (reading : Reading) (space offset : ℕ) (type : Option EtherType) (bytes more : List ℕ)
    → AreBytes (bytes ++ more) → (error : LenError) (len : ℕ)
    → RefusesInside reading space offset type bytes (slice_error.Len error) → AreUncut space type bytes
    → RefusesInside reading space offset type (bytes ++ more) (Again error len)
    → CountsMissing (offset + length (bytes ++ more)) (that_row error len)
again_inside reading space offset None bytes more fits error len refused uncut again = absurd again
again_inside reading zero offset (Some type) bytes more fits error len refused uncut again =
    net_counts reading offset (net_kind type) (bytes ++ more) (Again error len) again
again_inside reading (suc space) offset (Some type) bytes more fits error len refused uncut (inl again) =
    net_counts reading offset (net_kind type) (bytes ++ more) (Again error len) again.1
again_inside reading (suc space) offset (Some type) bytes more fits error len refused uncut (inr (inl again)) =
    tag_counts offset type (bytes ++ more) (Again error len) again
again_inside reading (suc space) offset (Some type) bytes more fits error len (inl refused) uncut (inr (inr again)) =
    absurd (refused.0 (layer_laws.extension.begins type (bytes ++ more) (again.0, again.1) again.2))
again_inside reading (suc space) offset (Some type) bytes more fits error len (inr (inl refused)) uncut
    (inr (inr again)) =
    let header = link_ext_header_len (extension_header again.0) in
    let start = tag_start offset type bytes error refused in
    let after : offset + header ≤ error.layer_start_offset =
    inside_starts reading space (offset + header) (extension_type again.0) (extension_payload again.0)
    (Again error len) again.3 in
    absurd (omega (arith, tag_len (extension_header again.0), start, after))
again_inside reading (suc space) offset (Some type) bytes more fits error len (inr (inr refused)) uncut
    (inr (inr again)) =
    let extension = refused.0 in
    let payload = extension_payload extension in
    let header = link_ext_header_len (extension_header extension) in
    let holds = uncut extension refused.1 refused.2 in
    let nothing = uncut_left type bytes extension refused.1 refused.2 holds.0 in
    let longer = longer_extension type bytes more extension refused.1 refused.2 holds.0 in
    let begins = layer_laws.extension.begins type (bytes ++ more) (longer.0, []) longer.1 in
    let same = (layer_laws.extension.decided type (bytes ++ more) fits begins).one_value (again.0, again.1)
    (longer.0, []) again.2 longer.1 in
    let refusal = Again error len in
    let at_longer : RefusesInside reading space (offset + link_ext_header_len (extension_header longer.0))
    (extension_type longer.0) (extension_payload longer.0) refusal =
    subst (λ (part : ExtensionPart). RefusesInside reading space
    (offset + link_ext_header_len (extension_header part.0)) (extension_type part.0) (extension_payload part.0)
    refusal) same again.3 in
    let by_header = subst (λ (h : LinkExtHeader). RefusesInside reading space (offset + link_ext_header_len h)
    (extension_type longer.0) (extension_payload longer.0) refusal) longer.2.header at_longer in
    let by_type = subst (λ (t : Option EtherType). RefusesInside reading space (offset + header) t
    (extension_payload longer.0) refusal) longer.2.type by_header in
    let by_payload = subst (λ (l : List ℕ). RefusesInside reading space (offset + header) (extension_type extension) l
    refusal) longer.2.payload by_type in
    let parts = layer_laws.extension.bytes type (bytes ++ more) (longer.0, []) longer.1 in
    let payload_fits : AreBytes (payload ++ more) = subst AreBytes longer.2.payload
    (AreBytes-payload (bytes ++ more) parts.0 (extension_payload longer.0) [] fits parts.2) in
    let total : offset + header + length (payload ++ more) ≡ offset + length (bytes ++ more) =
    omega (
      arith,
      extension_len type bytes (extension, refused.1) refused.2,
      ap length nothing,
      length-append payload more,
      length-append bytes more,
    ) in
    subst (λ (n : ℕ). CountsMissing n (that_row error len)) total
    (again_inside reading space (offset + header) (extension_type extension) payload more payload_fits error len
    refused.3 holds.1 by_payload)

-- ---- frames

pub ethernet2_len : (header : Ethernet2Header) → FitsEthernet2 header → length (ethernet2_bytes header) ≡ 14
ethernet2_len header fits = omega (
  arith,
  fits.source_length,
  fits.destination_length,
  length-append {A = ℕ},
)

pub linux_sll_len : (header : LinuxSllHeader) → FitsLinuxSll header → length (linux_sll_bytes header) ≡ 16
linux_sll_len header fits = omega (
  arith,
  fits.sender_address_length,
  length-append header.sender_address (to_be_bytes w16 (protocol_number header.protocol_type)),
)

-- Without trailing bytes, header and payload are as long as the bytes.
pub complete_len : (bytes header payload left : List ℕ) → bytes ≡ (header ++ payload) ++ left → left ≡ []
    → length header + length payload ≡ length bytes
complete_len bytes header payload left parts nothing =
    omega (
      arith,
      ap length parts,
      ap length nothing,
      length-append (header ++ payload) left,
      length-append header payload,
    )

sll_counts : (bytes : List ℕ) (refusal : SllError) → RefusesLinuxSll bytes refusal
    → Counts (length bytes) (linux_sll_refusal refusal)
sll_counts bytes (sll_error.Len error) refused = linux_sll_tells.counts bytes error refused
sll_counts bytes (sll_error.Content error) refused = tt

-- A length error of a frame counts the available bytes.
pub frame_counts : (reading : Reading) (entry : Entry) (bytes : List ℕ) (error : LenError)
    → RefusesFrameIn reading entry bytes (slice_error.Len error) → HasNoShortLength entry bytes
    → CountsMissing (length bytes) error
frame_counts reading ethernet bytes error (inl refused) uncut =
    subst (Counts (length bytes)) (sym refused.2) (ethernet2_tells.counts bytes refused.0 refused.1)
frame_counts reading ethernet bytes error (inr refused) uncut =
    let frame = refused.0 in
    let len = complete_len bytes (ethernet2_bytes frame.header) frame.payload frame.left refused.1.parts refused.1.cut in
    let same : ethernet2_header_len + length frame.payload ≡ length bytes =
    omega (arith, len, ethernet2_len frame.header refused.1.fits) in
    subst (λ (n : ℕ). CountsMissing n error) same
    (inside_counts reading most_link_exts ethernet2_header_len (Some frame.header.ether_type) frame.payload
    (slice_error.Len error) refused.2 (uncut frame refused.1))
frame_counts reading linux_sll bytes error (inl refused) uncut =
    subst (Counts (length bytes)) (sym refused.2) (sll_counts bytes refused.0 refused.1)
frame_counts reading linux_sll bytes error (inr refused) uncut =
    let frame = refused.0 in
    let len = complete_len bytes (linux_sll_bytes frame.header) frame.payload frame.left refused.1.parts refused.1.cut in
    let same : linux_sll_header_len + length frame.payload ≡ length bytes =
    omega (arith, len, linux_sll_len frame.header refused.1.fits) in
    subst (λ (n : ℕ). CountsMissing n error) same
    (inside_counts reading most_link_exts linux_sll_header_len (protocol_ether_type frame.header.protocol_type)
    frame.payload (slice_error.Len error) refused.2 (uncut frame refused.1))
frame_counts reading (ether_type type) bytes error refused uncut =
    let same : 0 + length bytes ≡ length bytes = omega arith in
    subst (λ (n : ℕ). CountsMissing n error) same
    (inside_counts reading most_link_exts 0 (Some type) bytes (slice_error.Len error) refused uncut)
frame_counts reading ip bytes error refused uncut =
    let same : 0 + length bytes ≡ length bytes = omega arith in
    subst (λ (n : ℕ). CountsMissing n error) same
    (net_counts reading 0 (Some any_ip) bytes (slice_error.Len error) refused)

-- A link header is valid with any bytes after it, which belong to its payload.
pub longer_ethernet2 : (bytes more : List ℕ) (frame : Parts Ethernet2Header) → IsEthernet2 bytes frame
    → IsEthernet2 (bytes ++ more) (parts_of frame.header (frame.payload ++ more) [])
longer_ethernet2 bytes more frame is = record {
  fits = is.fits;
  parts = longer_payload bytes (ethernet2_bytes frame.header) frame.payload frame.left more is.parts is.cut;
  cut = refl;
}

pub longer_linux_sll : (bytes more : List ℕ) (frame : Parts LinuxSllHeader) → IsLinuxSll bytes frame
    → IsLinuxSll (bytes ++ more) (parts_of frame.header (frame.payload ++ more) [])
longer_linux_sll bytes more frame is = record {
  fits = is.fits;
  parts = longer_payload bytes (linux_sll_bytes frame.header) frame.payload frame.left more is.parts is.cut;
  cut = refl;
}

pub ethernet2_start : (bytes : List ℕ) (error : LenError) → RefusesEthernet2 bytes error
    → error.layer_start_offset ≡ 0
ethernet2_start bytes error refused =
    refusal_is (λ (e : LenError). e.layer_start_offset ≡ 0) (ethernet2_rows bytes) (refl, tt) error refused

abbrev pub SllStart : SllError → Type 0
SllStart (sll_error.Len error) = error.layer_start_offset ≡ 0
SllStart (sll_error.Content error) = ⊤

pub sll_at_start : (bytes : List ℕ) (refusal : SllError) → RefusesLinuxSll bytes refusal → SllStart refusal
sll_at_start bytes refusal refused =
    refusal_is SllStart (linux_sll_rows bytes) (refl, (tt, (tt, tt))) refusal refused

sll_start : (bytes : List ℕ) (refusal : SllError) (error : LenError)
    → RefusesLinuxSll bytes refusal
    → slice_error.Len error ≡ linux_sll_refusal refusal → error.layer_start_offset ≡ 0
sll_start bytes (sll_error.Len refusal) error refused same =
    let start : refusal.layer_start_offset ≡ 0 = sll_at_start bytes (sll_error.Len refusal) refused in
    let known : error ≡ refusal = cc in
    ap (λ (e : LenError). e.layer_start_offset) known ∙ start
sll_start bytes (sll_error.Content refusal) error refused same = absurd cc

again_frame : (reading : Reading) (entry : Entry) (bytes more : List ℕ) → AreBytes (bytes ++ more)
    → (error : LenError) (len : ℕ) → RefusesFrameIn reading entry bytes (slice_error.Len error)
    → HasNoShortLength entry bytes → RefusesFrameIn reading entry (bytes ++ more) (Again error len)
    → CountsMissing (length (bytes ++ more)) (that_row error len)
again_frame reading ethernet bytes more fits error len refused uncut (inl again) =
    subst (Counts (length (bytes ++ more))) (sym again.2) (ethernet2_tells.counts (bytes ++ more) again.0 again.1)
again_frame reading ethernet bytes more fits error len (inl refused) uncut (inr again) =
    let known : error ≡ refused.0 = let one = refused.2 in cc in
    let start = ap (λ (e : LenError). e.layer_start_offset) known ∙ ethernet2_start bytes refused.0 refused.1 in
    let after : ethernet2_header_len ≤ error.layer_start_offset =
    inside_starts reading most_link_exts ethernet2_header_len (Some again.0.header.ether_type) again.0.payload
    (Again error len) again.2 in
    absurd (omega (arith, start, after))
again_frame reading ethernet bytes more fits error len (inr refused) uncut (inr again) =
    let frame = refused.0 in
    let longer = parts_of frame.header (frame.payload ++ more) [] in
    let holds = longer_ethernet2 bytes more frame refused.1 in
    let same = (layer_laws.ethernet2 (bytes ++ more) fits).one_value again.0 longer again.1 holds in
    let complete = complete_len (bytes ++ more) (ethernet2_bytes frame.header) (frame.payload ++ more) [] holds.parts
    refl in
    let total : ethernet2_header_len + length (frame.payload ++ more) ≡ length (bytes ++ more) =
    omega (arith, complete, ethernet2_len frame.header refused.1.fits) in
    subst (λ (n : ℕ). CountsMissing n (that_row error len)) total
    (again_inside reading most_link_exts ethernet2_header_len (Some frame.header.ether_type) frame.payload more
    (AreBytes-payload (bytes ++ more) (ethernet2_bytes frame.header) (frame.payload ++ more) [] fits holds.parts)
    error len refused.2 (uncut frame refused.1)
    (subst (λ (f : Parts Ethernet2Header). RefusesInside reading most_link_exts ethernet2_header_len
    (Some f.header.ether_type) f.payload (Again error len)) same again.2))
again_frame reading linux_sll bytes more fits error len refused uncut (inl again) =
    subst (Counts (length (bytes ++ more))) (sym again.2) (sll_counts (bytes ++ more) again.0 again.1)
again_frame reading linux_sll bytes more fits error len (inl refused) uncut (inr again) =
    let start = sll_start bytes refused.0 error refused.1 refused.2 in
    let after : linux_sll_header_len ≤ error.layer_start_offset =
    inside_starts reading most_link_exts linux_sll_header_len (protocol_ether_type again.0.header.protocol_type)
    again.0.payload (Again error len) again.2 in
    absurd (omega (arith, start, after))
again_frame reading linux_sll bytes more fits error len (inr refused) uncut (inr again) =
    let frame = refused.0 in
    let longer = parts_of frame.header (frame.payload ++ more) [] in
    let holds = longer_linux_sll bytes more frame refused.1 in
    let same = (layer_laws.linux_sll (bytes ++ more) fits).one_value again.0 longer again.1 holds in
    let complete = complete_len (bytes ++ more) (linux_sll_bytes frame.header) (frame.payload ++ more) [] holds.parts
    refl in
    let total : linux_sll_header_len + length (frame.payload ++ more) ≡ length (bytes ++ more) =
    omega (arith, complete, linux_sll_len frame.header refused.1.fits) in
    subst (λ (n : ℕ). CountsMissing n (that_row error len)) total
    (again_inside reading most_link_exts linux_sll_header_len (protocol_ether_type frame.header.protocol_type)
    frame.payload more
    (AreBytes-payload (bytes ++ more) (linux_sll_bytes frame.header) (frame.payload ++ more) [] fits holds.parts)
    error len refused.2 (uncut frame refused.1)
    (subst (λ (f : Parts LinuxSllHeader). RefusesInside reading most_link_exts linux_sll_header_len
    (protocol_ether_type f.header.protocol_type) f.payload (Again error len)) same again.2))
again_frame reading (ether_type type) bytes more fits error len refused uncut again =
    let same : 0 + length (bytes ++ more) ≡ length (bytes ++ more) = omega arith in
    subst (λ (n : ℕ). CountsMissing n (that_row error len)) same
    (again_inside reading most_link_exts 0 (Some type) bytes more fits error len refused uncut again)
again_frame reading ip bytes more fits error len refused uncut again =
    let same : 0 + length (bytes ++ more) ≡ length (bytes ++ more) = omega arith in
    subst (λ (n : ℕ). CountsMissing n (that_row error len)) same
    (net_counts reading 0 (Some any_ip) (bytes ++ more) (Again error len) again)

-- With at least the missing number of bytes appended, the check does not fail again.
pub frame_not_again : (reading : Reading) (entry : Entry) (bytes more : List ℕ) → AreBytes (bytes ++ more)
    → (error : LenError) (len : ℕ) → RefusesFrameIn reading entry bytes (slice_error.Len error)
    → HasNoShortLength entry bytes → IsOfAvailableBytes error.len_source → (¬ HasExactLength error.layer)
    → error.required_len ≤ error.len + length more
    → RefusesFrameIn reading entry (bytes ++ more) (Again error len) → ⊥
frame_not_again reading entry bytes more fits error len refused uncut at_hand inexact enough again =
    short_once (length bytes) (length (bytes ++ more)) more error len
    (frame_counts reading entry bytes error refused uncut at_hand inexact)
    (again_frame reading entry bytes more fits error len refused uncut again at_hand inexact)
    (length-append bytes more) enough
