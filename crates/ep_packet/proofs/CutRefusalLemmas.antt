-- A truncated frame is rejected for the missing bytes.
use Rattle.std.proofs.Common.{◌≡◌, ◌⊎◌, ℕ, zero, suc, ◌+◌, ◌<◌, ◌≤◌, ◌==◌, if◌then◌else◌, ◌-◌, Bool, false, List, [], ◌∷◌, ◌++◌, length, Option, Some, None, refl, sym, ap, subst, ◌∙◌, inl, inr, arith, length-append}
use Rattle.std.specs.Prelude.{◌&&◌, nat_le}
use Rattle.std.proofs.lemmas.Grind.{common_steps}
use Rattle.ep_base.specs.Bytes.{AreBytes}
use Rattle.ep_base.specs.IpPayload.{IpPayload}
use Rattle.ep_base.specs.Readings.{Reading, limited_by}
use Rattle.ep_base.specs.Missing.{IsTruncationError, IsTruncationLenError, ReportsTruncation, slice_end}
use Rattle.ep_base.specs.Tables.{Parts, parts_of}
use Rattle.ep_base.proofs.BytesLemmas.{AreBytes-payload}
use Rattle.ep_base.proofs.CutRefusalLemmas.{further_short, longer_rest}
use Rattle.ep_base.proofs.TableLemmas.{refused_is_not}
use Rattle.ep_base.specs.declared.ether_type.EtherType.{EtherType}
use Rattle.ep_base.specs.declared.err.len_error.LenError.{LenError}
use Rattle.ep_base.specs.declared.len_source.LenSource.{LenSource}
use Rattle.ep_base.specs.declared.len_source.LenSource.TheVariants as source
use Rattle.ep_base.specs.declared.err.ip.SliceError.TheVariants as ip_error
use Rattle.ep_base.specs.declared.err.ipv4.SliceError.TheVariants as ipv4_error
use Rattle.ep_base.specs.declared.err.ipv6.SliceError.TheVariants as ipv6_error
use Rattle.ep_base.specs.declared.err.linux_sll.HeaderSliceError.TheVariants as sll_error
use Rattle.ep_base.specs.declared.err.macsec.HeaderSliceError.TheVariants as extension_error
use Rattle.ep_link.specs.declared.link.ethernet2_header.Ethernet2Header.{Ethernet2Header}
use Rattle.ep_link.specs.declared.link.linux_sll_header.LinuxSllHeader.{LinuxSllHeader}
use Rattle.ep_link.specs.declared.link_ext.link_ext_header.LinkExtHeader.{LinkExtHeader}
use Rattle.ep_link.specs.Arp.{arp_truncation_limit}
use Rattle.ep_link.specs.Ethernet2.{ethernet2_bytes, ethernet2_header_len}
use Rattle.ep_link.specs.LinuxSll.{linux_sll_bytes, linux_sll_header_len, protocol_ether_type}
use Rattle.ep_link.specs.LinkExtensions.{IsLinkExtension, LinkExtension, extension_header, extension_payload, extension_type, link_ext_header_len, macsec, vlan}
use Rattle.ep_link.specs.Macsec.{macsec_payload_bytes}
use Rattle.ep_link.proofs.CutRefusalLemmas.{arp_cut, ethernet2_cut, extension_cut, linux_sll_cut}
use Rattle.ep_link.proofs.LinkExtensionLemmas.{extension_len}
use Rattle.ep_ip.specs.declared.ipv4_header.Ipv4Header.{Ipv4Header}
use Rattle.ep_ip.specs.declared.ipv6_header.Ipv6Header.{Ipv6Header}
use Rattle.ep_ip.specs.IpBytes.{ipv4_headers_len, ipv6_headers_len}
use Rattle.ep_ip.specs.Ipv6.{ipv6_bytes, ipv6_truncation_limit}
use Rattle.ep_ip.specs.IpPackets.{IpPacket, IpPart, IsIpv6, ip_truncation_limit, ipv4_part, ipv6_part}
use Rattle.ep_ip.proofs.CutRefusalLemmas.{ip_cut, ipv4_cut, ipv6_cut, longer_ipv4, longer_ipv6, open_limit, with_left, with_more}
use Rattle.ep_ip.proofs.IpBytesLemmas.{ipv6_len, ipv6_packet_bytes}
use Rattle.ep_transport.specs.TransportParts.{TransportLayer}
use Rattle.ep_transport.proofs.CutRefusalLemmas.{transport_with_trailing_bytes}
use Rattle.ep_transport.proofs.TransportLemmas.{transport_is_read}
use Rattle.ep_packet.specs.declared.entry.Entry.{Entry}
use Rattle.ep_packet.specs.declared.entry.Entry.TheVariants.{Ethernet as ethernet, LinuxSll as linux_sll, EtherType as ether_type, Ip as ip}
use Rattle.ep_packet.specs.declared.err.slice_error.SliceError.{SliceError}
use Rattle.ep_packet.specs.declared.err.slice_error.SliceError.TheVariants as slice_error
use Rattle.ep_packet.specs.FrameCuts.{frame_truncation_limit, net_truncation_limit, net_start}
use Rattle.ep_packet.specs.Layers.{NetLayer, arp, ip_layer, ipv4, ipv4_layer, ipv6, ipv6_layer, net_payload}
use Rattle.ep_packet.specs.Frame.{IsFrameIn, IsInside, IsNetLayer, IsNetPart, IsTransportAfterNet, NetKind, any_ip, most_link_exts, net_kind, only_arp, only_ipv4, only_ipv6}
use Rattle.ep_packet.specs.FrameRefusals.{RefusesExtensionAt, RefusesFrameIn, RefusesInside, RefusesNetLayer, RefusesNetPart, RefusesTransportIn, extension_refusal, with_further_offset, ip_refusal, ipv4_refusal, ipv6_refusal, len_refusal, linux_sll_refusal, transport_refusal}
use Rattle.ep_packet.specs.UncutTags.{CutsNothing}
use Rattle.ep_packet.proofs.DeciderLemmas.{ExtensionPart}
use Rattle.ep_packet.proofs.InsideLemmas.{inside_decided}
use Rattle.ep_packet.proofs.LayerLawLemmas.{layer_laws}
use Rattle.ep_packet.proofs.MissingLemmas.{ExtensionStart, RefusesAfter, SllStart, ethernet2_len, ethernet2_start, extension_at_start, linux_sll_len, longer_ethernet2, longer_extension, longer_linux_sll, sll_at_start, tag_len, uncut_left, complete_len}
use Rattle.ep_packet.proofs.NetLemmas.{layer_decided}

-- The error of a truncated frame for its missing bytes.
abbrev IsCut : (LenError → LenSource) → ℕ → ℕ → SliceError → Type 0
IsCut = IsTruncationError slice_error.Len

-- The error of a truncated frame with this network layer at `start`, for a layer at `offset` with the bytes `prefix`.
abbrev NetCut : Option NetLayer → ℕ → ℕ → List ℕ → List ℕ → SliceError → Type 0
NetCut net start offset prefix back =
    IsCut (net_truncation_limit net start) (offset + length prefix) (offset + length (prefix ++ back))

-- The error of a truncated layer, moved to its offset, is that of the truncated frame.
placed : {E : Type 0} (named : LenError → E) (place : E → SliceError) (offset : ℕ)
    (limit in_frame : LenError → LenSource)
    → ((missing : LenError) → place (named missing) ≡ slice_error.Len (with_further_offset offset missing))
    → (cut complete : ℕ) (refusal : E) (is : IsTruncationError named limit cut complete refusal)
    → limit is.missing ≡ in_frame (with_further_offset offset is.missing)
    → (error : SliceError) → error ≡ place refusal → IsCut in_frame (offset + cut) (offset + complete) error
placed named place offset limit in_frame places cut complete refusal is limits error same = record {
  missing = with_further_offset offset is.missing;
  is = same ∙ ap place is.is ∙ places is.missing;
  short = further_short offset cut complete is.missing.len_source is.missing is.short;
  source = is.source ∙ limits;
}

-- ---- network layer

moved_ipv6 : (start : ℕ) (header : Ipv6Header) (missing : LenError)
    → ipv6_truncation_limit 0 header missing ≡ ipv6_truncation_limit start header (with_further_offset start missing)
moved_ipv6 start header missing =
    let test : (missing.layer_start_offset == 40) ≡ (missing.layer_start_offset + start == start + 40) =
    grind (arith, common_steps) in
    ap (λ (b : Bool). if b && ((missing.len == 0) && (header.payload_length == 0)) then source.Ipv6HeaderPayloadLen
    else source.Slice) test

moved_arp : (start : ℕ) (missing : LenError) → arp_truncation_limit 0 missing ≡ arp_truncation_limit start
    (with_further_offset start missing)
moved_arp start missing =
    let test : (missing.layer_start_offset == 0) ≡ (missing.layer_start_offset + start == start) =
    grind (arith, common_steps) in
    ap (λ (b : Bool). if b && nat_le 8 missing.len then source.ArpAddrLengths else source.Slice) test

moved_ip : (start : ℕ) (part : IpPart) (missing : LenError)
    → ip_truncation_limit 0 part missing
    ≡ net_truncation_limit (Some (ip_layer part)) start (with_further_offset start missing)
moved_ip start (ipv4_part packet) missing = refl
moved_ip start (ipv6_part packet) missing = moved_ipv6 start packet.header missing

layer_cut : (reading : Reading) (kind : NetKind) (start : ℕ) (prefix back : List ℕ) → AreBytes (prefix ++ back)
    → (layer : NetLayer) → IsNetLayer reading kind (prefix ++ back) layer → (error : SliceError)
    → RefusesNetLayer reading kind start prefix error → NetCut (Some layer) start start prefix back error
layer_cut reading only_ipv4 start prefix back fits layer is error refused =
    let known = ipv4_cut reading prefix back fits is.0 is.1 refused.0 refused.1 in
    subst (λ (l : NetLayer). NetCut (Some l) start start prefix back error) (sym is.2)
    (placed ipv4_error.Len (ipv4_refusal start) start slice_end (net_truncation_limit (Some (ipv4_layer is.0)) start)
    (λ missing. refl) (length prefix) (length (prefix ++ back)) refused.0 known refl error refused.2)
layer_cut reading only_ipv6 start prefix back fits layer is error refused =
    let known = ipv6_cut reading prefix back fits is.0 is.1 refused.0 refused.1 in
    subst (λ (l : NetLayer). NetCut (Some l) start start prefix back error) (sym is.2)
    (placed ipv6_error.Len (ipv6_refusal start) start (ipv6_truncation_limit 0 is.0.header)
    (net_truncation_limit (Some (ipv6_layer is.0)) start) (λ missing. refl) (length prefix) (length (prefix ++ back))
    refused.0
    known
    (moved_ipv6 start is.0.header known.missing) error refused.2)
layer_cut reading only_arp start prefix back fits layer is error refused =
    let known = arp_cut prefix back fits is.0 is.1 refused.0 refused.1 in
    subst (λ (l : NetLayer). NetCut (Some l) start start prefix back error) (sym is.2)
    (placed (λ (e : LenError). e) (len_refusal start) start (arp_truncation_limit 0)
    (net_truncation_limit (Some (arp is.0.0)) start)
    (λ missing. refl) (length prefix) (length (prefix ++ back)) refused.0 known (moved_arp start known.missing) error
    refused.2)
layer_cut reading any_ip start prefix back fits layer is error refused =
    let known = ip_cut reading prefix back fits is.0 is.1 refused.0 refused.1 in
    subst (λ (l : NetLayer). NetCut (Some l) start start prefix back error) (sym is.2)
    (placed ip_error.Len (ip_refusal start) start (ip_truncation_limit 0 is.0)
    (net_truncation_limit (Some (ip_layer is.0)) start)
    (λ missing. refl) (length prefix) (length (prefix ++ back)) refused.0 known (moved_ip start is.0 known.missing) error
    refused.2)

-- ---- transport layer

-- A payload that has its transport layer is not rejected for it.
no_refusal : (reading : Reading) (offset : ℕ) (payload : IpPayload) (transport : Option TransportLayer)
    → IsTransportAfterNet reading (Some payload) transport → (error : SliceError)
    → RefusesTransportIn reading offset payload error → ⊥
no_refusal reading offset payload transport is error refused =
    refused_is_not (transport_is_read reading payload.number payload.fragmented) payload.bytes transport refused.0
    refused.1
    is

-- An IPv4 packet that is valid in the truncated bytes has its full payload, which is not rejected.
ipv4_after : (reading : Reading) (start : ℕ) (prefix back : List ℕ) (layer : NetLayer)
    (transport : Option TransportLayer)
    → IsTransportAfterNet reading (net_payload layer) transport → (packet : IpPacket Ipv4Header)
    → layer ≡ ipv4_layer packet → (error : SliceError) → RefusesAfter reading start error (ipv4_layer packet) → ⊥
ipv4_after reading start prefix back layer transport is packet same error refused =
    no_refusal reading (start + ipv4_headers_len packet.header packet.extensions) packet.payload transport
    (subst (λ (l : NetLayer). IsTransportAfterNet reading (net_payload l) transport) same is) error refused

-- The two counts of an IPv6 packet without trailing bytes: headers and payload, and header and content.
record Counted (packet : IpPacket Ipv6Header) (content : List ℕ) (bytes : List ℕ) : Type 0 where
  by_payload : ipv6_headers_len packet.extensions + length packet.payload.bytes ≡ length bytes
  by_content : 40 + length content ≡ length bytes

counted : (reading : Reading) (bytes : List ℕ) (packet : IpPacket Ipv6Header) (is : IsIpv6 reading bytes packet)
    → packet.left ≡ [] → Counted packet is.content bytes
counted reading bytes packet is nothing =
    let are = ipv6_packet_bytes reading bytes packet is in
    record {
      by_payload = omega (
        arith,
        ap length are.parts,
        are.len_is,
        ap length nothing,
        length-append (are.headers ++ packet.payload.bytes) packet.left,
        length-append are.headers packet.payload.bytes,
      );
      by_content = omega (
        arith,
        ap length is.cut.parts,
        ap length nothing,
        ipv6_len packet.header is.cut.fits,
        length-append (ipv6_bytes packet.header ++ is.content) packet.left,
        length-append (ipv6_bytes packet.header) is.content,
      );
    }

-- In a truncated IPv6 packet with a payload length of 0, the payload is limited by the truncation, and its error is
-- that of the truncated frame.
open_after : (reading : Reading) (start : ℕ) (prefix back : List ℕ) → AreBytes (prefix ++ back)
    → (transport : Option TransportLayer) (packet : IpPacket Ipv6Header) (is : IsIpv6 reading prefix packet)
    → packet.header.payload_length ≡ 0 → packet.left ≡ []
    → IsIpv6 reading (prefix ++ back) (with_more packet is.content back)
    → IsTransportAfterNet reading (net_payload (ipv6_layer (with_more packet is.content back))) transport
    → (error : SliceError) → RefusesAfter reading start error (ipv6_layer packet)
    → NetCut (Some (ipv6_layer (with_more packet is.content back))) start start prefix back error
open_after reading start prefix back fits transport packet is none nothing longer transport_is error refused =
    let payload = packet.payload.bytes in
    let limit = packet.payload.source in
    let headers = ipv6_headers_len packet.extensions in
    let offset = start + headers in
    let lens = counted reading prefix packet is nothing in
    let bytes = ipv6_packet_bytes reading (prefix ++ back) (with_more packet is.content back) longer in
    let payload_fits = AreBytes-payload (prefix ++ back) bytes.headers (payload ++ back) [] fits bytes.parts in
    let known = transport_with_trailing_bytes reading packet.payload.number packet.payload.fragmented payload back payload_fits
    transport
    transport_is refused.0 refused.1 in
    let missing = known.missing in
    let moved = record missing {
      layer_start_offset = missing.layer_start_offset + offset;
      len_source = limit;
    } in
    let here : offset + length payload ≡ start + length prefix = omega (arith, lens.by_payload) in
    let complete : offset + length (payload ++ back) ≡ start + length (prefix ++ back) =
    omega (arith, lens.by_payload, length-append payload back, length-append prefix back) in
    let extensions = headers - 40 in
    let after : missing.layer_start_offset + extensions + missing.len ≡ length is.content =
    omega (arith, known.short.available, lens.by_payload, lens.by_content) in
    let place : missing.layer_start_offset + extensions + (start + 40) ≡ missing.layer_start_offset + offset =
    omega arith in
    record {
      missing = moved;
      is = refused.2 ∙ ap (transport_refusal offset limit) known.is
          ∙ ap (λ (s : LenSource). slice_error.Len (record missing {
            layer_start_offset = missing.layer_start_offset + offset;
            len_source = limited_by limit s;
          })) known.source;
      short = subst (λ (n : ℕ). IsTruncationLenError n (start + length (prefix ++ back)) moved) here
          (subst (λ (n : ℕ). IsTruncationLenError (offset + length payload) n moved) complete
          (further_short offset (length payload) (length (payload ++ back)) limit missing known.short));
      source = is.source
          ∙ open_limit start (missing.layer_start_offset + extensions) missing.len (length is.content)
          packet.header.payload_length after none
          ∙ ap (λ (n : ℕ). if (n == start + 40) && ((missing.len == 0) && (packet.header.payload_length == 0))
          then source.Ipv6HeaderPayloadLen else source.Slice) place;
    }

ipv6_after : (reading : Reading) (start : ℕ) (prefix back : List ℕ) → AreBytes (prefix ++ back) → (layer : NetLayer)
    → ((longer : IpPacket Ipv6Header) → IsIpv6 reading (prefix ++ back) longer → layer ≡ ipv6_layer longer)
    → (transport : Option TransportLayer) → IsTransportAfterNet reading (net_payload layer) transport
    → (packet : IpPacket Ipv6Header) → IsIpv6 reading prefix packet → (error : SliceError)
    → RefusesAfter reading start error (ipv6_layer packet) → NetCut (Some layer) start start prefix back error
ipv6_after reading start prefix back fits layer one transport transport_is packet is error refused =
    elim (longer_ipv6 reading prefix back packet is) [
      | inl is_valid ↦ absurd (no_refusal reading (start + ipv6_headers_len packet.extensions) packet.payload transport
          (subst (λ (l : NetLayer). IsTransportAfterNet reading (net_payload l) transport)
          (one (with_left packet back) is_valid) transport_is) error refused)
      | inr (none, nothing, is_valid) ↦
          let same = one (with_more packet is.content back) is_valid in
          subst (λ (l : NetLayer). NetCut (Some l) start start prefix back error) (sym same)
          (open_after reading start prefix back fits transport packet is none nothing is_valid
          (subst (λ (l : NetLayer). IsTransportAfterNet reading (net_payload l) transport) same transport_is) error
          refused)
    ]

after_cut : (reading : Reading) (kind : NetKind) (start : ℕ) (prefix back : List ℕ) → AreBytes (prefix ++ back)
    → (layer : NetLayer) → IsNetLayer reading kind (prefix ++ back) layer
    → (transport : Option TransportLayer) → IsTransportAfterNet reading (net_payload layer) transport
    → (here : NetLayer) → IsNetLayer reading kind prefix here
    → (error : SliceError) → RefusesAfter reading start error here → NetCut (Some layer) start start prefix back error
after_cut reading only_ipv4 start prefix back fits layer layer_is transport is here (packet, packet_is, same) error
    refused =
    let longer = with_left packet back in
    let one = (layer_decided layer_laws reading only_ipv4 start (prefix ++ back) fits).one_value layer
    (ipv4_layer longer)
    layer_is (longer, longer_ipv4 reading prefix back packet packet_is, refl) in
    absurd (ipv4_after reading start prefix back layer transport is packet one error
    (subst (RefusesAfter reading start error) same refused))
after_cut reading only_ipv6 start prefix back fits layer layer_is transport is here (packet, packet_is, same) error
    refused =
    ipv6_after reading start prefix back fits layer
    (λ longer is_valid. (layer_decided layer_laws reading only_ipv6 start (prefix ++ back) fits).one_value layer
    (ipv6_layer longer) layer_is (longer, is_valid, refl))
    transport is packet packet_is error (subst (RefusesAfter reading start error) same refused)
after_cut reading only_arp start prefix back fits layer layer_is transport is here here_is error refused =
    absurd (subst (RefusesAfter reading start error) here_is.2 refused)
after_cut reading any_ip start prefix back fits layer layer_is transport is here (ipv4_part packet, packet_is, same)
    error
    refused =
    let longer = with_left packet back in
    let one = (layer_decided layer_laws reading any_ip start (prefix ++ back) fits).one_value layer (ipv4_layer longer)
    layer_is (ipv4_part longer, longer_ipv4 reading prefix back packet packet_is, refl) in
    absurd (ipv4_after reading start prefix back layer transport is packet one error
    (subst (RefusesAfter reading start error) same refused))
after_cut reading any_ip start prefix back fits layer layer_is transport is here (ipv6_part packet, packet_is, same)
    error
    refused =
    ipv6_after reading start prefix back fits layer
    (λ longer is_valid. (layer_decided layer_laws reading any_ip start (prefix ++ back) fits).one_value layer
    (ipv6_layer longer) layer_is (ipv6_part longer, is_valid, refl))
    transport is packet packet_is error (subst (RefusesAfter reading start error) same refused)

-- The error of a truncated network layer, or of the transport layer in it, is that of the truncated frame.
net_cut : (reading : Reading) (start : ℕ) (kind : Option NetKind) (prefix back : List ℕ) → AreBytes (prefix ++ back)
    → (net : Option NetLayer) (transport : Option TransportLayer) → IsNetPart reading kind (prefix ++ back) net transport
    → (error : SliceError) → RefusesNetPart reading start kind prefix error → NetCut net start start prefix back error
net_cut reading start None prefix back fits net transport is error refused = absurd refused
net_cut reading start (Some kind) prefix back fits net transport (layer, layer_is, same, transport_is) error
    (inl refused) =
    subst (λ (n : Option NetLayer). NetCut n start start prefix back error) (sym same)
    (layer_cut reading kind start prefix back fits layer layer_is error refused)
net_cut reading start (Some kind) prefix back fits net transport (layer, layer_is, same, transport_is) error
    (inr refused) =
    subst (λ (n : Option NetLayer). NetCut n start start prefix back error) (sym same)
    (after_cut reading kind start prefix back fits layer layer_is transport transport_is refused.0 refused.1 error
    refused.2)

-- ---- link extensions

-- The limit of a layer before the network layer is the end of the slice.
near_limit : (net : Option NetLayer) (start : ℕ) (missing : LenError) → missing.layer_start_offset < start
    → source.Slice ≡ net_truncation_limit net start missing
near_limit None start missing before = refl
near_limit (Some (ipv4 header extensions payload)) start missing before = refl
near_limit (Some (ipv6 header extensions payload)) start missing before =
    let test : (missing.layer_start_offset == start + 40) ≡ false = grind (arith, common_steps) in
    ap (λ (b : Bool). if b && ((missing.len == 0) && (header.payload_length == 0)) then source.Ipv6HeaderPayloadLen
    else source.Slice) (sym test)
near_limit (Some (arp packet)) start missing before =
    let test : (missing.layer_start_offset == start) ≡ false = grind (arith, common_steps) in
    ap (λ (b : Bool). if b && nat_le 8 missing.len then source.ArpAddrLengths else source.Slice) (sym test)

-- The network layer does not start before the link extensions.
start_after : (offset : ℕ) (extensions : List LinkExtension) → offset ≤ net_start offset extensions
start_after offset [] = omega arith
start_after offset (extension ∷ others) =
    omega (arith, start_after (offset + link_ext_header_len (extension_header extension)) others)

tag_cut : (offset : ℕ) (type : EtherType) (prefix back : List ℕ) → AreBytes (prefix ++ back) → (part : ExtensionPart)
    → IsLinkExtension type (prefix ++ back) part → (net : Option NetLayer) (start : ℕ) → offset < start
    → (error : SliceError) → RefusesExtensionAt offset type prefix error → NetCut net start offset prefix back error
tag_cut offset type prefix back fits part is net start before error refused =
    let known = extension_cut type prefix back fits part is refused.0 refused.1 in
    let at_start : known.missing.layer_start_offset ≡ 0 =
    subst ExtensionStart known.is (extension_at_start type prefix refused.0 refused.1) in
    placed extension_error.Len (extension_refusal offset) offset slice_end (net_truncation_limit net start)
    (λ missing. refl)
    (length prefix) (length (prefix ++ back)) refused.0 known
    (near_limit net start (with_further_offset offset known.missing) (omega (arith, at_start, before))) error refused.2

-- A link extension that is valid in the truncated bytes has no short length, or has its full payload.
part_holds : (type : EtherType) (prefix back : List ℕ) (extension : LinkExtension) (left : List ℕ)
    → IsLinkExtension type prefix (extension, left)
    → CutsNothing extension ⊎ IsLinkExtension type (prefix ++ back) (extension, left ++ back)
part_holds type prefix back (vlan tag payload) left is = inl tt
part_holds type prefix back (macsec tag payload) left is =
    elim is.1.cut [
      | inl demanded ↦ inr (
        is.0,
        record {
          encoded = is.1.encoded;
          encodes = is.1.encodes;
          parts = longer_rest prefix (is.1.encoded ++ macsec_payload_bytes payload) left back is.1.parts;
          cut = inl demanded;
        },
        is.2,
      )
      | inr complete ↦ inl complete.0
    ]

-- The layers of a link extension's payload.
abbrev HoldsAfterLink : Reading → ℕ → List LinkExtension → Option NetLayer → Option TransportLayer → ExtensionPart → Type 0
HoldsAfterLink reading space others net transport part =
    IsInside reading space (extension_type part.0) (extension_payload part.0) others net transport

inside_cut : (reading : Reading) (space offset : ℕ) (type : Option EtherType) (prefix back : List ℕ)
    → AreBytes (prefix ++ back)
    → (extensions : List LinkExtension) (net : Option NetLayer) (transport : Option TransportLayer)
    → IsInside reading space type (prefix ++ back) extensions net transport
    → (error : SliceError) → RefusesInside reading space offset type prefix error
    → NetCut net (net_start offset extensions) offset prefix back error
inside_cut reading space offset None prefix back fits extensions net transport is error refused = absurd refused
inside_cut reading zero offset (Some type) prefix back fits [] net transport is error refused =
    net_cut reading offset (net_kind type) prefix back fits net transport is error refused
inside_cut reading zero offset (Some type) prefix back fits (extension ∷ others) net transport is error refused = absurd
    is
inside_cut reading (suc space) offset (Some type) prefix back fits [] net transport is error (inl refused) =
    net_cut reading offset (net_kind type) prefix back fits net transport is.1 error refused.1
inside_cut reading (suc space) offset (Some type) prefix back fits [] net transport is error (inr (inl refused)) =
    absurd (is.0 (layer_laws.extension.refused type prefix refused.0 refused.1))
inside_cut reading (suc space) offset (Some type) prefix back fits [] net transport is error (inr (inr refused)) =
    absurd (is.0 (layer_laws.extension.begins type prefix (refused.0, refused.1) refused.2))
inside_cut reading (suc space) offset (Some type) prefix back fits (extension ∷ others) net transport is error
    (inl refused) =
    absurd (refused.0 (layer_laws.extension.begins type (prefix ++ back) (extension, is.0.0) is.0.1))
inside_cut reading (suc space) offset (Some type) prefix back fits (extension ∷ others) net transport is error
    (inr (inl refused)) =
    let header = link_ext_header_len (extension_header extension) in
    tag_cut offset type prefix back fits (extension, is.0.0) is.0.1 net (net_start (offset + header) others)
    (omega (arith, tag_len (extension_header extension), start_after (offset + header) others)) error refused
inside_cut reading (suc space) offset (Some type) prefix back fits (extension ∷ others) net transport is error
    (inr (inr (here, left, here_is, refused))) =
    let begins = layer_laws.extension.begins type (prefix ++ back) (extension, is.0.0) is.0.1 in
    let one = (layer_laws.extension.decided type (prefix ++ back) fits begins).one_value (extension, is.0.0) in
    elim (part_holds type prefix back here left here_is) [
      | inr is_valid ↦
          let same = one (here, left ++ back) is.0.1 is_valid in
          let holds = subst (HoldsAfterLink reading space others net transport) same is.1 in
          let parts = layer_laws.extension.bytes type (prefix ++ back) (here, left ++ back) is_valid in
          let payload_fits = AreBytes-payload (prefix ++ back) parts.0 (extension_payload here) (left ++ back) fits
          parts.2 in
          absurd ((inside_decided layer_laws reading space (offset + link_ext_header_len (extension_header here))
          (extension_type here) (extension_payload here) payload_fits).not_both (others, net, transport) error holds
          refused)
      | inl uncut ↦
          let payload = extension_payload here in
          let header = link_ext_header_len (extension_header here) in
          let longer = longer_extension type prefix back here left here_is uncut in
          let same = one (longer.0, []) is.0.1 longer.1 in
          let holds = subst (HoldsAfterLink reading space others net transport) same is.1 in
          let by_type = subst (λ (t : Option EtherType). IsInside reading space t (extension_payload longer.0) others net
          transport) longer.2.type holds in
          let inside = subst (λ (l : List ℕ). IsInside reading space (extension_type here) l others net transport)
          longer.2.payload by_type in
          let parts = layer_laws.extension.bytes type (prefix ++ back) (longer.0, []) longer.1 in
          let payload_fits : AreBytes (payload ++ back) = subst AreBytes longer.2.payload
          (AreBytes-payload (prefix ++ back) parts.0 (extension_payload longer.0) [] fits parts.2) in
          let same_header : extension_header here ≡ extension_header extension =
          sym (ap (λ (p : ExtensionPart). extension_header p.0) same ∙ longer.2.header) in
          let nothing = uncut_left type prefix here left here_is uncut in
          let cut : offset + header + length payload ≡ offset + length prefix =
          omega (arith, extension_len type prefix (here, left) here_is, ap length nothing) in
          let complete : offset + header + length (payload ++ back) ≡ offset + length (prefix ++ back) =
          omega (arith, cut, length-append payload back, length-append prefix back) in
          let after = inside_cut reading space (offset + header) (extension_type here) payload back payload_fits others
          net
          transport inside error refused in
          let at_start = subst (λ (h : LinkExtHeader). IsCut (net_truncation_limit net (net_start
          (offset + link_ext_header_len h) others)) (offset + header + length payload)
          (offset + header + length (payload ++ back)) error) same_header after in
          let limit = net_truncation_limit net (net_start offset (extension ∷ others)) in
          subst (λ (n : ℕ). IsCut limit n (offset + length (prefix ++ back)) error) cut
          (subst (λ (n : ℕ). IsCut limit (offset + header + length payload) n error) complete at_start)
    ]

-- ---- frames

-- The limit of an error at the start of a frame is the end of the slice.
at_prefix : {E : Type 0} (named : LenError → E) (place : E → SliceError) (prefix back : List ℕ) (refusal : E)
    → ((missing : LenError) → place (named missing) ≡ slice_error.Len missing)
    → (is : IsTruncationError named slice_end (length prefix) (length (prefix ++ back)) refusal)
    → is.missing.layer_start_offset ≡ 0 → (net : Option NetLayer) (start : ℕ) → 0 < start
    → (error : SliceError) → error ≡ place refusal
    → IsCut (net_truncation_limit net start) (length prefix) (length (prefix ++ back)) error
at_prefix named place prefix back refusal places is at_start net start after error same = record {
  missing = is.missing;
  is = same ∙ ap place is.is ∙ places is.missing;
  short = is.short;
  source = is.source ∙ near_limit net start is.missing (omega (arith, at_start, after));
}

-- The error of a truncated payload after a header of a frame, counted from the start of the frame.
from_start : (limit : LenError → LenSource) (header : ℕ) (prefix payload back : List ℕ) (error : SliceError)
    → header + length payload ≡ length prefix
    → IsCut limit (header + length payload) (header + length (payload ++ back)) error
    → IsCut limit (length prefix) (length (prefix ++ back)) error
from_start limit header prefix payload back error len is =
    let complete : header + length (payload ++ back) ≡ length (prefix ++ back) =
    omega (arith, len, length-append payload back, length-append prefix back) in
    subst (λ (n : ℕ). IsCut limit n (length (prefix ++ back)) error) len
    (subst (λ (n : ℕ). IsCut limit (header + length payload) n error) complete is)

pub frame_cut : (reading : Reading) (entry : Entry)
    → ReportsTruncation (IsFrameIn reading entry) (RefusesFrameIn reading entry) slice_error.Len
    (frame_truncation_limit entry)
frame_cut reading ethernet prefix back fits layers is error (inl refused) =
    let known = ethernet2_cut prefix back fits is.0 is.1 refused.0 refused.1 in
    let at_start = ap (λ (e : LenError). e.layer_start_offset) (sym known.is) ∙ ethernet2_start prefix refused.0
    refused.1 in
    let after = start_after ethernet2_header_len layers.link_exts in
    at_prefix (λ (e : LenError). e) slice_error.Len prefix back refused.0 (λ missing. refl) known at_start layers.net
    (net_start ethernet2_header_len layers.link_exts) (omega (arith, after)) error refused.2
frame_cut reading ethernet prefix back fits layers is error (inr (frame, frame_is, refused)) =
    let longer = parts_of frame.header (frame.payload ++ back) [] in
    let is_valid = longer_ethernet2 prefix back frame frame_is in
    let same = (layer_laws.ethernet2 (prefix ++ back) fits).one_value is.0 longer is.1 is_valid in
    let inside = subst (λ (f : Parts Ethernet2Header). IsInside reading most_link_exts (Some f.header.ether_type)
    f.payload
    layers.link_exts layers.net layers.transport) same is.3 in
    let payload_fits = AreBytes-payload (prefix ++ back) (ethernet2_bytes frame.header) (frame.payload ++ back) [] fits
    is_valid.parts in
    let len = complete_len prefix (ethernet2_bytes frame.header) frame.payload frame.left frame_is.parts frame_is.cut in
    from_start (frame_truncation_limit ethernet layers) ethernet2_header_len prefix frame.payload back error
    (omega (arith, len, ethernet2_len frame.header frame_is.fits))
    (inside_cut reading most_link_exts ethernet2_header_len (Some frame.header.ether_type) frame.payload back
    payload_fits
    layers.link_exts layers.net layers.transport inside error refused)
frame_cut reading linux_sll prefix back fits layers is error (inl refused) =
    let known = linux_sll_cut prefix back fits is.0 is.1 refused.0 refused.1 in
    let at_start : known.missing.layer_start_offset ≡ 0 =
    subst SllStart known.is (sll_at_start prefix refused.0 refused.1) in
    let after = start_after linux_sll_header_len layers.link_exts in
    at_prefix sll_error.Len linux_sll_refusal prefix back refused.0 (λ missing. refl) known at_start layers.net
    (net_start linux_sll_header_len layers.link_exts) (omega (arith, after)) error refused.2
frame_cut reading linux_sll prefix back fits layers is error (inr (frame, frame_is, refused)) =
    let longer = parts_of frame.header (frame.payload ++ back) [] in
    let is_valid = longer_linux_sll prefix back frame frame_is in
    let same = (layer_laws.linux_sll (prefix ++ back) fits).one_value is.0 longer is.1 is_valid in
    let inside = subst (λ (f : Parts LinuxSllHeader). IsInside reading most_link_exts
    (protocol_ether_type f.header.protocol_type) f.payload layers.link_exts layers.net layers.transport) same is.3 in
    let payload_fits = AreBytes-payload (prefix ++ back) (linux_sll_bytes frame.header) (frame.payload ++ back) [] fits
    is_valid.parts in
    let len = complete_len prefix (linux_sll_bytes frame.header) frame.payload frame.left frame_is.parts frame_is.cut in
    from_start (frame_truncation_limit linux_sll layers) linux_sll_header_len prefix frame.payload back error
    (omega (arith, len, linux_sll_len frame.header frame_is.fits))
    (inside_cut reading most_link_exts linux_sll_header_len (protocol_ether_type frame.header.protocol_type)
    frame.payload
    back payload_fits layers.link_exts layers.net layers.transport inside error refused)
frame_cut reading (ether_type type) prefix back fits layers is error refused =
    from_start (frame_truncation_limit (ether_type type) layers) 0 prefix prefix back error (omega arith)
    (inside_cut reading most_link_exts 0 (Some type) prefix back fits layers.link_exts layers.net layers.transport is.1
    error refused)
frame_cut reading ip prefix back fits layers is error refused =
    subst (λ (l : List LinkExtension). IsCut (net_truncation_limit layers.net (net_start 0 l)) (length prefix)
    (length (prefix ++ back)) error) (sym is.1)
    (from_start (net_truncation_limit layers.net 0) 0 prefix prefix back error (omega arith)
    (net_cut reading 0 (Some any_ip) prefix back fits layers.net layers.transport is.2 error refused))
