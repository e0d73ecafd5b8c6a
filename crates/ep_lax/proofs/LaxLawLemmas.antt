-- Bytes with a valid first header are sliced laxly in exactly one way, and others are rejected with exactly one error.
use Rattle.std.proofs.Common.{◌≡◌, ◌⊎◌, ◌==◌, if◌then◌else◌, ℕ, zero, suc, ◌+◌, Bool, true, false, List, [], ◌∷◌, Option, Some, None, refl, sym, ap, subst, ◌∙◌, inl, inr, arith}
use Rattle.ep_base.specs.Bytes.{AreBytes}
use Rattle.ep_base.specs.EtherTypes.{ipv4_type, ipv6_type, arp_type}
use Rattle.ep_base.specs.IpPayload.{IpPayload}
use Rattle.ep_base.specs.LaxCut.{LaxCut}
use Rattle.ep_base.specs.Readings.{Reading, headers, slices}
use Rattle.ep_base.specs.Tables.{IsDecided, IsOne, Parts, RefusesAs, parts_of}
use Rattle.ep_base.specs.declared.ether_type.EtherType.{EtherType}
use Rattle.ep_base.specs.declared.len_source.LenSource.TheVariants as source
use Rattle.ep_base.specs.declared.err.ipv6_exts.HeaderSliceError.{HeaderSliceError}
use Rattle.ep_base.proofs.BytesLemmas.{AreBytes-back, AreBytes-payload}
use Rattle.ep_base.proofs.DecidedLemmas.{decided_as, one_as, one_either, refused_as, same_image}
use Rattle.ep_base.proofs.LaxCutLemmas.{lax_cut_is_one}
use Rattle.ep_base.proofs.TableLemmas.{decided}
use Rattle.ep_ext.specs.Chains.{IpVersion, ipv4, ipv6}
use Rattle.ep_ip.specs.IpPackets.{IpPacket}
use Rattle.ep_ip.specs.Ipv4.{RefusesIpv4Header, of_header_error}
use Rattle.ep_ip.specs.Ipv6.{RefusesIpv6Header, of_header_error as of_ipv6_header_error}
use Rattle.ep_link.specs.declared.link_ext.macsec_header.MacsecHeader.{MacsecHeader}
use Rattle.ep_link.specs.declared.link_ext.single_vlan_header.SingleVlanHeader.{SingleVlanHeader}
use Rattle.ep_link.specs.Arp.{Arp, IsArp, RefusesArp}
use Rattle.ep_link.specs.LinkExtensions.{LinkExtension, vlan, macsec, BeginsLinkExtension, IsVlanType, IsMacsecType, extension_header, extension_payload, extension_type, link_ext_header_len}
use Rattle.ep_link.specs.Macsec.{RefusesMacsecHeader, macsec_header_len, macsec_payload_bytes}
use Rattle.ep_link.specs.Vlan.{IsVlan, RefusesVlan, vlan_bytes}
use Rattle.ep_link.proofs.LinkExtensionLemmas.{cases_begins, vlan_not_macsec}
use Rattle.ep_link.proofs.MacsecLemmas.{macsec_header_is_read}
use Rattle.ep_link.proofs.VlanLemmas.{vlan_is_read}
use Rattle.ep_transport.specs.declared.transport_header.TransportHeader.{TransportHeader}
use Rattle.ep_transport.specs.declared.transport_header.TransportHeader.TheVariants as header
use Rattle.ep_transport.specs.TransportParts.{TransportLayer, IsTransportPart}
use Rattle.ep_packet.specs.declared.err.slice_error.SliceError.{SliceError}
use Rattle.ep_packet.specs.Frame.{NetKind, only_ipv4, only_ipv6, only_arp, net_kind}
use Rattle.ep_packet.specs.FrameRefusals.{RefusesTransportIn, extension_refusal, ipv4_refusal, ipv6_refusal, len_refusal, net_payload_offset, transport_refusal}
use Rattle.ep_packet.specs.Layers.{NetLayer, ipv4_layer, ipv6_layer}
use Rattle.ep_packet.proofs.LayerLawLemmas.{layer_laws}
use Rattle.ep_ip.specs.LaxIp.{LaxIp, IsLaxIpv4In, IsLaxIpv6In}
use Rattle.ep_lax.specs.LaxLayers.{LaxTransport, LaxNet, layer_cut, net_with, no_transport, no_net, error_with_layer}
use Rattle.ep_lax.specs.LaxMacsec.{IsLaxMacsec, lax_macsec_payload, macsec_stated_len}
use Rattle.ep_lax.specs.Lax.{IsHeaderLimitedLaxly, IsLimitedLaxly, IsLaxTransport, IsInsideIp, IsIpLayer, IsNoNet, IsLaxNet, IsLaxNetIn, IsLaxExtension, RefusesLaxExtension, IsLaxInsideIn, arp_net, chain_refusal}
use Rattle.ep_ip.proofs.LaxIpLemmas.{cut_fits, lax_ipv4_decided, lax_ipv4_fits, lax_ipv6_decided, lax_ipv6_fits}
use Rattle.ep_lax.proofs.LaxMacsecLemmas.{one_lax_macsec, payload_by_is, refused_no_lax_macsec}

-- There is exactly one value that is equal to this one.
one_same : {V : Type 0} (value : V) → IsOne (λ (other : V). other ≡ value)
one_same value = record { value = value; is = refl; only = λ other same. same }

-- ---- transport layer

pub header_cut_is_one : (outer : Bool) (header : TransportHeader) (payload : List ℕ)
    → IsOne (IsHeaderLimitedLaxly outer header payload)
header_cut_is_one outer (header.Udp udp) payload =
    one_as (λ (cut : LaxCut). layer_cut (header.Udp udp) cut.payload cut.incomplete)
    (lax_cut_is_one 8 udp.length source.UdpHeaderLen outer 8 payload (omega arith))
    (record { present = λ cut is. (cut, is, refl); back = λ lax is. is })
header_cut_is_one outer (header.Tcp tcp) payload = one_same (layer_cut (header.Tcp tcp) payload outer)
header_cut_is_one outer (header.Icmpv4 icmp) payload = one_same (layer_cut (header.Icmpv4 icmp) payload outer)
header_cut_is_one outer (header.Icmpv6 icmp) payload = one_same (layer_cut (header.Icmpv6 icmp) payload outer)

cut_is_one : (outer : Bool) (part : Option TransportLayer) → IsOne (IsLimitedLaxly outer part)
cut_is_one outer None = one_same (no_transport outer None)
cut_is_one outer (Some layer) = header_cut_is_one outer layer.header layer.payload

pub transport_is_one : (offset : ℕ) (outer : Bool) (payload : IpPayload) → AreBytes payload.bytes
    → IsOne (IsLaxTransport offset outer payload)
transport_is_one offset outer payload fits =
    one_either {Is = IsTransportPart headers payload.number payload.fragmented payload.bytes}
    {Refuses = RefusesTransportIn headers offset payload} {Present = IsLimitedLaxly outer}
    {Instead = λ (error : SliceError) (lax : LaxTransport). lax ≡ no_transport outer (Some (error_with_layer error))}
    (refused_as (transport_refusal offset payload.source)
    (layer_laws.transport headers payload.number payload.fragmented payload.bytes fits))
    (λ part is. cut_is_one outer part)
    (λ error refused. one_same (no_transport outer (Some (error_with_layer error))))

-- ---- network layer

inside_ip_is_one : (version : IpVersion) (offset len : ℕ) (incomplete : Bool) (payload : IpPayload)
    (stop : Option HeaderSliceError) → AreBytes payload.bytes
    → IsOne (IsInsideIp version offset len incomplete payload stop)
inside_ip_is_one version offset len incomplete payload None fits =
    transport_is_one (offset + len) incomplete payload fits
inside_ip_is_one version offset len incomplete payload (Some refused) fits =
    one_same (no_transport incomplete (Some (error_with_layer (chain_refusal version offset refused))))

pub ip_layer_is_one : {Header : Type 0} (version : IpVersion) (layer_of : IpPacket Header → NetLayer) (offset : ℕ)
    (lax : LaxIp Header) → AreBytes lax.packet.payload.bytes → IsOne (IsIpLayer version layer_of offset lax)
ip_layer_is_one version layer_of offset lax fits =
    one_as (net_with (layer_of lax.packet) lax.incomplete)
    (inside_ip_is_one version offset (net_payload_offset (layer_of lax.packet)) lax.incomplete lax.packet.payload lax.stop
    fits)
    (record { present = λ inside is. (inside, is, refl); back = λ net is. is })

-- For each error the result without network layer is unique.
no_net_is_one : (outer : Bool) (error : SliceError) → IsOne (λ (net : LaxNet). IsNoNet outer net error)
no_net_is_one outer error = one_same (no_net outer (Some (error_with_layer error)))

-- An ether type names no network layer, or IPv4, IPv6 or ARP.
kind_by : (is_ipv4 is_ipv6 is_arp : Bool)
    → let kind = if is_ipv4 then Some only_ipv4 else if is_ipv6 then Some only_ipv6 else if is_arp then Some only_arp
    else None in (kind ≡ None) ⊎ ((kind ≡ Some only_ipv4) ⊎ ((kind ≡ Some only_ipv6) ⊎ (kind ≡ Some only_arp)))
kind_by true is_ipv6 is_arp = inr (inl refl)
kind_by false true is_arp = inr (inr (inl refl))
kind_by false false true = inr (inr (inr refl))
kind_by false false false = inl refl

pub kind_cases : (type : EtherType) → (net_kind type ≡ None) ⊎ ((net_kind type ≡ Some only_ipv4)
    ⊎ ((net_kind type ≡ Some only_ipv6) ⊎ (net_kind type ≡ Some only_arp)))
kind_cases type = kind_by (type.0 == ipv4_type) (type.0 == ipv6_type) (type.0 == arp_type)

ipv4_is_one : (reading : Reading) (offset : ℕ) (outer : Bool) (bytes : List ℕ) → AreBytes bytes
    → IsOne (IsLaxNetIn reading offset outer (Some only_ipv4) bytes)
ipv4_is_one reading offset outer bytes fits =
    one_either {Is = IsLaxIpv4In reading outer bytes}
    {Refuses = RefusesAs (λ e. ipv4_refusal offset (of_header_error e)) (RefusesIpv4Header bytes)}
    {Present = IsIpLayer ipv4 ipv4_layer offset} {Instead = λ (error : SliceError) (net : LaxNet). IsNoNet outer net error}
    (refused_as (λ e. ipv4_refusal offset (of_header_error e)) (lax_ipv4_decided reading outer bytes fits))
    (λ lax is. ip_layer_is_one ipv4 ipv4_layer offset lax (lax_ipv4_fits reading outer bytes lax fits is))
    (λ error refused. no_net_is_one outer error)

ipv6_is_one : (reading : Reading) (offset : ℕ) (outer : Bool) (bytes : List ℕ) → AreBytes bytes
    → IsOne (IsLaxNetIn reading offset outer (Some only_ipv6) bytes)
ipv6_is_one reading offset outer bytes fits =
    one_either {Is = IsLaxIpv6In reading outer bytes}
    {Refuses = RefusesAs (λ e. ipv6_refusal offset (of_ipv6_header_error e)) (RefusesIpv6Header bytes)}
    {Present = IsIpLayer ipv6 ipv6_layer offset} {Instead = λ (error : SliceError) (net : LaxNet). IsNoNet outer net error}
    (refused_as (λ e. ipv6_refusal offset (of_ipv6_header_error e)) (lax_ipv6_decided reading outer bytes fits))
    (λ lax is. ip_layer_is_one ipv6 ipv6_layer offset lax (lax_ipv6_fits reading outer bytes lax fits is))
    (λ error refused. no_net_is_one outer error)

arp_is_one : (reading : Reading) (offset : ℕ) (outer : Bool) (bytes : List ℕ) → AreBytes bytes
    → IsOne (IsLaxNetIn reading offset outer (Some only_arp) bytes)
arp_is_one reading offset outer bytes fits =
    one_either {Is = IsArp bytes} {Refuses = RefusesAs (len_refusal offset) (RefusesArp bytes)}
    {Present = λ (part : Arp × List ℕ) (net : LaxNet). net ≡ arp_net part.0}
    {Instead = λ (error : SliceError) (net : LaxNet). IsNoNet outer net error}
    (refused_as (len_refusal offset) (layer_laws.arp bytes fits))
    (λ part is. one_same (arp_net part.0)) (λ error refused. no_net_is_one outer error)

-- Bytes of an ether type have exactly one network layer with the layers in it, or none.
pub lax_net_is_one : (reading : Reading) (offset : ℕ) (outer : Bool) (type : EtherType) (bytes : List ℕ) → AreBytes bytes
    → IsOne (IsLaxNetIn reading offset outer (net_kind type) bytes)
lax_net_is_one reading offset outer type bytes fits =
    let Net : Option NetKind → Type 0 = λ kind. IsOne (IsLaxNetIn reading offset outer kind bytes) in
    elim (kind_cases type) [
      | inl none ↦ subst Net (sym none) (one_same (no_net outer None))
      | inr (inl is) ↦ subst Net (sym is) (ipv4_is_one reading offset outer bytes fits)
      | inr (inr (inl is)) ↦ subst Net (sym is) (ipv6_is_one reading offset outer bytes fits)
      | inr (inr (inr is)) ↦ subst Net (sym is) (arp_is_one reading offset outer bytes fits)
    ]

pub net_is_one : (offset : ℕ) (outer : Bool) (type : EtherType) (bytes : List ℕ) → AreBytes bytes
    → IsOne (IsLaxNet offset outer (net_kind type) bytes)
net_is_one = lax_net_is_one slices

-- ---- link extensions

-- A link extension, and whether bytes of its payload are missing.
abbrev pub Tagged : Type 0
Tagged = LinkExtension × Bool

vlan_tagged : Bool → Parts SingleVlanHeader → Tagged
vlan_tagged outer tagged = (vlan tagged.header tagged.payload, outer)

vlan_present : (outer : Bool) (type : EtherType) (bytes : List ℕ) → IsVlanType type → (tagged : Parts SingleVlanHeader)
    → IsVlan bytes tagged → IsLaxExtension outer type bytes (vlan_tagged outer tagged)
unfolding vlan_tagged
vlan_present outer type bytes is_vlan tagged is =
    (is_vlan, subst (λ (l : List ℕ). IsVlan bytes (parts_of tagged.header tagged.payload l)) is.cut is, refl)

vlan_back : (outer : Bool) (type : EtherType) (bytes : List ℕ) → IsVlanType type → (tagged : Tagged)
    → IsLaxExtension outer type bytes tagged
    → (parts : Parts SingleVlanHeader) × IsVlan bytes parts × (tagged ≡ vlan_tagged outer parts)
unfolding vlan_tagged
vlan_back outer type bytes is_vlan (vlan tag payload, incomplete) is =
    (parts_of tag payload [], is.1, λ i. (vlan tag payload, is.2 i))
vlan_back outer type bytes is_vlan (macsec tag payload, incomplete) is =
    absurd (vlan_not_macsec type is_vlan is.0)

vlan_refused_back : (offset : ℕ) (type : EtherType) (bytes : List ℕ) → IsVlanType type → (error : SliceError)
    → RefusesLaxExtension offset type bytes error → RefusesAs (len_refusal offset) (RefusesVlan bytes) error
vlan_refused_back offset type bytes is_vlan error (inl refused) = refused.1
vlan_refused_back offset type bytes is_vlan error (inr refused) = absurd (vlan_not_macsec type is_vlan refused.0)

-- Bytes either begin with a MACsec packet, or their tag is rejected.
pub lax_macsec_decided : (outer : Bool) (bytes : List ℕ) → AreBytes bytes
    → IsDecided (IsLaxMacsec outer bytes) (RefusesMacsecHeader bytes)
lax_macsec_decided outer bytes fits =
    let law = decided macsec_header_is_read bytes fits in
    record {
      some = elim law.some [
        | inl found ↦
            let tag = found.0.0 in
            let len = macsec_header_len tag in
            let one = lax_cut_is_one len (macsec_stated_len tag) source.MacsecShortLength outer len found.0.1 (omega arith) in
            inl ((tag, one.value), record { after_tag = found.0.1; header = found.1; cut = one.is })
        | inr refused ↦ inr refused
      ];
      one_value = one_lax_macsec outer bytes;
      one_error = law.one_error;
      not_both = λ read error is refused. refused_no_lax_macsec outer bytes error refused read is;
    }

macsec_tagged : MacsecHeader × LaxCut → Tagged
macsec_tagged read = (macsec read.0 (lax_macsec_payload read.0 read.1), read.1.incomplete)

macsec_present : (outer : Bool) (type : EtherType) (bytes : List ℕ) → IsMacsecType type
    → (read : MacsecHeader × LaxCut) → IsLaxMacsec outer bytes read
    → IsLaxExtension outer type bytes (macsec_tagged read)
unfolding macsec_tagged
macsec_present outer type bytes is_macsec read is = (is_macsec, (read.1, is, refl, refl))

macsec_back : (outer : Bool) (type : EtherType) (bytes : List ℕ) → IsMacsecType type → (tagged : Tagged)
    → IsLaxExtension outer type bytes tagged
    → (read : MacsecHeader × LaxCut) × IsLaxMacsec outer bytes read × (tagged ≡ macsec_tagged read)
unfolding macsec_tagged
macsec_back outer type bytes is_macsec (vlan tag payload, incomplete) is =
    absurd (vlan_not_macsec type is.0 is_macsec)
macsec_back outer type bytes is_macsec (macsec tag payload, incomplete) is =
    ((tag, is.1.0), is.1.1, λ i. (macsec tag (is.1.2 i), is.1.3 i))

macsec_refused_back : (offset : ℕ) (type : EtherType) (bytes : List ℕ) → IsMacsecType type → (error : SliceError)
    → RefusesLaxExtension offset type bytes error
    → RefusesAs (extension_refusal offset) (RefusesMacsecHeader bytes) error
macsec_refused_back offset type bytes is_macsec error (inl refused) = absurd (vlan_not_macsec type refused.0 is_macsec)
macsec_refused_back offset type bytes is_macsec error (inr refused) = refused.1

-- Bytes of an ether type that names a link extension either begin with one or are rejected.
pub lax_extension_decided : (offset : ℕ) (outer : Bool) (type : EtherType) (bytes : List ℕ) → AreBytes bytes
    → BeginsLinkExtension type → IsDecided (IsLaxExtension outer type bytes) (RefusesLaxExtension offset type bytes)
lax_extension_decided offset outer type bytes fits (inl is_vlan) =
    decided_as (vlan_tagged outer) (λ (error : SliceError). error)
    (refused_as (len_refusal offset) (decided vlan_is_read bytes fits))
    (record { present = vlan_present outer type bytes is_vlan; back = vlan_back outer type bytes is_vlan })
    (same_image (λ error refused. inl (is_vlan, refused)) (vlan_refused_back offset type bytes is_vlan))
lax_extension_decided offset outer type bytes fits (inr is_macsec) =
    decided_as macsec_tagged (λ (error : SliceError). error)
    (refused_as (extension_refusal offset) (lax_macsec_decided outer bytes fits))
    (record { present = macsec_present outer type bytes is_macsec; back = macsec_back outer type bytes is_macsec })
    (same_image (λ error refused. inr (is_macsec, refused)) (macsec_refused_back offset type bytes is_macsec))

-- The ether type before a link extension names a link extension.
pub lax_extension_begins : (outer : Bool) (type : EtherType) (bytes : List ℕ) (tagged : Tagged)
    → IsLaxExtension outer type bytes tagged → BeginsLinkExtension type
lax_extension_begins outer type bytes (vlan tag payload, incomplete) is = inl is.0
lax_extension_begins outer type bytes (macsec tag payload, incomplete) is = inr is.0

pub lax_refused_begins : (offset : ℕ) (type : EtherType) (bytes : List ℕ) (error : SliceError)
    → RefusesLaxExtension offset type bytes error → BeginsLinkExtension type
lax_refused_begins offset type bytes error (inl refused) = inl refused.0
lax_refused_begins offset type bytes error (inr refused) = inr refused.0

-- The payload of a link extension consists of bytes.
pub lax_extension_fits : (outer : Bool) (type : EtherType) (bytes : List ℕ) (tagged : Tagged) → AreBytes bytes
    → IsLaxExtension outer type bytes tagged → AreBytes (extension_payload tagged.0)
lax_extension_fits outer type bytes (vlan tag payload, incomplete) fits is =
    AreBytes-payload bytes (vlan_bytes tag) payload [] fits is.1.parts
lax_extension_fits outer type bytes (macsec tag payload, incomplete) fits is =
    let cut = is.1.0 in
    let read = is.1.1 in
    let after = AreBytes-back read.header.encoded read.after_tag (subst AreBytes read.header.parts fits) in
    let len = macsec_header_len tag in
    let content = cut_fits len (macsec_stated_len tag) source.MacsecShortLength outer len read.after_tag cut
    after read.cut in
    subst AreBytes (sym (ap macsec_payload_bytes is.1.2 ∙ payload_by_is tag.ptype cut.source cut.payload)) content

-- ---- layers in bytes of an ether type

-- Link extensions and the network layer after them.
abbrev pub Inside : Type 0
Inside = List Tagged × LaxNet

-- The bytes contain these link extensions and this network layer.
abbrev pub HoldsLax : Reading → ℕ → ℕ → Bool → Option EtherType → List ℕ → Inside → Type 0
HoldsLax reading space offset outer type bytes inside =
    IsLaxInsideIn reading space offset outer type bytes inside.0 inside.1

-- The offset of the payload of a link extension.
abbrev pub following_tag : ℕ → Tagged → ℕ
following_tag offset tagged = offset + link_ext_header_len (extension_header tagged.0)

-- A link extension followed by the layers in its payload.
abbrev HoldsTag : Reading → ℕ → ℕ → Tagged → Inside → Type 0
HoldsTag reading space offset tagged inside =
    (others : Inside)
    × HoldsLax reading space (following_tag offset tagged) tagged.1 (extension_type tagged.0) (extension_payload tagged.0) others
    × (inside ≡ (tagged ∷ others.0, others.1))

-- No link extension is read, for this reason.
abbrev HoldsNone : Bool → SliceError → Inside → Type 0
HoldsNone outer error inside = inside ≡ ([], no_net outer (Some (error_with_layer error)))

-- Either the first link extension is rejected, or it is followed by the layers in its payload.
abbrev HoldsEither : Reading → ℕ → ℕ → Bool → EtherType → List ℕ → Inside → Type 0
HoldsEither reading space offset outer type bytes inside =
    ((error : SliceError) × RefusesLaxExtension offset type bytes error × HoldsNone outer error inside)
    ⊎ ((tagged : Tagged) × IsLaxExtension outer type bytes tagged × HoldsTag reading space offset tagged inside)

either_present : (reading : Reading) (space offset : ℕ) (outer : Bool) (type : EtherType) (bytes : List ℕ) (inside : Inside)
    → HoldsEither reading space offset outer type bytes inside → HoldsLax reading (suc space) offset outer (Some type) bytes inside
either_present reading space offset outer type bytes inside (inl refused) =
    subst (HoldsLax reading (suc space) offset outer (Some type) bytes) (sym refused.2)
    (inr (refused.0, refused.1, refl))
either_present reading space offset outer type bytes inside (inr found) =
    subst (HoldsLax reading (suc space) offset outer (Some type) bytes) (sym found.2.2) (found.1, found.2.1)

either_back : (reading : Reading) (space offset : ℕ) (outer : Bool) (type : EtherType) (bytes : List ℕ) → BeginsLinkExtension type
    → (inside : Inside) → HoldsLax reading (suc space) offset outer (Some type) bytes inside
    → HoldsEither reading space offset outer type bytes inside
either_back reading space offset outer type bytes begins ([], net) (inl none) = absurd (none.0 begins)
either_back reading space offset outer type bytes begins ([], net) (inr refused) =
    inl (refused.0, refused.1, λ i. ([], refused.2 i))
either_back reading space offset outer type bytes begins (tagged ∷ others, net) is =
    inr (tagged, is.0, ((others, net), is.1, refl))

bare : LaxNet → Inside
bare net = ([], net)

bare_back : (reading : Reading) (offset : ℕ) (outer : Bool) (type : EtherType) (bytes : List ℕ) (inside : Inside)
    → HoldsLax reading zero offset outer (Some type) bytes inside
    → (net : LaxNet) × IsLaxNetIn reading offset outer (net_kind type) bytes net × (inside ≡ bare net)
unfolding bare
bare_back reading offset outer type bytes ([], net) is = (net, is, refl)
bare_back reading offset outer type bytes (tagged ∷ others, net) is = absurd is

none_back : (reading : Reading) (space offset : ℕ) (outer : Bool) (type : EtherType) (bytes : List ℕ) → (¬ BeginsLinkExtension type)
    → (inside : Inside) → HoldsLax reading (suc space) offset outer (Some type) bytes inside
    → (net : LaxNet) × IsLaxNetIn reading offset outer (net_kind type) bytes net × (inside ≡ bare net)
unfolding bare
none_back reading space offset outer type bytes none ([], net) (inl is) = (net, is.1, refl)
none_back reading space offset outer type bytes none ([], net) (inr refused) =
    absurd (none (lax_refused_begins offset type bytes refused.0 refused.1))
none_back reading space offset outer type bytes none (tagged ∷ others, net) is =
    absurd (none (lax_extension_begins outer type bytes tagged is.0))

bare_present : (reading : Reading) (offset : ℕ) (outer : Bool) (type : EtherType) (bytes : List ℕ) (net : LaxNet)
    → IsLaxNetIn reading offset outer (net_kind type) bytes net → HoldsLax reading zero offset outer (Some type) bytes (bare net)
unfolding bare
bare_present reading offset outer type bytes net is = is

without_extension : (reading : Reading) (space offset : ℕ) (outer : Bool) (type : EtherType) (bytes : List ℕ) → (¬ BeginsLinkExtension type)
    → (net : LaxNet) → IsLaxNetIn reading offset outer (net_kind type) bytes net
    → HoldsLax reading (suc space) offset outer (Some type) bytes (bare net)
unfolding bare
without_extension reading space offset outer type bytes none net is = inl (none, is)

-- Bytes of an ether type contain exactly one list of link extensions with one network layer.
pub lax_inside_is_one : (reading : Reading) (space offset : ℕ) (outer : Bool) (type : Option EtherType) (bytes : List ℕ) → AreBytes bytes
    → IsOne (HoldsLax reading space offset outer type bytes)
lax_inside_is_one reading space offset outer None bytes fits = record {
  value = ([], no_net outer None);
  is = (refl, refl);
  only = λ other is. λ i. (is.0 i, is.1 i);
}
lax_inside_is_one reading zero offset outer (Some type) bytes fits =
    one_as bare (lax_net_is_one reading offset outer type bytes fits)
    (record { present = bare_present reading offset outer type bytes; back = bare_back reading offset outer type bytes })
lax_inside_is_one reading (suc space) offset outer (Some type) bytes fits =
    elim (cases_begins type) [
      | inl begins ↦
          one_as {Is = HoldsEither reading space offset outer type bytes} (λ (inside : Inside). inside)
          (one_either {Is = IsLaxExtension outer type bytes} {Refuses = RefusesLaxExtension offset type bytes}
          {Present = HoldsTag reading space offset} {Instead = HoldsNone outer}
          (lax_extension_decided offset outer type bytes fits begins)
          (λ tagged is. one_as {Is = HoldsLax reading space (following_tag offset tagged) tagged.1 (extension_type tagged.0)
          (extension_payload tagged.0)}
          (λ (others : Inside). (tagged ∷ others.0, others.1))
          (lax_inside_is_one reading space (following_tag offset tagged) tagged.1 (extension_type tagged.0) (extension_payload tagged.0)
          (lax_extension_fits outer type bytes tagged fits is))
          (record { present = λ others is. (others, is, refl); back = λ inside is. is }))
          (λ error refused. one_same ([], no_net outer (Some (error_with_layer error)))))
          (same_image (either_present reading space offset outer type bytes) (either_back reading space offset outer type bytes begins))
      | inr none ↦
          one_as bare (lax_net_is_one reading offset outer type bytes fits)
          (record {
            present = without_extension reading space offset outer type bytes none;
            back = none_back reading space offset outer type bytes none;
          })
    ]

pub inside_is_one : (space offset : ℕ) (outer : Bool) (type : Option EtherType) (bytes : List ℕ) → AreBytes bytes
    → IsOne (HoldsLax slices space offset outer type bytes)
inside_is_one = lax_inside_is_one slices
