-- A built frame that is read as slices has its network layer in the bytes after the link part.
use Rattle.std.proofs.Common.{◌≡◌, ◌⊎◌, ℕ, zero, suc, ◌^◌, ◌<◌, ◌≤◌, List, [], ◌∷◌, ◌++◌, Option, Some, refl, sym, ap}
use Rattle.std.proofs.Common.{subst, ◌∙◌, inl, inr, arith}
use Rattle.std.proofs.lemmas.List.{append-nil, append_assoc}
use Rattle.ep_base.specs.EtherTypes.{provider_bridging_type, vlan_type}
use Rattle.ep_base.specs.Readings.{slices}
use Rattle.ep_base.specs.Tables.{Parts, parts_of}
use Rattle.ep_base.specs.declared.ether_type.EtherType.{EtherType}
use Rattle.ep_base.proofs.TableLemmas.{one_value}
use Rattle.ep_link.specs.Ethernet2.{FitsEthernet2, ethernet2_bytes}
use Rattle.ep_link.specs.LinkExtensions.{BeginsLinkExtension, IsMacsecType, IsVlanType, LinkExtension, macsec, vlan}
use Rattle.ep_link.specs.LinkSlices.{LinkLayer, ethernet2, linux_sll as sll}
use Rattle.ep_link.specs.LinuxSll.{linux_sll_bytes, protocol_ether_type}
use Rattle.ep_link.specs.Vlan.{FitsVlan, vlan_bytes}
use Rattle.ep_link.specs.declared.link.ethernet2_header.Ethernet2Header.{Ethernet2Header}
use Rattle.ep_link.specs.declared.link.linux_sll_header.LinuxSllHeader.{LinuxSllHeader}
use Rattle.ep_link.specs.declared.link_ext.single_vlan_header.SingleVlanHeader.{SingleVlanHeader}
use Rattle.ep_link.specs.declared.link_ext.vlan_header.VlanHeader.TheVariants as tags
use Rattle.ep_link.proofs.Ethernet2Lemmas.{ethernet2_is_read}
use Rattle.ep_link.proofs.LinkExtensionLemmas.{extension_begins}
use Rattle.ep_link.proofs.LinuxSllLemmas.{linux_sll_is_read}
use Rattle.ep_link.proofs.VlanLemmas.{vlan_is_read}
use Rattle.ep_ip.specs.IpPackets.{ipv4_part, ipv6_part}
use Rattle.ep_packet.specs.FrameBytes.{payload_after_exts}
use Rattle.ep_packet.specs.FrameVerdicts.{after_link}
use Rattle.ep_packet.specs.Frame.{IsFrame, IsInside, IsNetPart, any_ip, net_kind}
use Rattle.ep_packet.specs.IpHeaders.{ip_headers_type}
use Rattle.ep_packet.specs.Layers.{Layers, NetLayer}
use Rattle.ep_packet.specs.declared.entry.Entry.{Entry}
use Rattle.ep_packet.specs.declared.entry.Entry.TheVariants.{Ethernet as ethernet, LinuxSll as linux_sll}
use Rattle.ep_packet.specs.declared.ip_headers.IpHeaders.{IpHeaders}
use Rattle.ep_packet.specs.declared.ip_headers.IpHeaders.TheVariants as version
use Rattle.ep_transport.specs.TransportParts.{TransportLayer}
use Rattle.ep_build.specs.BuiltFrames.{Inside, as_ether_type, inside_type, link_part_bytes, link_with_type, tag_with_type}
use Rattle.ep_build.specs.Fits.{FitsCooked, FitsLink}
use Rattle.ep_build.specs.ReadBack.{IsEntryOf}
use Rattle.ep_build.specs.declared.link_part.LinkPart.{LinkPart}
use Rattle.ep_build.specs.declared.link_part.LinkPart.TheVariants as link
use Rattle.ep_build.proofs.LinkReadBackLemmas.{bare_cases, cooked_before, is_cooked, is_vlan, tagged, typed}

-- The network layer, with the transport layer in it, is in the bytes `inner`, after the link extensions that begin in
-- `bytes`.
record IsAfter (type : EtherType) (bytes inner : List ℕ) (extensions : List LinkExtension) (net : Option NetLayer)
    (transport : Option TransportLayer) : Type 0 where
  pub part : IsNetPart slices (net_kind type) inner net transport
  pub has_inner : payload_after_exts bytes extensions ≡ inner

-- The network layer of a frame, with the transport layer in it, is in the bytes `inner`, by its ether type or as IP.
record IsNetIn (type : EtherType) (bytes inner : List ℕ) (layers : Layers) : Type 0 where
  pub part : IsNetPart slices (net_kind type) inner layers.net layers.transport
      ⊎ IsNetPart slices (Some any_ip) inner layers.net layers.transport
  pub has_inner : payload_after_exts (after_link bytes layers.link) layers.link_exts ≡ inner

-- The network layer of a frame of IP headers, with the transport layer in it, is in the bytes `inner`.
pub record IsIpIn (bytes inner : List ℕ) (layers : Layers) : Type 0 where
  pub part : IsNetPart slices (Some any_ip) inner layers.net layers.transport
  pub has_inner : payload_after_exts (after_link bytes layers.link) layers.link_exts ≡ inner

-- ---- link extensions

-- After an ether type that begins no link extension, there is the network layer.
no_tag : (left : ℕ) (type : EtherType) (inner : List ℕ) (extensions : List LinkExtension) (net : Option NetLayer)
    (transport : Option TransportLayer) → ¬ BeginsLinkExtension type
    → IsInside slices left (Some type) inner extensions net transport
    → IsAfter type inner inner extensions net transport
no_tag zero type inner [] net transport none is = record { part = is; has_inner = refl }
no_tag zero type inner (extension ∷ others) net transport none is = absurd is
no_tag (suc left) type inner [] net transport none is = record { part = is.1; has_inner = refl }
no_tag (suc left) type inner (extension ∷ others) net transport none is =
    absurd (none (extension_begins type inner (extension, is.0.0) is.0.1))

-- After an ether type of VLAN tags, there are this tag and the layers in its payload.
record StartsWithTag (left : ℕ) (tag : SingleVlanHeader) (inner : List ℕ) (extensions : List LinkExtension)
    (net : Option NetLayer) (transport : Option TransportLayer) : Type 0 where
  pub others : List LinkExtension
  pub same : extensions ≡ vlan tag inner ∷ others
  pub rest : IsInside slices left (Some tag.ether_type) inner others net transport

one_tag : (left : ℕ) (type : EtherType) (tag : SingleVlanHeader) (inner : List ℕ) (extensions : List LinkExtension)
    (net : Option NetLayer) (transport : Option TransportLayer) → IsVlanType type → (IsMacsecType type → ⊥)
    → FitsVlan tag → IsInside slices (suc left) (Some type) (vlan_bytes tag ++ inner) extensions net transport
    → StartsWithTag left tag inner extensions net transport
one_tag left type tag inner [] net transport is_type not_macsec fits is = absurd (is.0 (inl is_type))
one_tag left type tag inner (vlan found payload ∷ others) net transport is_type not_macsec fits is =
    let same : parts_of found payload is.0.0 ≡ parts_of tag inner [] =
    one_value vlan_is_read (vlan_bytes tag ++ inner) _ _ is.0.1.1 (is_vlan tag inner fits) in record {
      others = others;
      same = ap (λ (p : Parts SingleVlanHeader). vlan p.header p.payload ∷ others) same;
      rest = subst (λ (p : Parts SingleVlanHeader).
          IsInside slices left (Some p.header.ether_type) p.payload others net transport) same is.1;
    }
one_tag left type tag inner (macsec found payload ∷ others) net transport is_type not_macsec fits is =
    absurd (not_macsec is.0.1.0)

-- After an ether type of VLAN tags, there are this tag and the network layer.
last_tag : (left : ℕ) (type : EtherType) (tag : SingleVlanHeader) (inner : List ℕ) (extensions : List LinkExtension)
    (net : Option NetLayer) (transport : Option TransportLayer) → IsVlanType type → (IsMacsecType type → ⊥)
    → FitsVlan tag → ¬ BeginsLinkExtension tag.ether_type
    → IsInside slices (suc left) (Some type) (vlan_bytes tag ++ inner) extensions net transport
    → IsAfter tag.ether_type (vlan_bytes tag ++ inner) inner extensions net transport
last_tag left type tag inner extensions net transport is_type not_macsec fits none is =
    let first = one_tag left type tag inner extensions net transport is_type not_macsec fits is in
    let after = no_tag left tag.ether_type inner first.others net transport none first.rest in record {
      part = after.part;
      has_inner = ap (payload_after_exts (vlan_bytes tag ++ inner)) first.same ∙ after.has_inner;
    }

-- ---- link headers

-- A frame that begins with this Ethernet II header has it, and the layers in its payload.
record HasLink (link : LinkLayer) (type : EtherType) (payload : List ℕ) (layers : Layers) : Type 0 where
  pub same : layers.link ≡ Some link
  pub rest : IsInside slices 3 (Some type) payload layers.link_exts layers.net layers.transport

has_ethernet2 : (entry : Entry) (header : Ethernet2Header) (payload bytes : List ℕ) (layers : Layers)
    → FitsEthernet2 header → bytes ≡ ethernet2_bytes header ++ payload → entry ≡ ethernet
    → IsFrame entry bytes layers → HasLink (ethernet2 header payload) header.ether_type payload layers
has_ethernet2 entry header payload bytes layers fits is_bytes is_entry frame =
    let is = subst (λ (e : Entry). IsFrame e bytes layers) is_entry frame in
    let same : is.0 ≡ parts_of header payload [] =
    one_value ethernet2_is_read bytes is.0 (parts_of header payload []) is.1
    (record { fits = fits; parts = is_bytes ∙ sym (append-nil (ethernet2_bytes header ++ payload)); cut = refl }) in
    record {
      same = is.2 ∙ ap (λ (p : Parts Ethernet2Header). Some (ethernet2 p.header p.payload)) same;
      rest = subst (λ (p : Parts Ethernet2Header). IsInside slices 3 (Some p.header.ether_type) p.payload
          layers.link_exts layers.net layers.transport) same is.3;
    }

-- The network layer after a link layer is in the bytes `inner` if it is so in the payload of the link layer.
after_header : {first : LinkLayer} {type : EtherType} {payload : List ℕ} (layers : Layers) (bytes inner : List ℕ)
    (last : EtherType) → HasLink first type payload layers
    → payload ≡ after_link bytes (Some first)
    → IsAfter last payload inner layers.link_exts layers.net layers.transport
    → IsNetIn last bytes inner layers
after_header layers bytes inner last has is_payload after = record {
  part = inl after.part;
  has_inner = ap (λ (l : Option LinkLayer). payload_after_exts (after_link bytes l) layers.link_exts) has.same
      ∙ ap (λ (b : List ℕ). payload_after_exts b layers.link_exts) (sym is_payload) ∙ after.has_inner;
}

has_cooked : (entry : Entry) (header : LinuxSllHeader) (type : EtherType) (payload : List ℕ) (layers : Layers)
    → FitsCooked header → header.packet_type.0 ≤ 7 → type.0 < 2 ^ 16 → 0x0600 ≤ type.0 → entry ≡ linux_sll
    → let present = cooked_before header type in IsFrame entry (linux_sll_bytes present ++ payload) layers
    → HasLink (sll present payload) type payload layers
has_cooked entry header type payload layers fits known small is_type is_entry frame =
    let present = cooked_before header type in
    let bytes = linux_sll_bytes present ++ payload in
    let is = subst (λ (e : Entry). IsFrame e bytes layers) is_entry frame in
    let same : is.0 ≡ parts_of present payload [] =
    one_value linux_sll_is_read bytes is.0 (parts_of present payload []) is.1
    (is_cooked header type payload fits known small is_type) in
    record {
      same = is.2 ∙ ap (λ (p : Parts LinuxSllHeader). Some (sll p.header p.payload)) same;
      rest = subst (λ (p : Parts LinuxSllHeader). IsInside slices 3 (protocol_ether_type p.header.protocol_type)
          p.payload layers.link_exts layers.net layers.transport) same is.3;
    }

-- ---- all link parts

-- The network layer after a link part.
net_in : (part : LinkPart) (inside : Inside) (entry : Entry) (inner : List ℕ) (layers : Layers)
    → FitsLink part → IsEntryOf part inside entry → let type = as_ether_type (inside_type inside) in
    type.0 < 2 ^ 16 → 0x0600 ≤ type.0 → ¬ BeginsLinkExtension type
    → let bytes = link_part_bytes (link_with_type part type) ++ inner in
    IsFrame entry bytes layers → IsNetIn type bytes inner layers
net_in link.Absent inside entry inner layers fits of small is_type none frame =
    let type = as_ether_type (inside_type inside) in elim (bare_cases inside entry of) [
      | inl is_ip ↦ let is = subst (λ (e : Entry). IsFrame e inner layers) is_ip frame in record {
        part = inr is.2;
        has_inner = ap (λ (l : Option LinkLayer). payload_after_exts (after_link inner l) layers.link_exts) is.0
            ∙ ap (payload_after_exts inner) is.1;
      }
      | inr is_entry ↦ let is = subst (λ (e : Entry). IsFrame e inner layers) is_entry frame in
          after_header layers inner inner type (record { same = is.0; rest = is.1 }) refl
          (no_tag 3 type inner layers.link_exts layers.net layers.transport none is.1)
    ]
net_in (link.Ethernet2 header) inside entry inner layers fits of small is_type none frame =
    let type = as_ether_type (inside_type inside) in
    let first = record header { ether_type = type } in
    let has = has_ethernet2 entry first inner (ethernet2_bytes first ++ inner) layers (typed header type fits small)
    refl of frame in
    after_header layers (ethernet2_bytes first ++ inner) inner type has refl
    (no_tag 3 type inner layers.link_exts layers.net layers.transport none has.rest)
net_in (link.Tagged header (tags.Single tag)) inside entry inner layers fits of small is_type none frame =
    let type = as_ether_type (inside_type inside) in
    let first = record header { ether_type = as_ether_type vlan_type } in
    let last = tag_with_type tag type in
    let bytes = (ethernet2_bytes first ++ vlan_bytes last) ++ inner in
    let has = has_ethernet2 entry first (vlan_bytes last ++ inner) bytes layers
    (typed header (as_ether_type vlan_type) fits.0 (omega arith))
    (append_assoc (ethernet2_bytes first) (vlan_bytes last) inner) of frame in
    after_header layers bytes inner type has refl
    (last_tag 2 (as_ether_type vlan_type) last inner layers.link_exts layers.net layers.transport (inl refl)
    (λ same. absurd (omega arith)) (tagged tag type fits.1 small) none has.rest)
net_in (link.Tagged header (tags.Double both)) inside entry inner layers fits of small is_type none frame =
    let type = as_ether_type (inside_type inside) in
    let first = record header { ether_type = as_ether_type provider_bridging_type } in
    let outer = tag_with_type both.outer (as_ether_type vlan_type) in
    let last = tag_with_type both.inner type in
    let rest = vlan_bytes last ++ inner in
    let bytes = (ethernet2_bytes first ++ (vlan_bytes outer ++ vlan_bytes last)) ++ inner in
    let has = has_ethernet2 entry first (vlan_bytes outer ++ rest) bytes layers
    (typed header (as_ether_type provider_bridging_type) fits.0 (omega arith))
    (append_assoc (ethernet2_bytes first) (vlan_bytes outer ++ vlan_bytes last) inner
    ∙ ap (λ (b : List ℕ). ethernet2_bytes first ++ b) (append_assoc (vlan_bytes outer) (vlan_bytes last) inner))
    of frame in
    let tag = one_tag 2 (as_ether_type provider_bridging_type) outer rest layers.link_exts layers.net layers.transport
    (inr (inl refl)) (λ same. absurd (omega arith)) (tagged both.outer (as_ether_type vlan_type) fits.1.0 (omega arith))
    has.rest in
    let after = last_tag 1 (as_ether_type vlan_type) last inner tag.others layers.net layers.transport (inl refl)
    (λ same. absurd (omega arith)) (tagged both.inner type fits.1.1 small) none tag.rest in
    after_header layers bytes inner type has refl (record {
      part = after.part;
      has_inner = ap (payload_after_exts (vlan_bytes outer ++ rest)) tag.same ∙ after.has_inner;
    })
net_in (link.LinuxSll header) inside entry inner layers fits of small is_type none frame =
    let type = as_ether_type (inside_type inside) in
    let present = cooked_before header type in
    let has = has_cooked entry header type inner layers fits of.0 small is_type of.1 frame in
    after_header layers (linux_sll_bytes present ++ inner) inner type has refl
    (no_tag 3 type inner layers.link_exts layers.net layers.transport none has.rest)

-- ---- IP headers

-- A network layer of the headers' ether type is one of an IP version.
as_ip : (headers : IpHeaders) (inner : List ℕ) (net : Option NetLayer) (transport : Option TransportLayer)
    → IsNetPart slices (net_kind (as_ether_type (ip_headers_type headers))) inner net transport
    ⊎ IsNetPart slices (Some any_ip) inner net transport
    → IsNetPart slices (Some any_ip) inner net transport
as_ip headers inner net transport (inr is) = is
as_ip (version.Ipv4 header extensions) inner net transport (inl is) =
    (is.0, (ipv4_part is.1.0, is.1.1, is.1.2), is.2, is.3)
as_ip (version.Ipv6 header extensions) inner net transport (inl is) =
    (is.0, (ipv6_part is.1.0, is.1.1, is.1.2), is.2, is.3)

ip_type : (headers : IpHeaders) → let type = as_ether_type (ip_headers_type headers) in
    (type.0 < 2 ^ 16) × (0x0600 ≤ type.0) × (¬ BeginsLinkExtension type)
ip_type (version.Ipv4 header extensions) = (omega arith, omega arith, λ begins. absurd (omega arith))
ip_type (version.Ipv6 header extensions) = (omega arith, omega arith, λ begins. absurd (omega arith))

-- The network layer of a frame of IP headers is in the bytes after the link part.
pub ip_in : (part : LinkPart) (headers : IpHeaders) (inside : Inside) (entry : Entry) (inner : List ℕ)
    (layers : Layers) → inside_type inside ≡ ip_headers_type headers → FitsLink part → IsEntryOf part inside entry
    → let bytes = link_part_bytes (link_with_type part (as_ether_type (inside_type inside))) ++ inner in
    IsFrame entry bytes layers → IsIpIn bytes inner layers
ip_in part headers inside entry inner layers same fits of frame =
    let is = ip_type headers in
    let found = net_in part inside entry inner layers fits of (omega (arith, same, is.0)) (omega (arith, same, is.1))
    (subst (λ (n : ℕ). ¬ BeginsLinkExtension (as_ether_type n)) (sym same) is.2) frame in
    record {
      part = as_ip headers inner layers.net layers.transport
          (subst (λ (n : ℕ). IsNetPart slices (net_kind (as_ether_type n)) inner layers.net layers.transport
          ⊎ IsNetPart slices (Some any_ip) inner layers.net layers.transport) same found.part);
      has_inner = found.has_inner;
    }
