-- A frame whose network layer is read after its link part is read by each entry of its first layer.
use Rattle.std.proofs.Common.{◌≡◌, ◌⊎◌, ℕ, ◌^◌, ◌<◌, ◌≤◌, List, [], ◌∷◌, ◌++◌, Option, Some, None, refl, sym, ap, subst}
use Rattle.std.proofs.Common.{◌∙◌, inl, inr, arith}
use Rattle.std.proofs.lemmas.List.{append-nil, append_assoc}
use Rattle.std.specs.Option.{option_and_then}
use Rattle.ep_base.specs.EtherTypes.{provider_bridging_type, vlan_type}
use Rattle.ep_base.specs.Readings.{Reading}
use Rattle.ep_base.specs.Tables.{parts_of}
use Rattle.ep_base.specs.declared.ether_type.EtherType.{EtherType}
use Rattle.ep_base.specs.declared.len_source.LenSource.TheVariants as source
use Rattle.ep_link.specs.Ethernet2.{FitsEthernet2, ethernet2_bytes}
use Rattle.ep_link.specs.LinkExtensions.{BeginsLinkExtension, LinkExtension, vlan}
use Rattle.ep_link.specs.LinkSlices.{LinkLayer, ethernet2, linux_sll as sll, ether_payload, link_header_of}
use Rattle.ep_link.specs.LinuxSll.{IsLinuxSll, ethernet_hardware, linux_sll_bytes}
use Rattle.ep_link.specs.declared.link.linux_sll_protocol_type.LinuxSllProtocolType.TheVariants as protocol
use Rattle.ep_link.specs.Vlan.{FitsVlan, IsVlan, vlan_bytes}
use Rattle.ep_link.specs.declared.link.ethernet2_header.Ethernet2Header.{Ethernet2Header}
use Rattle.ep_link.specs.declared.link.linux_sll_header.LinuxSllHeader.{LinuxSllHeader}
use Rattle.ep_link.specs.declared.link_ext.double_vlan_header.DoubleVlanHeader.{DoubleVlanHeader}
use Rattle.ep_link.specs.declared.link_ext.single_vlan_header.SingleVlanHeader.{SingleVlanHeader}
use Rattle.ep_link.specs.declared.link_ext.vlan_header.VlanHeader.TheVariants as tags
use Rattle.ep_packet.specs.FrameBytes.{payload_after_exts}
use Rattle.ep_packet.specs.FrameVerdicts.{after_link}
use Rattle.ep_packet.specs.Frame.{IsFrameIn, IsInside, IsNetPart, any_ip, net_kind}
use Rattle.ep_packet.specs.declared.entry.Entry.{Entry}
use Rattle.ep_packet.specs.declared.entry.Entry.TheVariants.{Ethernet as ethernet, EtherType as ether_type, Ip as ip, LinuxSll as linux_sll}
use Rattle.ep_packet.specs.Layers.{Layers, NetLayer}
use Rattle.ep_packet.specs.VlanTags.{vlan_ids_in}
use Rattle.ep_transport.specs.TransportParts.{TransportLayer}
use Rattle.ep_build.specs.BuiltFrames.{Inside, as_ether_type, arp_packet, ip_packet, transport_packet, inside_type}
use Rattle.ep_build.specs.BuiltFrames.{link_with_type, link_part_bytes, tag_with_type}
use Rattle.ep_build.specs.BuiltFragments.{link_vlan_ids}
use Rattle.ep_build.specs.Fits.{FitTags, FitsCooked, FitsLink}
use Rattle.ep_build.specs.ReadBack.{IsBareEntry, IsEntryOf}
use Rattle.ep_build.specs.declared.link_part.LinkPart.{LinkPart}
use Rattle.ep_build.specs.declared.link_part.LinkPart.TheVariants as link

-- The bytes, of an ether type, are this network layer with this transport layer, and no link extension.
pub record IsNet (reading : Reading) (type : EtherType) (bytes : List ℕ) (net : NetLayer)
    (transport : Option TransportLayer) : Type 0 where
  pub small : type.0 < 2 ^ 16
  pub ether_type : 0x0600 ≤ type.0
  pub begins_none : ¬ BeginsLinkExtension type
  pub part : IsNetPart reading (net_kind type) bytes (Some net) transport

-- The link layer and the link extensions that are read from a link part as it is written.
abbrev pub IsLinkRead : LinkPart → List ℕ → Option LinkLayer → List LinkExtension → Type 0
IsLinkRead link.Absent inner found extensions = (option_and_then link_header_of found ≡ None) × (extensions ≡ [])
IsLinkRead (link.Ethernet2 header) inner found extensions =
    (found ≡ Some (ethernet2 header inner)) × (extensions ≡ [])
IsLinkRead (link.Tagged header (tags.Single tag)) inner found extensions =
    (found ≡ Some (ethernet2 header (vlan_bytes tag ++ inner))) × (extensions ≡ vlan tag inner ∷ [])
IsLinkRead (link.Tagged header (tags.Double both)) inner found extensions =
    let rest = vlan_bytes both.inner ++ inner in
    (found ≡ Some (ethernet2 header (vlan_bytes both.outer ++ rest)))
    × (extensions ≡ vlan both.outer rest ∷ vlan both.inner inner ∷ [])
IsLinkRead (link.LinuxSll header) inner found extensions = (found ≡ Some (sll header inner)) × (extensions ≡ [])

-- The bytes are a frame with this link part and its VLAN identifiers, this network layer, of this ether type, and this
-- transport layer, whose network layer is in the bytes `inner`.
pub record IsFrameOf (reading : Reading) (entry : Entry) (bytes : List ℕ) (part : LinkPart) (type : ℕ)
    (inner : List ℕ) (net : NetLayer) (transport : Option TransportLayer) : Type 0 where
  pub layers : Layers
  pub is : IsFrameIn reading entry bytes layers
  pub has_link : IsLinkRead (link_with_type part (as_ether_type type)) inner layers.link layers.link_exts
  pub has_vlan_ids : vlan_ids_in layers.link_exts ≡ link_vlan_ids part
  pub has_net : layers.net ≡ Some net
  pub has_transport : layers.transport ≡ transport
  pub has_inner : payload_after_exts (after_link bytes layers.link) layers.link_exts ≡ inner

-- The layers of a frame, from its parts.
abbrev layers_after : Option LinkLayer → List LinkExtension → NetLayer → Option TransportLayer → Layers
layers_after first extensions net transport =
    record { link = first; link_exts = extensions; net = Some net; transport = transport }

-- ---- link headers

-- An Ethernet II header fits with another ether type.
pub typed : (header : Ethernet2Header) (type : EtherType) → FitsEthernet2 header → type.0 < 2 ^ 16
    → FitsEthernet2 (record header { ether_type = type })
typed header type fits small = record {
  source_length = fits.source_length;
  source_bytes = fits.source_bytes;
  destination_length = fits.destination_length;
  destination_bytes = fits.destination_bytes;
  ether_type = small;
}

-- An Ethernet II header before bytes of its ether type is read as a frame.
after_ethernet2 : (reading : Reading) (part : LinkPart) (type : ℕ) (header : Ethernet2Header) (inner : List ℕ)
    (extensions : List LinkExtension) (net : NetLayer) (transport : Option TransportLayer) → FitsEthernet2 header
    → IsInside reading 3 (Some header.ether_type) inner extensions (Some net) transport
    → IsLinkRead (link_with_type part (as_ether_type type)) (payload_after_exts inner extensions)
    (Some (ethernet2 header inner)) extensions → vlan_ids_in extensions ≡ link_vlan_ids part
    → IsFrameOf reading ethernet (ethernet2_bytes header ++ inner) part type
    (payload_after_exts inner extensions) net transport
after_ethernet2 reading part type header inner extensions net transport fits inside read vlan_ids = record {
  layers = layers_after (Some (ethernet2 header inner)) extensions net transport;
  is = (
    parts_of header inner [],
    record { fits = fits; parts = sym (append-nil (ethernet2_bytes header ++ inner)); cut = refl },
    refl,
    inside,
  );
  has_link = read;
  has_vlan_ids = vlan_ids;
  has_net = refl;
  has_transport = refl;
  has_inner = refl;
}

-- ---- VLAN tags

pub tagged : (tag : SingleVlanHeader) (type : EtherType) → FitsVlan tag → type.0 < 2 ^ 16
    → FitsVlan (tag_with_type tag type)
tagged tag type fits small = record { pcp = omega (arith, fits.pcp); vlan_id = fits.vlan_id; ether_type = small }

pub is_vlan : (tag : SingleVlanHeader) (inner : List ℕ) → FitsVlan tag
    → IsVlan (vlan_bytes tag ++ inner) (parts_of tag inner [])
is_vlan tag inner fits =
    record { fits = fits; parts = sym (append-nil (vlan_bytes tag ++ inner)); cut = refl }

-- The bytes of a frame are an Ethernet II header, the bytes of tags, and the bytes `inner`.
grouped : (reading : Reading) (header : Ethernet2Header) (tag_bytes bytes inner : List ℕ) (part : LinkPart) (type : ℕ)
    (net : NetLayer) (transport : Option TransportLayer) → tag_bytes ++ inner ≡ bytes
    → IsFrameOf reading ethernet (ethernet2_bytes header ++ bytes) part type inner net transport
    → IsFrameOf reading ethernet ((ethernet2_bytes header ++ tag_bytes) ++ inner) part type inner net transport
grouped reading header tag_bytes bytes inner part type net transport same is = subst
    (λ (b : List ℕ). IsFrameOf reading ethernet b part type inner net transport)
    (ap (λ (b : List ℕ). ethernet2_bytes header ++ b) (sym same)
    ∙ sym (append_assoc (ethernet2_bytes header) tag_bytes inner))
    is

-- An Ethernet II header and one tag before bytes of its ether type are read as a frame.
after_one : (reading : Reading) (given : Ethernet2Header) (tag : SingleVlanHeader) (type : EtherType)
    (inner : List ℕ) (net : NetLayer) (transport : Option TransportLayer) → FitsEthernet2 given → FitsVlan tag
    → IsNet reading type inner net transport → let part = link.Tagged given (tags.Single tag) in
    IsFrameOf reading ethernet (link_part_bytes (link_with_type part type) ++ inner) part type.0 inner net transport
after_one reading given tag type inner net transport fits tag_fits is =
    let part = link.Tagged given (tags.Single tag) in
    let header = record given { ether_type = as_ether_type vlan_type } in
    let read = tag_with_type tag type in
    let header_fits = typed given (as_ether_type vlan_type) fits (omega arith) in
    grouped reading header (vlan_bytes read) (vlan_bytes read ++ inner) inner part type.0 net transport refl
    (after_ethernet2 reading part type.0 header (vlan_bytes read ++ inner) (vlan read inner ∷ []) net transport
    header_fits
    (([], (inl refl, is_vlan read inner (tagged tag type tag_fits is.small))), (is.begins_none, is.part))
    (refl, refl) refl)

-- An Ethernet II header and two tags before bytes of the inner tag's ether type are read as a frame.
after_two : (reading : Reading) (given : Ethernet2Header) (both : DoubleVlanHeader) (type : EtherType)
    (inner : List ℕ) (net : NetLayer) (transport : Option TransportLayer) → FitsEthernet2 given
    → FitTags (tags.Double both) → IsNet reading type inner net transport
    → let part = link.Tagged given (tags.Double both) in
    IsFrameOf reading ethernet (link_part_bytes (link_with_type part type) ++ inner) part type.0 inner net transport
after_two reading given both type inner net transport fits tag_fits is =
    let part = link.Tagged given (tags.Double both) in
    let header = record given { ether_type = as_ether_type provider_bridging_type } in
    let outer = tag_with_type both.outer (as_ether_type vlan_type) in
    let second = tag_with_type both.inner type in
    let rest = vlan_bytes second ++ inner in
    let header_fits = typed given (as_ether_type provider_bridging_type) fits (omega arith) in
    let outer_fits = tagged both.outer (as_ether_type vlan_type) tag_fits.0 (omega arith) in
    grouped reading header (vlan_bytes outer ++ vlan_bytes second) (vlan_bytes outer ++ rest) inner part type.0 net
    transport (append_assoc (vlan_bytes outer) (vlan_bytes second) inner)
    (after_ethernet2 reading part type.0 header (vlan_bytes outer ++ rest)
    (vlan outer rest ∷ vlan second inner ∷ []) net transport header_fits (
      ([], (inr (inl refl), is_vlan outer rest outer_fits)),
      (
        ([], (inl refl, is_vlan second inner (tagged both.inner type tag_fits.1 is.small))),
        (is.begins_none, is.part),
      ),
    )
    (refl, refl) refl)

-- ---- Linux cooked captures

-- A Linux cooked capture header before a payload of this ether type.
abbrev pub cooked_before : LinuxSllHeader → EtherType → LinuxSllHeader
cooked_before header type = record header {
  arp_hrd_type = record { 0 = ethernet_hardware };
  protocol_type = protocol.EtherType type;
}

pub is_cooked : (header : LinuxSllHeader) (type : EtherType) (inner : List ℕ) → FitsCooked header
    → header.packet_type.0 ≤ 7 → type.0 < 2 ^ 16 → 0x0600 ≤ type.0 → let present = cooked_before header type in
    IsLinuxSll (linux_sll_bytes present ++ inner) (parts_of present inner [])
is_cooked header type inner fits known small is_type = record {
  fits = record {
    packet_type = known;
    arp_hrd_type = omega arith;
    sender_address_valid_length = fits.valid_length;
    sender_address_length = fits.address_length;
    sender_address = fits.address;
    protocol = small;
    kind = (inl refl, is_type);
  };
  parts = sym (append-nil (linux_sll_bytes (cooked_before header type) ++ inner));
  cut = refl;
}

cooked : (reading : Reading) (header : LinuxSllHeader) (type : EtherType) (inner : List ℕ) (net : NetLayer)
    (transport : Option TransportLayer) → FitsCooked header → header.packet_type.0 ≤ 7
    → IsNet reading type inner net transport → let part = link.LinuxSll header in IsFrameOf reading linux_sll
    (link_part_bytes (link_with_type part type) ++ inner) part type.0 inner net transport
cooked reading header type inner net transport fits known is =
    let present = cooked_before header type in record {
      layers = layers_after (Some (sll present inner)) [] net transport;
      is = (
        parts_of present inner [],
        is_cooked header type inner fits known is.small is.ether_type,
        refl,
        (is.begins_none, is.part),
      );
      has_link = (refl, refl);
      has_vlan_ids = refl;
      has_net = refl;
      has_transport = refl;
      has_inner = refl;
    }

-- ---- no link part

-- The entry of a frame without a link part is IP or its ether type.
pub bare_cases : (inside : Inside) (entry : Entry) → IsBareEntry inside entry
    → (entry ≡ ip) ⊎ (entry ≡ ether_type (as_ether_type (inside_type inside)))
bare_cases (ip_packet headers last) entry of = of
bare_cases (transport_packet headers after) entry of = of
bare_cases (arp_packet packet) entry of = inr of

bare : (reading : Reading) (inside : Inside) (entry : Entry) (inner : List ℕ) (net : NetLayer)
    (transport : Option TransportLayer) → (entry ≡ ip) ⊎ (entry ≡ ether_type (as_ether_type (inside_type inside)))
    → IsNet reading (as_ether_type (inside_type inside)) inner net transport
    → (entry ≡ ip → IsNetPart reading (Some any_ip) inner (Some net) transport)
    → IsFrameOf reading entry inner link.Absent (inside_type inside) inner net transport
bare reading inside entry inner net transport (inl is_ip) is any = subst
    (λ (e : Entry). IsFrameOf reading e inner link.Absent (inside_type inside) inner net transport)
    (sym is_ip)
    (record {
      layers = layers_after None [] net transport;
      is = (refl, refl, any is_ip);
      has_link = (refl, refl);
      has_vlan_ids = refl;
      has_net = refl;
      has_transport = refl;
      has_inner = refl;
    })
bare reading inside entry inner net transport (inr is_type) is any =
    let type = as_ether_type (inside_type inside) in subst
    (λ (e : Entry). IsFrameOf reading e inner link.Absent (inside_type inside) inner net transport)
    (sym is_type)
    (record {
      layers = layers_after (Some (ether_payload type source.Slice inner)) [] net transport;
      is = (refl, (is.begins_none, is.part));
      has_link = (refl, refl);
      has_vlan_ids = refl;
      has_net = refl;
      has_transport = refl;
      has_inner = refl;
    })

-- ---- all link parts

-- A link part is read by the entry of its first layer.
by_entry : (reading : Reading) (entry first : Entry) (part : LinkPart) (inside : Inside) (inner : List ℕ)
    (net : NetLayer) (transport : Option TransportLayer) → entry ≡ first → let type = inside_type inside in
    let bytes = link_part_bytes (link_with_type part (as_ether_type type)) ++ inner in
    IsFrameOf reading first bytes part type inner net transport
    → IsFrameOf reading entry bytes part type inner net transport
by_entry reading entry first part inside inner net transport of is =
    let type = inside_type inside in
    let bytes = link_part_bytes (link_with_type part (as_ether_type type)) ++ inner in
    subst (λ (e : Entry). IsFrameOf reading e bytes part type inner net transport) (sym of) is

-- A link part before its network layer is read as a frame.
pub frame_is : (reading : Reading) (part : LinkPart) (inside : Inside) (entry : Entry) (inner : List ℕ)
    (net : NetLayer) (transport : Option TransportLayer) → FitsLink part → IsEntryOf part inside entry
    → IsNet reading (as_ether_type (inside_type inside)) inner net transport
    → (entry ≡ ip → IsNetPart reading (Some any_ip) inner (Some net) transport)
    → IsFrameOf reading entry
    (link_part_bytes (link_with_type part (as_ether_type (inside_type inside))) ++ inner) part (inside_type inside)
    inner net transport
frame_is reading link.Absent inside entry inner net transport fits of is any =
    bare reading inside entry inner net transport (bare_cases inside entry of) is any
frame_is reading (link.Ethernet2 header) inside entry inner net transport fits of is any =
    let type = as_ether_type (inside_type inside) in
    let part = link.Ethernet2 header in
    let read = record header { ether_type = type } in
    by_entry reading entry ethernet part inside inner net transport of
    (after_ethernet2 reading part type.0 read inner [] net transport (typed header type fits is.small)
    (is.begins_none, is.part) (refl, refl) refl)
frame_is reading (link.Tagged header (tags.Single tag)) inside entry inner net transport fits of is any =
    by_entry reading entry ethernet (link.Tagged header (tags.Single tag)) inside inner net transport of
    (after_one reading header tag (as_ether_type (inside_type inside)) inner net transport fits.0 fits.1 is)
frame_is reading (link.Tagged header (tags.Double both)) inside entry inner net transport fits of is any =
    by_entry reading entry ethernet (link.Tagged header (tags.Double both)) inside inner net transport of
    (after_two reading header both (as_ether_type (inside_type inside)) inner net transport fits.0 fits.1 is)
frame_is reading (link.LinuxSll header) inside entry inner net transport fits of is any =
    by_entry reading entry linux_sll (link.LinuxSll header) inside inner net transport of.1
    (cooked reading header (as_ether_type (inside_type inside)) inner net transport fits of.0 is)
