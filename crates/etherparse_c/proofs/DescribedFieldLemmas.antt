-- The fields of a described packet are those of its layers.
use Rattle.std.proofs.Common.{◌≡◌, ◌≤◌, ℕ, zero, suc, ◌+◌, ◌-◌, List, [], ◌∷◌, ◌++◌, length}
use Rattle.std.proofs.Common.{replicate, Option, Some, None, ◌⊎◌, inl, inr, refl, sym, ap, subst, ◌∙◌, arith}
use Rattle.std.proofs.lemmas.List.{append-nil}
use Rattle.etherparse.specs.FrameBytes.{EncodesLink, EncodesNet, last_payload}
use Rattle.etherparse.specs.Layers.{Layers, NetLayer, ipv4, ipv6, arp}
use Rattle.etherparse.specs.LinkExtensions.{LinkExtension, EncodesTag, vlan, macsec}
use Rattle.etherparse.specs.LinkSlices.{LinkLayer, ethernet2, linux_sll, ether_payload, linux_sll_payload}
use Rattle.etherparse.specs.StrictFrames.{layers_in}
use Rattle.etherparse.specs.LaxLayers.{LaxLayers}
use Rattle.etherparse.specs.Tables.{parts_of}
use Rattle.etherparse.specs.TransportHeaders.{EncodesTransportHeader, transport_header_len}
use Rattle.etherparse.specs.TransportParts.{TransportLayer, EncodesTransport}
use Rattle.etherparse.specs.Types.Entry.{Entry}
use Rattle.etherparse.specs.Types.TransportHeader.{TransportHeader}
use Rattle.etherparse.specs.Types.TransportHeader.TheVariants as transport
use Rattle.etherparse_c.specs.declared.fields.Fields.{Fields}
use Rattle.etherparse_c.specs.declared.fields.TransportFields.{TransportFields}
use Rattle.etherparse_c.specs.declared.packet.Ip.{Ip}
use Rattle.etherparse_c.specs.declared.packet.Packet.{Packet}
use Rattle.etherparse_c.specs.declared.packet.Payload.{Payload}
use Rattle.etherparse_c.specs.Description.{description, header_kind, ip_in, link_len, link_part, net_kind, net_len}
use Rattle.etherparse_c.specs.Description.{net_offset, no_tag, part, payload_offset, payload_part, tag_len, tag_part}
use Rattle.etherparse_c.specs.Description.{tag_parts, tags_len, transport_kind, transport_len, transport_offset}
use Rattle.etherparse_c.specs.FieldAnswers.{AreFields, AreTagsAt, HoldsAt, IsFieldsAnswer, IsLinkAt, IsNetAt, IsTagAt}
use Rattle.etherparse_c.specs.FieldAnswers.{IsTransportAt, HasIcmpv4, HasIcmpv6, HasTcp, HasUdp}
use Rattle.etherparse_c.specs.Fields.{arp_fields_in, fields_in, header_fields, ip_fields_in, link_fields_in}
use Rattle.etherparse_c.specs.Fields.{no_tag_fields, port_fields, tag_fields, tag_fields_in, transport_fields_in}
use Rattle.etherparse_c.specs.LaxAnswers.{DescribesLax, lax_description}
use Rattle.etherparse_c.specs.Places.{AreAt, AreTagsAt as AreTagPlaces, Describes, bytes_at}

-- Bytes that are a header are the header, and then no bytes.
then_none : (bytes header : List ℕ) → bytes ≡ header → bytes ≡ header ++ []
then_none bytes header same = same ∙ sym (append-nil header)

then_nothing : (bytes header : List ℕ) → bytes ≡ header → bytes ≡ (header ++ []) ++ []
then_nothing bytes header same = then_none bytes (header ++ []) (then_none bytes header same)

-- ---- link header

link_at : (link : Option LinkLayer) (bytes : List ℕ) → link_len link ≤ length bytes
    → EncodesLink link (bytes_at bytes 0 (link_len link)) → IsLinkAt (link_part link) bytes (link_fields_in link)
link_at None bytes within encodes = inl (refl, refl)
link_at (Some (ethernet2 header payload)) bytes within (fits, same) = inr (inl (
  refl,
  (
    within,
    (
      parts_of header [] [],
      record { fits = fits; parts = then_nothing _ _ same; cut = refl },
      refl,
    ),
  ),
))
link_at (Some (linux_sll header payload)) bytes within (fits, same) = inr (inr (
  refl,
  (
    within,
    (
      parts_of header [] [],
      record { fits = fits; parts = then_nothing _ _ same; cut = refl },
      refl,
    ),
  ),
))
link_at (Some (ether_payload type source payload)) bytes within encodes = inl (refl, refl)
link_at (Some (linux_sll_payload protocol payload)) bytes within encodes = inl (refl, refl)

-- ---- tags

tag_at : (extension : LinkExtension) (bytes : List ℕ) (offset : ℕ) → offset + tag_len extension ≤ length bytes
    → EncodesTag extension (bytes_at bytes offset (tag_len extension))
    → IsTagAt (tag_part offset extension) bytes (tag_fields extension)
tag_at (vlan tag payload) bytes offset within (fits, same) = inr (inl (
  refl,
  (
    within,
    (parts_of tag [] [], record { fits = fits; parts = then_nothing _ _ same; cut = refl }, refl),
  ),
))
tag_at (macsec tag payload) bytes offset within encodes = inr (inr (
  refl,
  (
    within,
    ((tag, []), record { encoded = _; encodes = encodes; parts = sym (append-nil _) }, refl),
  ),
))

no_tags_at : (slots : ℕ) (bytes : List ℕ)
    → AreTagsAt (replicate slots no_tag) bytes (replicate slots no_tag_fields)
no_tags_at zero bytes = tt
no_tags_at (suc slots) bytes = (inl (refl, refl), no_tags_at slots bytes)

tags_at : (slots : ℕ) (extensions : List LinkExtension) (bytes : List ℕ) (offset : ℕ)
    → offset + tags_len extensions ≤ length bytes → AreTagPlaces bytes offset extensions
    → AreTagsAt (tag_parts offset extensions ++ replicate (slots - length extensions) no_tag) bytes
    (tag_fields_in slots extensions)
tags_at slots [] bytes offset within are =
    let all : slots - 0 ≡ slots = omega arith in
    subst (λ (n : ℕ). AreTagsAt (replicate n no_tag) bytes (replicate slots no_tag_fields)) (sym all)
    (no_tags_at slots bytes)
tags_at slots (extension ∷ others) bytes offset within (first, more) =
    let fewer : slots - length (extension ∷ others) ≡ (slots - 1) - length others = omega arith in
    let here : offset + tag_len extension ≤ length bytes = omega (arith, within) in
    let after : (offset + tag_len extension) + tags_len others ≤ length bytes = omega (arith, within) in (
      tag_at extension bytes offset here first,
      subst
          (λ (n : ℕ). AreTagsAt (tag_parts (offset + tag_len extension) others ++ replicate n no_tag) bytes
          (tag_fields_in (slots - 1) others))
          (sym fewer) (tags_at (slots - 1) others bytes (offset + tag_len extension) after more),
    )

-- ---- network layer

net_at : (net : Option NetLayer) (bytes : List ℕ) (offset : ℕ) → offset + net_len net ≤ length bytes
    → EncodesNet net (bytes_at bytes offset (net_len net))
    → IsNetAt (part (net_kind net) offset (net_len net)) (ip_in net) bytes (ip_fields_in offset net)
    (arp_fields_in offset net)
net_at None bytes offset within encodes = inl (refl, (refl, refl))
net_at (Some (ipv4 header extensions payload)) bytes offset within (prefix, after, encodes, parts, same) =
    inr (inr (inl (
      refl,
      ((within, ((header, after), record { encoded = prefix; encodes = encodes; parts = same }, refl)), refl),
    )))
net_at (Some (ipv6 header extensions payload)) bytes offset within (fits, (after, encodes, same)) = inr (inr (inr (
  refl,
  ((within, ((header, after), record { fits = fits; parts = same }, refl)), refl),
)))
net_at (Some (arp packet)) bytes offset within (fits, same) = inr (inl (
  refl,
  (refl, (within, ((packet, []), record { fits = fits; parts = then_none _ _ same }, refl))),
))

-- ---- transport layer

-- The header of a described transport layer is at its place, with its fields.
abbrev IsHeaderAt : ℕ → ℕ → ℕ → List ℕ → TransportFields → Type 0
IsHeaderAt kind offset len bytes fields =
    ((kind ≡ 1) × HoldsAt bytes offset len (HasIcmpv4 fields))
    ⊎ ((kind ≡ 6) × HoldsAt bytes offset len (HasTcp offset fields))
    ⊎ ((kind ≡ 17) × HoldsAt bytes offset len (HasUdp fields))
    ⊎ ((kind ≡ 58) × HoldsAt bytes offset len (HasIcmpv6 fields))

header_at : (header : TransportHeader) (bytes : List ℕ) (offset : ℕ)
    → offset + transport_header_len header ≤ length bytes
    → EncodesTransportHeader header (bytes_at bytes offset (transport_header_len header))
    → IsHeaderAt (header_kind header) offset (transport_header_len header) bytes
    (header_fields offset (bytes_at bytes offset (transport_header_len header)) header)
header_at (transport.Udp header) bytes offset within (fits, same) = inr (inr (inl (
  refl,
  (within, ((header, []), record { fits = fits; parts = then_none _ _ same }, refl)),
)))
header_at (transport.Tcp header) bytes offset within encodes = inr (inl (
  refl,
  (
    within,
    (
      parts_of header [] [],
      record { encoded = _; encodes = encodes; parts = sym (append-nil _); whole = refl },
      refl,
    ),
  ),
))
header_at (transport.Icmpv4 header) bytes offset within encodes = inl (
  refl,
  (
    within,
    (
      parts_of header [] [],
      record {
        encoded = _;
        encodes = encodes;
        parts = sym (append-nil _);
        ends = λ is. refl;
        whole = refl;
      },
      refl,
    ),
  ),
)
header_at (transport.Icmpv6 header) bytes offset within encodes = inr (inr (inr (
  refl,
  (
    within,
    (
      parts_of header [] [],
      record { encoded = _; encodes = encodes; parts = sym (append-nil _); whole = refl },
      refl,
    ),
  ),
)))

-- The fields of a transport layer at this offset, in a packet with this payload.
transport_at : (layer : Option TransportLayer) (described : Ip) (place : Payload) (bytes payload : List ℕ) (offset : ℕ)
    → offset + transport_len layer ≤ length bytes → place.offset + place.len ≤ length bytes
    → payload ≡ bytes_at bytes place.offset place.len
    → EncodesTransport layer (bytes_at bytes offset (transport_len layer))
    → IsTransportAt (part (transport_kind layer) offset (transport_len layer)) described place bytes
    (transport_fields_in offset (bytes_at bytes offset (transport_len layer)) described payload layer)
transport_at None described place bytes payload offset within ends same encodes =
    inl (refl, (ends, ap (port_fields described) same))
transport_at (Some layer) described place bytes payload offset within ends same encodes =
    inr (header_at layer.header bytes offset within encodes)

-- ---- all headers

are_fields : (layers : Layers) (bytes : List ℕ)
    → payload_offset layers + length (last_payload layers) ≤ length bytes
    → AreAt bytes layers (description layers) → AreFields (description layers) bytes (fields_in bytes layers)
are_fields layers bytes within at = record {
  link = link_at layers.link bytes (omega (arith, within)) at.link;
  tags = tags_at 3 layers.link_exts bytes (link_len layers.link) (omega (arith, within)) at.tags;
  net = net_at layers.net bytes (net_offset layers) (omega (arith, within)) at.net;
  transport = transport_at layers.transport (ip_in layers.net) (payload_part layers) bytes (last_payload layers)
      (transport_offset layers) (omega (arith, within)) within at.payload at.transport;
  header_checksum = refl;
  transport_checksum = refl;
}

-- An answer for bytes that have these fields is these fields.
only_fields : (packet : Packet) (bytes : List ℕ) (status : ℕ) (fields own : Fields)
    → IsFieldsAnswer packet bytes status fields → AreFields packet bytes own → (status ≡ 0) × (fields ≡ own)
only_fields packet bytes status fields own (inl (ok, are, only)) is = (ok, sym (only own is))
only_fields packet bytes status fields own (inr (unknown, none, no_other)) is = absurd (no_other own is)

-- The answer for the description of a frame is the fields of its layers.
pub frame_fields : (entry : Entry) (bytes : List ℕ) (layers : Layers) (packet : Packet) (status : ℕ) (fields : Fields)
    → payload_offset layers + length (last_payload layers) ≤ length bytes → Describes entry bytes layers packet
    → IsFieldsAnswer packet bytes status fields → (status ≡ 0) × (fields ≡ fields_in bytes layers)
frame_fields entry bytes layers packet status fields within describes answer =
    let at = subst (AreAt bytes layers) describes.numbers describes.places in
    only_fields packet bytes status fields (fields_in bytes layers) answer
    (subst (λ (p : Packet). AreFields p bytes (fields_in bytes layers)) (sym describes.numbers)
    (are_fields layers bytes within at))

-- The answer for the description of a lax packet is the fields of its layers.
pub lax_fields : (entry : Entry) (bytes : List ℕ) (read : LaxLayers) (packet : Packet) (status : ℕ) (fields : Fields)
    → payload_offset (layers_in read) + length (last_payload (layers_in read)) ≤ length bytes
    → DescribesLax entry bytes read packet → IsFieldsAnswer packet bytes status fields
    → (status ≡ 0) × (fields ≡ fields_in bytes (layers_in read))
lax_fields entry bytes read packet status fields within describes answer =
    let layers = layers_in read in
    let at : AreAt bytes layers (lax_description read) =
    subst (AreAt bytes layers) describes.numbers describes.places in
    let are = are_fields layers bytes within (record {
      link = at.link;
      tags = at.tags;
      net = at.net;
      transport = at.transport;
      payload = at.payload;
    }) in
    only_fields packet bytes status fields (fields_in bytes layers) answer
    (subst (λ (p : Packet). AreFields p bytes (fields_in bytes layers)) (sym describes.numbers) (record {
      link = are.link;
      tags = are.tags;
      net = are.net;
      transport = are.transport;
      header_checksum = are.header_checksum;
      transport_checksum = are.transport_checksum;
    }))
