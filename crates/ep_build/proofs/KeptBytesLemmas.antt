-- A built frame is the bytes of the layers that are read from it.
use Rattle.std.proofs.Common.{◌≡◌, ℕ, List, [], ◌∷◌, ◌++◌, length, Option, Some, refl, sym, ap, subst, ◌∙◌}
use Rattle.std.proofs.lemmas.List.{append-nil, append_assoc}
use Rattle.std.specs.Option.{option_map_or}
use Rattle.ep_base.specs.declared.ip_number.IpNumber.{IpNumber}
use Rattle.ep_ext.specs.Chains.{parts_bytes}
use Rattle.ep_ext.specs.ExtensionParts.{ExtensionPart, authentication, destination_options, fragment, hop_by_hop}
use Rattle.ep_ext.specs.ExtensionParts.{part_bytes, routing}
use Rattle.ep_link.specs.Arp.{Arp, arp_bytes}
use Rattle.ep_link.specs.LinkExtensions.{LinkExtension}
use Rattle.ep_link.specs.LinkSlices.{LinkLayer, link_bytes}
use Rattle.ep_link.specs.declared.link.link_header.LinkHeader.{LinkHeader}
use Rattle.ep_link.specs.declared.link_ext.vlan_header.VlanHeader.TheVariants as tags
use Rattle.ep_packet.specs.IpHeaders.{headers_for, ip_header_bytes, ip_headers_parts, payload_of_headers, with_checksum}
use Rattle.ep_packet.specs.Layers.{Layers, NetLayer, arp}
use Rattle.ep_packet.specs.declared.ip_headers.IpHeaders.{IpHeaders}
use Rattle.ep_packet.specs.declared.ip_headers.IpHeaders.TheVariants as version
use Rattle.ep_build.specs.BuiltFrames.{as_ether_type, ip_frame, link_part_bytes, link_with_type}
use Rattle.ep_build.specs.KeptFields.{read_bytes, read_link_bytes, read_net_bytes, read_part_bytes, read_parts_bytes}
use Rattle.ep_build.specs.KeptFields.{read_tags_bytes}
use Rattle.ep_build.specs.declared.link_part.LinkPart.{LinkPart}
use Rattle.ep_build.specs.declared.link_part.LinkPart.TheVariants as link
use Rattle.ep_build.proofs.LinkReadBackLemmas.{IsLinkRead}
use Rattle.ep_build.proofs.NetReadBackLemmas.{layer_with}

-- A statement of a link layer and link extensions holds of equal ones.
pub of_equal_link : (Holds : Option LinkLayer → List LinkExtension → Type 0) (found first : Option LinkLayer)
    (extensions tags : List LinkExtension) → found ≡ first → extensions ≡ tags → Holds first tags
    → Holds found extensions
of_equal_link Holds found first extensions tags same same_tags holds =
    subst (λ (l : Option LinkLayer). Holds l extensions) (sym same) (subst (Holds first) (sym same_tags) holds)

-- ---- link part

-- The bytes are those of the link header and of the tags that are read.
abbrev AreOfLink : List ℕ → Option LinkLayer → List LinkExtension → Type 0
AreOfLink bytes found extensions = bytes ≡ read_link_bytes found ++ read_tags_bytes extensions

-- A written link part is the bytes of the link header and of the tags that are read.
link_is_read : (part : LinkPart) (type : ℕ) (inner : List ℕ) (found : Option LinkLayer)
    (extensions : List LinkExtension) → let written = link_with_type part (as_ether_type type) in
    IsLinkRead written inner found extensions → AreOfLink (link_part_bytes written) found extensions
link_is_read link.Absent type inner found extensions is =
    sym (ap (λ (h : Option LinkHeader). option_map_or link_bytes h [] ++ read_tags_bytes extensions) is.0
    ∙ ap read_tags_bytes is.1)
link_is_read (link.Ethernet2 given) type inner found extensions is =
    of_equal_link (AreOfLink (link_part_bytes (link_with_type (link.Ethernet2 given) (as_ether_type type))))
    found _ extensions [] is.0 is.1 (sym (append-nil _))
link_is_read (link.Tagged given (tags.Single tag)) type inner found extensions is =
    let written = link_with_type (link.Tagged given (tags.Single tag)) (as_ether_type type) in
    of_equal_link (AreOfLink (link_part_bytes written)) found _ extensions _ is.0 is.1 refl
link_is_read (link.Tagged given (tags.Double both)) type inner found extensions is =
    let written = link_with_type (link.Tagged given (tags.Double both)) (as_ether_type type) in
    of_equal_link (AreOfLink (link_part_bytes written)) found _ extensions _ is.0 is.1 refl
link_is_read (link.LinuxSll given) type inner found extensions is =
    of_equal_link (AreOfLink (link_part_bytes (link_with_type (link.LinuxSll given) (as_ether_type type))))
    found _ extensions [] is.0 is.1 (sym (append-nil _))

-- ---- IP headers

-- A written extension header has reserved bits 0.
part_is_read : (part : ExtensionPart) → part_bytes part ≡ read_part_bytes part
part_is_read (hop_by_hop header) = refl
part_is_read (destination_options header) = refl
part_is_read (routing header) = refl
part_is_read (fragment header) = refl
part_is_read (authentication header) = refl

parts_are_read : (parts : List ExtensionPart) → parts_bytes parts ≡ read_parts_bytes parts
parts_are_read [] = refl
parts_are_read (part ∷ parts) =
    ap (λ (b : List ℕ). b ++ parts_bytes parts) (part_is_read part)
    ∙ ap (λ (b : List ℕ). read_part_bytes part ++ b) (parts_are_read parts)

-- Written IP headers and their content are the bytes of the network layer that is read.
ip_is_read : (headers : IpHeaders) (last : IpNumber) (content : List ℕ)
    → let written = headers_for headers last (length content) in ip_frame headers last content
    ≡ read_net_bytes (Some (layer_with (with_checksum written) (payload_of_headers written last content)))
ip_is_read (version.Ipv4 header extensions) last content =
    let written = headers_for (version.Ipv4 header extensions) last (length content) in
    let bytes = ip_header_bytes (with_checksum written) in
    let parts = ip_headers_parts written in
    append_assoc bytes (parts_bytes parts) content
    ∙ ap (λ (b : List ℕ). bytes ++ (b ++ content)) (parts_are_read parts)
ip_is_read (version.Ipv6 header extensions) last content =
    let written = headers_for (version.Ipv6 header extensions) last (length content) in
    let bytes = ip_header_bytes (with_checksum written) in
    let parts = ip_headers_parts written in
    append_assoc bytes (parts_bytes parts) content
    ∙ ap (λ (b : List ℕ). bytes ++ (b ++ content)) (parts_are_read parts)

-- ---- frames

-- A link part and the bytes of the network layer after it are the bytes of the layers that are read.
frame_is_read : (part : LinkPart) (type : ℕ) (inner : List ℕ) (layers : Layers)
    → let written = link_with_type part (as_ether_type type) in
    IsLinkRead written inner layers.link layers.link_exts → inner ≡ read_net_bytes layers.net
    → link_part_bytes written ++ inner ≡ read_bytes layers
frame_is_read part type inner layers is net =
    let first = read_link_bytes layers.link in
    let tags = read_tags_bytes layers.link_exts in
    ap (λ (b : List ℕ). b ++ inner) (link_is_read part type inner layers.link layers.link_exts is)
    ∙ append_assoc first tags inner ∙ ap (λ (b : List ℕ). first ++ (tags ++ b)) net

-- The frame of IP headers and their content is the bytes of its layers.
pub ip_bytes_read : (part : LinkPart) (type : ℕ) (headers : IpHeaders) (last : IpNumber) (content : List ℕ)
    (layers : Layers) (layer : NetLayer) → let written = headers_for headers last (length content) in
    let link_part = link_with_type part (as_ether_type type) in
    IsLinkRead link_part (ip_frame headers last content) layers.link layers.link_exts → layers.net ≡ Some layer
    → layer ≡ layer_with (with_checksum written) (payload_of_headers written last content)
    → link_part_bytes link_part ++ ip_frame headers last content ≡ read_bytes layers
ip_bytes_read part type headers last content layers layer is has_net has_layer =
    frame_is_read part type (ip_frame headers last content) layers is
    (ip_is_read headers last content
    ∙ sym (ap read_net_bytes (has_net ∙ ap (λ (l : NetLayer). Some l) has_layer)))

-- The frame of an ARP packet is the bytes of its layers.
pub arp_bytes_read : (part : LinkPart) (type : ℕ) (packet : Arp) (layers : Layers)
    → let link_part = link_with_type part (as_ether_type type) in
    IsLinkRead link_part (arp_bytes packet ++ []) layers.link layers.link_exts → layers.net ≡ Some (arp packet)
    → link_part_bytes link_part ++ (arp_bytes packet ++ []) ≡ read_bytes layers
arp_bytes_read part type packet layers is has_net =
    frame_is_read part type (arp_bytes packet ++ []) layers is
    (append-nil (arp_bytes packet) ∙ sym (ap read_net_bytes has_net))
