-- The fragment in a frame of IP headers and a payload, defined from these parts alone, and its reading back (RFC 791,
-- 3.2; RFC 8200, 4.5).
use Rattle.std.specs.Prelude.{◌≡◌, ℕ, List, [], ◌∷◌, Option, Some}
use Rattle.std.specs.Option.{option_and_then}
use Rattle.ep_base.specs.IpPayload.{IpPayload}
use Rattle.ep_base.specs.Readings.{Reading}
use Rattle.ep_base.specs.declared.ip_number.IpNumber.{IpNumber}
use Rattle.ep_link.specs.declared.link_ext.vlan_header.VlanHeader.{VlanHeader}
use Rattle.ep_link.specs.declared.link_ext.vlan_header.VlanHeader.TheVariants as tags
use Rattle.ep_packet.specs.FrameFragments.{FrameFragment, fragment_of, ipv4_fragment, ipv6_fragment}
use Rattle.ep_packet.specs.Frame.{IsFrameIn}
use Rattle.ep_packet.specs.IpHeaders.{EndsExtensions, payload_of_headers}
use Rattle.ep_packet.specs.Layers.{Layers}
use Rattle.ep_packet.specs.declared.entry.Entry.{Entry}
use Rattle.ep_packet.specs.declared.ip_headers.IpHeaders.{IpHeaders}
use Rattle.ep_packet.specs.declared.ip_headers.IpHeaders.TheVariants as version
use Rattle.ep_build.specs.BuiltFrames.{built_frame, ip_frame_headers, ip_packet}
use Rattle.ep_build.specs.ReadBack.{IsEntryOf}
use Rattle.ep_build.specs.declared.link_part.LinkPart.{LinkPart}
use Rattle.ep_build.specs.declared.link_part.LinkPart.TheVariants as link

-- ---- parts of a frame

-- The identifiers of VLAN tags, from the outside in.
abbrev pub tag_ids : VlanHeader → List ℕ
tag_ids (tags.Single tag) = tag.vlan_id ∷ []
tag_ids (tags.Double both) = both.outer.vlan_id ∷ both.inner.vlan_id ∷ []

-- The identifiers of the VLAN tags of a link part, from the outside in.
abbrev pub link_vlan_ids : LinkPart → List ℕ
link_vlan_ids link.Absent = []
link_vlan_ids (link.Ethernet2 header) = []
link_vlan_ids (link.Tagged header both) = tag_ids both
link_vlan_ids (link.LinuxSll header) = []

-- The fragment that IP headers with a payload state: in the IPv4 header, or in the IPv6 fragment header, if present.
abbrev pub headers_carry : List ℕ → IpHeaders → IpPayload → Option FrameFragment
headers_carry vlan_ids (version.Ipv4 header extensions) payload = ipv4_fragment vlan_ids header payload
headers_carry vlan_ids (version.Ipv6 header extensions) payload =
    option_and_then (ipv6_fragment vlan_ids header payload) extensions.fragment

-- The fragment of a link part, IP headers, a protocol number and a payload: identifiers of the tags, addresses and
-- identification of the headers, the number, offset and flag of the headers, and the payload. None if the headers state
-- no fragment.
abbrev pub built_fragment : LinkPart → IpHeaders → IpNumber → List ℕ → Option FrameFragment
built_fragment part headers last payload =
    headers_carry (link_vlan_ids part) headers (payload_of_headers headers last payload)

-- ---- reading back

-- The bytes are a frame in this reading, which carries this fragment.
pub record CarriesFragment (reading : Reading) (entry : Entry) (bytes : List ℕ) (found : FrameFragment) : Type 0 where
  pub layers : Layers
  pub is : IsFrameIn reading entry bytes layers
  pub carries : fragment_of layers ≡ Some found

-- A frame built from a fragment carries that fragment, in both readings, for each entry of its first layer, if the
-- protocol number of the payload is no extension header of the version.
abbrev pub IsFragmentReadBack : LinkPart → IpHeaders → IpNumber → List ℕ → Type 0
IsFragmentReadBack part headers last payload =
    (found : FrameFragment) → built_fragment part headers last payload ≡ Some found → EndsExtensions headers last.0
    → (reading : Reading) (entry : Entry) → IsEntryOf part (ip_packet headers last) entry
    → CarriesFragment reading entry (built_frame (ip_frame_headers part headers last) payload) found
