-- Lax slicing of a truncated frame: which payloads it reports as incomplete.
use Rattle.std.specs.Prelude.{◌≡◌, ◌+◌, nat_lt, ℕ, Bool, false, List, [], ◌∷◌, map, Option, Some, None}
use Rattle.ep_link.specs.LinkExtensions.{LinkExtension}
use Rattle.ep_transport.specs.TransportParts.{TransportLayer}
use Rattle.ep_packet.specs.Layers.{NetLayer, arp, ipv4, ipv6}
use Rattle.ep_packet.specs.Offsets.{link_len, net_len, tag_len, tags_len}
use Rattle.ep_lax.specs.LaxHeaders.{of_ipv4, of_ipv6, of_transport, tag_header}
use Rattle.ep_lax.specs.LaxLayers.{LaxLayers}
use Rattle.ep_lax.specs.LengthFields.{stated_len}
use Rattle.ep_lax.specs.StrictFrames.{extension_in}

-- True if the first `len` bytes of a frame end before the payload of a layer ends. The layer starts at `offset` and its
-- header states this length. If it states none, the payload ends with that of the layer around it, which is truncated
-- if `outer` is true.
abbrev pub truncates : ℕ → ℕ → Bool → Option ℕ → Bool
truncates len offset outer None = outer
truncates len offset outer (Some stated) = nat_lt len (offset + stated)

-- Each link extension reports whether its payload is truncated. The first one starts at `offset`, in bytes that are
-- truncated if `outer` is true.
abbrev pub ReportTruncatedTags : ℕ → ℕ → Bool → List (LinkExtension × Bool) → Type 0
ReportTruncatedTags len offset outer [] = Unit {0}
ReportTruncatedTags len offset outer (tagged ∷ others) =
    (tagged.1 ≡ truncates len offset outer (stated_len (tag_header tagged.0)))
    × ReportTruncatedTags len (offset + tag_len tagged.0) tagged.1 others

-- Whether the payload of the last link extension is incomplete; `outer` if there is none.
abbrev pub last_tag_incomplete : Bool → List (LinkExtension × Bool) → Bool
last_tag_incomplete outer [] = outer
last_tag_incomplete outer (tagged ∷ others) = last_tag_incomplete tagged.1 others

-- True if the payload of the network layer that starts at `offset` is truncated. Without a network layer, these are the
-- bytes from `offset` on, which are truncated if `outer` is true. An ARP packet has no payload.
abbrev pub truncates_net : ℕ → ℕ → Bool → Option NetLayer → Bool
truncates_net len offset outer None = outer
truncates_net len offset outer (Some (ipv4 header extensions payload)) =
    truncates len offset outer (stated_len (of_ipv4 header))
truncates_net len offset outer (Some (ipv6 header extensions payload)) =
    truncates len offset outer (stated_len (of_ipv6 header))
truncates_net len offset outer (Some (arp packet)) = false

-- True if the payload of the transport layer that starts at `offset` is truncated. Without a transport layer, this is
-- the payload of the network layer, which is truncated if `outer` is true.
abbrev pub truncates_transport : ℕ → ℕ → Bool → Option TransportLayer → Bool
truncates_transport len offset outer None = outer
truncates_transport len offset outer (Some layer) = truncates len offset outer (stated_len (of_transport layer.header))

-- The offset of the network layer: the length in bytes of the headers before it.
abbrev pub net_offset : LaxLayers → ℕ
net_offset read = link_len read.link + tags_len (map extension_in read.link_exts)

-- The layers that are shown of the first `len` bytes of a frame report exactly which payloads are truncated.
pub record ReportsTruncatedPayloads (len : ℕ) (read : LaxLayers) : Type 0 where
  pub tags : ReportTruncatedTags len (link_len read.link) false read.link_exts
  pub net : read.net.incomplete
      ≡ truncates_net len (net_offset read) (last_tag_incomplete false read.link_exts) read.net.layer
  pub transport : read.net.inside.incomplete
      ≡ truncates_transport len (net_offset read + net_len read.net.layer) read.net.incomplete read.net.inside.layer
