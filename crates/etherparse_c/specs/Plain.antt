-- Plain frames: the contracts of the private calls that describe them.
use Rattle.std.specs.Prelude.{◌≡◌, ◌≤◌, ℕ, ◌+◌, false, List, [], length, Option, Some, None}
use Rattle.etherparse.specs.IpPayload.{IpPayload}
use Rattle.etherparse.specs.Readings.{limited_by, slices}
use Rattle.etherparse.specs.Types.EtherType.{EtherType}
use Rattle.etherparse.specs.Types.LenSource.{LenSource}
use Rattle.etherparse.specs.Types.LenSource.TheVariants as source
use Rattle.etherparse.specs.FrameBytes.{after_net}
use Rattle.etherparse.specs.LinkExtensions.{LinkExtension, BeginsLinkExtension}
use Rattle.etherparse.specs.Frame.{NetKind, IsInside, IsNetLayer, IsNetPart, most_link_exts, net_kind}
use Rattle.etherparse.specs.Layers.{NetLayer, net_payload}
use Rattle.etherparse.specs.Payloads.{extensions_len_source}
use Rattle.etherparse.specs.TransportParts.{TransportLayer, payload_in}
use Rattle.etherparse_c.specs.declared.packet.Ip.{Ip}
use Rattle.etherparse_c.specs.declared.packet.Packet.{Packet}
use Rattle.etherparse_c.specs.declared.plain.PlainIp.{PlainIp}
use Rattle.etherparse_c.specs.declared.vlans.PayloadAfterVlans.{PayloadAfterVlans}
use Rattle.etherparse_c.specs.Description.{destination_port_in, ip_in, net_end, net_kind as kind_number, net_len, part, source_number, source_port_in, tags_len, transport_end, transport_kind, transport_len}

-- ---- tags

-- An Ethernet II payload of this type starts with these VLAN tags, which do not limit their payload. If the bytes after
-- them are a network layer with the layers in it, the payload consists of the tags and these layers, unless the type
-- after the tags starts another tag.
pub record HasVlans (type : EtherType) (bytes : List ℕ) (tags : List LinkExtension) (untagged : PayloadAfterVlans)
    : Type 0 where
  pub offset : untagged.offset ≡ 14 + tags_len tags
  pub bound : untagged.offset ≤ 64
  pub unlimited : extensions_len_source tags ≡ source.Slice
  pub holds : ¬ BeginsLinkExtension untagged.ether_type
      → (net : Option NetLayer) (transport : Option TransportLayer)
      → IsNetPart slices (net_kind untagged.ether_type) untagged.slice.now net transport
      → IsInside slices most_link_exts (Some type) bytes tags net transport

-- ---- IP

-- the payload of a packet
abbrev pub plain_payload : PlainIp → IpPayload
plain_payload ip = record {
  number = ip.number.0;
  fragmented = false;
  source = ip.end;
  bytes = ip.payload.now;
}

-- the fields of its header
abbrev pub plain_ip : PlainIp → Ip
plain_ip ip = record {
  version = ip.version;
  number = ip.number.0;
  fragmented = 0;
  more_fragments = 0;
  fragment_offset = 0;
  identification = ip.identification;
  header_len = ip.len;
}

-- The fields of the plain packet are the fields of this network layer.
pub record IsPlainIp (layer : NetLayer) (ip : PlainIp) : Type 0 where
  pub kind : kind_number (Some layer) ≡ ip.version
  pub len : net_len (Some layer) ≡ ip.len
  pub most : ip.len ≤ 64
  pub ip_fields : ip_in (Some layer) ≡ plain_ip ip
  pub end : net_end (Some layer) ≡ ip.end
  pub payload : net_payload layer ≡ Some (plain_payload ip)

-- The bytes are a network layer of this kind.
abbrev pub IsPlainNet : Option NetKind → List ℕ → NetLayer → Type 0
IsPlainNet None bytes layer = ⊥
IsPlainNet (Some kind) bytes layer = IsNetLayer slices kind bytes layer

pub record HasPlainIp (kind : Option NetKind) (bytes : List ℕ) (ip : PlainIp) : Type 0 where
  pub layer : NetLayer
  pub is : IsPlainNet kind bytes layer
  pub fields : IsPlainIp layer ip

-- ---- descriptions

-- The description `described` with the transport layer, if any, at this offset, and with the payload of the last layer.
-- `end` is what limits the bytes.
abbrev pub transport_description : ℕ → LenSource → List ℕ → Option TransportLayer → Packet → Packet
transport_description offset end bytes transport described = record described {
  source_port = source_port_in transport;
  destination_port = destination_port_in transport;
  transport = part (transport_kind transport) offset (transport_len transport);
  payload = record {
    len_source = source_number (limited_by end (transport_end transport));
    incomplete = 0;
    offset = offset + transport_len transport;
    len = length (payload_in bytes transport);
  };
}

-- The description `described` with a plain IP packet at this offset and the transport layer in it. No layer before it limits
-- its payload.
abbrev pub plain_description : ℕ → PlainIp → Option TransportLayer → Packet → Packet
plain_description offset ip transport described = transport_description (offset + ip.len) ip.end ip.payload.now transport (record described {
  net = part ip.version offset ip.len;
  ip = plain_ip ip;
})

-- the description `described` with a network layer at this offset and the transport layer in it
abbrev pub net_description : ℕ → NetLayer → Option TransportLayer → Packet → Packet
net_description offset net transport described =
    transport_description (offset + net_len (Some net)) (net_end (Some net)) (after_net [] (Some net)) transport (record described {
      net = part (kind_number (Some net)) offset (net_len (Some net));
      ip = ip_in (Some net);
    })

-- The bytes are a network layer of this kind, with the layers in it, and `new` describes it at this offset.
pub record DescribesNet (kind : Option NetKind) (bytes : List ℕ) (offset : ℕ) (old new : Packet) : Type 0 where
  pub net : NetLayer
  pub transport : Option TransportLayer
  pub holds : IsNetPart slices kind bytes (Some net) transport
  pub described : new ≡ net_description offset net transport old
