-- The fields of all headers of a packet.
use Rattle.std.proofs.Common.{ℕ, Bool, true, List, refl}
use Rattle.etherparse_c.specs.declared.fields.ArpFields.{ArpFields}
use Rattle.etherparse_c.specs.declared.fields.IpFields.{IpFields}
use Rattle.etherparse_c.specs.declared.fields.LinkFields.{LinkFields}
use Rattle.etherparse_c.specs.declared.fields.TagFields.{TagFields}
use Rattle.etherparse_c.specs.declared.fields.TransportFields.{TransportFields}
use Rattle.etherparse_c.specs.declared.packet.Packet.{Packet}
use Rattle.etherparse_c.specs.FieldAnswers.{AreFields, AreTagsAt, IsLinkAt, IsNetAt, IsTransportAt, ReadsOnly}

-- The fields of all headers are read if those of each layer are.
pub reads_fields : {packet : Packet} {bytes : List ℕ} {link : LinkFields} {tags : List TagFields} {ip : IpFields}
    {arp : ArpFields} {transport : TransportFields} {read : Bool} → ReadsOnly (IsLinkAt packet.link bytes) true link
    → ReadsOnly (AreTagsAt packet.link_exts bytes) true tags
    → ReadsOnly (λ (pair : IpFields × ArpFields). IsNetAt packet.net packet.ip bytes pair.0 pair.1) true (ip, arp)
    → ReadsOnly (IsTransportAt packet.transport packet.ip packet.payload bytes) read transport
    → ReadsOnly (AreFields packet bytes) read (record {
      link = link;
      tags = tags;
      ip = ip;
      arp = arp;
      transport = transport;
      header_checksum = 0;
      transport_checksum = 0;
    })
reads_fields of_link of_tags of_net of_transport = record {
  found = λ yes. record {
    link = of_link.found refl;
    tags = of_tags.found refl;
    net = of_net.found refl;
    transport = of_transport.found yes;
    header_checksum = refl;
    transport_checksum = refl;
  };
  only = λ other are.
      let link = (of_link.only other.link are.link).1 in
      let tags = (of_tags.only other.tags are.tags).1 in
      let net = (of_net.only (other.ip, other.arp) are.net).1 in
      let transport = of_transport.only other.transport are.transport in (
        transport.0,
        λ i. record {
          link = link i;
          tags = tags i;
          ip = (net i).0;
          arp = (net i).1;
          transport = transport.1 i;
          header_checksum = are.header_checksum i;
          transport_checksum = are.transport_checksum i;
        },
      );
}
