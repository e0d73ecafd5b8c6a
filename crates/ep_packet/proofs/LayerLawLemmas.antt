-- The laws of the layers, as the proofs of slicing and decoding cite them.
use Rattle.std.proofs.Common.{ℕ, List}
use Rattle.ep_base.specs.Bytes.{AreBytes}
use Rattle.ep_base.specs.Readings.{slices}
use Rattle.ep_base.specs.Tables.{IsDecided}
use Rattle.ep_base.proofs.TableLemmas.{decided}
use Rattle.ep_link.proofs.ArpLemmas.{arp_is_read}
use Rattle.ep_link.proofs.Ethernet2Lemmas.{ethernet2_is_read}
use Rattle.ep_link.proofs.LinkExtensionLemmas.{cases_begins, extension_begins, extension_bytes, extension_decided, refused_begins}
use Rattle.ep_link.proofs.LinuxSllLemmas.{linux_sll_is_read}
use Rattle.ep_ip.proofs.IpBytesLemmas.{ipv4_packet_bytes, ipv6_packet_bytes}
use Rattle.ep_ip.proofs.PacketLemmas.{ip_decided, ipv4_decided, ipv6_decided}
use Rattle.ep_transport.proofs.TransportLemmas.{transport_bytes_are, transport_is_read}
use Rattle.ep_packet.specs.declared.entry.Entry.{Entry}
use Rattle.ep_packet.specs.Frame.{IsFrame}
use Rattle.ep_packet.specs.FrameRefusals.{RefusesFrame}
use Rattle.ep_packet.proofs.DeciderLemmas.{Deciders}
use Rattle.ep_packet.proofs.FrameLemmas.{frames_decided}

-- The laws of each layer.
pub layer_laws : Deciders
layer_laws = record {
  ethernet2 = decided ethernet2_is_read;
  linux_sll = decided linux_sll_is_read;
  extension = record {
    cases = cases_begins;
    decided = extension_decided;
    begins = extension_begins;
    refused = refused_begins;
    bytes = extension_bytes;
  };
  arp = decided arp_is_read;
  ipv4 = ipv4_decided;
  ipv6 = ipv6_decided;
  ip = ip_decided;
  ipv4_bytes = ipv4_packet_bytes;
  ipv6_bytes = ipv6_packet_bytes;
  transport = λ reading number fragmented. decided (transport_is_read reading number fragmented);
  transport_bytes = transport_bytes_are;
}

-- Bytes are one frame, or are rejected.
pub frame_law : (entry : Entry) (bytes : List ℕ) → AreBytes bytes
    → IsDecided (IsFrame entry bytes) (RefusesFrame entry bytes)
frame_law entry bytes fits = frames_decided layer_laws slices entry bytes fits
