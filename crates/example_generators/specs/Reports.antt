-- The headers of a UDP datagram over IPv6.
use Rattle.std.specs.Prelude.{ℕ, List, [], ◌∷◌, Some}
use Rattle.etherparse.specs.BuiltFrames.{FrameHeaders, transport_frame_headers}
use Rattle.etherparse.specs.Ipv6.{default_ipv6_header}
use Rattle.etherparse.specs.Ipv6Chains.{no_ipv6_extensions}
use Rattle.etherparse.specs.RawExtension.{raw_extension_with}
use Rattle.etherparse.specs.Types.IpHeaders.{IpHeaders}
use Rattle.etherparse.specs.Types.IpHeaders.TheVariants as version
use Rattle.etherparse.specs.Types.TransportHeader.{TransportHeader}
use Rattle.etherparse.specs.Types.TransportHeader.TheVariants as header
use Rattle.example_generators.specs.Ends.{ethernet_header}

-- the address 2001:db8::last
abbrev pub documentation_address : ℕ → List ℕ
documentation_address last = 32 ∷ 1 ∷ 13 ∷ 184 ∷ 0 ∷ 0 ∷ 0 ∷ 0 ∷ 0 ∷ 0 ∷ 0 ∷ 0 ∷ 0 ∷ 0 ∷ 0 ∷ last ∷ []

-- the IPv6 header with hop-by-hop options and destination options
abbrev pub ip_headers : IpHeaders
ip_headers = version.Ipv6
    (record default_ipv6_header {
      hop_limit = 64;
      source = documentation_address 1;
      destination = documentation_address 2;
    })
    (record no_ipv6_extensions {
      hop_by_hop_options = Some (raw_extension_with (record { 0 = 0 }) (5 ∷ 2 ∷ 0 ∷ 0 ∷ 1 ∷ 0 ∷ []));
      destination_options = Some (raw_extension_with (record { 0 = 0 }) (1 ∷ 4 ∷ 0 ∷ 0 ∷ 0 ∷ 0 ∷ []));
    })

-- the UDP header
abbrev pub udp_header : TransportHeader
udp_header = header.Udp (record { source_port = 4000; destination_port = 53; length = 0; checksum = 0 })

-- all headers of the frame
abbrev pub report_headers : FrameHeaders
report_headers = transport_frame_headers ethernet_header ip_headers udp_header
