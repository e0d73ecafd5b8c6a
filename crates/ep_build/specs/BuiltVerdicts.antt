-- Verdicts about the checksums of a frame as it is written.
use Rattle.std.specs.Prelude.{ℕ, ◌||◌, if◌then◌else◌, List, Option, Some, None}
use Rattle.std.specs.Option.{is_some}
use Rattle.ep_packet.specs.IpHeaders.{headers_fragment}
use Rattle.ep_packet.specs.Verdicts.{has_source_route, verdict_ipv4, verdict_ipv6}
use Rattle.ep_packet.specs.declared.checksum_verdict.ChecksumVerdict.{ChecksumVerdict}
use Rattle.ep_packet.specs.declared.checksum_verdict.ChecksumVerdict.TheVariants.{Valid, Unknown}
use Rattle.ep_packet.specs.declared.checksum_verdict.ChecksumVerdicts.{ChecksumVerdicts}
use Rattle.ep_packet.specs.declared.ip_headers.IpHeaders.{IpHeaders}
use Rattle.ep_packet.specs.declared.ip_headers.IpHeaders.TheVariants as version
use Rattle.ep_transport.specs.declared.transport_header.TransportHeader.{TransportHeader}
use Rattle.ep_build.specs.BuiltFrames.{transport_between}
use Rattle.ep_build.specs.ReadBack.{message_of}

-- The verdict about a transport header as it is written, and its payload, between the addresses of IP headers.
abbrev pub written_verdict : IpHeaders → TransportHeader → List ℕ → ChecksumVerdict
written_verdict (version.Ipv4 header extensions) upper payload =
    let headers = version.Ipv4 header extensions in
    verdict_ipv4
    header.source
    header.destination
    (transport_between headers payload upper)
    (message_of headers upper payload)
written_verdict (version.Ipv6 header extensions) upper payload =
    let headers = version.Ipv6 header extensions in
    verdict_ipv6
    header.source
    header.destination
    (transport_between headers payload upper)
    (message_of headers upper payload)

-- The verdict about the IPv4 header of a frame with these IP headers, if they are IPv4.
abbrev pub built_header_verdict : IpHeaders → Option ChecksumVerdict
built_header_verdict (version.Ipv4 header extensions) = Some Valid
built_header_verdict (version.Ipv6 header extensions) = None

-- The verdicts about a frame with these IP headers and a transport header. The verdict about the transport header is
-- unknown if the headers state a fragment, or have a source route or a routing header.
abbrev pub built_verdicts : IpHeaders → ChecksumVerdicts
built_verdicts (version.Ipv4 header extensions) =
    let headers = version.Ipv4 header extensions in record {
      ipv4_header = Some Valid;
      transport = Some (if headers_fragment headers || has_source_route header.options then Unknown else Valid);
    }
built_verdicts (version.Ipv6 header extensions) =
    let headers = version.Ipv6 header extensions in record {
      ipv4_header = None;
      transport = Some (if headers_fragment headers || is_some extensions.routing then Unknown else Valid);
    }
