use Rattle.ep_packet.specs.IpHeaders.{ip_headers_parts, written_headers}
use Rattle.ep_build.specs.BuiltFrames.{link_with_type, link_part_bytes}
use Rattle.ep_build.proofs.PlacingLemmas.{both_at}
use Rattle.ep_build.proofs.placing.place_headers.Goals as goal

pub returns-clause-bytes : goal.returns-clause-bytes
returns-clause-bytes g c =
    let headers = g.Headers.IsIpHeaders.headers c.args.headers.now in
    both_at (link_part_bytes (link_with_type c.args.link.now c.args.ether_type))
    (written_headers headers (ip_headers_parts headers)) _ _ _ _ _ _ c.place_with_type-at.ensures c.place.ensures.bytes
