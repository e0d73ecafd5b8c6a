use Rattle.ep_base.specs.Tables.{parts_of}
use Rattle.ep_base.proofs.TableLemmas.{one_value}
use Rattle.ep_ip.specs.Ipv6Slices.{ipv6_header_slice_header}
use Rattle.ep_ip.proofs.Ipv6Lemmas.{ipv6_packet_is_read}
use Rattle.ep_ip.proofs.ipv6_header_slice.Ipv6HeaderSlice.from_packet_slice.Goals as goal

pub returns-clause-only : goal.returns-clause-only
returns-clause-only c packet is =
    let read = c.in_ok-header in
    let shown = parts_of (ipv6_header_slice_header read.header) read.content.now read.ensures.ok.0 in
    let same = one_value ipv6_packet_is_read c.args.slice.now shown packet read.ensures.ok.2 is in
    (λ i. (same i).header, λ i. (same i).payload)
