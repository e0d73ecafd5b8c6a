use Rattle.std.proofs.Common.{◌∙◌}
use Rattle.ep_ip.proofs.ipv4_header_slice.Ipv4HeaderSlice.to_header.Goals as goal

pub returns : goal.returns
returns c = λ i. record {
  dscp = c.dscp.ensures i;
  ecn = c.ecn.ensures i;
  total_len = c.total_len.ensures i;
  identification = c.identification.ensures i;
  dont_fragment = c.dont_fragment.ensures i;
  more_fragments = c.more_fragments.ensures i;
  fragment_offset = c.fragment_offset.ensures i;
  time_to_live = c.time_to_live.ensures i;
  protocol = c.protocol.ensures i;
  header_checksum = c.header_checksum.ensures i;
  source = c.source.ensures i;
  destination = c.destination.ensures i;
  options = (c.from_valid_slice.ensures ∙ c.options.ensures) i;
}
