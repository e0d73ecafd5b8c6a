use Rattle.std.proofs.Common.{◌++◌}
use Rattle.etherparse.specs.Ipv6ExtensionSlices.{ipv6_slice_parts}
use Rattle.etherparse.specs.Ipv6Slices.{ipv6_header_slice_header}
use Rattle.line_io.proofs.ResultLemmas.{OnOk-appended_two}
use Rattle.packet_text.specs.Networks.{ipv6_header_text, parts_text}
use Rattle.packet_text.proofs.networks.push_ipv6_layer.Goals as goal

pub returns : goal.returns
returns c =
    OnOk-appended_two c.push_ipv6_extensions.result c.args.output.now.items c.push_ipv6_header.new.output.items
    c.push_ipv6_extensions.new.output.items (ipv6_header_text (ipv6_header_slice_header c.header.result))
    (parts_text (ipv6_slice_parts c.extensions.result)) _ c.in_ok-push_ipv6_header.ensures
    c.push_ipv6_extensions.ensures
    (λ i. ipv6_header_text (c.header.ensures.header i) ++ parts_text (c.extensions.ensures.headers i))
