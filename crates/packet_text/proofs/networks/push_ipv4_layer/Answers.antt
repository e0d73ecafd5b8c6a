use Rattle.std.proofs.Common.{◌++◌}
use Rattle.etherparse.specs.Ipv4Chains.{ipv4_slice_parts}
use Rattle.etherparse.specs.Ipv4Slices.{ipv4_header_slice_header}
use Rattle.line_io.proofs.ResultLemmas.{OnOk-appended_two}
use Rattle.packet_text.specs.Networks.{ipv4_header_text, parts_text}
use Rattle.packet_text.proofs.networks.push_ipv4_layer.Goals as goal

pub returns : goal.returns
returns c =
    OnOk-appended_two c.push_ipv4_extensions.result c.args.output.now.items c.push_ipv4_header.new.output.items
    c.push_ipv4_extensions.new.output.items (ipv4_header_text (ipv4_header_slice_header c.header.result))
    (parts_text (ipv4_slice_parts c.extensions.result)) _ c.in_ok-push_ipv4_header.ensures
    c.push_ipv4_extensions.ensures
    (λ i. ipv4_header_text (c.header.ensures.header i) ++ parts_text (c.extensions.ensures.headers i))
