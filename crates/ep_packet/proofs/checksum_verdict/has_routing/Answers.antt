use Rattle.std.proofs.Common.{◌≡◌, length, rules}
use Rattle.ep_ext.specs.Ipv6ExtensionSlices.{ipv6_slice_bytes, ipv6_slice_number}
use Rattle.ep_packet.proofs.VerdictLemmas.{no_routing}
use Rattle.ep_packet.proofs.checksum_verdict.has_routing.Goals as goal

pub returns-then-is_empty : goal.returns-then-is_empty
returns-then-is_empty c =
    let empty : length (ipv6_slice_bytes c.args.extensions) ≡ 0 = search rules in
    no_routing (ipv6_slice_number c.args.extensions) (ipv6_slice_bytes c.args.extensions) empty
