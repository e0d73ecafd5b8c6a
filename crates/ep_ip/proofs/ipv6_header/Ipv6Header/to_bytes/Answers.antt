use Rattle.std.proofs.Common.{◌≡◌, ◌+◌, ◌*◌, ◌^◌, ◌∷◌, slice_index_or, ap, ◌∙◌, arith}
use Rattle.std.specs.Int.{w16, w32, to_be_bytes}
use Rattle.ep_base.proofs.BytesLemmas.{elements}
use Rattle.ep_ip.proofs.Ipv6Lemmas.{two_addresses}
use Rattle.ep_ip.proofs.ipv6_header.Ipv6Header.to_bytes.Goals as goal

pub returns-clause-bytes : goal.returns-clause-bytes
unfolding elements
returns-clause-bytes c =
    let h = c.args.self.now in
    let first = 2 ^ 28 * 6 + 2 ^ 20 * h.traffic_class + h.flow_label in
    let word : 0x60000000 + 0x100000 * h.traffic_class + c.value.result ≡ first =
    omega (arith, c.value.ensures.value) in
    let four : c.to_be_bytes-first.result ≡ to_be_bytes w32 first =
    c.to_be_bytes-first.ensures ∙ ap (to_be_bytes w32) word in
    let length : c.to_be_bytes-payload_length.result ≡ to_be_bytes w16 h.payload_length =
    c.to_be_bytes-payload_length.ensures in
    let addresses = two_addresses h.source h.destination (omega arith) (omega arith) in
    λ i. slice_index_or (four i) 0 0 ∷ slice_index_or (four i) 1 0 ∷ slice_index_or (four i) 2 0
    ∷ slice_index_or (four i) 3 0 ∷ slice_index_or (length i) 0 0 ∷ slice_index_or (length i) 1 0
    ∷ h.next_header.0 ∷ h.hop_limit ∷ addresses i
