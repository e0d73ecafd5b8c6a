use Rattle.std.proofs.Common.{false, refl, sym, ap, ◌∙◌, inl, inr, arith}
use Rattle.std.specs.Option.{option_map}
use Rattle.ep_base.specs.Readings.{headers}
use Rattle.ep_ext.specs.Chains.{ipv4, ipv6}
use Rattle.ep_ext.specs.ExtensionParts.{auth_refusal}
use Rattle.ep_ip.specs.IpPackets.{ipv4_part, ipv6_part}
use Rattle.ep_ip.proofs.LaxIpLemmas.{reported_stop}
use Rattle.ep_packet.specs.Layers.{ipv4_layer, ipv6_layer}
use Rattle.ep_lax.specs.Lax.{chain_refusal}
use Rattle.ep_lax.specs.LaxPacketHeaders.{lax_headers_of}
use Rattle.ep_lax.specs.LaxPayloadParts.{empty}
use Rattle.ep_lax.proofs.LaxNetLemmas.{ipv4_stop_within, ipv6_stop_within}
use Rattle.ep_lax.proofs.LaxPacketHeadersLemmas.{lax_ip_filled}
use Rattle.ep_lax.proofs.lax_packet_headers.LaxPacketHeaders.fill_ip.Goals as goal

pub auth_stop-stop-requires : goal.auth_stop-stop-requires
auth_stop-stop-requires c = λ error same.
    let ok = c.in-Ok.ensures.ok in
    omega (
      arith,
      ipv4_stop_within headers false c.args.slice.now ok.0 ok.1 (auth_refusal error)
          (sym ok.3 ∙ ap (option_map auth_refusal) same),
    )

pub chain_stop-stop-requires : goal.chain_stop-stop-requires
chain_stop-stop-requires c = λ error_with_layer same.
    let ok = c.in-Ok-read_ipv6_lax_into.ensures.ok in
    omega (
      arith,
      ipv6_stop_within headers false c.args.slice.now ok.0 ok.1 error_with_layer.0
          (reported_stop ok.0.stop error_with_layer (sym ok.3 ∙ same)),
    )

pub returns-in-Ok-clause-ok : goal.returns-in-Ok-clause-ok
returns-in-Ok-clause-ok c =
    let ok = c.in-Ok.ensures.ok in
    let found = c.auth_stop-stop.ensures ∙ ap (option_map (chain_refusal ipv4 0)) ok.3 in
    let filled = lax_ip_filled ipv4 ipv4_layer ipv4_part (λ p. refl) (λ p. refl) (λ p. refl) (λ p i. refl) ok.0
    c.args.slice.now 0 c.in-Ok.offset c.in-Ok.offset c.read_ipv4_lax_into.new.net c.in-Ok.payload
    c.auth_stop-stop.result empty (lax_headers_of c.args.self.now) (lax_headers_of c.fill_ip_payload.new.self) ok.2
    (omega arith) found c.fill_ip_payload.ensures in
    record { net = filled.0; part = inl (ok.0, ok.1, filled.1); filled = filled.2 }

pub returns-in-Ok-read_ipv6_lax_into-clause-ok : goal.returns-in-Ok-read_ipv6_lax_into-clause-ok
returns-in-Ok-read_ipv6_lax_into-clause-ok c =
    let ok = c.in-Ok-read_ipv6_lax_into.ensures.ok in
    let found = c.chain_stop-stop.ensures ok.0.stop ok.3 in
    let filled = lax_ip_filled ipv6 ipv6_layer ipv6_part (λ p. refl) (λ p. refl) (λ p. refl) (λ p i. refl) ok.0
    c.args.slice.now 0 c.in-Ok-read_ipv6_lax_into.offset c.in-Ok-read_ipv6_lax_into.offset
    c.read_ipv6_lax_into.new.net c.in-Ok-read_ipv6_lax_into.payload c.chain_stop-stop.result empty
    (lax_headers_of c.args.self.now) (lax_headers_of c.fill_ip_payload-in-Ok-read_ipv6_lax_into.new.self) ok.2 (omega arith) found
    c.fill_ip_payload-in-Ok-read_ipv6_lax_into.ensures in
    record { net = filled.0; part = inr (ok.0, ok.1, filled.1); filled = filled.2 }
