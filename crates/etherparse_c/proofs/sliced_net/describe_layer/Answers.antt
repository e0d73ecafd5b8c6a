use Rattle.std.proofs.Common.{◌≡◌, [], Option, Some, None, ap, option_copied, refl, subst, sym, ◌∙◌}
use Rattle.std.specs.Option.{option_map}
use Rattle.etherparse.specs.Frame.{IsTransportAfterNet}
use Rattle.etherparse.specs.IpPayload.{IpPayload, ip_payload_of}
use Rattle.etherparse.specs.Layers.{net_layer_of, net_payload}
use Rattle.etherparse.specs.Readings.{slices}
use Rattle.etherparse.specs.Types.LenSource.TheVariants as source
use Rattle.etherparse_c.proofs.PlainLemmas.{has_none, has_payload, net_is_described}
use Rattle.etherparse_c.proofs.sliced_net.describe_layer.Goals as goal

pub returns-in-Some : goal.returns-in-Some
returns-in-Some c =
    λ done.
    let layer = net_layer_of c.args.net.now in
    let payload = ip_payload_of c.in-Some.payload.now in
    let same : net_payload layer ≡ Some payload =
    sym c.ip_payload_ref.ensures ∙ ap (λ o. option_map ip_payload_of (option_copied o)) c.in-Some.is in
    let does = c.describe_transport.ensures done in (
      does.0,
      subst (λ (p : Option IpPayload). IsTransportAfterNet slices p does.0) (sym same) does.1,
      net_is_described c.args.offset layer does.0 payload.source payload.bytes c.net_layer_part-header.result
          c.ip_layer_part-described.result c.args.described.now c.describe_transport.new.described (has_payload layer payload same)
          c.net_layer_part-header.ensures.part c.ip_layer_part-described.ensures does.2,
    )

pub returns-in-None : goal.returns-in-None
returns-in-None c =
    λ done.
    let layer = net_layer_of c.args.net.now in
    let none : net_payload layer ≡ None =
    sym c.ip_payload_ref.ensures ∙ ap (λ o. option_map ip_payload_of (option_copied o)) c.in-None.is in (
      None,
      subst (λ (p : Option IpPayload). IsTransportAfterNet slices p None) (sym none) refl,
      net_is_described c.args.offset layer None source.ArpAddrLengths [] c.net_layer_part-header.result
          c.ip_layer_part-described.result c.args.described.now c.describe_transport_layer.new.described (has_none layer none)
          c.net_layer_part-header.ensures.part c.ip_layer_part-described.ensures c.describe_transport_layer.ensures,
    )
