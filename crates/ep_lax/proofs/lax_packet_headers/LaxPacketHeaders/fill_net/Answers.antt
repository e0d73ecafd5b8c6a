use Rattle.std.proofs.Common.{◌≡◌, Option, None, refl, sym, subst, rules, tests}
use Rattle.ep_base.specs.Readings.{headers}
use Rattle.ep_packet.specs.Frame.{NetKind, net_kind}
use Rattle.ep_lax.specs.Lax.{IsLaxNetIn}
use Rattle.ep_lax.specs.LaxLayers.{no_net}
use Rattle.ep_lax.proofs.lax_packet_headers.LaxPacketHeaders.fill_net.Goals as goal

pub returns-in_default : goal.returns-in_default
returns-in_default c =
    let payload = c.args.payload in
    let net = no_net payload.incomplete None in
    let none : net_kind payload.ether_type ≡ None = search (rules, tests) in
    record {
      net = net;
      part = subst (λ (kind : Option NetKind). IsLaxNetIn headers c.args.offset payload.incomplete kind
          payload.payload.now net) (sym none) refl;
      filled = c.set_payload.ensures;
    }
