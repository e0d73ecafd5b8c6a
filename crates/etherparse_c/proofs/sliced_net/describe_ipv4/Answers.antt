use Rattle.std.proofs.Common.{Some, refl}
use Rattle.etherparse.specs.Ipv4Slices.{ipv4_slice_packet}
use Rattle.etherparse.specs.Frame.{only_ipv4}
use Rattle.etherparse.specs.Layers.{net_layer_of}
use Rattle.etherparse.specs.Types.NetSlice.TheVariants as slice
use Rattle.etherparse_c.proofs.PlainLemmas.{net_part}
use Rattle.etherparse_c.proofs.sliced_net.describe_ipv4.Goals as goal

pub returns : goal.returns
returns c =
    λ done.
    let ok = c.in-Ok.ensures.ok in
    let layer = net_layer_of (slice.Ipv4 c.in-Ok.packet) in
    let does = c.describe_layer.ensures done in
    record {
      net = layer;
      transport = does.0;
      holds = net_part (Some only_ipv4) c.args.slice.now layer does.0 (ipv4_slice_packet c.in-Ok.packet ok.0, ok.2, refl) does.1;
      described = does.2;
    }
