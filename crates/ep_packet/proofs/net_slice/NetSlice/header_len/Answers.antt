use Rattle.std.proofs.Common.{Some, sym, ◌∙◌}
use Rattle.ep_packet.specs.Layers.{net_layer_of}
use Rattle.ep_packet.proofs.OffsetLemmas.{net_encoded}
use Rattle.ep_packet.proofs.net_slice.NetSlice.header_len.Goals as goal

pub returns-clause-bytes : goal.returns-clause-bytes
returns-clause-bytes c = λ bytes encodes.
    net_encoded (Some (net_layer_of c.args.self.now)) bytes encodes ∙ sym c.headers_len.ensures.value
