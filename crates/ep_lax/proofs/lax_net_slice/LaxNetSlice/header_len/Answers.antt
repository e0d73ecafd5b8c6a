use Rattle.std.proofs.Common.{Some, sym, ◌∙◌}
use Rattle.ep_lax.specs.LaxViews.{lax_net_layer_of}
use Rattle.ep_packet.proofs.OffsetLemmas.{net_encoded}
use Rattle.ep_lax.proofs.lax_net_slice.LaxNetSlice.header_len.Goals as goal

pub returns-clause-bytes : goal.returns-clause-bytes
returns-clause-bytes c = λ bytes encodes.
    net_encoded (Some (lax_net_layer_of c.args.self.now)) bytes encodes ∙ sym c.headers_len.ensures.value
