use Rattle.std.proofs.Common.{ap, sym, ◌∙◌}
use Rattle.std.specs.Option.{option_map}
use Rattle.etherparse.specs.LaxPackets.{lax_layers_of}
use Rattle.etherparse.specs.Types.LaxEtherPayloadSlice.{LaxEtherPayloadSlice}
use Rattle.packet_text.proofs.LayerLemmas.{type_found}
use Rattle.packet_text.proofs.packet.payload_ether_type.Goals as goal

pub returns-in-Some : goal.returns-in-Some
returns-in-Some c =
    sym (ap (option_map (λ (slice : LaxEtherPayloadSlice). slice.ether_type)) c.in-Some.is)
    ∙ type_found c.ether_payload.result (lax_layers_of c.args.read.now) c.ether_payload.ensures

pub returns-in-None : goal.returns-in-None
returns-in-None c =
    sym (ap (option_map (λ (slice : LaxEtherPayloadSlice). slice.ether_type)) c.in-None.is)
    ∙ type_found c.ether_payload.result (lax_layers_of c.args.read.now) c.ether_payload.ensures
