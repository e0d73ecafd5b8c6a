use Rattle.std.proofs.Common.{arith, subst, sym}
use Rattle.etherparse.specs.Bytes.{AreBytes}
use Rattle.etherparse.specs.Frame.{IsFrame}
use Rattle.etherparse.specs.LaxLayers.{LaxLayers}
use Rattle.etherparse.specs.LaxPackets.{lax_layers_of}
use Rattle.etherparse.specs.Layers.{Layers, layers_of}
use Rattle.etherparse.specs.StrictFrames.{layers_in}
use Rattle.packet_dump.specs.PacketContents.{HoldsStrictly, packet}
use Rattle.packet_dump.proofs.decoded.strict_outcome.Goals as goal
use Rattle.packet_dump.proofs.decoded.strict_outcome.Goals.{After-lax}

-- By the laws of the library, the content of a frame is the layers that lax slicing finds.
holds_frame : (c : After-lax) (layers : Layers) → IsFrame c.args.opening.entry c.args.bytes.now layers
    → HoldsStrictly c.args.opening c.args.bytes.now (packet (lax_layers_of c.args.read.now))
holds_frame c layers frame =
    let opening = c.args.opening in
    let bytes = c.args.bytes.now in
    let are_bytes : AreBytes bytes = λ i. omega (arith, c.type_inv.bytes i) in
    let found = c.strict_frames.ensures opening.entry bytes layers frame in
    subst (λ (read : LaxLayers). HoldsStrictly opening bytes (packet read))
    ((c.lax.ensures opening.entry bytes are_bytes).one_value found.0 (lax_layers_of c.args.read.now) found.1 c.requires)
    (subst (λ (l : Layers). IsFrame opening.entry bytes l) (sym found.2) frame, found.3)

pub returns-then-is_frame : goal.returns-then-is_frame
returns-then-is_frame c =
    λ link.
    holds_frame (goal.at.returns-then-is_frame c).After-lax (layers_in (lax_layers_of c.args.read.now))
    (c.is_frame.ensures.frame c.args.opening.entry c.args.bytes.now c.requires c.if-is_frame.true)

pub returns-in-Ok : goal.returns-in-Ok
returns-in-Ok c =
    λ link. holds_frame (goal.at.returns-in-Ok c).After-lax (layers_of c.slice_into.new.self) c.in-Ok.ensures.ok
