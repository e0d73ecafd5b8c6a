use Rattle.std.proofs.Common.{◌≡◌, ◌++◌, ℕ, List, inl, refl}
use Rattle.std.proofs.lemmas.Result.{on_ok_weaker}
use Rattle.etherparse.specs.Frame.{IsFrame}
use Rattle.etherparse.specs.Layers.{Layers, layers_of}
use Rattle.etherparse.specs.Types.Entry.{Entry}
use Rattle.frame_bench.specs.SliceReplies.{IsSliceReply, layers_text}
use Rattle.frame_bench.proofs.slice_replies.push_slice.Goals as goal

-- The reply about a frame is the text of its layers.
layers_reply : (entry : Entry) (bytes old new : List ℕ) (layers : Layers)
    → IsFrame entry bytes layers → new ≡ old ++ layers_text layers
    → (reply : List ℕ) × IsSliceReply entry bytes reply × (new ≡ old ++ reply)
layers_reply entry bytes old new layers frame pushed = (layers_text layers, inl (layers, frame, refl), pushed)

pub returns-in-Ok : goal.returns-in-Ok
returns-in-Ok c =
    let layers = layers_of c.in-Ok.packet in
    let old = c.args.output.now.items in
    let new = c.push_layers.new.output.items in
    on_ok_weaker c.push_layers.result
    (layers_reply c.args.entry c.args.bytes.now old new layers c.in-Ok.ensures.ok) c.push_layers.ensures
