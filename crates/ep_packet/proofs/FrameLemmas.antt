-- Bytes are a frame with one list of layers, or are rejected with one error, if this holds for each layer.
use Rattle.std.proofs.Common.{◌≡◌, ℕ, List, [], Option, Some, None, refl, ap, ◌∙◌}
use Rattle.ep_base.specs.Bytes.{AreBytes}
use Rattle.ep_base.specs.Readings.{Reading}
use Rattle.ep_base.specs.Tables.{IsDecided, Parts}
use Rattle.ep_base.proofs.BytesLemmas.{AreBytes-payload}
use Rattle.ep_base.proofs.DecidedLemmas.{same_image, decided_as, refused_as, RefusesEither, decided_then}
use Rattle.ep_base.specs.declared.ether_type.EtherType.{EtherType}
use Rattle.ep_base.specs.declared.len_source.LenSource.TheVariants as source
use Rattle.ep_link.specs.Ethernet2.{ethernet2_bytes, ethernet2_header_len}
use Rattle.ep_link.specs.LinkExtensions.{LinkExtension}
use Rattle.ep_link.specs.LinkSlices.{LinkLayer, ethernet2, linux_sll as sll, ether_payload}
use Rattle.ep_link.specs.LinuxSll.{linux_sll_bytes, linux_sll_header_len, protocol_ether_type}
use Rattle.ep_packet.specs.declared.err.slice_error.SliceError.{SliceError}
use Rattle.ep_packet.specs.declared.err.slice_error.SliceError.TheVariants.{Len}
use Rattle.ep_packet.specs.declared.entry.Entry.{Entry}
use Rattle.ep_packet.specs.declared.entry.Entry.TheVariants.{Ethernet as ethernet, LinuxSll as linux_sll, EtherType as ether_type, Ip as ip}
use Rattle.ep_packet.specs.Layers.{Layers}
use Rattle.ep_packet.specs.Frame.{any_ip, IsInside, most_link_exts, IsFrameIn}
use Rattle.ep_packet.specs.FrameRefusals.{RefusesInside, RefusesFrameIn, linux_sll_refusal}
use Rattle.ep_packet.proofs.DeciderLemmas.{Deciders}
use Rattle.ep_packet.proofs.InsideLemmas.{Inside, inside_decided}
use Rattle.ep_packet.proofs.NetLemmas.{NetPart, net_decided}

-- A header with its payload and trailing bytes, and the layers in its payload.
abbrev FramePart : Type 0 → Type 0
FramePart H = Parts H × Inside

-- The layers of a link layer and of its payload.
abbrev layers_in : LinkLayer → Inside → Layers
layers_in link inside = record { link = Some link; link_exts = inside.0; net = inside.1; transport = inside.2 }

-- The link layer of a header of type `H`.
abbrev link_in : {H : Type 0} → (H → List ℕ → LinkLayer) → Parts H → LinkLayer
link_in link frame = link frame.header frame.payload

-- The layers of a frame after a header of type `H`.
abbrev frame_layers : {H : Type 0} → (H → List ℕ → LinkLayer) → FramePart H → Layers
frame_layers link part = layers_in (link_in link part.0) part.1

-- The bytes are a frame of these layers, after a link header of type `H`.
abbrev IsFrameOf : {H : Type 0} → Reading → (Parts H → Type 0) → (H → List ℕ → LinkLayer) → (H → Option EtherType)
    → Layers → Type 0
IsFrameOf {H = H} reading Is link type layers =
    (frame : Parts H) × Is frame × (layers.link ≡ Some (link_in link frame))
    × IsInside reading most_link_exts (type frame.header) frame.payload layers.link_exts layers.net layers.transport

-- The errors of bytes without a valid link header of type `H`, or of the bytes after it, at offset `len`.
abbrev RefusesFrameOf : {H : Type 0} → Reading → (Parts H → Type 0) → (SliceError → Type 0) → (H → Option EtherType)
    → ℕ → SliceError → Type 0
RefusesFrameOf reading Is Refuses type len =
    RefusesEither Is Refuses
    (λ frame. RefusesInside reading most_link_exts len (type frame.header) frame.payload)

-- Layers with this link layer are it and the layers in its payload.
same_layers : (link : LinkLayer) (layers : Layers) → layers.link ≡ Some link
    → layers ≡ layers_in link (layers.link_exts, layers.net, layers.transport)
same_layers link layers same = ap (λ (x : Option LinkLayer). record layers { link = x }) same

-- Layers without link layer and link extensions are a network layer and a transport layer.
no_link_layers : (layers : Layers) → layers.link ≡ None → layers.link_exts ≡ []
    → layers ≡ record { link = None; link_exts = []; net = layers.net; transport = layers.transport }
no_link_layers layers no_link no_tags =
    ap (λ (x : Option LinkLayer). record layers { link = x }) no_link
    ∙ ap (λ (x : List LinkExtension). record layers { link = None; link_exts = x }) no_tags

-- Bytes are one frame after a link header of type `H`, or are rejected.
frame_decided : {H : Type 0} {Is : Parts H → Type 0} {Refuses : SliceError → Type 0}
    (link : H → List ℕ → LinkLayer) (type : H → Option EtherType) → Deciders → (reading : Reading) (len : ℕ)
    → IsDecided Is Refuses → ((frame : Parts H) → Is frame → AreBytes frame.payload)
    → IsDecided (IsFrameOf reading Is link type) (RefusesFrameOf reading Is Refuses type len)
frame_decided link type deciders reading len decided payload_fits =
    decided_as (frame_layers link) (λ error. error)
    (decided_then decided
    (λ frame is. inside_decided deciders reading most_link_exts len (type frame.header)
    frame.payload (payload_fits frame is)))
    (record {
      present = λ part is. (part.0, is.0, refl, is.1);
      back = λ layers frame. (
        (frame.0, (layers.link_exts, layers.net, layers.transport)),
        (frame.1, frame.3),
        same_layers (link_in link frame.0) layers frame.2,
      );
    })
    (same_image (λ error refused. refused) (λ error refused. refused))

-- Bytes are one frame, or are rejected.
pub frames_decided : Deciders → (reading : Reading) (entry : Entry) (bytes : List ℕ) → AreBytes bytes
    → IsDecided (IsFrameIn reading entry bytes) (RefusesFrameIn reading entry bytes)
frames_decided deciders reading ethernet bytes fits =
    frame_decided ethernet2 (λ header. Some header.ether_type) deciders reading ethernet2_header_len
    (refused_as (λ error. Len error) (deciders.ethernet2 bytes fits))
    (λ frame is. AreBytes-payload bytes (ethernet2_bytes frame.header) frame.payload frame.left fits is.parts)
frames_decided deciders reading linux_sll bytes fits =
    frame_decided sll (λ header. protocol_ether_type header.protocol_type) deciders reading linux_sll_header_len
    (refused_as linux_sll_refusal (deciders.linux_sll bytes fits))
    (λ frame is. AreBytes-payload bytes (linux_sll_bytes frame.header) frame.payload frame.left fits is.parts)
frames_decided deciders reading (ether_type type) bytes fits =
    decided_as (layers_in (ether_payload type source.Slice bytes)) (λ error. error)
    (inside_decided deciders reading most_link_exts 0 (Some type) bytes fits)
    (record {
      present = λ inside is. (refl, is);
      back = λ layers frame. (
        (layers.link_exts, layers.net, layers.transport),
        frame.1,
        same_layers (ether_payload type source.Slice bytes) layers frame.0,
      );
    })
    (same_image (λ error refused. refused) (λ error refused. refused))
frames_decided deciders reading ip bytes fits =
    decided_as (λ (part : NetPart). record { link = None; link_exts = []; net = part.0; transport = part.1 })
    (λ (error : SliceError). error) (net_decided deciders reading 0 (Some any_ip) bytes fits)
    (record {
      present = λ part is. (refl, refl, is);
      back = λ layers frame. ((layers.net, layers.transport), frame.2, no_link_layers layers frame.0 frame.1);
    })
    (same_image (λ error refused. refused) (λ error refused. refused))
