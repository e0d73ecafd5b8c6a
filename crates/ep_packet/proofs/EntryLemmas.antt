-- Slicing a frame from each entry, given the link layer and the layers after it.
use Rattle.std.proofs.Common.{◌≡◌, ℕ, List, Option, Some, Result, refl, sym, ap, subst, ◌∙◌, inr}
use Rattle.std.specs.Prelude.{IfOk, IfErr, IsOkAnd}
use Rattle.std.specs.Option.{option_map}
use Rattle.std.proofs.Math.Path.{transport}
use Rattle.std.proofs.lemmas.Result.{IfOk-weaker, IfErr-weaker}
use Rattle.ep_base.specs.Bytes.{AreBytes}
use Rattle.ep_base.specs.Readings.{slices}
use Rattle.ep_base.proofs.DecidedLemmas.{only_of}
use Rattle.ep_link.specs.declared.link.link_slice.LinkSlice.{LinkSlice}
use Rattle.ep_link.specs.LinkSlices.{link_layer_of, link_layer_payload}
use Rattle.ep_packet.specs.declared.entry.Entry.{Entry}
use Rattle.ep_packet.specs.declared.entry.Entry.TheVariants.{Ethernet as ethernet, LinuxSll as linux_sll}
use Rattle.ep_packet.specs.declared.entry.Entry.TheVariants.{EtherType as ether_type, Ip as ip}
use Rattle.ep_packet.specs.declared.err.slice_error.SliceError.{SliceError}
use Rattle.ep_packet.specs.declared.link_part.LinkPart.{LinkPart}
use Rattle.ep_packet.specs.declared.sliced_packet.SlicedPacket.{SlicedPacket}
use Rattle.ep_packet.specs.Layers.{Layers, layers_of}
use Rattle.ep_packet.specs.Frame.{IsFrame, IsInside, most_link_exts}
use Rattle.ep_packet.specs.FrameRefusals.{RefusesFrame, RefusesInside}
use Rattle.ep_packet.specs.LinkParts.{BeginsPacket, IsLinkStart, LinkStart, link_start_of}
use Rattle.ep_packet.specs.ShownBytes.{ShowsBytes, ShowsInside, ShowsLink}
use Rattle.ep_packet.specs.Walk.{HoldsAfterLink}
use Rattle.ep_packet.proofs.LayerLawLemmas.{frame_law}

-- The payload found after a link layer is the payload of that link layer.
carried : (prefix known : LinkStart) → prefix ≡ known → known.payload ≡ link_layer_payload known.link
    → prefix.payload ≡ link_layer_payload prefix.link
carried prefix known same present =
    ap (λ (f : LinkStart). f.payload) same ∙ present ∙ sym (ap (λ (f : LinkStart). link_layer_payload f.link) same)

pub payload_present : (entry : Entry) (bytes : List ℕ) (prefix : LinkStart) → IsLinkStart entry bytes prefix
    → prefix.payload ≡ link_layer_payload prefix.link
payload_present ethernet bytes prefix is = carried prefix _ is.2 refl
payload_present linux_sll bytes prefix is = carried prefix _ is.2 refl
payload_present (ether_type type) bytes prefix is = carried prefix _ is refl
payload_present ip bytes prefix is = absurd is

-- A link layer and the layers in its payload are a frame.
is_frame : (entry : Entry) (bytes : List ℕ) (prefix : LinkStart) (layers : Layers) → IsLinkStart entry bytes prefix
    → layers.link ≡ Some prefix.link
    → IsInside slices most_link_exts prefix.type prefix.payload layers.link_exts layers.net layers.transport
    → IsFrame entry bytes layers
is_frame ethernet bytes prefix layers is link inside = (
  is.0,
  is.1,
  link ∙ (λ i. Some (is.2 i).link),
  transport (λ i. IsInside slices most_link_exts (is.2 i).type
      (is.2 i).payload layers.link_exts layers.net layers.transport) inside,
)
is_frame linux_sll bytes prefix layers is link inside = (
  is.0,
  is.1,
  link ∙ (λ i. Some (is.2 i).link),
  transport (λ i. IsInside slices most_link_exts (is.2 i).type
      (is.2 i).payload layers.link_exts layers.net layers.transport) inside,
)
is_frame (ether_type type) bytes prefix layers is link inside = (
  link ∙ (λ i. Some (is i).link),
  transport (λ i. IsInside slices most_link_exts (is i).type (is i).payload
      layers.link_exts layers.net layers.transport) inside,
)
is_frame ip bytes prefix layers is link inside = absurd is

-- An error of the payload of the link layer is an error of the frame.
is_refused : (entry : Entry) (bytes : List ℕ) (prefix : LinkStart) (error : SliceError) → IsLinkStart entry bytes prefix
    → RefusesInside slices most_link_exts prefix.offset prefix.type prefix.payload error → RefusesFrame entry bytes error
is_refused ethernet bytes prefix error is refused =
    inr (
      is.0,
      is.1,
      transport (λ i. RefusesInside slices most_link_exts (is.2 i).offset (is.2 i).type
          (is.2 i).payload error) refused,
    )
is_refused linux_sll bytes prefix error is refused =
    inr (
      is.0,
      is.1,
      transport (λ i. RefusesInside slices most_link_exts (is.2 i).offset (is.2 i).type
          (is.2 i).payload error) refused,
    )
is_refused (ether_type type) bytes prefix error is refused =
    transport (λ i. RefusesInside slices most_link_exts (is i).offset (is i).type (is i).payload error) refused
is_refused ip bytes prefix error is refused = absurd is

-- Slices that show the layers in the payload of a link layer show the bytes of the frame.
shows_after : (entry : Entry) (bytes : List ℕ) (part : LinkPart) (packet : SlicedPacket)
    → BeginsPacket entry bytes part → HoldsAfterLink part.link part.ether_type part.slice.now packet
    → ShowsBytes bytes packet
shows_after entry bytes part packet begins after =
    subst (λ (l : Option LinkSlice). ShowsLink bytes l packet.link_exts.items packet.net packet.transport)
    (sym after.has_link) (
      begins.shows,
      subst (λ (b : List ℕ). ShowsInside b packet.link_exts.items packet.net packet.transport)
          (payload_present entry bytes (link_start_of part) begins.is) after.shows,
    )

-- The clauses of a call that slices the layers after a link layer, and whose result shows the packet.
pub record EntersFrame (A : Type 0) (entry : Entry) (bytes : List ℕ) (result : Result A SliceError)
    (shown : A → SlicedPacket) : Type 0 where
  pub ok : IfOk result (λ a. IsFrame entry bytes (layers_of (shown a)))
  pub only : (layers : Layers) → IsFrame entry bytes layers → IsOkAnd result (λ a. layers_of (shown a) ≡ layers)
  pub shows : IfOk result (λ a. ShowsBytes bytes (shown a))
  pub err : IfErr result (RefusesFrame entry bytes)

pub enters_frame : {A : Type 0} (entry : Entry) (bytes : List ℕ) (part : LinkPart) (result : Result A SliceError)
    (shown : A → SlicedPacket) → AreBytes bytes → BeginsPacket entry bytes part
    → IfOk result (λ a. HoldsAfterLink part.link part.ether_type part.slice.now (shown a))
    → IfErr result (RefusesInside slices most_link_exts part.offset part.ether_type part.slice.now)
    → EntersFrame A entry bytes result shown
enters_frame entry bytes part result shown fits begins ok err =
    let is = IfOk-weaker result _ (λ a. IsFrame entry bytes (layers_of (shown a)))
    (λ a after. is_frame entry bytes (link_start_of part) (layers_of (shown a)) begins.is
    (ap (option_map link_layer_of) after.has_link) after.inside) ok in
    let refuses = IfErr-weaker result _ (RefusesFrame entry bytes)
    (λ error refused. is_refused entry bytes (link_start_of part) error begins.is refused) err in
    record {
      ok = is;
      only = only_of (λ a. layers_of (shown a)) (frame_law entry bytes fits) result is refuses;
      shows = IfOk-weaker result _ _ (λ a after. shows_after entry bytes part (shown a) begins after) ok;
      err = refuses;
    }
