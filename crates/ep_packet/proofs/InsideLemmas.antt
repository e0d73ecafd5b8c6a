-- Bytes of an ether type have one list of link extensions with one network layer and one transport layer, or are
-- rejected with one error.
use Rattle.std.proofs.Common.{◌≡◌, ℕ, zero, suc, ◌+◌, List, [], ◌∷◌, Option, Some, None, refl, ap, ◌∙◌, inl, inr}
use Rattle.ep_base.specs.Bytes.{AreBytes}
use Rattle.ep_base.specs.Readings.{Reading}
use Rattle.ep_base.specs.Tables.{IsDecided}
use Rattle.ep_base.proofs.BytesLemmas.{AreBytes-payload}
use Rattle.ep_base.proofs.DecidedLemmas.{same_image, refused_as, decided_by, decided_as, IsBoth, RefusesEither, decided_then}
use Rattle.ep_base.specs.declared.ether_type.EtherType.{EtherType}
use Rattle.ep_link.specs.LinkExtensions.{LinkExtension, BeginsLinkExtension, IsLinkExtension, extension_header, extension_payload, extension_type, link_ext_header_len}
use Rattle.ep_transport.specs.TransportParts.{TransportLayer}
use Rattle.ep_packet.specs.declared.err.slice_error.SliceError.{SliceError}
use Rattle.ep_packet.specs.Layers.{NetLayer}
use Rattle.ep_packet.specs.Frame.{net_kind, IsInside}
use Rattle.ep_packet.specs.FrameRefusals.{RefusesNetPart, RefusesExtensionAt, RefusesInside, extension_refusal}
use Rattle.ep_packet.proofs.DeciderLemmas.{Deciders, ExtensionLaws, ExtensionPart}
use Rattle.ep_packet.proofs.NetLemmas.{NetPart, IsNetPartOf, net_decided}

-- The link extensions, the network layer and the transport layer.
abbrev pub Inside : Type 0
Inside = List LinkExtension × Option NetLayer × Option TransportLayer

-- The bytes, of an ether type, have these layers.
abbrev pub HoldsInside : Reading → ℕ → Option EtherType → List ℕ → Inside → Type 0
HoldsInside reading space type bytes inside = IsInside reading space type bytes inside.0 inside.1 inside.2

-- A network layer without link extensions before it.
abbrev bare : NetPart → Inside
bare part = ([], part.0, part.1)

-- A link extension, and the layers in its payload.
abbrev TagInside : Type 0
TagInside = ExtensionPart × Inside

-- The layers of a link extension and its payload.
abbrev tagged : TagInside → Inside
tagged layers = (layers.0.0 ∷ layers.1.0, layers.1.1, layers.1.2)

-- The bytes are a link extension, whose payload has these layers.
abbrev IsTagInside : Reading → ℕ → EtherType → List ℕ → TagInside → Type 0
IsTagInside reading space type bytes = IsBoth
    (IsLinkExtension type bytes)
    (λ (part : ExtensionPart). HoldsInside reading space (extension_type part.0) (extension_payload part.0))

-- Offset of the payload of a link extension.
abbrev after : ℕ → ExtensionPart → ℕ
after offset part = offset + link_ext_header_len (extension_header part.0)

-- The errors of bytes that are no link extension, or whose payload is rejected.
abbrev RefusesTagInside : Reading → ℕ → ℕ → EtherType → List ℕ → SliceError → Type 0
RefusesTagInside reading space offset type bytes = RefusesEither
    (IsLinkExtension type bytes)
    (RefusesExtensionAt offset type bytes)
    (λ (part : ExtensionPart). RefusesInside reading space (after offset part)
    (extension_type part.0) (extension_payload part.0))

-- Bytes of unknown type have no layers.
untyped_only : (reading : Reading) (space : ℕ) (bytes : List ℕ) (inside : Inside)
    → HoldsInside reading space None bytes inside → inside ≡ ([], None, None)
untyped_only reading space bytes (extensions, net, transport) part =
    ap (λ (x : List LinkExtension). (x, net, transport)) part.0
    ∙ ap (λ (x : Option NetLayer). ([], x, transport)) part.1
    ∙ ap (λ (x : Option TransportLayer). ([], None, x)) part.2

-- If no further link extension is read, bytes have a network layer alone.
no_space_back : (reading : Reading) (type : EtherType) (bytes : List ℕ) (inside : Inside)
    → HoldsInside reading zero (Some type) bytes inside
    → (part : NetPart) × IsNetPartOf reading (net_kind type) bytes part × (inside ≡ bare part)
no_space_back reading type bytes ([], net, transport) part = ((net, transport), part, refl)
no_space_back reading type bytes (extension ∷ others, net, transport) part = absurd part

-- If the ether type is none of a link extension, bytes have a network layer alone.
no_tag_back : ExtensionLaws → (reading : Reading) (space : ℕ) (type : EtherType) (bytes : List ℕ)
    → (¬ BeginsLinkExtension type)
    → (inside : Inside) → HoldsInside reading (suc space) (Some type) bytes inside
    → (part : NetPart) × IsNetPartOf reading (net_kind type) bytes part × (inside ≡ bare part)
no_tag_back laws reading space type bytes none ([], net, transport) part = ((net, transport), part.1, refl)
no_tag_back laws reading space type bytes none (extension ∷ others, net, transport) part =
    absurd (none (laws.begins type bytes (extension, part.0.0) part.0.1))

-- If the ether type is none of a link extension, the errors of the bytes are those of the network layer.
no_tag_refused_back : ExtensionLaws → (reading : Reading) (space offset : ℕ) (type : EtherType) (bytes : List ℕ)
    → (¬ BeginsLinkExtension type) → (error : SliceError)
    → RefusesInside reading (suc space) offset (Some type) bytes error
    → RefusesNetPart reading offset (net_kind type) bytes error
no_tag_refused_back laws reading space offset type bytes none error (inl refused) = refused.1
no_tag_refused_back laws reading space offset type bytes none error (inr (inl refused)) =
    absurd (none (laws.refused type bytes refused.0 refused.1))
no_tag_refused_back laws reading space offset type bytes none error (inr (inr refused)) =
    absurd (none (laws.begins type bytes (refused.0, refused.1) refused.2))

-- If the ether type is that of a link extension, bytes are one and the layers of its payload.
tag_back : (reading : Reading) (space : ℕ) (type : EtherType) (bytes : List ℕ) → BeginsLinkExtension type
    → (inside : Inside) → HoldsInside reading (suc space) (Some type) bytes inside
    → (layers : TagInside) × IsTagInside reading space type bytes layers × (inside ≡ tagged layers)
tag_back reading space type bytes begins ([], net, transport) part = absurd (part.0 begins)
tag_back reading space type bytes begins (extension ∷ others, net, transport) part =
    (((extension, part.0.0), (others, net, transport)), (part.0.1, part.1), refl)

-- An error of a link extension or of its payload is an error of the bytes.
tag_error_is_error : (reading : Reading) (space offset : ℕ) (type : EtherType) (bytes : List ℕ) (error : SliceError)
    → RefusesTagInside reading space offset type bytes error
    → RefusesInside reading (suc space) offset (Some type) bytes error
tag_error_is_error reading space offset type bytes error (inl refused) = inr (inl refused)
tag_error_is_error reading space offset type bytes error (inr refused) =
    inr (inr (refused.0.0, refused.0.1, refused.1, refused.2))

-- An error of bytes with the ether type of a link extension is one of the extension or of its payload.
tag_refused_back : (reading : Reading) (space offset : ℕ) (type : EtherType) (bytes : List ℕ) → BeginsLinkExtension type
    → (error : SliceError) → RefusesInside reading (suc space) offset (Some type) bytes error
    → RefusesTagInside reading space offset type bytes error
tag_refused_back reading space offset type bytes begins error (inl refused) = absurd (refused.0 begins)
tag_refused_back reading space offset type bytes begins error (inr (inl refused)) = inl refused
tag_refused_back reading space offset type bytes begins error (inr (inr refused)) =
    inr ((refused.0, refused.1), refused.2, refused.3)

-- Bytes of an ether type have one list of layers, or are rejected.
pub inside_decided : Deciders → (reading : Reading) (space offset : ℕ) (type : Option EtherType) (bytes : List ℕ)
    → AreBytes bytes → IsDecided (HoldsInside reading space type bytes) (RefusesInside reading space offset type bytes)
inside_decided deciders reading space offset None bytes fits =
    decided_by ([], None, None) (refl, refl, refl) (untyped_only reading space bytes) (λ error refused. refused)
inside_decided deciders reading zero offset (Some type) bytes fits =
    decided_as bare (λ error. error) (net_decided deciders reading offset (net_kind type) bytes fits)
    (record { present = λ part is. is; back = no_space_back reading type bytes })
    (same_image (λ error refused. refused) (λ error refused. refused))
inside_decided deciders reading (suc space) offset (Some type) bytes fits =
    elim (deciders.extension.cases type) [
      | inl begins ↦ decided_as tagged (λ error. error)
          (decided_then (refused_as (extension_refusal offset) (deciders.extension.decided type bytes fits begins))
          (λ part is.
          let parts = deciders.extension.bytes type bytes part is in
          inside_decided deciders reading space (after offset part) (extension_type part.0) (extension_payload part.0)
          (AreBytes-payload bytes parts.0 (extension_payload part.0) part.1 fits parts.2)))
          (record { present = λ layers is. ((layers.0.1, is.0), is.1); back = tag_back reading space type bytes begins })
          (same_image (tag_error_is_error reading space offset type bytes)
          (tag_refused_back reading space offset type bytes begins))
      | inr none ↦ decided_as bare (λ error. error) (net_decided deciders reading offset (net_kind type) bytes fits)
          (record { present = λ part is. (none, is); back = no_tag_back deciders.extension reading space type bytes none })
          (same_image (λ error refused. inl (none, refused))
          (no_tag_refused_back deciders.extension reading space offset type bytes none))
    ]
