-- One step of slicing or decoding a frame, from the contracts of the layers' functions.
use Rattle.std.proofs.Common.{◌≡◌, ◌⊎◌, Bool, ◌-◌, ◌<◌, ℕ, zero, suc, List, [], ◌∷◌, ◌++◌, length, length-append, Option, Some, None, sym, ap, subst, ◌∙◌, inl, inr, arith}
use Rattle.std.specs.Prelude.{IfSome, IfNone}
use Rattle.ep_base.specs.Readings.{Reading}
use Rattle.ep_base.specs.declared.err.len_error.LenError.{LenError}
use Rattle.ep_base.specs.declared.err.tcp.HeaderSliceError.{HeaderSliceError}
use Rattle.ep_base.specs.declared.err.tcp.HeaderSliceError.TheVariants as tcp_error
use Rattle.ep_base.specs.declared.ether_type.EtherType.{EtherType}
use Rattle.ep_link.specs.declared.link_ext.link_ext_slice.LinkExtSlice.{LinkExtSlice}
use Rattle.ep_link.specs.LinkExtensions.{LinkExtension, BeginsLinkExtension, IsLinkExtension, link_ext_slice_bytes, link_extension_of}
use Rattle.ep_link.specs.LinkSlices.{LinkLayer}
use Rattle.ep_transport.specs.TransportParts.{TransportLayer, RefusesTransportPart}
use Rattle.ep_transport.proofs.TransportPlaceLemmas.{at_start, transport_start}
use Rattle.ep_packet.specs.Layers.{Layers, NetLayer}
use Rattle.ep_packet.specs.Frame.{most_link_exts, net_kind, IsInside, IsNetPart}

-- A relation of two values holds for values equal to them.
pub along : {A B : Type 0} (P : A → B → Type 0) (a b : A) (x y : B) → a ≡ b → x ≡ y → P a x → P b y
along P a b x y same others holds = subst (λ z. P b z) others (subst (λ c. P c x) same holds)

-- The layers of a packet.
abbrev layers_with : Option LinkLayer → List LinkExtension → Option NetLayer → Option TransportLayer → Layers
layers_with link extensions net transport =
    record { link = link; link_exts = extensions; net = net; transport = transport }

-- ---- link extensions

-- Link extensions end at the greatest number, or at an ether type that is none of a link extension.
pub ends_at : (reading : Reading) (space : ℕ) (type : EtherType) (bytes : List ℕ)
    → ((space ≡ 0) ⊎ (¬ BeginsLinkExtension type)) → (net : Option NetLayer) (transport : Option TransportLayer)
    → IsNetPart reading (net_kind type) bytes net transport
    → IsInside reading space (Some type) bytes [] net transport
ends_at reading zero type bytes why net transport part = part
ends_at reading (suc space) type bytes (inl full) net transport part = absurd (omega (arith, full))
ends_at reading (suc space) type bytes (inr none) net transport part = (none, part)

-- A link extension that was returned is at the start of the bytes.
pub found_present : (type : EtherType) (bytes : List ℕ) (answer : Option LinkExtSlice) (found : LinkExtSlice)
    → answer ≡ Some found
    → IfSome answer (λ shown. (left : List ℕ) × (bytes ≡ link_ext_slice_bytes shown ++ left)
    × IsLinkExtension type bytes (link_extension_of shown, left))
    → (left : List ℕ) × (bytes ≡ link_ext_slice_bytes found ++ left)
    × IsLinkExtension type bytes (link_extension_of found, left)
found_present type bytes answer found same ok =
    subst (λ (o : Option LinkExtSlice). IfSome o
    (λ shown. (left : List ℕ) × (bytes ≡ link_ext_slice_bytes shown ++ left)
    × IsLinkExtension type bytes (link_extension_of shown, left))) same ok

-- If no link extension was returned, the ether type is none of one.
pub none_present : (type : EtherType) (answer : Option LinkExtSlice) → answer ≡ None
    → IfNone answer (¬ BeginsLinkExtension type) → ¬ BeginsLinkExtension type
none_present type answer same none =
    subst (λ (o : Option LinkExtSlice). IfNone o (¬ BeginsLinkExtension type)) same none

-- After one more link extension, there is space for one less.
pub space_after : {A : Type 0} (before after : List A) (tag : A) → after ≡ before ++ tag ∷ []
    → length before < most_link_exts → most_link_exts - length before ≡ suc (most_link_exts - length after)
space_after before after tag parts space =
    omega (arith, ap length parts, length-append before (tag ∷ []), space)

-- ---- transport layer

-- The length error of a transport layer names a layer that starts where the transport layer does.
pub transport_error_start : (reading : Reading) (number : ℕ) (fragmented : Bool) (bytes : List ℕ)
    (found : HeaderSliceError) (error : LenError) → found ≡ tcp_error.Len error
    → RefusesTransportPart reading number fragmented bytes found → error.layer_start_offset ≡ 0
transport_error_start reading number fragmented bytes found error same refused =
    sym (ap transport_start same) ∙ at_start reading number fragmented bytes found refused

-- ---- whole packet

-- Layers are equal if their parts are.
pub same_layers : (k l : Layers) → k.link ≡ l.link → k.link_exts ≡ l.link_exts → k.net ≡ l.net
    → k.transport ≡ l.transport → k ≡ l
same_layers k l link extensions net transport =
    ap (λ (x : Option LinkLayer). layers_with x k.link_exts k.net k.transport) link
    ∙ ap (λ (x : List LinkExtension). layers_with l.link x k.net k.transport) extensions
    ∙ ap (λ (x : Option NetLayer). layers_with l.link l.link_exts x k.transport) net
    ∙ ap (layers_with l.link l.link_exts l.net) transport
