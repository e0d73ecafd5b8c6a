-- Link extensions, and the ether type of the payload after them, of packets that are read laxly.
use Rattle.std.proofs.Common.{◌≡◌, Bool, List, [], ◌∷◌, map, Option, Some, None, refl, sym, ap, ◌∙◌}
use Rattle.std.specs.Option.{option_and_then, option_map}
use Rattle.etherparse.specs.EtherPayloads.{EtherPayload}
use Rattle.etherparse.specs.LaxLayers.{LaxLayers}
use Rattle.etherparse.specs.LaxPayloads.{LaxEtherPayload, last_after, lax_ether_payload_after, lax_ether_payload_in, lax_ether_payload_of}
use Rattle.etherparse.specs.LaxPayloads.{source_after, typed_payload, complete_payload}
use Rattle.etherparse.specs.LaxViews.{extension_incomplete, lax_extension_of, lax_extensions_of}
use Rattle.etherparse.specs.LinkExtensions.{LinkExtension, vlan, macsec, extension_ether_payload, extension_type}
use Rattle.etherparse.specs.LinkSlices.{LinkLayer, link_ether_payload}
use Rattle.etherparse.specs.Macsec.{modified, unmodified}
use Rattle.etherparse.specs.Payloads.{ether_payload_after, ether_payload_in, ether_payload_of_parts, extensions_len_source}
use Rattle.etherparse.specs.StrictFrames.{extension_in, layers_in}
use Rattle.etherparse.specs.Types.EtherType.{EtherType}
use Rattle.etherparse.specs.Types.LaxEtherPayloadSlice.{LaxEtherPayloadSlice}
use Rattle.etherparse.specs.Types.LaxLinkExtSlice.{LaxLinkExtSlice}
use Rattle.etherparse.specs.Types.LenSource.{LenSource}
use Rattle.etherparse.specs.Types.LenSource.TheVariants as source

-- The extensions of the slices do not depend on whether bytes are missing.
pub extensions_in : (outer : Bool) (slices : List LaxLinkExtSlice)
    → map extension_in (lax_extensions_of outer slices) ≡ map lax_extension_of slices
extensions_in outer [] = refl
extensions_in outer (slice ∷ others) =
    ap (λ (more : List LinkExtension). lax_extension_of slice ∷ more)
    (extensions_in (extension_incomplete outer slice) others)

-- the ether type of the payload of a link extension
abbrev type_of : Option EtherPayload → Option EtherType
type_of payload = option_map (λ (p : EtherPayload). p.ether_type) payload

abbrev lax_type_of : Option LaxEtherPayload → Option EtherType
lax_type_of payload = option_map (λ (p : LaxEtherPayload). p.ether_type) payload

one_type : (extension : LinkExtension) → type_of (extension_ether_payload extension) ≡ extension_type extension
one_type (vlan tag payload) = refl
one_type (macsec tag (unmodified type source bytes)) = refl
one_type (macsec tag (modified bytes)) = refl

-- The ether type after several extensions is that of the last one.
last_type : (first : LinkExtension × Bool) (others : List (LinkExtension × Bool))
    → type_of (ether_payload_after (extension_ether_payload first.0) (map extension_in others))
    ≡ extension_type (last_after first others).0
last_type first [] = one_type first.0
last_type first (next ∷ others) = last_type next others

same_type : (type : Option EtherType) (with_type : EtherType → LaxEtherPayload)
    → ((t : EtherType) → (with_type t).ether_type ≡ t) → lax_type_of (option_map with_type type) ≡ type
same_type None with_type is = refl
same_type (Some type) with_type is = ap (λ t. Some t) (is type)

complete_type : (payload : Option EtherPayload) → lax_type_of (option_map complete_payload payload) ≡ type_of payload
complete_type None = refl
complete_type (Some payload) = refl

-- The source of the length does not change the ether type.
type_kept : (end : LenSource) (payload : Option EtherPayload)
    → type_of (option_map (λ (inside : EtherPayload). record inside { len_source = end }) payload) ≡ type_of payload
type_kept end None = refl
type_kept end (Some payload) = refl

-- The ether type does not depend on whether bytes are missing.
type_in : (link : Option LinkLayer) (extensions : List (LinkExtension × Bool))
    → lax_type_of (lax_ether_payload_after link extensions)
    ≡ type_of (ether_payload_of_parts link (map extension_in extensions))
type_in link [] = complete_type (option_and_then link_ether_payload link)
type_in link (first ∷ others) =
    let end = source_after source.Slice (map extension_in (first ∷ others)) in
    same_type (extension_type (last_after first others).0) (typed_payload end (last_after first others)) (λ t. refl)
    ∙ sym (last_type first others)
    ∙ sym (type_kept (extensions_len_source (map extension_in (first ∷ others)))
    (ether_payload_after (extension_ether_payload first.0) (map extension_in others)))

slice_type : (found : Option LaxEtherPayloadSlice)
    → option_map (λ (slice : LaxEtherPayloadSlice). slice.ether_type) found
    ≡ lax_type_of (option_map lax_ether_payload_of found)
slice_type None = refl
slice_type (Some slice) = refl

-- The ether type of a payload slice is that of the layers.
pub type_found : (found : Option LaxEtherPayloadSlice) (read : LaxLayers)
    → option_map lax_ether_payload_of found ≡ lax_ether_payload_in read
    → option_map (λ (slice : LaxEtherPayloadSlice). slice.ether_type) found
    ≡ type_of (ether_payload_in (layers_in read))
type_found found read is = slice_type found ∙ ap lax_type_of is ∙ type_in read.link read.link_exts
