-- The payload after the link extensions of a packet sliced laxly.
use Rattle.std.proofs.Common.{◌≡◌, ℕ, ◌-◌, Bool, false, List, [], ◌∷◌, map, length, Option, Some, refl, sym, ap, ◌∙◌, arith}
use Rattle.std.specs.Prelude.{slice_get}
use Rattle.std.specs.Option.{option_map}
use Rattle.std.proofs.lemmas.List.{length-map}
use Rattle.std.proofs.lemmas.Option.{slice_get-map}
use Rattle.ep_base.specs.declared.len_source.LenSource.TheVariants as source
use Rattle.ep_link.specs.LinkExtensions.{LinkExtension, extension_payload}
use Rattle.ep_link.specs.LinkSlices.{LinkLayer}
use Rattle.ep_packet.specs.FrameBytes.{payload_after_exts}
use Rattle.ep_packet.specs.Offsets.{tags_len}
use Rattle.ep_packet.proofs.PayloadLemmas.{payload_of_last}
use Rattle.ep_lax.specs.declared.lax_link_ext_slice.LaxLinkExtSlice.{LaxLinkExtSlice}
use Rattle.ep_lax.specs.LaxPackets.{extensions_incomplete}
use Rattle.ep_lax.specs.LaxPayloads.{last_after, lax_ether_payload_after, payload_of_tagged, source_after}
use Rattle.ep_lax.specs.LaxViews.{extension_incomplete, lax_extension_of, lax_extensions_of}
use Rattle.ep_lax.specs.StrictFrames.{extension_in}

-- The link extensions of slices, whether or not bytes of their payloads are missing.
pub extensions_in : (outer : Bool) (slices : List LaxLinkExtSlice)
    → map extension_in (lax_extensions_of outer slices) ≡ map lax_extension_of slices
extensions_in outer [] = refl
extensions_in outer (slice ∷ others) =
    ap (λ (more : List LinkExtension). lax_extension_of slice ∷ more)
    (extensions_in (extension_incomplete outer slice) others)

-- The tags of link extensions have the same length in slices and layers.
pub tags_in : (slices : List LaxLinkExtSlice)
    → tags_len (map lax_extension_of slices) ≡ tags_len (map extension_in (lax_extensions_of false slices))
tags_in slices = ap tags_len (sym (extensions_in false slices))

-- The payload after the link extensions is that of the last one.
pub open_payload_of_last : (bytes : List ℕ) (slices : List LaxLinkExtSlice) (last : LaxLinkExtSlice)
    → slice_get slices (length slices - 1) ≡ Some last
    → payload_after_exts bytes (map extension_in (lax_extensions_of false slices))
    ≡ extension_payload (lax_extension_of last)
open_payload_of_last bytes slices last is =
    ap (payload_after_exts bytes) (extensions_in false slices)
    ∙ payload_of_last bytes (map lax_extension_of slices) (lax_extension_of last)
    (ap (λ (n : ℕ). slice_get (map lax_extension_of slices) (n - 1)) (length-map slices lax_extension_of)
    ∙ slice_get-map lax_extension_of slices (length slices - 1) ∙ ap (option_map lax_extension_of) is)

-- The last of several link extensions, and whether bytes of its payload are missing.
last_shown : (outer : Bool) (slice : LaxLinkExtSlice) (others : List LaxLinkExtSlice) (last : LaxLinkExtSlice)
    → slice_get (slice ∷ others) (length others) ≡ Some last
    → last_after (lax_extension_of slice, extension_incomplete outer slice)
    (lax_extensions_of (extension_incomplete outer slice) others)
    ≡ (lax_extension_of last, extensions_incomplete outer (slice ∷ others))
last_shown outer slice [] last is =
    let same : slice ≡ last = cc is in
    λ i. (lax_extension_of (same i), extension_incomplete outer slice)
last_shown outer slice (next ∷ others) last is = last_shown (extension_incomplete outer slice) next others last is

-- The payload of the last link extension, with its ether type.
pub ether_payload_of_last : (link : Option LinkLayer) (slices : List LaxLinkExtSlice) (last : LaxLinkExtSlice)
    → slice_get slices (length slices - 1) ≡ Some last
    → lax_ether_payload_after link (lax_extensions_of false slices)
    ≡ payload_of_tagged (source_after source.Slice (map lax_extension_of slices))
    (lax_extension_of last, extensions_incomplete false slices)
ether_payload_of_last link [] last is = absurd (cc is)
ether_payload_of_last link (slice ∷ others) last is =
    let place : length (slice ∷ others) - 1 ≡ length others = omega arith in
    let found : slice_get (slice ∷ others) (length others) ≡ Some last =
    ap (slice_get (slice ∷ others)) (sym place) ∙ is in
    let sources = extensions_in false (slice ∷ others) in
    let same = last_shown false slice others last found in
    λ i. payload_of_tagged (source_after source.Slice (sources i)) (same i)
