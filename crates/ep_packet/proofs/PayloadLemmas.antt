-- The payload of the last link extension.
use Rattle.std.proofs.Common.{◌≡◌, ℕ, ◌-◌, List, [], ◌∷◌, map, length, Option, Some, refl, sym, ap, ◌∙◌, arith}
use Rattle.std.specs.Prelude.{slice_get}
use Rattle.std.specs.Option.{option_map}
use Rattle.std.proofs.lemmas.List.{length-map}
use Rattle.std.proofs.lemmas.Option.{slice_get-map}
use Rattle.ep_base.specs.declared.len_source.LenSource.{LenSource}
use Rattle.ep_link.specs.declared.link_ext.link_ext_slice.LinkExtSlice.{LinkExtSlice}
use Rattle.ep_link.specs.EtherPayloads.{EtherPayload}
use Rattle.ep_link.specs.LinkSlices.{LinkLayer}
use Rattle.ep_link.specs.LinkExtensions.{LinkExtension, link_extension_of, extension_ether_payload, extension_payload}
use Rattle.ep_packet.specs.FrameBytes.{payload_after_exts}
use Rattle.ep_packet.specs.Payloads.{ether_payload_after, ether_payload_of_parts, extensions_len_source}

-- The last of one link extension and others after it.
last_of : LinkExtension → List LinkExtension → LinkExtension
last_of extension [] = extension
last_of extension (next ∷ others) = last_of next others

get_last : (extension : LinkExtension) (others : List LinkExtension)
    → slice_get (extension ∷ others) (length others) ≡ Some (last_of extension others)
unfolding last_of
get_last extension [] = refl
get_last extension (next ∷ others) = get_last next others

-- The payload after link extensions is the payload of the last one.
after_last : (extension : LinkExtension) (others : List LinkExtension)
    → payload_after_exts (extension_payload extension) others ≡ extension_payload (last_of extension others)
unfolding last_of
after_last extension [] = refl
after_last extension (next ∷ others) = after_last next others

ether_after_last : (extension : LinkExtension) (others : List LinkExtension)
    → ether_payload_after (extension_ether_payload extension) others
    ≡ extension_ether_payload (last_of extension others)
unfolding last_of
ether_after_last extension [] = refl
ether_after_last extension (next ∷ others) = ether_after_last next others

-- The element at the last index of link extensions is the last one.
found_last : (extension : LinkExtension) (others : List LinkExtension) (last : LinkExtension)
    → slice_get (extension ∷ others) (length (extension ∷ others) - 1) ≡ Some last → last_of extension others ≡ last
found_last extension others last is =
    let place : length others ≡ length (extension ∷ others) - 1 = omega arith in
    let same : Some (last_of extension others) ≡ Some last =
    sym (get_last extension others) ∙ ap (slice_get (extension ∷ others)) place ∙ is in
    cc same

-- The last slice of a list shows the last link extension.
pub last_shown : (slices : List LinkExtSlice) (last : LinkExtSlice) → slice_get slices (length slices - 1) ≡ Some last
    → slice_get (map link_extension_of slices) (length (map link_extension_of slices) - 1)
    ≡ Some (link_extension_of last)
last_shown slices last is =
    ap (λ (n : ℕ). slice_get (map link_extension_of slices) (n - 1)) (length-map slices link_extension_of)
    ∙ slice_get-map link_extension_of slices (length slices - 1) ∙ ap (option_map link_extension_of) is

-- The payload after link extensions is the payload of the last one.
pub payload_of_last : (bytes : List ℕ) (extensions : List LinkExtension) (last : LinkExtension)
    → slice_get extensions (length extensions - 1) ≡ Some last
    → payload_after_exts bytes extensions ≡ extension_payload last
payload_of_last bytes [] last is = absurd (cc is)
payload_of_last bytes (extension ∷ others) last is =
    after_last extension others ∙ ap extension_payload (found_last extension others last is)

-- A payload with the given source of its end.
abbrev pub with_source : LenSource → EtherPayload → EtherPayload
with_source source payload = record payload { len_source = source }

-- The payload after link extensions, with its ether type, is that of the last one.
pub ether_payload_of_last : (link : Option LinkLayer) (extensions : List LinkExtension) (last : LinkExtension)
    → slice_get extensions (length extensions - 1) ≡ Some last
    → ether_payload_of_parts link extensions
    ≡ option_map (with_source (extensions_len_source extensions)) (extension_ether_payload last)
ether_payload_of_last link [] last is = absurd (cc is)
ether_payload_of_last link (extension ∷ others) last is =
    ap (option_map (with_source (extensions_len_source (extension ∷ others))))
    (ether_after_last extension others ∙ ap extension_ether_payload (found_last extension others last is))
