-- Slicing the link extensions of a packet, one after the other.
use Rattle.std.proofs.Common.{◌≡◌, ◌⊎◌, ℕ, zero, suc, ◌+◌, ◌≤◌, List, [], ◌∷◌, ◌++◌, map, length, Option, Some, None, refl, sym, ap, subst, ◌∙◌, inl, inr, append_assoc, arith}
use Rattle.std.specs.Option.{option_map}
use Rattle.std.proofs.lemmas.List.{append-nil, map-append}
use Rattle.ep_base.specs.Readings.{slices}
use Rattle.ep_base.specs.declared.ether_type.EtherType.{EtherType}
use Rattle.ep_link.specs.declared.link_ext.link_ext_slice.LinkExtSlice.{LinkExtSlice}
use Rattle.ep_link.specs.LinkExtensions.{LinkExtension, BeginsLinkExtension, IsLinkExtension, extension_header, extension_payload, extension_type, link_ext_header_len, link_ext_slice_bytes, link_extension_of}
use Rattle.ep_link.proofs.LinkExtensionLemmas.{extension_len}
use Rattle.ep_transport.specs.declared.transport_slice.TransportSlice.{TransportSlice}
use Rattle.ep_transport.specs.TransportParts.{TransportLayer, transport_layer_of}
use Rattle.ep_packet.specs.declared.err.slice_error.SliceError.{SliceError}
use Rattle.ep_packet.specs.declared.net_slice.NetSlice.{NetSlice}
use Rattle.ep_packet.specs.Layers.{NetLayer, net_layer_of}
use Rattle.ep_packet.specs.Frame.{IsInside, IsNetPart, most_link_exts}
use Rattle.ep_packet.specs.FrameRefusals.{RefusesExtensionAt, RefusesInside, RefusesNetPart}
use Rattle.ep_packet.specs.ShownBytes.{BeginsWith, ShowsInside}
use Rattle.ep_packet.specs.Walk.{HasExtensions, net_kind_in}
use Rattle.ep_packet.proofs.WalkLemmas.{ends_at}

-- Link extensions read at the start of the bytes, and the number of further ones that are read: the layers of the rest,
-- and its errors, are those of the bytes after these link extensions.
pub record Reads (offset : ℕ) (type : Option EtherType) (bytes : List ℕ) (extensions : List LinkExtSlice) (space : ℕ)
    (rest_offset : ℕ) (rest_type : Option EtherType) (rest : List ℕ) : Type 0 where
  pub place : rest_offset + length rest ≤ offset + length bytes
  pub holds : (others : List LinkExtension) (net : Option NetLayer) (transport : Option TransportLayer)
      → IsInside slices space rest_type rest others net transport
      → IsInside slices most_link_exts type bytes (map link_extension_of extensions ++ others) net transport
  pub shows : (others : List LinkExtSlice) (net : Option NetSlice) (transport : Option TransportSlice)
      → ShowsInside rest others net transport → ShowsInside bytes (extensions ++ others) net transport
  pub refused : (error : SliceError) → RefusesInside slices space rest_offset rest_type rest error
      → RefusesInside slices most_link_exts offset type bytes error

-- The ether type, if known, is none of a link extension.
abbrev pub BeginsNone : Option EtherType → Type 0
BeginsNone None = Unit
BeginsNone (Some type) = ¬ BeginsLinkExtension type

-- An unknown ether type is none of a link extension.
pub unknown_begins_none : (type : Option EtherType) → type ≡ None → BeginsNone type
unknown_begins_none type is = subst BeginsNone (sym is) tt

-- A known ether type that is none of a link extension.
pub known_begins_none : (type : Option EtherType) (known : EtherType) → type ≡ Some known
    → (¬ BeginsLinkExtension known) → BeginsNone type
known_begins_none type known is none = subst BeginsNone (sym is) none

-- At first, no link extension was read.
pub reads_nothing : (offset space : ℕ) (type : Option EtherType) (bytes : List ℕ) (extensions : List LinkExtSlice)
    → extensions ≡ [] → space ≡ most_link_exts → Reads offset type bytes extensions space offset type bytes
reads_nothing offset space type bytes extensions none all =
    subst (λ (x : List LinkExtSlice). Reads offset type bytes x space offset type bytes) (sym none)
    (subst (λ (n : ℕ). Reads offset type bytes [] n offset type bytes) (sym all)
    (record {
      place = omega arith;
      holds = λ others net transport is. is;
      shows = λ others net transport shown. shown;
      refused = λ error refused. refused;
    }))

-- After a link extension, one more was read.
one_more : (offset : ℕ) (type : Option EtherType) (bytes : List ℕ) (old : List LinkExtSlice) (space at : ℕ)
    (known : EtherType) (here left : List ℕ) (found : LinkExtSlice)
    → Reads offset type bytes old (suc space) at (Some known) here → BeginsWith here (link_ext_slice_bytes found)
    → IsLinkExtension known here (link_extension_of found, left)
    → Reads offset type bytes (old ++ found ∷ []) space
    (at + link_ext_header_len (extension_header (link_extension_of found)))
    (extension_type (link_extension_of found)) (extension_payload (link_extension_of found))
one_more offset type bytes old space at known here left found so_far begins part = record {
  place = omega (arith, so_far.place, extension_len known here (link_extension_of found, left) part);
  holds = λ others net transport is.
      subst (λ (x : List LinkExtension). IsInside slices most_link_exts type bytes x net transport)
      (sym (ap (λ (x : List LinkExtension). x ++ others) (map-append link_extension_of old (found ∷ []))
      ∙ append_assoc (map link_extension_of old) (link_extension_of found ∷ []) others))
      (so_far.holds (link_extension_of found ∷ others) net transport ((left, part), is));
  shows = λ others net transport shown.
      subst (λ (x : List LinkExtSlice). ShowsInside bytes x net transport)
      (sym (append_assoc old (found ∷ []) others)) (so_far.shows (found ∷ others) net transport (begins, shown));
  refused = λ error refused. so_far.refused error (inr (inr (link_extension_of found, left, part, refused)));
}

-- One more was read, from the contracts of the functions.
pub reads_one : (offset : ℕ) (type : Option EtherType) (bytes : List ℕ) (old new : List LinkExtSlice)
    (space rest at after : ℕ) (here_type next_type : Option EtherType) (known : EtherType) (here left next : List ℕ)
    (found : LinkExtSlice)
    → Reads offset type bytes old space at here_type here → space ≡ suc rest → here_type ≡ Some known
    → BeginsWith here (link_ext_slice_bytes found) → IsLinkExtension known here (link_extension_of found, left)
    → new ≡ old ++ found ∷ [] → after ≡ at + link_ext_header_len (extension_header (link_extension_of found))
    → next_type ≡ extension_type (link_extension_of found) → next ≡ extension_payload (link_extension_of found)
    → Reads offset type bytes new rest after next_type next
reads_one offset type bytes old new space rest at after here_type next_type known here left next found so_far more is
    begins part push place type_is payload_is =
    let first = subst (λ (t : Option EtherType). Reads offset type bytes old (suc rest) at t here) is
    (subst (λ (n : ℕ). Reads offset type bytes old n at here_type here) more so_far) in
    let one = one_more offset type bytes old rest at known here left found first begins part in
    subst (λ (x : List LinkExtSlice). Reads offset type bytes x rest after next_type next) (sym push)
    (subst (λ (n : ℕ). Reads offset type bytes (old ++ found ∷ []) rest n next_type next) (sym place)
    (subst (λ (t : Option EtherType). Reads offset type bytes (old ++ found ∷ []) rest
    (at + link_ext_header_len (extension_header (link_extension_of found))) t next) (sym type_is)
    (subst (λ (b : List ℕ). Reads offset type bytes (old ++ found ∷ []) rest
    (at + link_ext_header_len (extension_header (link_extension_of found)))
    (extension_type (link_extension_of found)) b) (sym payload_is) one)))

-- Bytes with the ether type of a link extension, but which are no valid one, are rejected.
pub reads_refused : (offset : ℕ) (type : Option EtherType) (bytes : List ℕ) (old : List LinkExtSlice)
    (space rest at : ℕ) (here_type : Option EtherType) (known : EtherType) (here : List ℕ) (error : SliceError)
    → Reads offset type bytes old space at here_type here → space ≡ suc rest → here_type ≡ Some known
    → RefusesExtensionAt at known here error → RefusesInside slices most_link_exts offset type bytes error
reads_refused offset type bytes old space rest at here_type known here error so_far more is refused =
    let first = subst (λ (t : Option EtherType). Reads offset type bytes old (suc rest) at t here) is
    (subst (λ (n : ℕ). Reads offset type bytes old n at here_type here) more so_far) in
    first.refused error (inr (inl refused))

-- If no further link extension is read, the layers of the bytes are those of the network layer.
net_part_inside : (space : ℕ) (type : Option EtherType) (bytes : List ℕ) → ((space ≡ 0) ⊎ BeginsNone type)
    → (net : Option NetLayer) (transport : Option TransportLayer)
    → IsNetPart slices (net_kind_in type) bytes net transport → IsInside slices space type bytes [] net transport
net_part_inside space None bytes why net transport part = (refl, part.0, part.1)
net_part_inside space (Some type) bytes why net transport part = ends_at slices space type bytes why net transport part

-- If no further link extension is read, the errors of the bytes are those of the network layer.
net_part_refused : (space offset : ℕ) (type : Option EtherType) (bytes : List ℕ) → ((space ≡ 0) ⊎ BeginsNone type)
    → (error : SliceError) → RefusesNetPart slices offset (net_kind_in type) bytes error
    → RefusesInside slices space offset type bytes error
net_part_refused space offset None bytes why error refused = refused
net_part_refused zero offset (Some type) bytes why error refused = refused
net_part_refused (suc space) offset (Some type) bytes (inl full) error refused = absurd (omega (arith, full))
net_part_refused (suc space) offset (Some type) bytes (inr none) error refused = inl (none, refused)

-- If no further link extension is read, these are all link extensions of the bytes.
pub extensions_end : (offset : ℕ) (type : Option EtherType) (bytes : List ℕ) (extensions : List LinkExtSlice)
    (space at : ℕ) (rest_type : Option EtherType) (rest : List ℕ)
    → Reads offset type bytes extensions space at rest_type rest → ((space ≡ 0) ⊎ BeginsNone rest_type)
    → HasExtensions offset type bytes extensions at rest_type rest
extensions_end offset type bytes extensions space at rest_type rest so_far why = record {
  place = so_far.place;
  holds = λ net transport part. record {
    inside = subst
        (λ (x : List LinkExtension). IsInside slices most_link_exts type bytes x
        (option_map net_layer_of net) (option_map transport_layer_of transport))
        (append-nil (map link_extension_of extensions))
        (so_far.holds [] _ _ (net_part_inside space rest_type rest why _ _ part.part));
    shows = subst (λ (x : List LinkExtSlice). ShowsInside bytes x net transport) (append-nil extensions)
        (so_far.shows [] net transport part.shows);
  };
  refused = λ error refused. so_far.refused error (net_part_refused space at rest_type rest why error refused);
}
