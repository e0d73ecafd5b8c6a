-- Lemmas about the VLAN and MACsec tags of a packet.
use Rattle.std.proofs.Common.{◌≡◌, ℕ, ◌+◌, Bool, true, List, [], ◌∷◌, ◌||◌, map, drop, Option, Some, None, refl, ap, sym, ◌∙◌, arith}
use Rattle.std.specs.Prelude.{if◌then◌else◌}
use Rattle.std.specs.List.{list_any}
use Rattle.ep_lax.specs.declared.lax_link_ext_slice.LaxLinkExtSlice.{LaxLinkExtSlice}
use Rattle.ep_lax.specs.LaxViews.{extension_incomplete, lax_extension_of, lax_extensions_of}
use Rattle.ep_lax.specs.StrictFrames.{extension_in}
use Rattle.ep_link.specs.LinkExtensions.{LinkExtension}
use Rattle.ep_packet.specs.Offsets.{link_len, tags_len}
use Rattle.packet_filter.specs.Packets.{Packet, bytes_of_type, is_type, link_type, tags_in, type_after}

-- The tags that slices show, whether or not bytes of their payloads are missing.
pub shown_tags : (outer : Bool) (slices : List LaxLinkExtSlice)
    → map extension_in (lax_extensions_of outer slices) ≡ map lax_extension_of slices
shown_tags outer [] = refl
shown_tags outer (slice ∷ slices) =
    ap (λ (tags : List LinkExtension). lax_extension_of slice ∷ tags)
    (shown_tags (extension_incomplete outer slice) slices)

-- A test of slices by the tags that they show is a test of the tags.
any_shown : (test : LinkExtension → Bool) (slices : List LaxLinkExtSlice)
    → list_any (λ slice. test (lax_extension_of slice)) slices ≡ list_any test (map lax_extension_of slices)
any_shown test [] = refl
any_shown test (slice ∷ slices) =
    ap (λ (others : Bool). test (lax_extension_of slice) || others) (any_shown test slices)

-- A test of slices by the tags that they show is a test of the packet's tags.
pub any_of_tags : (test : LinkExtension → Bool) (slices : List LaxLinkExtSlice) (outer : Bool)
    → list_any (λ slice. test (lax_extension_of slice)) slices
    ≡ list_any test (map extension_in (lax_extensions_of outer slices))
any_of_tags test slices outer = any_shown test slices ∙ ap (list_any test) (sym (shown_tags outer slices))

-- The choice of a condition that is true.
chosen : (holds : Bool) (one other : Option (List ℕ)) → holds ≡ true → one ≡ (if holds then one else other)
chosen holds one other is_true = rw is_true refl

-- The bytes after the link layer and its tags are those of a layer with the ether type after the tags.
pub bytes_after_tags : (type : ℕ) (packet : Packet) (known : Option ℕ) (link tags : ℕ)
    → is_type type known ≡ true
    → known ≡ type_after (link_type packet.layers.link packet.layers.net.layer) (tags_in packet.layers)
    → link ≡ link_len packet.layers.link → tags ≡ tags_len (tags_in packet.layers)
    → Some (drop (link + tags) packet.bytes) ≡ bytes_of_type type packet
bytes_after_tags type packet known link tags of_type known_is link_is tags_is =
    ap (λ (at : ℕ). Some (drop at packet.bytes)) (omega (arith, link_is, tags_is))
    ∙ chosen
    (is_type type (type_after (link_type packet.layers.link packet.layers.net.layer) (tags_in packet.layers)))
    (Some (drop (link_len packet.layers.link + tags_len (tags_in packet.layers)) packet.bytes)) None
    (sym (ap (is_type type) known_is) ∙ of_type)
