-- Steps of lax slicing of a packet, from the contracts of the calls for layers.
use Rattle.std.proofs.Common.{◌≡◌, ◌⊎◌, ℕ, zero, suc, ◌+◌, ◌≤◌, Bool, false, List, [], ◌∷◌, ◌++◌, length, Option, Some, None, refl, sym, ap, subst, ◌∙◌, inl, inr, append_assoc, length-append, arith}
use Rattle.std.proofs.Math.Path.{transport}
use Rattle.std.specs.Prelude.{IfSome, IfNone}
use Rattle.std.proofs.lemmas.List.{append-nil}
use Rattle.ep_base.proofs.TableLemmas.{refusal_is}
use Rattle.ep_base.specs.declared.err.len_error.LenError.{LenError}
use Rattle.ep_base.specs.declared.err.macsec.HeaderSliceError.{HeaderSliceError as TagError}
use Rattle.ep_base.specs.declared.ether_type.EtherType.{EtherType}
use Rattle.ep_link.specs.LinkExtensions.{LinkExtension, vlan, macsec, BeginsLinkExtension, extension_header, extension_payload, extension_type, link_ext_header_len}
use Rattle.ep_link.specs.Macsec.{macsec_header_rows, macsec_payload_bytes}
use Rattle.ep_link.specs.Vlan.{vlan_bytes, vlan_rows}
use Rattle.ep_link.proofs.MacsecReadLemmas.{encoded_len as macsec_encoded_len}
use Rattle.ep_transport.specs.declared.transport_slice.TransportSlice.{TransportSlice}
use Rattle.ep_packet.specs.declared.err.slice_error.SliceError.{SliceError}
use Rattle.ep_packet.specs.Frame.{most_link_exts}
use Rattle.ep_packet.specs.FrameRefusals.{extension_refusal}
use Rattle.ep_packet.specs.Walk.{net_kind_in}
use Rattle.ep_lax.specs.declared.lax_link_ext_slice.LaxLinkExtSlice.{LaxLinkExtSlice}
use Rattle.ep_lax.specs.declared.lax_net_slice.LaxNetSlice.{LaxNetSlice}
use Rattle.ep_lax.specs.LaxLayers.{LaxNet, no_net, error_with_layer}
use Rattle.ep_lax.specs.Lax.{IsLaxExtension, IsLaxInside, IsLaxNet, RefusesLaxExtension}
use Rattle.ep_lax.specs.LaxPackets.{ShowsLaxInside, extensions_incomplete, lax_net_of}
use Rattle.ep_lax.specs.LaxViews.{extension_incomplete, lax_extension_of, lax_extensions_of}
use Rattle.ep_lax.specs.LaxWalk.{HasLaxExtensions, IsShownExtension, RefusesTag, StopsAfterExtensions, extension_start}
use Rattle.ep_lax.proofs.LaxMacsecLemmas.{payload_by_is}

-- ---- one link extension

-- An error of a tag is an error of a link extension.
pub tag_refused : (offset : ℕ) (type : EtherType) (bytes : List ℕ) (error : TagError) → RefusesTag type bytes error
    → RefusesLaxExtension offset type bytes (extension_refusal offset error)
tag_refused offset type bytes error (inl refused) =
    inl (refused.0, (refused.1.0, refused.1.1, ap (extension_refusal offset) refused.1.2))
tag_refused offset type bytes error (inr refused) = inr (refused.0, (error, refused.1, refl))

-- An error of a tag starts at offset 0 of the bytes.
pub tag_start : (type : EtherType) (bytes : List ℕ) (error : TagError) → RefusesTag type bytes error
    → extension_start error ≡ 0
tag_start type bytes error (inl refused) =
    let start : refused.1.0.layer_start_offset ≡ 0 =
    refusal_is (λ (e : LenError). e.layer_start_offset ≡ 0) (vlan_rows bytes) (refl, tt) refused.1.0 refused.1.1 in
    ap extension_start refused.1.2 ∙ start
tag_start type bytes error (inr refused) =
    refusal_is (λ (e : TagError). extension_start e ≡ 0) (macsec_header_rows bytes)
    (refl, (refl, (refl, (refl, tt)))) error refused.1

-- The link extension that a call returns is at the start of the bytes.
pub found_present : (type : EtherType) (bytes : List ℕ) (outer : Bool) (answer : Option LaxLinkExtSlice)
    (found : LaxLinkExtSlice) → answer ≡ Some found → IfSome answer (IsShownExtension outer type bytes)
    → IsShownExtension outer type bytes found
found_present type bytes outer answer found same ok =
    subst (λ (o : Option LaxLinkExtSlice). IfSome o (IsShownExtension outer type bytes)) same ok

-- If a call returns no link extension, the bytes have none.
pub none_present : (type : EtherType) (answer : Option LaxLinkExtSlice) → answer ≡ None
    → IfNone answer (¬ BeginsLinkExtension type) → ¬ BeginsLinkExtension type
none_present type answer same none =
    subst (λ (o : Option LaxLinkExtSlice). IfNone o (¬ BeginsLinkExtension type)) same none

-- Tag and payload of a link extension are within the bytes.
pub lax_extension_len : (outer : Bool) (type : EtherType) (bytes : List ℕ) (read : LinkExtension × Bool)
    → IsLaxExtension outer type bytes read
    → link_ext_header_len (extension_header read.0) + length (extension_payload read.0) ≤ length bytes
lax_extension_len outer type bytes (vlan tag payload, incomplete) is = omega (
  arith,
  ap length is.1.parts,
  length-append (vlan_bytes tag ++ payload) [],
  length-append (vlan_bytes tag) payload,
)
lax_extension_len outer type bytes (macsec tag payload, incomplete) is =
    let packet = is.1.1 in
    let cut = is.1.0 in
    let shown : macsec_payload_bytes payload ≡ cut.payload =
    ap macsec_payload_bytes is.1.2 ∙ payload_by_is tag.ptype cut.source cut.payload in
    omega (
      arith,
      ap length packet.header.parts,
      length-append packet.header.encoded packet.after_tag,
      macsec_encoded_len packet.header.encoded tag packet.header.encodes,
      ap length packet.cut.parts,
      length-append cut.payload cut.left,
      ap length shown,
    )

-- ---- several link extensions

-- One more link extension after others.
extensions_more : (outer : Bool) (old : List LaxLinkExtSlice) (found : LaxLinkExtSlice)
    → lax_extensions_of outer (old ++ found ∷ [])
    ≡ lax_extensions_of outer old
    ++ (lax_extension_of found, extension_incomplete (extensions_incomplete outer old) found) ∷ []
extensions_more outer [] found = refl
extensions_more outer (slice ∷ old) found =
    ap (λ (more : List (LinkExtension × Bool)). (lax_extension_of slice, extension_incomplete outer slice) ∷ more)
    (extensions_more (extension_incomplete outer slice) old found)

incomplete_more : (outer : Bool) (old : List LaxLinkExtSlice) (found : LaxLinkExtSlice)
    → extensions_incomplete outer (old ++ found ∷ [])
    ≡ extension_incomplete (extensions_incomplete outer old) found
incomplete_more outer [] found = refl
incomplete_more outer (slice ∷ old) found = incomplete_more (extension_incomplete outer slice) old found

-- State of reading: the link extensions at the start of the bytes, and the number of further ones allowed. The layers
-- of the bytes after them are those of all bytes after these extensions.
pub record ReadsLax (offset : ℕ) (type : Option EtherType) (bytes : List ℕ) (extensions : List LaxLinkExtSlice)
    (space rest_offset : ℕ) (rest_type : Option EtherType) (rest : List ℕ) (outer : Bool) : Type 0 where
  pub place : rest_offset + length rest ≤ offset + length bytes
  pub incomplete : outer ≡ extensions_incomplete false extensions
  pub holds : (others : List (LinkExtension × Bool)) (net : LaxNet)
      → IsLaxInside space rest_offset outer rest_type rest others net
      → IsLaxInside most_link_exts offset false type bytes (lax_extensions_of false extensions ++ others) net
  pub shows : (others : List LaxLinkExtSlice) (net : Option LaxNetSlice) (transport : Option TransportSlice)
      → ShowsLaxInside rest others net transport → ShowsLaxInside bytes (extensions ++ others) net transport

-- The ether type, if known, names no link extension.
abbrev pub BeginsNone : Option EtherType → Type 0
BeginsNone None = Unit {0}
BeginsNone (Some type) = ¬ BeginsLinkExtension type

-- Initially, no link extension is read.
pub reads_nothing : (offset space : ℕ) (type : Option EtherType) (bytes : List ℕ) (extensions : List LaxLinkExtSlice)
    → extensions ≡ [] → space ≡ most_link_exts → ReadsLax offset type bytes extensions space offset type bytes false
reads_nothing offset space type bytes extensions none all =
    subst (λ (x : List LaxLinkExtSlice). ReadsLax offset type bytes x space offset type bytes false) (sym none)
    (subst (λ (n : ℕ). ReadsLax offset type bytes [] n offset type bytes false) (sym all)
    (record {
      place = omega arith;
      incomplete = refl;
      holds = λ others net is. is;
      shows = λ others net transport shown. shown;
    }))

-- The state after one more link extension.
one_more : (offset : ℕ) (type : Option EtherType) (bytes : List ℕ) (old : List LaxLinkExtSlice) (space at : ℕ)
    (known : EtherType) (here : List ℕ) (outer : Bool) (found : LaxLinkExtSlice)
    → ReadsLax offset type bytes old (suc space) at (Some known) here outer → IsShownExtension outer known here found
    → ReadsLax offset type bytes (old ++ found ∷ []) space
    (at + link_ext_header_len (extension_header (lax_extension_of found)))
    (extension_type (lax_extension_of found)) (extension_payload (lax_extension_of found))
    (extension_incomplete outer found)
one_more offset type bytes old space at known here outer found so_far shown =
    let tagged : LinkExtension × Bool = (lax_extension_of found, extension_incomplete outer found) in
    let same_tagged : lax_extensions_of false old ++ tagged ∷ [] ≡ lax_extensions_of false (old ++ found ∷ []) =
    ap (λ (o : Bool). lax_extensions_of false old ++ (lax_extension_of found, extension_incomplete o found) ∷ [])
    so_far.incomplete ∙ sym (extensions_more false old found) in
    record {
      place = omega (arith, so_far.place, lax_extension_len outer known here tagged shown.is);
      incomplete = ap (λ (o : Bool). extension_incomplete o found) so_far.incomplete
          ∙ sym (incomplete_more false old found);
      holds = λ others net is.
          subst (λ (x : List (LinkExtension × Bool)). IsLaxInside most_link_exts offset false type bytes x net)
          (sym (append_assoc (lax_extensions_of false old) (tagged ∷ []) others)
          ∙ ap (λ (x : List (LinkExtension × Bool)). x ++ others) same_tagged)
          (so_far.holds (tagged ∷ others) net (shown.is, is));
      shows = λ others net transport shows.
          subst (λ (x : List LaxLinkExtSlice). ShowsLaxInside bytes x net transport)
          (sym (append_assoc old (found ∷ []) others))
          (so_far.shows (found ∷ others) net transport ((shown.left, shown.parts), shows));
    }

-- The state after one more link extension, stated with the contracts of the calls.
pub reads_one : (offset : ℕ) (type : Option EtherType) (bytes : List ℕ) (old new : List LaxLinkExtSlice)
    (space rest at after : ℕ) (here_type next_type : Option EtherType) (known : EtherType) (here next : List ℕ)
    (outer next_outer : Bool) (found : LaxLinkExtSlice)
    → ReadsLax offset type bytes old space at here_type here outer → space ≡ suc rest → here_type ≡ Some known
    → IsShownExtension outer known here found
    → new ≡ old ++ found ∷ [] → after ≡ at + link_ext_header_len (extension_header (lax_extension_of found))
    → next_type ≡ extension_type (lax_extension_of found) → next ≡ extension_payload (lax_extension_of found)
    → next_outer ≡ extension_incomplete outer found
    → ReadsLax offset type bytes new rest after next_type next next_outer
reads_one offset type bytes old new space rest at after here_type next_type known here next outer next_outer found so_far
    more is shown push place type_is payload_is outer_is =
    let first = subst (λ (t : Option EtherType). ReadsLax offset type bytes old (suc rest) at t here outer) is
    (subst (λ (n : ℕ). ReadsLax offset type bytes old n at here_type here outer) more so_far) in
    let one = one_more offset type bytes old rest at known here outer found first shown in
    transport (λ i. ReadsLax offset type bytes (sym push i) rest (sym place i) (sym type_is i) (sym payload_is i)
    (sym outer_is i)) one

-- Slicing stops if the next link extension is rejected.
pub reads_refused : (offset : ℕ) (type : Option EtherType) (bytes : List ℕ) (old : List LaxLinkExtSlice)
    (space rest at : ℕ) (here_type : Option EtherType) (known : EtherType) (here : List ℕ) (outer : Bool)
    (error : SliceError) → ReadsLax offset type bytes old space at here_type here outer → space ≡ suc rest
    → here_type ≡ Some known → RefusesLaxExtension at known here error → StopsAfterExtensions offset type bytes old error
reads_refused offset type bytes old space rest at here_type known here outer error so_far more is refused =
    let first = subst (λ (t : Option EtherType). ReadsLax offset type bytes old (suc rest) at t here outer) is
    (subst (λ (n : ℕ). ReadsLax offset type bytes old n at here_type here outer) more so_far) in
    let net : LaxNet = no_net outer (Some (error_with_layer error)) in
    let inside = first.holds [] net (inr (error, refused, refl)) in
    let all = append-nil (lax_extensions_of false old) in
    let complete = subst (λ (x : List (LinkExtension × Bool)). IsLaxInside most_link_exts offset false type bytes x net)
    all inside in
    record {
      inside = subst (λ (o : Bool). IsLaxInside most_link_exts offset false type bytes (lax_extensions_of false old)
          (no_net o (Some (error_with_layer error)))) first.incomplete complete;
      shows = subst (λ (x : List LaxLinkExtSlice). ShowsLaxInside bytes x None None) (append-nil old)
          (first.shows [] None None refl);
    }

-- If no more link extensions are allowed, or the ether type names none, the bytes contain only a network layer.
net_inside : (space offset : ℕ) (outer : Bool) (type : Option EtherType) (bytes : List ℕ)
    → ((space ≡ 0) ⊎ BeginsNone type) → (net : LaxNet) → IsLaxNet offset outer (net_kind_in type) bytes net
    → IsLaxInside space offset outer type bytes [] net
net_inside space offset outer None bytes why net is = (refl, is)
net_inside zero offset outer (Some type) bytes why net is = is
net_inside (suc space) offset outer (Some type) bytes (inl full) net is = absurd (omega (arith, full))
net_inside (suc space) offset outer (Some type) bytes (inr none) net is = inl (none, is)

-- The link extensions end if no more are allowed, or the ether type names none.
pub extensions_end : (offset : ℕ) (type : Option EtherType) (bytes : List ℕ) (extensions : List LaxLinkExtSlice)
    (space at : ℕ) (rest_type : Option EtherType) (rest : List ℕ) (outer : Bool)
    → ReadsLax offset type bytes extensions space at rest_type rest outer → ((space ≡ 0) ⊎ BeginsNone rest_type)
    → HasLaxExtensions offset type bytes extensions at rest_type rest outer
extensions_end offset type bytes extensions space at rest_type rest outer so_far why = record {
  place = so_far.place;
  holds = λ net transport stop part. record {
    inside =
        let found = lax_net_of outer net transport stop in
        let inside = so_far.holds [] found (net_inside space at outer rest_type rest why found part.part) in
        let complete = subst
        (λ (x : List (LinkExtension × Bool)). IsLaxInside most_link_exts offset false type bytes x found)
        (append-nil (lax_extensions_of false extensions)) inside in
        subst (λ (o : Bool). IsLaxInside most_link_exts offset false type bytes (lax_extensions_of false extensions)
        (lax_net_of o net transport stop)) so_far.incomplete complete;
    shows = subst (λ (x : List LaxLinkExtSlice). ShowsLaxInside bytes x net transport) (append-nil extensions)
        (so_far.shows [] net transport part.shows);
  };
}

-- An unknown ether type names no link extension.
pub unknown_begins_none : (type : Option EtherType) → type ≡ None → BeginsNone type
unknown_begins_none type is = subst BeginsNone (sym is) tt

-- A known ether type that names no link extension begins none.
pub known_begins_none : (type : Option EtherType) (known : EtherType) → type ≡ Some known
    → (¬ BeginsLinkExtension known) → BeginsNone type
known_begins_none type known is none = subst BeginsNone (sym is) none
