-- Decoding the layers after a link extension, and after the link layer.
use Rattle.std.proofs.Common.{◌≡◌, ℕ, zero, suc, ◌+◌, ◌||◌, nat_lt, if◌then◌else◌, Bool, true, false, List, [], ◌∷◌, ◌++◌, map, Option, Some, None, refl, sym, ap, subst, ◌∙◌, inr, append_assoc, arith}
use Rattle.std.specs.Option.{option_map}
use Rattle.std.proofs.lemmas.Bool.{lt-ltb}
use Rattle.ep_base.specs.Readings.{headers, limited_by}
use Rattle.ep_base.specs.declared.ether_type.EtherType.{EtherType}
use Rattle.ep_base.specs.declared.len_source.LenSource.{LenSource}
use Rattle.ep_base.specs.declared.len_source.LenSource.TheVariants as source
use Rattle.ep_link.specs.EtherPayloads.{EtherPayload}
use Rattle.ep_link.specs.LinkExtensions.{LinkExtension, vlan, macsec, IsLinkExtension, extension_ether_payload, extension_header, extension_payload, link_ext_header_len}
use Rattle.ep_link.specs.LinkSlices.{unlimited_ether_payload}
use Rattle.ep_link.specs.Macsec.{unmodified, modified, macsec_len_source, payload_by}
use Rattle.ep_link.specs.declared.link_ext.link_ext_header.LinkExtHeader.{LinkExtHeader}
use Rattle.ep_link.specs.declared.link_ext.macsec_ptype.MacsecPType.{MacsecPType}
use Rattle.ep_link.specs.declared.link_ext.macsec_ptype.MacsecPType.TheVariants as ptype
use Rattle.ep_packet.specs.Frame.{IsInside}
use Rattle.ep_packet.specs.FrameBytes.{payload_after_exts}
use Rattle.ep_packet.specs.PacketHeaders.{Headers}
use Rattle.ep_packet.specs.PayloadParts.{PayloadPart, macsec_modified, open_part}
use Rattle.ep_packet.specs.Payloads.{ether_payload_after, has_short_len, have_short_len}
use Rattle.ep_packet.specs.declared.err.slice_error.SliceError.{SliceError}
use Rattle.ep_packet.specs.FrameRefusals.{RefusesInside}
use Rattle.ep_packet.specs.HeadersWalk.{FillsInside, ending_by, open_after, source_after, with_net}
use Rattle.ep_packet.proofs.HeadersLemmas.{some_inside, typed_present, untyped_present}

-- ---- source of the end of a payload

-- The source after one link extension and others is that after the others, in a payload with the source after the
-- first.
source_step : (short others : Bool) (outer : LenSource)
    → (if short || others then source.MacsecShortLength else outer)
    ≡ (if others then source.MacsecShortLength else (if short then source.MacsecShortLength else outer))
source_step true true outer = refl
source_step true false outer = refl
source_step false others outer = refl

-- An unmodified MACsec payload has the given source of its end.
kind_source : (kind : MacsecPType) (set : LenSource) (bytes : List ℕ) (type : EtherType) (found : LenSource)
    (inside : List ℕ)
    → unmodified type found inside ≡ payload_by kind set bytes → found ≡ set
kind_source (ptype.Unmodified t) set bytes type found inside same = cc same
kind_source ptype.Modified set bytes type found inside same = absurd (cc same)
kind_source ptype.Encrypted set bytes type found inside same = absurd (cc same)
kind_source ptype.EncryptedUnmodified set bytes type found inside same = absurd (cc same)

-- The source after a MACsec tag is its short length, or else the outer source.
short_source : (short_len : ℕ) (outer : LenSource)
    → limited_by outer (macsec_len_source short_len)
    ≡ (if nat_lt 0 short_len then source.MacsecShortLength else outer)
short_source zero outer = refl
short_source (suc n) outer =
    ap (λ (b : Bool). if b then source.MacsecShortLength else outer) (sym (lt-ltb 0 (suc n) (omega arith)))

-- The end of a link extension's payload is set by its short length above 0, or else by the outer source.
extension_source : (type : EtherType) (bytes left : List ℕ) (extension : LinkExtension)
    → IsLinkExtension type bytes (extension, left)
    → (inside : EtherPayload) → extension_ether_payload extension ≡ Some inside → (outer : LenSource)
    → limited_by outer inside.len_source ≡ (if has_short_len extension then source.MacsecShortLength else outer)
extension_source type bytes left (vlan tag payload) is inside same outer =
    let found = ap (λ (p : EtherPayload). p.len_source)
    (some_inside (unlimited_ether_payload payload tag.ether_type) inside same) in
    ap (limited_by outer) (sym found)
extension_source type bytes left (macsec tag (unmodified t found b)) is inside same outer =
    let shown = ap (λ (p : EtherPayload). p.len_source)
    (some_inside (record { ether_type = t; len_source = found; bytes = b }) inside same) in
    ap (limited_by outer) (sym shown ∙ kind_source tag.ptype (macsec_len_source tag.short_len) b t found b is.2)
    ∙ short_source tag.short_len outer
extension_source type bytes left (macsec tag (modified b)) is inside same outer = absurd (cc same)

-- ---- payload after the link extensions

-- The payload after further link extensions does not depend on the source of the payload they are in.
after_again : (first second : LenSource) (payload : EtherPayload) (others : List LinkExtension)
    → option_map (ending_by first) (ether_payload_after (Some payload) others)
    ≡ option_map (ending_by first) (ether_payload_after (Some (ending_by second payload)) others)
after_again first second payload [] = refl
after_again first second payload (extension ∷ others) = refl

-- The payload after link extensions is the payload after the others in the payload of the first.
pub open_step : (type : EtherType) (bytes left : List ℕ) (extension : LinkExtension) (others : List LinkExtension)
    (outer inside : EtherPayload)
    → IsLinkExtension type bytes (extension, left) → extension_ether_payload extension ≡ Some inside
    → open_after (ending_by (limited_by outer.len_source inside.len_source) inside) others
    ≡ open_after outer (extension ∷ others)
open_step type bytes left extension others outer inside is same =
    let set = limited_by outer.len_source inside.len_source in
    let ends : source_after set others ≡ source_after outer.len_source (extension ∷ others) =
    ap (λ (s : LenSource). source_after s others)
    (extension_source type bytes left extension is inside same outer.len_source)
    ∙ sym (source_step (has_short_len extension) (have_short_len others) outer.len_source) in
    ap (λ (s : LenSource). open_part (option_map (ending_by s)
    (ether_payload_after (Some (ending_by set inside)) others))
    (payload_after_exts inside.bytes others)) ends
    ∙ ap (λ x. open_part x (payload_after_exts inside.bytes others))
    (sym (after_again (source_after outer.len_source (extension ∷ others)) set inside others))
    ∙ ap (λ x. open_part (option_map (ending_by (source_after outer.len_source (extension ∷ others)))
    (ether_payload_after x others)) (payload_after_exts inside.bytes others)) (sym same)
    ∙ ap (λ (b : List ℕ). open_part (option_map (ending_by (source_after outer.len_source (extension ∷ others)))
    (ether_payload_after (extension_ether_payload extension) others)) (payload_after_exts b others))
    (sym (typed_present extension inside same).1)

-- ---- one link extension

-- The headers with the tag of a link extension appended.
abbrev pub with_tag : Headers → LinkExtension → Headers
with_tag old extension = record old { link_exts = old.link_exts ++ extension_header extension ∷ [] }

-- A decoded link extension, and the layers decoded in its payload, are the layers of the bytes.
pub fills_one : (space rest : ℕ) (payload inside : EtherPayload) (left : List ℕ) (found : LinkExtension)
    (old middle new : Headers)
    → space ≡ suc rest → IsLinkExtension payload.ether_type payload.bytes (found, left)
    → extension_ether_payload found ≡ Some inside → middle ≡ with_tag old found
    → FillsInside rest (ending_by (limited_by payload.len_source inside.len_source) inside) middle new
    → FillsInside space payload old new
fills_one space rest payload inside left found old middle new more is same present after =
    let typed = typed_present found inside same in
    let unread = ending_by (limited_by payload.len_source inside.len_source) inside in
    let tags = map extension_header after.extensions in
    record {
      extensions = found ∷ after.extensions;
      net = after.net;
      transport = after.transport;
      inside = subst (λ (n : ℕ). IsInside headers n (Some payload.ether_type) payload.bytes (found ∷ after.extensions)
          after.net after.transport) (sym more) (
            (left, is),
            subst (λ (t : Option EtherType). IsInside headers rest t (extension_payload found) after.extensions
                after.net after.transport) (sym typed.0)
                (subst (λ (b : List ℕ). IsInside headers rest (Some inside.ether_type) b after.extensions
                after.net after.transport) (sym typed.1) after.inside),
          );
      filled = after.filled
          ∙ ap (λ (h : Headers). with_net (record h { link_exts = h.link_exts ++ tags })
          (open_after unread after.extensions)
          after.net after.transport) present
          ∙ ap (λ (x : List LinkExtHeader). with_net (record old { link_exts = x })
          (open_after unread after.extensions)
          after.net after.transport) (append_assoc old.link_exts (extension_header found ∷ []) tags)
          ∙ ap (λ (p : PayloadPart). with_net
          (record old { link_exts = old.link_exts ++ map extension_header (found ∷ after.extensions) }) p
          after.net after.transport)
          (open_step payload.ether_type payload.bytes left found after.extensions payload inside is same);
    }

-- A decoded link extension with a payload of unknown type is the layers of the bytes.
pub fills_modified : (space rest : ℕ) (payload : EtherPayload) (left : List ℕ) (found : LinkExtension)
    (old new : Headers)
    → space ≡ suc rest → IsLinkExtension payload.ether_type payload.bytes (found, left)
    → extension_ether_payload found ≡ None
    → new ≡ record (with_tag old found) {
      net = None;
      transport = None;
      payload = macsec_modified (extension_payload found);
    }
    → FillsInside space payload old new
fills_modified space rest payload left found old new more is none filled = record {
  extensions = found ∷ [];
  net = None;
  transport = None;
  inside = subst (λ (n : ℕ). IsInside headers n (Some payload.ether_type) payload.bytes
      (found ∷ []) None None) (sym more) (
        (left, is),
        subst (λ (t : Option EtherType). IsInside headers rest t (extension_payload found) [] None None)
            (sym (untyped_present found none)) (refl, refl, refl),
      );
  filled = filled
      ∙ ap (λ x. with_net (with_tag old found)
      (open_part (option_map (ending_by (source_after payload.len_source (found ∷ []))) x)
      (extension_payload found)) None None)
      (sym none);
}

-- An error of the payload of a link extension is an error of the bytes.
pub tag_refused : (space rest offset len : ℕ) (payload inside : EtherPayload) (left : List ℕ) (found : LinkExtension)
    (error : SliceError)
    → space ≡ suc rest → IsLinkExtension payload.ether_type payload.bytes (found, left)
    → extension_ether_payload found ≡ Some inside → len ≡ link_ext_header_len (extension_header found)
    → RefusesInside headers rest (offset + len) (Some inside.ether_type) inside.bytes error
    → RefusesInside headers space offset (Some payload.ether_type) payload.bytes error
tag_refused space rest offset len payload inside left found error more is same tag_len refused =
    let typed = typed_present found inside same in
    let after = offset + link_ext_header_len (extension_header found) in
    subst (λ (n : ℕ). RefusesInside headers n offset (Some payload.ether_type) payload.bytes error) (sym more)
    (inr (inr (
      found,
      left,
      is,
      subst (λ (t : Option EtherType). RefusesInside headers rest after t (extension_payload found)
          error) (sym typed.0)
          (subst (λ (b : List ℕ). RefusesInside headers rest after (Some inside.ether_type) b error) (sym typed.1)
          (subst (λ (n : ℕ). RefusesInside headers rest (offset + n) (Some inside.ether_type) inside.bytes error)
          tag_len refused)),
    )))
