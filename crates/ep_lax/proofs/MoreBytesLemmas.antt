-- More bytes have the headers of a prefix of them, followed by further headers.
use Rattle.std.proofs.Common.{◌≡◌, ◌⊎◌, ℕ, zero, suc, ◌+◌, ◌≤◌, ◌<◌, Bool, false, List, [], ◌∷◌, ◌++◌, length, map, Option, Some, None, refl, sym, ap, subst, ◌∙◌, inl, inr, arith, length-append}
use Rattle.std.proofs.lemmas.Bool.{cases_lt}
use Rattle.std.proofs.lemmas.List.{append-nil}
use Rattle.ep_base.specs.Bytes.{AreBytes}
use Rattle.ep_base.specs.Readings.{slices}
use Rattle.ep_base.specs.Tables.{IsOne, parts_of}
use Rattle.ep_base.specs.declared.ether_type.EtherType.{EtherType}
use Rattle.ep_base.specs.declared.err.layer.Layer.{Layer}
use Rattle.ep_base.specs.declared.len_source.LenSource.{LenSource}
use Rattle.ep_base.specs.declared.len_source.LenSource.TheVariants as source
use Rattle.ep_base.specs.declared.err.ipv4.HeaderSliceError.{HeaderSliceError as Ipv4HeaderError}
use Rattle.ep_base.specs.declared.err.ipv6.HeaderSliceError.{HeaderSliceError as Ipv6HeaderError}
use Rattle.ep_base.specs.declared.err.len_error.LenError.{LenError}
use Rattle.ep_base.proofs.BytesLemmas.{AreBytes-prefix, AreBytes-payload}
use Rattle.ep_base.proofs.LaxCutLemmas.{lax_cut_is_one}
use Rattle.ep_base.proofs.TableLemmas.{decided}
use Rattle.ep_link.specs.declared.link_ext.link_ext_header.LinkExtHeader.{LinkExtHeader}
use Rattle.ep_link.specs.declared.link_ext.macsec_ptype.MacsecPType.{MacsecPType}
use Rattle.ep_link.specs.declared.link_ext.macsec_ptype.MacsecPType.TheVariants as ptype
use Rattle.ep_link.specs.Arp.{RefusesArp, arp_bytes, arp_len}
use Rattle.ep_link.specs.Ethernet2.{ethernet2_bytes, ethernet2_header_len, IsEthernet2}
use Rattle.ep_link.specs.LinkExtensions.{vlan, macsec, IsMacsecType, extension_header, extension_payload, extension_type, link_ext_header_len}
use Rattle.ep_link.specs.LinkSlices.{LinkLayer, ethernet2, linux_sll as sll, ether_payload}
use Rattle.ep_link.specs.LinuxSll.{linux_sll_bytes, linux_sll_header_len, IsLinuxSll, protocol_ether_type}
use Rattle.ep_link.specs.Macsec.{IsMacsecHeader, macsec_header_len, macsec_payload_bytes, macsec_payload_type, payload_by, ptype_type}
use Rattle.ep_link.specs.Vlan.{vlan_bytes}
use Rattle.ep_link.proofs.LinkExtensionLemmas.{vlan_not_macsec}
use Rattle.ep_link.proofs.MacsecLemmas.{macsec_header_is_read}
use Rattle.ep_link.proofs.MacsecReadLemmas.{encoded_len as macsec_encoded_len}
use Rattle.ep_ip.specs.declared.ipv4_header.Ipv4Header.{Ipv4Header}
use Rattle.ep_ip.specs.declared.ipv6_header.Ipv6Header.{Ipv6Header}
use Rattle.ep_ip.specs.Ipv4.{RefusesIpv4Header, ipv4_header_len}
use Rattle.ep_ip.specs.Ipv6.{RefusesIpv6Header, ipv6_bytes}
use Rattle.ep_ip.proofs.IpBytesLemmas.{encoded_len as ipv4_encoded_len, ipv6_len}
use Rattle.ep_ip.proofs.Ipv4Lemmas.{ipv4_header_is_read}
use Rattle.ep_ip.proofs.Ipv6Lemmas.{ipv6_header_is_read}
use Rattle.ep_packet.specs.declared.entry.Entry.{Entry}
use Rattle.ep_packet.specs.declared.entry.Entry.TheVariants.{Ethernet as ethernet, LinuxSll as linux_sll, EtherType as ether_type, Ip as ip}
use Rattle.ep_packet.specs.declared.err.slice_error.SliceError.{SliceError}
use Rattle.ep_packet.specs.Frame.{NetKind, only_ipv4, only_ipv6, only_arp, any_ip, net_kind, most_link_exts, IsFrame}
use Rattle.ep_packet.specs.Layers.{Layers, arp, ipv4_layer, ipv6_layer}
use Rattle.ep_packet.proofs.LayerLawLemmas.{layer_laws}
use Rattle.ep_packet.proofs.OffsetLemmas.{link_encoded, net_encoded}
use Rattle.ep_lax.specs.Lax.{IsLax, IsLaxExtension, IsLaxInside, IsLaxNet, RefusesLaxExtension, arp_net}
use Rattle.ep_lax.specs.LaxHeaders.{LayerHeader, of_tag, AreFirst, ShowsPrefix, headers_within, shown_headers, frame_headers, link_headers, tag_header}
use Rattle.ep_ip.specs.LaxIp.{LaxIp}
use Rattle.ep_lax.specs.LaxLayers.{LaxLayers, LaxNet, net_with, no_net, error_with_layer}
use Rattle.ep_lax.specs.LaxMacsec.{lax_macsec_payload, macsec_stated_len}
use Rattle.ep_lax.specs.StrictFrames.{extension_in, layers_in}
use Rattle.ep_lax.proofs.FurtherHeaderLemmas.{EndAfter, ShowsComplete, complete_after, complete_following, complete_first, complete_headers, complete_limited, complete_same, header_in_prefix, headers_fit, headers_len}
use Rattle.ep_lax.proofs.LaxEntryLemmas.{lax_decided}
use Rattle.ep_lax.proofs.LaxLawLemmas.{Tagged, inside_is_one, lax_extension_decided, lax_extension_fits, lax_refused_begins, net_is_one}
use Rattle.ep_lax.proofs.LaxMacsecLemmas.{payload_by_is}
use Rattle.ep_lax.proofs.LaxOrderLemmas.{extensions_in_order, lax_in_order}
use Rattle.ep_lax.proofs.MoreIpLemmas.{MoreNet, cut_limits, cut_more, inner_headers, ipv4_more, ipv6_more}
use Rattle.ep_lax.proofs.MoreTransportLemmas.{parts_more, shows_before, shows_after, shows_same}
use Rattle.ep_lax.proofs.OrderHeaderLemmas.{inside_begins, order_begins}
use Rattle.ep_lax.proofs.StrictLemmas.{frame_is_complete}

-- ---- network layer

-- If the first header of the bytes is rejected, more bytes may have any headers.
stopped_more : (len : ℕ) (Is : LaxNet → Type 0) (outer : Bool) (refusal : SliceError × Layer) (net : LaxNet)
    → net ≡ no_net outer (Some refusal) → (one : IsOne Is) → EndAfter len [] (inner_headers one.value)
    → MoreNet len Is net
stopped_more len Is outer refusal net same one end = record {
  read = one.value;
  is = one.is;
  shows = subst (λ (n : LaxNet). ShowsPrefix (inner_headers n) n.inside.stop (inner_headers one.value)
      one.value.inside.stop) (sym same)
      (shows_before [] (inner_headers one.value) (inner_headers one.value) refusal one.value.inside.stop refl);
  complete = subst (λ (n : LaxNet). ShowsComplete len (inner_headers n) (inner_headers one.value)) (sym same)
      (complete_first len (inner_headers one.value) end);
}

-- The header of a network layer, if a prefix of its bytes is rejected, does not end in the prefix.
ipv4_ends : (place : ℕ) (inner : Bool) (bytes more : List ℕ) (error : Ipv4HeaderError) → AreBytes bytes
    → RefusesIpv4Header bytes error → (read : LaxNet) → IsLaxNet place inner (Some only_ipv4) (bytes ++ more) read
    → EndAfter (length bytes) [] (inner_headers read)
ipv4_ends place inner bytes more error fits refused read (inl again) =
    subst (λ (n : LaxNet). EndAfter (length bytes) [] (inner_headers n)) (sym again.2) tt
ipv4_ends place inner bytes more error fits refused read (inr (lax, is, (inside, present, same))) =
    let header = is.0.0 in
    let len = ipv4_encoded_len is.1.encoded header is.1.encodes in
    let short : length bytes < ipv4_header_len header =
    elim (cases_lt (length bytes) (ipv4_header_len header)) [
      | inl short ↦ short
      | inr within ↦
          let here = header_in_prefix is.1.encoded is.0.1 bytes more is.1.parts (omega (arith, within, len)) in
          absurd ((decided ipv4_header_is_read bytes fits).not_both (header, here.0) error
          (record { encoded = is.1.encoded; encodes = is.1.encodes; parts = here.1 }) refused)
    ] in
    subst (λ (n : LaxNet). EndAfter (length bytes) [] (inner_headers n)) (sym same)
    (subst (λ (l : LaxIp Ipv4Header). EndAfter (length bytes) []
    (inner_headers (net_with (ipv4_layer l.packet) l.incomplete inside))) (sym is.2.is) (omega (arith, short)))

ipv6_ends : (place : ℕ) (inner : Bool) (bytes more : List ℕ) (error : Ipv6HeaderError) → AreBytes bytes
    → RefusesIpv6Header bytes error → (read : LaxNet) → IsLaxNet place inner (Some only_ipv6) (bytes ++ more) read
    → EndAfter (length bytes) [] (inner_headers read)
ipv6_ends place inner bytes more error fits refused read (inl again) =
    subst (λ (n : LaxNet). EndAfter (length bytes) [] (inner_headers n)) (sym again.2) tt
ipv6_ends place inner bytes more error fits refused read (inr (lax, is, (inside, present, same))) =
    let header = is.0.0 in
    let len = ipv6_len header is.1.fits in
    let short : length bytes < 40 =
    elim (cases_lt (length bytes) 40) [
      | inl short ↦ short
      | inr within ↦
          let here = header_in_prefix (ipv6_bytes header) is.0.1 bytes more is.1.parts (omega (arith, within, len)) in
          absurd ((decided ipv6_header_is_read bytes fits).not_both (header, here.0) error
          (record { fits = is.1.fits; parts = here.1 }) refused)
    ] in
    subst (λ (n : LaxNet). EndAfter (length bytes) [] (inner_headers n)) (sym same)
    (subst (λ (l : LaxIp Ipv6Header). EndAfter (length bytes) []
    (inner_headers (net_with (ipv6_layer l.packet) l.incomplete inside))) (sym is.2.is) (omega (arith, short)))

arp_ends : (place : ℕ) (inner : Bool) (bytes more : List ℕ) (error : LenError) → AreBytes bytes
    → RefusesArp bytes error → (read : LaxNet) → IsLaxNet place inner (Some only_arp) (bytes ++ more) read
    → EndAfter (length bytes) [] (inner_headers read)
arp_ends place inner bytes more error fits refused read (inl again) =
    subst (λ (n : LaxNet). EndAfter (length bytes) [] (inner_headers n)) (sym again.2) tt
arp_ends place inner bytes more error fits refused read (inr (part, is, same)) =
    let packet = part.0 in
    let len = net_encoded (Some (arp packet)) (arp_bytes packet) (is.fits, refl) in
    let short : length bytes < arp_len packet =
    elim (cases_lt (length bytes) (arp_len packet)) [
      | inl short ↦ short
      | inr within ↦
          let here = header_in_prefix (arp_bytes packet) part.1 bytes more is.parts (omega (arith, within, len)) in
          absurd ((layer_laws.arp bytes fits).not_both (packet, here.0) error
          (record { fits = is.fits; parts = here.1 }) refused)
    ] in
    subst (λ (n : LaxNet). EndAfter (length bytes) [] (inner_headers n)) (sym same) (omega (arith, short))

-- The network layer with its condition replaced by another.
net_under : {Is Other : LaxNet → Type 0} (len : ℕ) (net : LaxNet) → ((read : LaxNet) → Is read → Other read)
    → MoreNet len Is net → MoreNet len Other net
net_under len net name more =
    record { read = more.read; is = name more.read more.is; shows = more.shows; complete = more.complete }

-- An IP packet of either version with more bytes.
open_more : (offset place : ℕ) (outer inner : Bool) (bytes more : List ℕ) (net : LaxNet) → AreBytes (bytes ++ more)
    → IsLaxNet offset outer (Some any_ip) bytes net
    → MoreNet (length bytes) (IsLaxNet place inner (Some any_ip) (bytes ++ more)) net
open_more offset place outer inner bytes more net fits (inl is) =
    net_under (length bytes) net (λ read found. inl found) (ipv4_more offset place outer inner bytes more net fits is)
open_more offset place outer inner bytes more net fits (inr is) =
    net_under (length bytes) net (λ read found. inr found) (ipv6_more offset place outer inner bytes more net fits is)

net_more : (offset place : ℕ) (outer inner : Bool) (kind : Option NetKind) (bytes more : List ℕ) (net : LaxNet)
    → AreBytes (bytes ++ more) → IsOne (IsLaxNet place inner kind (bytes ++ more))
    → IsLaxNet offset outer kind bytes net
    → MoreNet (length bytes) (IsLaxNet place inner kind (bytes ++ more)) net
net_more offset place outer inner None bytes more net fits one is = record {
  read = no_net inner None;
  is = refl;
  shows = shows_same (inner_headers net) [] net.inside.stop None (λ i. inner_headers (sym is i));
  complete = complete_same (length bytes) (inner_headers net) [] (λ i. inner_headers (sym is i));
}
net_more offset place outer inner (Some only_ipv4) bytes more net fits one (inl refused) =
    stopped_more (length bytes) (IsLaxNet place inner (Some only_ipv4) (bytes ++ more)) outer (error_with_layer refused.0) net
    refused.2 one
    (ipv4_ends place inner bytes more refused.1.0 (AreBytes-prefix bytes more fits) refused.1.1 one.value one.is)
net_more offset place outer inner (Some only_ipv4) bytes more net fits one (inr is) =
    net_under (length bytes) net (λ read found. inr found) (ipv4_more offset place outer inner bytes more net fits is)
net_more offset place outer inner (Some only_ipv6) bytes more net fits one (inl refused) =
    stopped_more (length bytes) (IsLaxNet place inner (Some only_ipv6) (bytes ++ more)) outer (error_with_layer refused.0) net
    refused.2 one
    (ipv6_ends place inner bytes more refused.1.0 (AreBytes-prefix bytes more fits) refused.1.1 one.value one.is)
net_more offset place outer inner (Some only_ipv6) bytes more net fits one (inr is) =
    net_under (length bytes) net (λ read found. inr found) (ipv6_more offset place outer inner bytes more net fits is)
net_more offset place outer inner (Some only_arp) bytes more net fits one (inl refused) =
    stopped_more (length bytes) (IsLaxNet place inner (Some only_arp) (bytes ++ more)) outer (error_with_layer refused.0) net
    refused.2 one
    (arp_ends place inner bytes more refused.1.0 (AreBytes-prefix bytes more fits) refused.1.1 one.value one.is)
net_more offset place outer inner (Some only_arp) bytes more net fits one (inr (part, is, same)) = record {
  read = arp_net part.0;
  is = inr (
    (part.0, part.1 ++ more),
    record {
      fits = is.fits;
      parts = parts_more bytes (arp_bytes part.0) part.1 more is.parts;
    },
    refl,
  );
  shows = shows_same (inner_headers net) (inner_headers (arp_net part.0)) net.inside.stop None
      (λ i. inner_headers (sym same i));
  complete = complete_same (length bytes) (inner_headers net) (inner_headers (arp_net part.0))
      (λ i. inner_headers (sym same i));
}
net_more offset place outer inner (Some any_ip) bytes more net fits one is =
    open_more offset place outer inner bytes more net fits is

-- ---- link extensions

-- Without trailing bytes, the bytes after a header and its payload continue the payload.
pub complete_more : (bytes prefix payload left more : List ℕ) → bytes ≡ (prefix ++ payload) ++ left → left ≡ []
    → bytes ++ more ≡ (prefix ++ (payload ++ more)) ++ []
complete_more bytes prefix payload left more parts none =
    parts_more bytes prefix payload more
    (parts ∙ ap (λ (l : List ℕ). (prefix ++ payload) ++ l) none ∙ append-nil (prefix ++ payload))
    ∙ sym (append-nil (prefix ++ (payload ++ more)))

-- The ether type of a payload does not depend on its length.
pub type_by : (of : MacsecPType) (limit : LenSource) (bytes : List ℕ)
    → macsec_payload_type (payload_by of limit bytes) ≡ ptype_type of
type_by (ptype.Unmodified type) limit bytes = refl
type_by ptype.Modified limit bytes = refl
type_by ptype.Encrypted limit bytes = refl
type_by ptype.EncryptedUnmodified limit bytes = refl

-- The limit of a payload, for equal payloads.
payload_limit : (space : ℕ) (here payload present longer : List ℕ) → payload ≡ here → longer ≡ present
    → (space ≤ length here) ⊎ (length present ≤ length here) → (space ≤ length payload) ⊎ (length longer ≤ length payload)
payload_limit space here payload present longer same same_longer (inl all) = inl (omega (arith, all, ap length same))
payload_limit space here payload present longer same same_longer (inr limit) =
    inr (omega (arith, limit, ap length same, ap length same_longer))

-- A link extension with the same tag and ether type whose payload begins with the other payload. The other one is read
-- from `len` bytes.
pub record MoreExtension (len : ℕ) (outer : Bool) (type : EtherType) (bytes : List ℕ) (tagged : Tagged) : Type 0 where
  pub read : Tagged
  pub is : IsLaxExtension outer type bytes read
  pub rest : List ℕ
  pub payload : extension_payload read.0 ≡ extension_payload tagged.0 ++ rest
  pub same_type : extension_type read.0 ≡ extension_type tagged.0
  pub tag : extension_header read.0 ≡ extension_header tagged.0
  pub room : ℕ
  pub all : len ≡ link_ext_header_len (extension_header tagged.0) + room
  pub limit : (room ≤ length (extension_payload tagged.0))
      ⊎ (length (extension_payload read.0) ≤ length (extension_payload tagged.0))

pub extension_more : (outer inner : Bool) (type : EtherType) (bytes more : List ℕ) (tagged : Tagged)
    → IsLaxExtension outer type bytes tagged → MoreExtension (length bytes) inner type (bytes ++ more) tagged
extension_more outer inner type bytes more (vlan tag payload, incomplete) is = record {
  read = (vlan tag (payload ++ more), inner);
  is = (
    is.0,
    record {
      fits = is.1.fits;
      parts = complete_more bytes (vlan_bytes tag) payload [] more is.1.parts refl;
      cut = refl;
    },
    refl,
  );
  rest = more;
  payload = refl;
  same_type = refl;
  tag = refl;
  room = length payload;
  all = omega (arith, ap length is.1.parts, length-append (vlan_bytes tag ++ payload) [], length-append (vlan_bytes tag) payload);
  limit = inl (omega arith);
}
extension_more outer inner type bytes more (macsec tag payload, incomplete) is =
    let cut = is.1.0 in
    let packet = is.1.1 in
    let len = macsec_header_len tag in
    let header_is : IsMacsecHeader (bytes ++ more) (tag, packet.after_tag ++ more) = record {
      encoded = packet.header.encoded;
      encodes = packet.header.encodes;
      parts = parts_more bytes packet.header.encoded packet.after_tag more packet.header.parts;
    } in
    let longer = lax_cut_is_one len (macsec_stated_len tag) source.MacsecShortLength inner len
    (packet.after_tag ++ more)
    (omega arith) in
    let rest = cut_more len (macsec_stated_len tag) source.MacsecShortLength outer inner len packet.after_tag more cut
    longer.value packet.cut longer.is in
    let shown = ap macsec_payload_bytes is.1.2 ∙ payload_by_is tag.ptype cut.source cut.payload in
    let read = lax_macsec_payload tag longer.value in
    record {
      read = (macsec tag read, longer.value.incomplete);
      is = (
        is.0,
        (
          longer.value,
          record { after_tag = packet.after_tag ++ more; header = header_is; cut = longer.is },
          refl,
          refl,
        ),
      );
      rest = rest.0;
      payload = payload_by_is tag.ptype longer.value.source longer.value.payload ∙ rest.1
          ∙ ap (λ (l : List ℕ). l ++ rest.0) (sym shown);
      same_type = type_by tag.ptype longer.value.source longer.value.payload
          ∙ sym (ap macsec_payload_type is.1.2 ∙ type_by tag.ptype cut.source cut.payload);
      tag = refl;
      room = length packet.after_tag;
      all = omega (
        arith,
        ap length packet.header.parts,
        length-append packet.header.encoded packet.after_tag,
        macsec_encoded_len packet.header.encoded tag packet.header.encodes,
      );
      limit = payload_limit (length packet.after_tag) cut.payload (macsec_payload_bytes payload) longer.value.payload
          (macsec_payload_bytes read) shown (payload_by_is tag.ptype longer.value.source longer.value.payload)
          (cut_limits len (macsec_stated_len tag) source.MacsecShortLength outer inner len packet.after_tag more cut
          longer.value packet.cut longer.is);
    }

-- ---- layers in bytes of an ether type

-- The headers of link extensions and of the layers after them.
abbrev pub inside_headers : List Tagged → LaxNet → List LayerHeader
inside_headers extensions net = map tag_header (map extension_in extensions) ++ inner_headers net

-- The layers of bytes of an ether type, which have the headers of a prefix of them of `len` bytes.
record MoreInside (len space place : ℕ) (outer : Bool) (type : Option EtherType) (bytes : List ℕ)
    (extensions : List Tagged) (net : LaxNet) : Type 0 where
  others : List Tagged
  read : LaxNet
  is : IsLaxInside space place outer type bytes others read
  shows : ShowsPrefix (inside_headers extensions net) net.inside.stop (inside_headers others read) read.inside.stop
  complete : ShowsComplete len (inside_headers extensions net) (inside_headers others read)

-- The headers of the layers are not longer than the bytes that contain them.
inside_fits : (space offset : ℕ) (outer : Bool) (type : Option EtherType) (bytes : List ℕ) (extensions : List Tagged)
    (net : LaxNet) → IsLaxInside space offset outer type bytes extensions net
    → headers_len (inside_headers extensions net) ≤ length bytes
inside_fits space offset outer type bytes extensions net is =
    headers_fit (inside_headers extensions net) bytes
    (inside_begins bytes (map extension_in extensions) net.layer net.inside.layer
    (extensions_in_order slices space offset outer type bytes extensions net is))

-- A tag before the layers of both.
tagged_more : (len space place : ℕ) (inner : Bool) (type : EtherType) (bytes : List ℕ) (tagged : Tagged)
    (others : List Tagged) (net : LaxNet) → (here : MoreExtension len inner type bytes tagged)
    → MoreInside (length (extension_payload tagged.0)) space
    (place + link_ext_header_len (extension_header here.read.0)) here.read.1 (extension_type here.read.0)
    (extension_payload here.read.0) others net
    → MoreInside len (suc space) place inner (Some type) bytes (tagged ∷ others) net
tagged_more len space place inner type bytes tagged others net here next =
    let fits = inside_fits space (place + link_ext_header_len (extension_header here.read.0)) here.read.1
    (extension_type here.read.0) (extension_payload here.read.0) next.others next.read next.is in
    let complete = complete_after here.room (of_tag (extension_header tagged.0)) (inside_headers others net)
    (inside_headers next.others next.read)
    (complete_limited (length (extension_payload tagged.0)) (length (extension_payload here.read.0)) here.room
    (inside_headers others net) (inside_headers next.others next.read) next.complete fits here.limit) in
    record {
      others = here.read ∷ next.others;
      read = next.read;
      is = (here.is, next.is);
      shows = subst (λ (tag : LinkExtHeader). ShowsPrefix (of_tag tag ∷ inside_headers others net) net.inside.stop
          (of_tag (extension_header here.read.0) ∷ inside_headers next.others next.read) next.read.inside.stop) here.tag
          (shows_after (of_tag (extension_header here.read.0) ∷ []) (inside_headers others net)
          (inside_headers next.others next.read) net.inside.stop next.read.inside.stop next.shows);
      complete = subst (λ (n : ℕ). ShowsComplete n (inside_headers (tagged ∷ others) net)
          (inside_headers (here.read ∷ next.others) next.read)) (sym here.all)
          (subst (λ (tag : LinkExtHeader). ShowsComplete (link_ext_header_len (extension_header tagged.0) + here.room)
          (inside_headers (tagged ∷ others) net) (of_tag tag ∷ inside_headers next.others next.read)) (sym here.tag)
          complete);
    }

-- No link extension.
bare_more : (len space place : ℕ) (inner : Bool) (type : Option EtherType) (bytes : List ℕ) (net : LaxNet)
    {Is : LaxNet → Type 0} → ((read : LaxNet) → Is read → IsLaxInside space place inner type bytes [] read)
    → MoreNet len Is net → MoreInside len space place inner type bytes [] net
bare_more len space place inner type bytes net present more = record {
  others = [];
  read = more.read;
  is = present more.read more.is;
  shows = more.shows;
  complete = more.complete;
}

-- The first tag, if a prefix of its bytes is rejected, does not end in the prefix.
tag_ends : (space offset place : ℕ) (inner : Bool) (type : EtherType) (bytes more : List ℕ) (error : SliceError)
    → AreBytes bytes → RefusesLaxExtension offset type bytes error → (others : List Tagged) (read : LaxNet)
    → IsLaxInside (suc space) place inner (Some type) (bytes ++ more) others read
    → EndAfter (length bytes) [] (inside_headers others read)
tag_ends space offset place inner type bytes more error fits refused [] read (inl none) =
    absurd (none.0 (lax_refused_begins offset type bytes error refused))
tag_ends space offset place inner type bytes more error fits refused [] read (inr again) =
    subst (λ (n : LaxNet). EndAfter (length bytes) [] (inner_headers n)) (sym again.2) tt
tag_ends space offset place inner type bytes more error fits refused ((vlan tag payload, incomplete) ∷ others) read is =
    elim (cases_lt (length bytes) 4) [
      | inl short ↦ omega (arith, short)
      | inr within ↦
          let present = is.0.1 in
          let here = header_in_prefix (vlan_bytes tag) payload bytes more
          (present.parts ∙ append-nil (vlan_bytes tag ++ payload)) (omega (arith, within)) in
          let law = lax_extension_decided offset false type bytes fits (inl is.0.0) in
          absurd (law.not_both (vlan tag here.0, false) error (
            is.0.0,
            record {
              fits = present.fits;
              parts = here.1 ∙ sym (append-nil (vlan_bytes tag ++ here.0));
              cut = refl;
            },
            refl,
          ) refused)
    ]
tag_ends space offset place inner type bytes more error fits refused ((macsec tag payload, incomplete) ∷ others) read
    is =
    elim (cases_lt (length bytes) (macsec_header_len tag)) [
      | inl short ↦ omega (arith, short)
      | inr within ↦
          let present = is.0.1.1.header in
          let len = macsec_encoded_len present.encoded tag present.encodes in
          let here = header_in_prefix present.encoded is.0.1.1.after_tag bytes more present.parts
          (omega (arith, within, len)) in
          absurd (no_tag refused is.0.0 here.0
          (record { encoded = present.encoded; encodes = present.encodes; parts = here.1 }))
    ]
  where
    no_tag : RefusesLaxExtension offset type bytes error → IsMacsecType type → (after : List ℕ)
        → IsMacsecHeader bytes (tag, after) → ⊥
    no_tag (inl is_vlan) is_macsec after header = absurd (vlan_not_macsec type is_vlan.0 is_macsec)
    no_tag (inr tag_refused) is_macsec after header =
        (decided macsec_header_is_read bytes fits).not_both (tag, after) tag_refused.1.0 header tag_refused.1.1

inside_more : (space offset place : ℕ) (outer inner : Bool) (type : Option EtherType) (bytes more : List ℕ)
    (extensions : List Tagged) (net : LaxNet) → AreBytes (bytes ++ more)
    → IsLaxInside space offset outer type bytes extensions net
    → MoreInside (length bytes) space place inner type (bytes ++ more) extensions net
inside_more space offset place outer inner None bytes more extensions net fits is = record {
  others = [];
  read = no_net inner None;
  is = (refl, refl);
  shows = shows_same (inside_headers extensions net) [] net.inside.stop None
      (λ i. inside_headers (sym is.0 i) (sym is.1 i));
  complete = complete_same (length bytes) (inside_headers extensions net) []
      (λ i. inside_headers (sym is.0 i) (sym is.1 i));
}
inside_more zero offset place outer inner (Some type) bytes more [] net fits is =
    bare_more (length bytes) zero place inner (Some type) (bytes ++ more) net (λ read found. found)
    (net_more offset place outer inner (net_kind type) bytes more net fits
    (net_is_one place inner type (bytes ++ more) fits) is)
inside_more zero offset place outer inner (Some type) bytes more (tagged ∷ others) net fits is = absurd is
inside_more (suc space) offset place outer inner (Some type) bytes more [] net fits (inl is) =
    bare_more (length bytes) (suc space) place inner (Some type) (bytes ++ more) net (λ read found. inl (is.0, found))
    (net_more offset place outer inner (net_kind type) bytes more net fits
    (net_is_one place inner type (bytes ++ more) fits) is.1)
inside_more (suc space) offset place outer inner (Some type) bytes more [] net fits (inr refused) =
    let one = inside_is_one (suc space) place inner (Some type) (bytes ++ more) fits in
    let all = inside_headers one.value.0 one.value.1 in
    record {
      others = one.value.0;
      read = one.value.1;
      is = one.is;
      shows = subst (λ (n : LaxNet). ShowsPrefix (inside_headers [] n) n.inside.stop all one.value.1.inside.stop)
          (sym refused.2) (shows_before [] all all (error_with_layer refused.0) one.value.1.inside.stop refl);
      complete = subst (λ (n : LaxNet). ShowsComplete (length bytes) (inside_headers [] n) all) (sym refused.2)
          (complete_first (length bytes) all
          (tag_ends space offset place inner type bytes more refused.0 (AreBytes-prefix bytes more fits) refused.1 one.value.0
          one.value.1 one.is));
    }
inside_more (suc space) offset place outer inner (Some type) bytes more (tagged ∷ others) net fits is =
    let here = extension_more outer inner type bytes more tagged is.0 in
    let following = place + link_ext_header_len (extension_header here.read.0) in
    let payload = lax_extension_fits inner type (bytes ++ more) here.read fits here.is in
    let next = inside_more space (offset + link_ext_header_len (extension_header tagged.0)) following tagged.1 here.read.1
    (extension_type tagged.0) (extension_payload tagged.0) here.rest others net (subst AreBytes here.payload payload)
    is.1 in
    tagged_more (length bytes) space place inner type (bytes ++ more) tagged others net here
    (subst (λ (t : Option EtherType). MoreInside (length (extension_payload tagged.0)) space following here.read.1 t
    (extension_payload here.read.0) others net)
    (sym here.same_type)
    (subst (λ (l : List ℕ). MoreInside (length (extension_payload tagged.0)) space following here.read.1
    (extension_type tagged.0) l others net)
    (sym here.payload) next))

-- ---- complete packets

-- Layers that have the headers of the layers of a prefix of `len` bytes.
abbrev pub MoreLayers : ℕ → Entry → List ℕ → LaxLayers → Type 0
MoreLayers len entry bytes read =
    (longer : LaxLayers) × IsLax entry bytes longer
    × ShowsPrefix (shown_headers read) read.net.inside.stop (shown_headers longer) longer.net.inside.stop
    × ShowsComplete len (shown_headers read) (shown_headers longer)

-- A link header before the layers of both.
abbrev with_link : LinkLayer → List Tagged → LaxNet → LaxLayers
with_link link extensions net = record { link = Some link; link_exts = extensions; net = net }

linked_shows : (read : LaxLayers) (link longer : LinkLayer) (others : List Tagged) (net : LaxNet)
    → read.link ≡ Some link → link_headers (Some longer) ≡ link_headers (Some link)
    → ShowsPrefix (inside_headers read.link_exts read.net) read.net.inside.stop (inside_headers others net)
    net.inside.stop
    → ShowsPrefix (shown_headers read) read.net.inside.stop (shown_headers (with_link longer others net)) net.inside.stop
linked_shows read link longer others net is same shows =
    let shown = inside_headers read.link_exts read.net in
    let all = inside_headers others net in
    subst (λ (l : Option LinkLayer). ShowsPrefix (link_headers l ++ shown) read.net.inside.stop
    (link_headers (Some longer) ++ all) net.inside.stop) (sym is)
    (subst (λ (l : List LayerHeader). ShowsPrefix (link_headers (Some link) ++ shown) read.net.inside.stop (l ++ all)
    net.inside.stop) (sym same)
    (shows_after (link_headers (Some link)) shown all read.net.inside.stop net.inside.stop shows))

linked_complete : (len space : ℕ) (read : LaxLayers) (link longer : LinkLayer) (others : List Tagged) (net : LaxNet)
    → read.link ≡ Some link → link_headers (Some longer) ≡ link_headers (Some link)
    → len ≡ headers_len (link_headers (Some link)) + space
    → ShowsComplete space (inside_headers read.link_exts read.net) (inside_headers others net)
    → ShowsComplete len (shown_headers read) (shown_headers (with_link longer others net))
linked_complete len space read link longer others net is same all complete =
    let shown = inside_headers read.link_exts read.net in
    let entire = inside_headers others net in
    subst (λ (l : Option LinkLayer). ShowsComplete len (link_headers l ++ shown) (link_headers (Some longer) ++ entire))
    (sym is)
    (subst (λ (l : List LayerHeader). ShowsComplete len (link_headers (Some link) ++ shown) (l ++ entire)) (sym same)
    (subst (λ (n : ℕ). ShowsComplete n (link_headers (Some link) ++ shown) (link_headers (Some link) ++ entire)) (sym all)
    (complete_following space (link_headers (Some link)) shown entire complete)))

pub more_layers : (entry : Entry) (prefix back : List ℕ) (read : LaxLayers) → AreBytes (prefix ++ back)
    → IsLax entry prefix read → MoreLayers (length prefix) entry (prefix ++ back) read
more_layers ethernet prefix back read fits (frame, is, link, inside) =
    let header = frame.header in
    let payload = frame.payload ++ back in
    let holds : IsEthernet2 (prefix ++ back) (parts_of header payload []) = record {
      fits = is.fits;
      parts = complete_more prefix (ethernet2_bytes header) frame.payload frame.left back is.parts is.cut;
      cut = refl;
    } in
    let next = inside_more most_link_exts ethernet2_header_len ethernet2_header_len false false
    (Some header.ether_type) frame.payload back read.link_exts read.net
    (AreBytes-payload (prefix ++ back) (ethernet2_bytes header) payload [] fits holds.parts) inside in (
      with_link (ethernet2 header payload) next.others next.read,
      (parts_of header payload [], holds, refl, next.is),
      linked_shows read (ethernet2 header frame.payload) (ethernet2 header payload) next.others next.read link refl
          next.shows,
      linked_complete (length prefix) (length frame.payload) read (ethernet2 header frame.payload)
          (ethernet2 header payload) next.others next.read link refl (omega (
            arith,
            ap length is.parts,
            ap length is.cut,
            length-append (ethernet2_bytes header ++ frame.payload) frame.left,
            length-append (ethernet2_bytes header) frame.payload,
            link_encoded (Some (ethernet2 header frame.payload)) (ethernet2_bytes header) (is.fits, refl),
          )) next.complete,
    )
more_layers linux_sll prefix back read fits (frame, is, link, inside) =
    let header = frame.header in
    let payload = frame.payload ++ back in
    let holds : IsLinuxSll (prefix ++ back) (parts_of header payload []) = record {
      fits = is.fits;
      parts = complete_more prefix (linux_sll_bytes header) frame.payload frame.left back is.parts is.cut;
      cut = refl;
    } in
    let next = inside_more most_link_exts linux_sll_header_len linux_sll_header_len false false
    (protocol_ether_type header.protocol_type) frame.payload back read.link_exts read.net
    (AreBytes-payload (prefix ++ back) (linux_sll_bytes header) payload [] fits holds.parts) inside in (
      with_link (sll header payload) next.others next.read,
      (parts_of header payload [], holds, refl, next.is),
      linked_shows read (sll header frame.payload) (sll header payload) next.others next.read link refl next.shows,
      linked_complete (length prefix) (length frame.payload) read (sll header frame.payload) (sll header payload)
          next.others next.read link refl (omega (
            arith,
            ap length is.parts,
            ap length is.cut,
            length-append (linux_sll_bytes header ++ frame.payload) frame.left,
            length-append (linux_sll_bytes header) frame.payload,
            link_encoded (Some (sll header frame.payload)) (linux_sll_bytes header) (is.fits, refl),
          )) next.complete,
    )
more_layers (ether_type type) prefix back read fits (link, inside) =
    let next = inside_more most_link_exts 0 0 false false (Some type) prefix back read.link_exts read.net fits inside in (
      with_link (ether_payload type source.Slice (prefix ++ back)) next.others next.read,
      (refl, next.is),
      linked_shows read (ether_payload type source.Slice prefix) (ether_payload type source.Slice (prefix ++ back))
          next.others next.read link refl next.shows,
      linked_complete (length prefix) (length prefix) read (ether_payload type source.Slice prefix)
          (ether_payload type source.Slice (prefix ++ back)) next.others next.read link refl (omega arith) next.complete,
    )
more_layers ip prefix back read fits (link, extensions, net) =
    let next = open_more 0 0 false false prefix back read.net fits net in (
      record { link = None; link_exts = []; net = next.read },
      (refl, refl, next.is),
      subst (λ (l : Option LinkLayer). ShowsPrefix (link_headers l ++ inside_headers read.link_exts read.net)
          read.net.inside.stop (inner_headers next.read) next.read.inside.stop) (sym link)
          (subst (λ (l : List Tagged). ShowsPrefix (inside_headers l read.net) read.net.inside.stop
          (inner_headers next.read) next.read.inside.stop) (sym extensions) next.shows),
      subst (λ (l : Option LinkLayer). ShowsComplete (length prefix) (link_headers l ++ inside_headers read.link_exts read.net)
          (inner_headers next.read)) (sym link)
          (subst (λ (l : List Tagged). ShowsComplete (length prefix) (inside_headers l read.net) (inner_headers next.read))
          (sym extensions) next.complete),
    )

-- More bytes have the headers of a prefix of them, followed by further headers.
pub more_bytes : (entry : Entry) (prefix back : List ℕ) (read : LaxLayers) → AreBytes (prefix ++ back)
    → IsLax entry prefix read
    → (longer : LaxLayers) × IsLax entry (prefix ++ back) longer
    × ShowsPrefix (shown_headers read) read.net.inside.stop (shown_headers longer) longer.net.inside.stop
more_bytes entry prefix back read fits is =
    let longer = more_layers entry prefix back read fits is in
    (longer.0, longer.1, longer.2)

-- The headers of a prefix are the first headers of the frame, and all of them if slicing of the prefix did not stop.
pub prefix_shows_headers : (entry : Entry) (prefix back : List ℕ) (layers : Layers) (read : LaxLayers)
    → AreBytes (prefix ++ back) → IsFrame entry (prefix ++ back) layers → IsLax entry prefix read
    → AreFirst (shown_headers read) read.net.inside.stop (frame_headers layers)
prefix_shows_headers entry prefix back layers read fits frame is =
    let longer = more_layers entry prefix back read fits is in
    let strict = frame_is_complete entry (prefix ++ back) layers frame in
    let same = (lax_decided entry (prefix ++ back) fits).one_value longer.0 strict.0 longer.1 strict.1 in
    let shows = subst (λ (l : LaxLayers). ShowsPrefix (shown_headers read) read.net.inside.stop (shown_headers l)
    l.net.inside.stop) same longer.2 in
    elim shows [
      | inl first ↦ subst (λ (l : Layers). AreFirst (shown_headers read) read.net.inside.stop (frame_headers l)) strict.2 first
      | inr last ↦ absurd (let none = sym last.stops ∙ strict.3.stop in cc none)
    ]

-- The headers of a prefix are those of the frame that end in it.
pub prefix_shows_complete : (entry : Entry) (prefix back : List ℕ) (layers : Layers) (read : LaxLayers)
    → AreBytes (prefix ++ back) → IsFrame entry (prefix ++ back) layers → IsLax entry prefix read
    → shown_headers read ≡ headers_within (length prefix) (frame_headers layers)
prefix_shows_complete entry prefix back layers read fits frame is =
    let longer = more_layers entry prefix back read fits is in
    let strict = frame_is_complete entry (prefix ++ back) layers frame in
    let same = (lax_decided entry (prefix ++ back) fits).one_value longer.0 strict.0 longer.1 strict.1 in
    let first = prefix_shows_headers entry prefix back layers read fits frame is in
    let shown = shown_headers read in
    let complete = subst (λ (l : LaxLayers). ShowsComplete (length prefix) shown (shown_headers l)) same longer.3 in
    let more = first.more in
    let begins = order_begins prefix (layers_in read) (lax_in_order slices entry prefix read is) in
    sym (ap (headers_within (length prefix)) first.parts
    ∙ complete_headers (length prefix) shown more (headers_fit shown prefix begins)
    (subst (λ (l : Layers). ShowsComplete (length prefix) shown (frame_headers l)) strict.2 complete more first.parts))
