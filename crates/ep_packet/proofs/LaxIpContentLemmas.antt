-- An IP packet read laxly: its header, the content after it, and the extension headers at the start of the content.
use Rattle.std.proofs.Common.{◌≡◌, ℕ, ◌+◌, ◌≤◌, Bool, List, ◌++◌, length, drop, Option, Some, refl, sym, ap, subst, ◌∙◌, arith, length-append}
use Rattle.std.specs.Option.{option_map}
use Rattle.std.proofs.lemmas.List.{length-drop}
use Rattle.ep_base.specs.LaxCut.{LaxCut, IsLaxCut}
use Rattle.ep_base.specs.Readings.{Reading}
use Rattle.ep_base.specs.declared.err.ipv6_exts.HeaderSliceError.{HeaderSliceError}
use Rattle.ep_base.specs.declared.ip_number.IpNumber.{IpNumber}
use Rattle.ep_base.specs.declared.lax_ip_payload_slice.LaxIpPayloadSlice.{LaxIpPayloadSlice}
use Rattle.ep_base.specs.declared.len_source.LenSource.TheVariants as source
use Rattle.ep_ext.specs.Chains.{ipv4, ipv6, ExtensionChain, chain_fragments, offset_of}
use Rattle.ep_ext.specs.ChainPrefixes.{IsLaxChainIn}
use Rattle.ep_ip.specs.declared.ipv4_header_slice.Ipv4HeaderSlice.{Ipv4HeaderSlice}
use Rattle.ep_ip.specs.declared.ipv6_header_slice.Ipv6HeaderSlice.{Ipv6HeaderSlice}
use Rattle.ep_ip.specs.Ipv4.{IsIpv4Header, ipv4_header_len, is_ipv4_fragment}
use Rattle.ep_ip.specs.Ipv4Slices.{ipv4_header_slice_bytes, ipv4_header_slice_header}
use Rattle.ep_ip.specs.Ipv6.{IsIpv6Header}
use Rattle.ep_ip.specs.Ipv6Slices.{ipv6_header_slice_bytes, ipv6_header_slice_header}
use Rattle.ep_ip.specs.LaxIp.{IsLaxIpv4In, IsLaxIpv6In, lax_ip_of, lax_ipv6_source, stop_after}
use Rattle.ep_ip.proofs.LaxIpLemmas.{ipv4_assembled, ipv6_assembled, stop_within}
use Rattle.ep_packet.specs.LaxIpContents.{IsLaxIpv4Content, IsLaxIpv6Content, content_cut}

-- ---- header and content

-- A header at the start of the bytes is not longer than the bytes.
pub header_within : (bytes prefix rest : List ℕ) → bytes ≡ prefix ++ rest → length prefix ≤ length bytes
header_within bytes prefix rest parts = omega (arith, ap length parts, length-append prefix rest)

-- The content after a header is not longer than the bytes after it.
content_within : (n : ℕ) (bytes content left : List ℕ) → n ≤ length bytes → drop n bytes ≡ content ++ left
    → n + length content ≤ length bytes
content_within n bytes content left within cut =
    omega (arith, within, ap length cut, length-append content left, length-drop n bytes)

pub ipv4_content_within : (outer : Bool) (bytes : List ℕ) (header : Ipv4HeaderSlice) (content : LaxIpPayloadSlice)
    → IsLaxIpv4Content outer bytes header content
    → length (ipv4_header_slice_bytes header) + length content.payload.now ≤ length bytes
ipv4_content_within outer bytes header content is =
    let n = ipv4_header_len (ipv4_header_slice_header header) in
    let start = header_within bytes (ipv4_header_slice_bytes header) is.rest is.parts in
    let within = content_within n bytes content.payload.now is.left (omega (arith, start, is.len)) is.cuts.parts in
    omega (arith, within, is.len)

pub ipv6_content_within : (outer : Bool) (bytes : List ℕ) (header : Ipv6HeaderSlice) (content : LaxIpPayloadSlice)
    → IsLaxIpv6Content outer bytes header content → 40 + length content.payload.now ≤ length bytes
ipv6_content_within outer bytes header content is =
    let start = header_within bytes (ipv6_header_slice_bytes header) is.rest is.parts in
    content_within 40 bytes content.payload.now is.left (omega (arith, start, header.bytes.whole)) is.cuts.parts

-- The content of a valid IPv4 header, limited after a header of `n` bytes.
pub lax_ipv4_content : (outer : Bool) (bytes rest : List ℕ) (header : Ipv4HeaderSlice) (content : LaxIpPayloadSlice)
    → bytes ≡ ipv4_header_slice_bytes header ++ rest → IsIpv4Header bytes (ipv4_header_slice_header header, rest)
    → (n : ℕ) → n ≡ length (ipv4_header_slice_bytes header) → n ≡ ipv4_header_len (ipv4_header_slice_header header)
    → (stated : ℕ) → stated ≡ (ipv4_header_slice_header header).total_len → (left : List ℕ)
    → IsLaxCut n stated source.Ipv4HeaderTotalLen outer n (drop n bytes) (content_cut content content.len_source left)
    → content.ip_number ≡ (ipv4_header_slice_header header).protocol
    → content.fragmented ≡ is_ipv4_fragment (ipv4_header_slice_header header)
    → IsLaxIpv4Content outer bytes header content
lax_ipv4_content outer bytes rest header content parts is n len header_len stated stated_is left cuts number fragmented =
    let cut = content_cut content content.len_source left in
    let total = (ipv4_header_slice_header header).total_len in
    let by_total_len : IsLaxCut n total source.Ipv4HeaderTotalLen outer n (drop n bytes) cut =
    subst (λ (s : ℕ). IsLaxCut n s source.Ipv4HeaderTotalLen outer n (drop n bytes) cut) stated_is cuts in
    record {
      rest = rest;
      left = left;
      parts = parts;
      is = is;
      len = sym header_len ∙ len;
      cuts = subst (λ (k : ℕ). IsLaxCut k total source.Ipv4HeaderTotalLen outer k (drop k bytes) cut) header_len
          by_total_len;
      number = number;
      fragmented = fragmented;
    }

-- The content of a valid IPv6 header.
pub lax_ipv6_content : (outer : Bool) (bytes rest : List ℕ) (header : Ipv6HeaderSlice) (content : LaxIpPayloadSlice)
    → bytes ≡ ipv6_header_slice_bytes header ++ rest → IsIpv6Header bytes (ipv6_header_slice_header header, rest)
    → (stated : ℕ) → stated ≡ 40 + (ipv6_header_slice_header header).payload_length → (cut : LaxCut)
    → cut ≡ content_cut content cut.source cut.left
    → IsLaxCut 41 stated source.Ipv6HeaderPayloadLen outer 40 (drop 40 bytes) cut
    → content.ip_number ≡ (ipv6_header_slice_header header).next_header
    → content.len_source ≡ lax_ipv6_source (ipv6_header_slice_header header) cut
    → IsLaxIpv6Content outer bytes header content
lax_ipv6_content outer bytes rest header content parts is stated stated_is cut cut_is cuts number end =
    let field = 40 + (ipv6_header_slice_header header).payload_length in
    let by_payload_length : IsLaxCut 41 field source.Ipv6HeaderPayloadLen outer 40 (drop 40 bytes) cut =
    subst (λ (s : ℕ). IsLaxCut 41 s source.Ipv6HeaderPayloadLen outer 40 (drop 40 bytes) cut) stated_is cuts in
    record {
      rest = rest;
      left = cut.left;
      limit = cut.source;
      parts = parts;
      is = is;
      cuts = subst (λ (c : LaxCut). IsLaxCut 41 field source.Ipv6HeaderPayloadLen outer 40 (drop 40 bytes) c) cut_is
          by_payload_length;
      number = number;
      source = end ∙ ap (λ (c : LaxCut). lax_ipv6_source (ipv6_header_slice_header header) c) cut_is;
    }

-- ---- extension headers in the content

-- The error of an extension header lies within the IPv4 packet.
pub ipv4_stop_within : (reading : Reading) (outer : Bool) (bytes : List ℕ) (header : Ipv4HeaderSlice)
    (content : LaxIpPayloadSlice) → IsLaxIpv4Content outer bytes header content → (chain : ExtensionChain)
    (refused : Option HeaderSliceError)
    → IsLaxChainIn ipv4 reading content.ip_number.0 content.payload.now chain refused
    → (error : HeaderSliceError) → refused ≡ Some error
    → offset_of error + length (ipv4_header_slice_bytes header) ≤ length bytes
ipv4_stop_within reading outer bytes header content is chain refused chain_is error same = omega (
  arith,
  stop_within ipv4 reading content.ip_number.0 content.payload.now chain refused chain_is error same,
  ipv4_content_within outer bytes header content is,
)

-- The error of an extension header lies within the IPv6 packet.
pub ipv6_stop_within : (reading : Reading) (outer : Bool) (bytes : List ℕ) (header : Ipv6HeaderSlice)
    (content : LaxIpPayloadSlice) → IsLaxIpv6Content outer bytes header content → (number : ℕ)
    (chain : ExtensionChain) (refused : Option HeaderSliceError)
    → IsLaxChainIn ipv6 reading number content.payload.now chain refused
    → (error : HeaderSliceError) → refused ≡ Some error → offset_of error + 40 ≤ length bytes
ipv6_stop_within reading outer bytes header content is number chain refused chain_is error same = omega (
  arith,
  stop_within ipv6 reading number content.payload.now chain refused chain_is error same,
  ipv6_content_within outer bytes header content is,
)

-- Header, extension headers and payload are an IPv4 packet.
pub ipv4_is_read : (reading : Reading) (outer : Bool) (bytes : List ℕ) (header : Ipv4HeaderSlice)
    (content : LaxIpPayloadSlice) → (is : IsLaxIpv4Content outer bytes header content) → (chain : ExtensionChain)
    (refused : Option HeaderSliceError)
    → IsLaxChainIn ipv4 reading content.ip_number.0 content.payload.now chain refused
    → (n : ℕ) → n ≡ ipv4_header_len (ipv4_header_slice_header header) → (stop : Option HeaderSliceError)
    → stop ≡ option_map (stop_after n content.len_source) refused
    → let value = ipv4_header_slice_header header in
    IsLaxIpv4In reading outer bytes (record (lax_ip_of value (ipv4_header_len value) content.fragmented
    content.len_source (content_cut content content.len_source is.left) chain refused) { stop = stop })
ipv4_is_read reading outer bytes header content is chain refused chain_is n header_len stop stop_is =
    let value = ipv4_header_slice_header header in
    ipv4_assembled reading outer bytes (ipv4_header_slice_bytes header) is.rest value is.parts is.is
    (ipv4_header_len value) is.len refl value.total_len refl (content_cut content content.len_source is.left) is.cuts
    content.ip_number.0 (ap (λ (number : IpNumber). number.0) is.number) chain refused chain_is content.fragmented
    is.fragmented stop (stop_is ∙ ap (λ (k : ℕ). option_map (stop_after k content.len_source) refused) header_len)

-- Header, extension headers and payload are an IPv6 packet.
pub ipv6_is_read : (reading : Reading) (outer : Bool) (bytes : List ℕ) (header : Ipv6HeaderSlice)
    (content : LaxIpPayloadSlice) → (is : IsLaxIpv6Content outer bytes header content) → (number : ℕ)
    → number ≡ (ipv6_header_slice_header header).next_header.0 → (chain : ExtensionChain)
    (refused : Option HeaderSliceError) → IsLaxChainIn ipv6 reading number content.payload.now chain refused
    → (fragmented : Bool) → fragmented ≡ chain_fragments chain.parts
    → IsLaxIpv6In reading outer bytes (lax_ip_of (ipv6_header_slice_header header) 40 fragmented content.len_source
    (content_cut content is.limit is.left) chain refused)
ipv6_is_read reading outer bytes header content is number number_is chain refused chain_is fragmented fragmented_is =
    let value = ipv6_header_slice_header header in
    ipv6_assembled reading outer bytes (ipv6_header_slice_bytes header) is.rest value is.parts is.is
    (sym header.bytes.whole) (40 + value.payload_length) refl (content_cut content is.limit is.left) is.cuts number
    number_is chain refused chain_is fragmented fragmented_is content.len_source is.source
