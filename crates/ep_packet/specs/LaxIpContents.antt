-- IP headers sliced laxly, and the bytes after them, in which extension headers and payload are read next (RFC 791,
-- 3.1; RFC 8200, 3).
use Rattle.std.specs.Prelude.{◌≡◌, ◌+◌, ◌++◌, ℕ, Bool, List, drop, length}
use Rattle.ep_base.specs.LaxCut.{LaxCut, IsLaxCut}
use Rattle.ep_base.specs.declared.lax_ip_payload_slice.LaxIpPayloadSlice.{LaxIpPayloadSlice}
use Rattle.ep_base.specs.declared.len_source.LenSource.{LenSource}
use Rattle.ep_base.specs.declared.len_source.LenSource.TheVariants as source
use Rattle.ep_ip.specs.declared.ipv4_header_slice.Ipv4HeaderSlice.{Ipv4HeaderSlice}
use Rattle.ep_ip.specs.declared.ipv6_header_slice.Ipv6HeaderSlice.{Ipv6HeaderSlice}
use Rattle.ep_ip.specs.Ipv4.{IsIpv4Header, ipv4_header_len, is_ipv4_fragment}
use Rattle.ep_ip.specs.Ipv4Slices.{ipv4_header_slice_bytes, ipv4_header_slice_header}
use Rattle.ep_ip.specs.Ipv6.{IsIpv6Header}
use Rattle.ep_ip.specs.Ipv6Slices.{ipv6_header_slice_bytes, ipv6_header_slice_header}
use Rattle.ep_ip.specs.LaxIp.{lax_ipv6_source}

-- The bytes of the content and the trailing bytes, split by the limit with this source.
abbrev pub content_cut : LaxIpPayloadSlice → LenSource → List ℕ → LaxCut
content_cut content limit left = record {
  payload = content.payload.now;
  left = left;
  source = limit;
  incomplete = content.incomplete;
}

-- The bytes begin with this IPv4 header. The content after it is limited by the total length, if the field applies;
-- its number is the protocol.
pub record IsLaxIpv4Content (outer : Bool) (bytes : List ℕ) (header : Ipv4HeaderSlice)
    (content : LaxIpPayloadSlice) : Type 0 where
  pub rest : List ℕ
  pub left : List ℕ
  pub parts : bytes ≡ ipv4_header_slice_bytes header ++ rest
  pub is : IsIpv4Header bytes (ipv4_header_slice_header header, rest)
  pub len : ipv4_header_len (ipv4_header_slice_header header) ≡ length (ipv4_header_slice_bytes header)
  pub cuts : let value = ipv4_header_slice_header header in
      let n = ipv4_header_len value in
      IsLaxCut n value.total_len source.Ipv4HeaderTotalLen outer n (drop n bytes)
      (content_cut content content.len_source left)
  pub number : content.ip_number ≡ (ipv4_header_slice_header header).protocol
  pub fragmented : content.fragmented ≡ is_ipv4_fragment (ipv4_header_slice_header header)

-- The bytes begin with this IPv6 header. The content after it is limited by the payload length, if the field applies;
-- its number is the next header.
pub record IsLaxIpv6Content (outer : Bool) (bytes : List ℕ) (header : Ipv6HeaderSlice)
    (content : LaxIpPayloadSlice) : Type 0 where
  pub rest : List ℕ
  pub left : List ℕ
  pub limit : LenSource
  pub parts : bytes ≡ ipv6_header_slice_bytes header ++ rest
  pub is : IsIpv6Header bytes (ipv6_header_slice_header header, rest)
  pub cuts : IsLaxCut 41 (40 + (ipv6_header_slice_header header).payload_length) source.Ipv6HeaderPayloadLen outer 40
      (drop 40 bytes) (content_cut content limit left)
  pub number : content.ip_number ≡ (ipv6_header_slice_header header).next_header
  pub source : content.len_source ≡ lax_ipv6_source (ipv6_header_slice_header header) (content_cut content limit left)
