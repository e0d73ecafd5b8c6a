-- IP packets read laxly: a valid header, the bytes limited by its length field, if the field applies, the extension
-- headers in them up to the first invalid one, and the payload after them (RFC 791, 3.1; RFC 4302, 3.1.1; RFC 8200, 3
-- and 4).
use Rattle.std.specs.Prelude.{◌≡◌, ◌==◌, ◌||◌, ◌+◌, not, if◌then◌else◌, ℕ, Bool, List, ◌∷◌, length, Option}
use Rattle.std.specs.Option.{option_map}
use Rattle.ep_base.specs.LaxCut.{LaxCut, IsLaxCut}
use Rattle.ep_base.specs.Readings.{Reading, slices, after_header, len_error}
use Rattle.ep_base.specs.Tables.{Refuses, rows_as}
use Rattle.ep_base.specs.declared.len_source.LenSource.{LenSource}
use Rattle.ep_base.specs.declared.len_source.LenSource.TheVariants as source
use Rattle.ep_base.specs.declared.err.ip.HeaderError.TheVariants as content
use Rattle.ep_base.specs.declared.err.ip.LaxHeaderSliceError.{LaxHeaderSliceError}
use Rattle.ep_base.specs.declared.err.ip.LaxHeaderSliceError.TheVariants as ip_error
use Rattle.ep_base.specs.declared.err.ipv4.HeaderError.TheVariants as ipv4_content
use Rattle.ep_base.specs.declared.err.ipv4.HeaderSliceError.{HeaderSliceError as Ipv4HeaderError}
use Rattle.ep_base.specs.declared.err.ipv4.HeaderSliceError.TheVariants as ipv4_error
use Rattle.ep_base.specs.declared.err.ipv6.HeaderError.TheVariants as ipv6_content
use Rattle.ep_base.specs.declared.err.ipv6.HeaderSliceError.{HeaderSliceError as Ipv6HeaderError}
use Rattle.ep_base.specs.declared.err.ipv6.HeaderSliceError.TheVariants as ipv6_error
use Rattle.ep_base.specs.declared.err.ipv6_exts.HeaderSliceError.{HeaderSliceError}
use Rattle.ep_base.specs.declared.err.ipv6_exts.HeaderSliceError.TheVariants as header_error
use Rattle.ep_base.specs.declared.err.layer.Layer.TheVariants as layer
use Rattle.ep_ext.specs.Chains.{ipv4, ipv6, ExtensionChain, chain_fragments}
use Rattle.ep_ext.specs.ChainPrefixes.{IsLaxChainIn}
use Rattle.ep_ip.specs.declared.ipv4_header.Ipv4Header.{Ipv4Header}
use Rattle.ep_ip.specs.declared.ipv6_header.Ipv6Header.{Ipv6Header}
use Rattle.ep_ip.specs.Ip.{version_of}
use Rattle.ep_ip.specs.IpPackets.{IpPacket}
use Rattle.ep_ip.specs.Ipv4.{IsIpv4Header, ipv4_header_len, ipv4_header_rows, is_ipv4_fragment}
use Rattle.ep_ip.specs.Ipv6.{IsIpv6Header, ipv6_header_rows, ipv6_payload_source}

-- A packet, whether bytes of its payload are missing, and the error of an invalid extension header that the payload
-- begins with, if any. The offset in the error counts from the start of the packet.
pub record LaxIp (Header : Type 0) : Type 0 where
  pub packet : IpPacket Header
  pub incomplete : Bool
  pub stop : Option HeaderSliceError

-- The error of an extension header after a header of this length. `end` replaces the end of the slice as its limit.
abbrev pub stop_after : ℕ → LenSource → HeaderSliceError → HeaderSliceError
stop_after header_len end (header_error.Len error) = header_error.Len (after_header header_len end error)
stop_after header_len end (header_error.Content error) = header_error.Content error

-- The packet with these parts and a header of this length.
abbrev pub lax_ip_of : {Header : Type 0} → Header → ℕ → Bool → LenSource → LaxCut → ExtensionChain
    → Option HeaderSliceError → LaxIp Header
lax_ip_of header header_len fragmented end cut chain refused = record {
  packet = record {
    header = header;
    extensions = chain.parts;
    payload = record { number = chain.last; fragmented = fragmented; source = end; bytes = chain.rest };
    left = cut.left;
  };
  incomplete = cut.incomplete;
  stop = option_map (stop_after header_len end) refused;
}

-- ---- IPv4

-- An IPv4 packet with this header and these bytes after it, in the given reading. `outer` is true if the enclosing
-- layer is incomplete.
pub record IsLaxIpv4AfterIn (reading : Reading) (outer : Bool) (read : Ipv4Header × List ℕ)
    (lax : LaxIp Ipv4Header) : Type 0 where
  pub cut : LaxCut
  pub chain : ExtensionChain
  pub refused : Option HeaderSliceError
  pub cuts : IsLaxCut (ipv4_header_len read.0) read.0.total_len source.Ipv4HeaderTotalLen outer
      (ipv4_header_len read.0) read.1 cut
  pub is_chain : IsLaxChainIn ipv4 reading read.0.protocol.0 cut.payload chain refused
  pub is : lax
      ≡ lax_ip_of read.0 (ipv4_header_len read.0) (is_ipv4_fragment read.0) cut.source cut chain refused

-- An IPv4 packet with this header and these bytes after it, in the reading as slices.
abbrev pub IsLaxIpv4After : Bool → Ipv4Header × List ℕ → LaxIp Ipv4Header → Type 0
IsLaxIpv4After = IsLaxIpv4AfterIn slices

-- The bytes begin with an IPv4 header and are this packet, in the given reading.
abbrev pub IsLaxIpv4In : Reading → Bool → List ℕ → LaxIp Ipv4Header → Type 0
IsLaxIpv4In reading outer bytes lax =
    (read : Ipv4Header × List ℕ) × IsIpv4Header bytes read × IsLaxIpv4AfterIn reading outer read lax

-- The bytes begin with an IPv4 header and are this packet, in the reading as slices.
abbrev pub IsLaxIpv4 : Bool → List ℕ → LaxIp Ipv4Header → Type 0
IsLaxIpv4 = IsLaxIpv4In slices

-- ---- IPv6

-- The source of the length of an IPv6 payload. For a payload length of 0 it is the source of a complete packet.
abbrev pub lax_ipv6_source : Ipv6Header → LaxCut → LenSource
lax_ipv6_source header cut =
    if header.payload_length == 0 then ipv6_payload_source header cut.payload else cut.source

-- An IPv6 packet with this header, in the given reading. A payload length of 0 limits nothing, since it states no
-- length (RFC 2675); any other counts from the end of the 40-byte header.
pub record IsLaxIpv6AfterIn (reading : Reading) (outer : Bool) (read : Ipv6Header × List ℕ)
    (lax : LaxIp Ipv6Header) : Type 0 where
  pub cut : LaxCut
  pub chain : ExtensionChain
  pub refused : Option HeaderSliceError
  pub cuts : IsLaxCut 41 (40 + read.0.payload_length) source.Ipv6HeaderPayloadLen outer 40 read.1 cut
  pub is_chain : IsLaxChainIn ipv6 reading read.0.next_header.0 cut.payload chain refused
  pub is : lax ≡ lax_ip_of read.0 40 (chain_fragments chain.parts) (lax_ipv6_source read.0 cut) cut chain refused

-- An IPv6 packet with this header, in the reading as slices.
abbrev pub IsLaxIpv6After : Bool → Ipv6Header × List ℕ → LaxIp Ipv6Header → Type 0
IsLaxIpv6After = IsLaxIpv6AfterIn slices

-- The bytes begin with an IPv6 header and are this packet, in the given reading.
abbrev pub IsLaxIpv6In : Reading → Bool → List ℕ → LaxIp Ipv6Header → Type 0
IsLaxIpv6In reading outer bytes lax =
    (read : Ipv6Header × List ℕ) × IsIpv6Header bytes read × IsLaxIpv6AfterIn reading outer read lax

-- The bytes begin with an IPv6 header and are this packet, in the reading as slices.
abbrev pub IsLaxIpv6 : Bool → List ℕ → LaxIp Ipv6Header → Type 0
IsLaxIpv6 = IsLaxIpv6In slices

-- ---- rejected IP headers

-- An error of an IPv4 header as one of an IP header.
abbrev pub of_ipv4_header : Ipv4HeaderError → LaxHeaderSliceError
of_ipv4_header (ipv4_error.Len error) = ip_error.Len error
of_ipv4_header (ipv4_error.Content (ipv4_content.UnexpectedVersion version)) =
    ip_error.Content (content.UnsupportedIpVersion version)
of_ipv4_header (ipv4_error.Content (ipv4_content.HeaderLengthSmallerThanHeader ihl)) =
    ip_error.Content (content.Ipv4HeaderLengthSmallerThanHeader ihl)

-- An error of an IPv6 header as one of an IP header.
abbrev pub of_ipv6_header : Ipv6HeaderError → LaxHeaderSliceError
of_ipv6_header (ipv6_error.Len error) = ip_error.Len error
of_ipv6_header (ipv6_error.Content (ipv6_content.UnexpectedVersion version)) =
    ip_error.Content (content.UnsupportedIpVersion version)

-- Refusal table of an IP header: there are no bytes, the version is neither 4 nor 6, or the header of that version is
-- rejected.
abbrev pub ip_header_rows : List ℕ → List (Bool × LaxHeaderSliceError)
ip_header_rows bytes =
    let version = version_of bytes in
    (length bytes == 0, ip_error.Len (len_error 1 0 source.Slice layer.IpHeader))
    ∷ (not (version == 4 || version == 6), ip_error.Content (content.UnsupportedIpVersion version))
    ∷ (if version == 4 then rows_as of_ipv4_header (ipv4_header_rows bytes)
    else rows_as of_ipv6_header (ipv6_header_rows bytes))

-- The bytes do not begin with an IP header, for this reason: the error of the first row that applies.
abbrev pub RefusesIpHeader : List ℕ → LaxHeaderSliceError → Type 0
RefusesIpHeader bytes = Refuses (ip_header_rows bytes)
