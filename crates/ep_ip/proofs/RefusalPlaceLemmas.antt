-- The layer that an error of an IP packet names starts within the bytes.
use Rattle.std.proofs.Common.{◌≡◌, ℕ, ◌+◌, ◌≤◌, List, ◌++◌, length, refl, ap, inl, inr, length-append, arith}
use Rattle.ep_base.specs.Readings.{Reading}
use Rattle.ep_base.proofs.TableLemmas.{refusal_is}
use Rattle.ep_base.specs.declared.err.ip_auth.HeaderSliceError.{HeaderSliceError as AuthSliceError}
use Rattle.ep_base.specs.declared.err.ip_auth.HeaderSliceError.TheVariants as auth_error
use Rattle.ep_base.specs.declared.err.ipv4.SliceError.{SliceError as Ipv4SliceError}
use Rattle.ep_base.specs.declared.err.ipv4.SliceError.TheVariants as ipv4_error
use Rattle.ep_base.specs.declared.err.ipv6.SliceError.{SliceError as Ipv6SliceError}
use Rattle.ep_base.specs.declared.err.ipv6.SliceError.TheVariants as ipv6_error
use Rattle.ep_base.specs.declared.err.ipv6_exts.HeaderSliceError.{HeaderSliceError as ExtsSliceError}
use Rattle.ep_base.specs.declared.err.ipv6_exts.HeaderSliceError.TheVariants as exts_error
use Rattle.ep_ext.specs.Chains.{ipv4, ipv6, offset_of}
use Rattle.ep_ext.specs.ExtensionParts.{auth_refusal}
use Rattle.ep_ip.specs.declared.ipv4_header.Ipv4Header.{Ipv4Header}
use Rattle.ep_ip.specs.declared.ipv6_header.Ipv6Header.{Ipv6Header}
use Rattle.ep_ip.specs.Ipv4.{ipv4_header_len, ipv4_packet_rows}
use Rattle.ep_ip.specs.Ipv6.{ipv6_bytes, ipv6_packet_rows}
use Rattle.ep_ip.specs.IpPackets.{RefusesIpv4, RefusesIpv6, ipv4_chain_refusal, ipv6_chain_refusal}
use Rattle.ep_ip.proofs.ExtensionLawLemmas.{refused_within}
use Rattle.ep_ip.proofs.IpBytesLemmas.{encoded_len, ipv6_len}

-- the start of the layer that an error of IPv4 names
abbrev pub ipv4_start : Ipv4SliceError → ℕ
ipv4_start (ipv4_error.Len error) = error.layer_start_offset
ipv4_start (ipv4_error.Header error) = 0
ipv4_start (ipv4_error.Exts error) = 0

ipv4_chain_start : (header : Ipv4Header) (error : AuthSliceError)
    → ipv4_start (ipv4_chain_refusal header error) ≤ offset_of (auth_refusal error) + ipv4_header_len header
ipv4_chain_start header (auth_error.Len error) = omega arith
ipv4_chain_start header (auth_error.Content error) = omega arith

pub ipv4_within : (reading : Reading) (bytes : List ℕ) (error : Ipv4SliceError) → RefusesIpv4 reading bytes error
    → ipv4_start error ≤ length bytes
ipv4_within reading bytes error (inl refused) =
    let start : ipv4_start error ≡ 0 =
    refusal_is (λ (e : Ipv4SliceError). ipv4_start e ≡ 0) (ipv4_packet_rows bytes)
    (refl, (refl, (refl, (refl, (refl, (refl, tt)))))) error refused in
    omega (arith, start)
ipv4_within reading bytes error (inr (cut, is, why)) = omega (
  arith,
  ap ipv4_start why.2,
  ipv4_chain_start cut.header why.0,
  refused_within ipv4 reading cut.header.protocol.0 cut.payload (auth_refusal why.0) why.1,
  ap length is.parts,
  length-append (is.encoded ++ cut.payload) cut.left,
  length-append is.encoded cut.payload,
  encoded_len is.encoded cut.header is.encodes,
)

-- the start of the layer that an error of IPv6 names
abbrev pub ipv6_start : Ipv6SliceError → ℕ
ipv6_start (ipv6_error.Len error) = error.layer_start_offset
ipv6_start (ipv6_error.Header error) = 0
ipv6_start (ipv6_error.Exts error) = 0

ipv6_chain_start : (header : Ipv6Header) (content : List ℕ) (error : ExtsSliceError)
    → ipv6_start (ipv6_chain_refusal header content error) ≤ offset_of error + 40
ipv6_chain_start header content (exts_error.Len error) = omega arith
ipv6_chain_start header content (exts_error.Content error) = omega arith

pub ipv6_within : (reading : Reading) (bytes : List ℕ) (error : Ipv6SliceError) → RefusesIpv6 reading bytes error
    → ipv6_start error ≤ length bytes
ipv6_within reading bytes error (inl refused) =
    let start : ipv6_start error ≡ 0 =
    refusal_is (λ (e : Ipv6SliceError). ipv6_start e ≡ 0) (ipv6_packet_rows bytes) (refl, (refl, (refl, tt))) error
    refused in
    omega (arith, start)
ipv6_within reading bytes error (inr (cut, is, why)) = omega (
  arith,
  ap ipv6_start why.2,
  ipv6_chain_start cut.header cut.payload why.0,
  refused_within ipv6 reading cut.header.next_header.0 cut.payload why.0 why.1,
  ap length is.parts,
  length-append (ipv6_bytes cut.header ++ cut.payload) cut.left,
  length-append (ipv6_bytes cut.header) cut.payload,
  ipv6_len cut.header is.fits,
)
