-- Bytes in a slice, and the result of building a frame into one.
use Rattle.std.specs.Prelude.{◌≡◌, ℕ, ◌+◌, ◌<◌, ◌≤◌, List, ◌++◌, length, take, drop, Result, MatchResult}
use Rattle.ep_base.specs.declared.ether_type.EtherType.{EtherType}
use Rattle.ep_ext.specs.Chains.{FitParts, parts_bytes}
use Rattle.ep_ext.specs.ExtensionParts.{ExtensionPart}
use Rattle.ep_packet.specs.IpHeaders.{FitsIpHeader, headers_for, ip_headers_len, ip_headers_type}
use Rattle.ep_packet.specs.declared.ip_headers.IpHeaders.{IpHeaders}
use Rattle.ep_transport.specs.TransportHeaders.{transport_header_len}
use Rattle.ep_transport.specs.declared.transport_header.TransportHeader.{TransportHeader}
use Rattle.ep_build.specs.BuildErrors.{IsBuildable, RefusesBuild}
use Rattle.ep_build.specs.BuiltFrames.{FrameHeaders, built_frame, built_size, transport_frame_headers, link_part_len}
use Rattle.ep_build.specs.BuiltFrames.{transport_between, transport_number}
use Rattle.ep_build.specs.Fits.{FitsLink, FitsTransport}
use Rattle.ep_build.specs.declared.err.build_slice_write_error.BuildSliceWriteError.{BuildSliceWriteError}
use Rattle.ep_build.specs.declared.err.build_slice_write_error.BuildSliceWriteError.TheVariants as error
use Rattle.ep_build.specs.declared.link_part.LinkPart.{LinkPart}

-- ---- bytes

-- The bytes are in the slice from offset `at` to `end`, and the rest of the slice is unchanged.
pub record AreAt (bytes old new : List ℕ) (at end : ℕ) : Type 0 where
  pub fits : at + length bytes ≤ length old
  pub ends : end ≡ at + length bytes
  pub is : new ≡ take at old ++ (bytes ++ drop (at + length bytes) old)

-- The bytes of extension headers are in the slice from offset `at` to `end`, and their fields fit their widths.
pub record PartsAreAt (parts : List ExtensionPart) (old new : List ℕ) (at end : ℕ) : Type 0 where
  pub bytes : AreAt (parts_bytes parts) old new at end
  pub fit : FitParts parts

-- ---- prepared headers

-- The headers are linked, and the transport header has its length and checksum. `type` is the ether type before them,
-- and `size` the length of the frame in bytes.
pub record ArePrepared (part : LinkPart) (headers : IpHeaders) (upper : TransportHeader) (payload : List ℕ)
    (linked : IpHeaders) (filled : TransportHeader) (type : EtherType) (size : ℕ) : Type 0 where
  pub buildable : IsBuildable (transport_frame_headers part headers upper) (length payload)
  pub is_linked : linked ≡ headers_for headers (record { 0 = transport_number upper })
      (transport_header_len upper + length payload)
  pub is_filled : filled ≡ transport_between headers payload upper
  pub typed : type.0 ≡ ip_headers_type headers
  pub fits_link : FitsLink part
  pub fits_header : FitsIpHeader linked
  pub fits_transport : FitsTransport filled
  pub parts : size ≡ link_part_len part + (ip_headers_len linked + (transport_header_len filled + length payload))
  pub size_is : size ≡ built_size (transport_frame_headers part headers upper) (length payload)

-- ---- frames

-- The error of building a frame into a slice of `len` bytes: the slice is too short, with the length needed, or a row
-- of the builder's table is met.
abbrev pub RefusesFilling : FrameHeaders → List ℕ → ℕ → BuildSliceWriteError → Type 0
RefusesFilling frame payload len (error.Space needed) =
    IsBuildable frame (length payload) × (needed ≡ length (built_frame frame payload)) × (len < needed)
RefusesFilling frame payload len (error.Build refusal) = RefusesBuild frame (length payload) refusal

-- The frame is at the start of the slice, the bytes after it are unchanged, and its length is returned. On an error the
-- slice is unchanged.
abbrev pub FillsStart : FrameHeaders → List ℕ → List ℕ → List ℕ → Result ℕ BuildSliceWriteError → Type 0
FillsStart frame payload old new result =
    let built = built_frame frame payload in
    MatchResult result
    (λ len. IsBuildable frame (length payload) × (len ≡ length built) × (len ≤ length old)
    × (new ≡ built ++ drop len old))
    (λ refusal. RefusesFilling frame payload (length old) refusal × (new ≡ old))
