-- The fragments of a payload, and their headers.
use Rattle.std.specs.Prelude.{ℕ, ◌+◌, min, nat_le, nat_lt, Bool, false, if◌then◌else◌, List, [], ◌∷◌, length}
use Rattle.std.specs.Prelude.{slice_range, Option, Some, None}
use Rattle.etherparse.specs.BuiltFrames.{FrameHeaders, ip_frame_headers}
use Rattle.etherparse.specs.Ipv4.{default_ipv4_header}
use Rattle.etherparse.specs.Types.IpHeaders.{IpHeaders}
use Rattle.etherparse.specs.Types.IpHeaders.TheVariants as version
use Rattle.example_generators.specs.Ends.{ethernet_header}

-- the end of the fragment that begins at byte `start`: 1480 bytes later, or at the end of the payload
abbrev pub data_end : List ℕ → ℕ → ℕ
data_end payload start = min (length payload) (start + 1480)

-- the bytes of the fragment that begins at byte `start`, and whether more follow; `None` if there are no bytes
abbrev pub fragment_payload : List ℕ → ℕ → Option (List ℕ × Bool)
fragment_payload payload start =
    if nat_le (length payload) start then None
    else Some (slice_range payload start (data_end payload start), nat_lt (data_end payload start) (length payload))

-- the IPv4 header of a fragment
abbrev pub ip_headers : ℕ → Bool → IpHeaders
ip_headers offset more = version.Ipv4
    (record default_ipv4_header {
      identification = 1;
      dont_fragment = false;
      more_fragments = more;
      fragment_offset = offset;
      time_to_live = 64;
      source = 192 ∷ 0 ∷ 2 ∷ 1 ∷ [];
      destination = 192 ∷ 0 ∷ 2 ∷ 2 ∷ [];
    })
    (record { auth = None })

-- the headers of a fragment of a UDP datagram
abbrev pub fragment_headers : ℕ → Bool → FrameHeaders
fragment_headers offset more = ip_frame_headers ethernet_header (ip_headers offset more) (record { 0 = 17 })
