-- Full lengths of payloads, by the length fields of the headers before them.
use Rattle.std.specs.Prelude.{ℕ, ◌+◌, ◌-◌, ◌*◌, ◌==◌, ◌&&◌, Bool, if◌then◌else◌, nat_le, nat_lt, List}
use Rattle.std.specs.Prelude.{[], ◌++◌, length, Option, Some, None, codes}
use Rattle.std.specs.Fmt.{decimal}
use Rattle.etherparse.specs.FrameBytes.{last_payload}
use Rattle.etherparse.specs.IpNumbers.{tcp_number}
use Rattle.etherparse.specs.IpPayload.{IpPayload}
use Rattle.etherparse.specs.Layers.{Layers, NetLayer, net_payload}
use Rattle.etherparse.specs.MissingBytes.{missing_bytes, net_missing}
use Rattle.etherparse.specs.PayloadStarts.{begins_payload}
use Rattle.etherparse.specs.Tcp.{data_offset_of}

-- the full length of a payload, given the number of captured and of missing bytes, if any are missing
abbrev pub full_len_text : ℕ → ℕ → List ℕ
full_len_text captured missing = if nat_lt 0 missing then codes " of " ++ decimal (captured + missing) else []

-- the full length of the last payload, if it is incomplete
abbrev pub full_len_if_truncated_text : Bool → Layers → List ℕ
full_len_if_truncated_text incomplete layers =
    if incomplete
    then full_len_text (length (last_payload layers)) (missing_bytes layers) else []

-- ---- after a truncated TCP header

-- the length of a TCP header in bytes, by its data offset, which counts words of 4 bytes (RFC 9293, 3.1)
abbrev pub header_len_at : List ℕ → ℕ
header_len_at bytes = 4 * data_offset_of bytes

-- True if 14 bytes of a TCP header are captured, and its length is at least 20 and at most that of the segment.
abbrev pub knows_header_len : ℕ → List ℕ → Bool
knows_header_len segment_len bytes =
    nat_le 14 (length bytes) && (nat_le 20 (header_len_at bytes) && nat_le (header_len_at bytes) segment_len)

-- the length of a TCP payload without captured bytes, given the full length of the segment and its captured bytes
abbrev pub tcp_payload_len_text : ℕ → List ℕ → List ℕ
tcp_payload_len_text segment_len bytes =
    if knows_header_len segment_len bytes
    then codes " len 0" ++ full_len_text 0 (segment_len - header_len_at bytes) else []

-- the length of a TCP payload without captured bytes, given the number of missing bytes of the IP payload
abbrev pub payload_if_tcp_text : ℕ → Option IpPayload → List ℕ
payload_if_tcp_text missing (Some payload) =
    if payload.number == tcp_number then tcp_payload_len_text (length payload.bytes + missing) payload.bytes else []
payload_if_tcp_text missing None = []

-- the length of a TCP payload without captured bytes, if the IP payload begins with its header
abbrev pub missing_tcp_payload_text : Option NetLayer → List ℕ
missing_tcp_payload_text (Some net) =
    if begins_payload net then payload_if_tcp_text (net_missing net) (net_payload net) else []
missing_tcp_payload_text None = []
