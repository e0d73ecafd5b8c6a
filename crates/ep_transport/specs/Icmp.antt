-- Definitions that ICMP (RFC 792) and ICMPv6 (RFC 4443) share.
use Rattle.std.specs.Prelude.{ℕ, ◌<◌, ◌^◌, ◌==◌, ◌&&◌, nat_le, if◌then◌else◌, List, [], ◌∷◌, ◌++◌, Option, Some, None}
use Rattle.std.specs.Int.{w16, to_be_bytes}
use Rattle.ep_base.specs.Bytes.{word_at}
use Rattle.ep_transport.specs.declared.icmp_echo_header.IcmpEchoHeader.{IcmpEchoHeader}

-- the kind of message with this type and code, from a table with the type and the maximum code of each kind
abbrev pub kind_in : {K : Type 0} → (K → ℕ × ℕ) → List K → ℕ → ℕ → Option K
kind_in row [] type code = None
kind_in row (kind ∷ others) type code =
    if (type == (row kind).0) && nat_le code (row kind).1 then Some kind else kind_in row others type code

-- ---- echo messages

-- Identifier and sequence number fit 16 bits.
pub record FitsEcho (echo : IcmpEchoHeader) : Type 0 where
  pub id : echo.id < 2 ^ 16
  pub seq : echo.seq < 2 ^ 16

-- bytes 4 to 7 of an echo message: identifier and sequence number
abbrev pub echo_bytes : IcmpEchoHeader → List ℕ
echo_bytes echo = to_be_bytes w16 echo.id ++ to_be_bytes w16 echo.seq

-- the identifier and sequence number read from the bytes of an echo message
abbrev pub echo_of : List ℕ → IcmpEchoHeader
echo_of bytes = record { id = word_at bytes 4; seq = word_at bytes 6 }
