-- Some bytes begin with at most one UDP header.
use Rattle.std.proofs.Common.{◌≡◌, ℕ, List, sym, ◌∙◌, arith}
use Rattle.std.proofs.lemmas.Grind.{common_steps}
use Rattle.etherparse.specs.Types.LenError.{LenError}
use Rattle.etherparse.specs.Types.UdpHeader.{UdpHeader}
use Rattle.etherparse.specs.Udp.{IsUdpHeader, RefusesUdpHeader, udp_header_of}

-- Rejected bytes do not begin with a header.
pub no_udp_header : (bytes : List ℕ) (error : LenError) → RefusesUdpHeader bytes error
    → (read : UdpHeader × List ℕ) → IsUdpHeader bytes read → ⊥
no_udp_header bytes error refuses read is = grind (arith, common_steps)

udp_header_is_read : (bytes : List ℕ) (read : UdpHeader × List ℕ) → IsUdpHeader bytes read
    → read.0 ≡ udp_header_of bytes
udp_header_is_read bytes read is = grind (arith, common_steps)

-- Two headers of some bytes are equal.
pub one_udp_header : (bytes : List ℕ) (a b : UdpHeader × List ℕ) → IsUdpHeader bytes a → IsUdpHeader bytes b
    → a.0 ≡ b.0
one_udp_header bytes a b of_a of_b = udp_header_is_read bytes a of_a ∙ sym (udp_header_is_read bytes b of_b)
