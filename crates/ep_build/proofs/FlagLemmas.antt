-- Setting a flag of a TCP header sets its bit of the wire format.
use Rattle.std.proofs.Common.{◌≡◌, ℕ, ◌+◌, ◌*◌, ◌^◌, true, List, ◌∷◌, ◌++◌, take, drop, ap, arith}
use Rattle.ep_base.specs.Bytes.{bit}
use Rattle.ep_base.proofs.BytesLemmas.{bit_le}
use Rattle.ep_transport.specs.Tcp.{tcp_bytes, tcp_data_offset, tcp_flags}
use Rattle.ep_transport.specs.declared.tcp_header.TcpHeader.{TcpHeader}
use Rattle.ep_build.specs.Steps.{SetsFlag, with_bit}

-- The wire format of a header with these flags in byte 13.
abbrev with_flags : TcpHeader → ℕ → List ℕ
with_flags header flags = take 13 (tcp_bytes header) ++ flags ∷ drop 14 (tcp_bytes header)

equal_flags : (header : TcpHeader) (mask flags : ℕ) → flags ≡ with_bit mask (tcp_flags header)
    → with_flags header flags ≡ with_flags header (with_bit mask (tcp_flags header))
equal_flags header mask flags same = ap (with_flags header) same

pub sets_ns : (header : TcpHeader) → SetsFlag 12 1 header (record header { ns = true })
sets_ns header =
    let offset = 2 ^ 4 * tcp_data_offset header + 2 ^ 1 * 0 in
    let same : offset + 1 ≡ with_bit 1 (offset + bit header.ns) = omega (arith, bit_le header.ns) in
    ap (λ (n : ℕ). take 12 (tcp_bytes header) ++ n ∷ drop 13 (tcp_bytes header)) same

pub sets_fin : (header : TcpHeader) → SetsFlag 13 1 header (record header { fin = true })
sets_fin header =
    equal_flags header 1 (tcp_flags (record header { fin = true })) (omega (arith, bit_le header.fin))

pub sets_syn : (header : TcpHeader) → SetsFlag 13 2 header (record header { syn = true })
sets_syn header =
    equal_flags header 2 (tcp_flags (record header { syn = true })) (omega (
      arith,
      bit_le header.fin,
      bit_le header.syn,
    ))

pub sets_rst : (header : TcpHeader) → SetsFlag 13 4 header (record header { rst = true })
sets_rst header =
    equal_flags header 4 (tcp_flags (record header { rst = true })) (omega (
      arith,
      bit_le header.fin,
      bit_le header.syn,
      bit_le header.rst,
    ))

pub sets_psh : (header : TcpHeader) → SetsFlag 13 8 header (record header { psh = true })
sets_psh header =
    equal_flags header 8 (tcp_flags (record header { psh = true })) (omega (
      arith,
      bit_le header.fin,
      bit_le header.syn,
      bit_le header.rst,
      bit_le header.psh,
    ))

pub sets_ack : (header : TcpHeader) → SetsFlag 13 16 header (record header { ack = true })
sets_ack header =
    equal_flags header 16 (tcp_flags (record header { ack = true })) (omega (
      arith,
      bit_le header.fin,
      bit_le header.syn,
      bit_le header.rst,
      bit_le header.psh,
      bit_le header.ack,
    ))

pub sets_urg : (header : TcpHeader) → SetsFlag 13 32 header (record header { urg = true })
sets_urg header =
    equal_flags header 32 (tcp_flags (record header { urg = true })) (omega (
      arith,
      bit_le header.fin,
      bit_le header.syn,
      bit_le header.rst,
      bit_le header.psh,
      bit_le header.ack,
      bit_le header.urg,
    ))

pub sets_ece : (header : TcpHeader) → SetsFlag 13 64 header (record header { ece = true })
sets_ece header =
    equal_flags header 64 (tcp_flags (record header { ece = true })) (omega (
      arith,
      bit_le header.fin,
      bit_le header.syn,
      bit_le header.rst,
      bit_le header.psh,
      bit_le header.ack,
      bit_le header.urg,
      bit_le header.ece,
    ))

pub sets_cwr : (header : TcpHeader) → SetsFlag 13 128 header (record header { cwr = true })
sets_cwr header =
    equal_flags header 128 (tcp_flags (record header { cwr = true })) (omega (
      arith,
      bit_le header.fin,
      bit_le header.syn,
      bit_le header.rst,
      bit_le header.psh,
      bit_le header.ack,
      bit_le header.urg,
      bit_le header.ece,
      bit_le header.cwr,
    ))
