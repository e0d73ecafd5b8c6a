-- The bytes of an ICMPv6 message, and the header read from them.
use Rattle.std.proofs.Common.{◌≡◌, ℕ, ◌≤◌, List, [], ◌∷◌, ◌++◌, Option, Some, None, length, drop, slice_index, refl, sym, ap, ap₂, subst, ◌∙◌, arith}
use Rattle.std.proofs.lemmas.Grind.{common_steps}
use Rattle.std.proofs.lemmas.Bool.Decides.{nat_tests}
use Rattle.ep_base.specs.Bytes.{AreBytes, long_at, word_at}
use Rattle.ep_base.specs.Tables.{Parts, first_row}
use Rattle.ep_base.proofs.BytesLemmas.{AreBytes-take, AreBytes-drop, long_cells}
use Rattle.ep_base.proofs.TableLemmas.{IsReadBy}
use Rattle.ep_transport.specs.declared.icmpv6.kind.Icmpv6Kind.{Icmpv6Kind}
use Rattle.ep_transport.specs.declared.icmpv6.kind.Icmpv6Kind.TheVariants as kind
use Rattle.ep_transport.specs.declared.icmpv6.time_exceeded_code.TimeExceededCode.{TimeExceededCode}
use Rattle.ep_transport.specs.declared.icmpv6.time_exceeded_code.TimeExceededCode.TheVariants as exceeded
use Rattle.ep_transport.specs.declared.icmpv6_type.Icmpv6Type.{Icmpv6Type}
use Rattle.ep_transport.specs.declared.icmpv6_type.Icmpv6Type.TheVariants as message
use Rattle.ep_transport.specs.declared.icmpv6_header.Icmpv6Header.{Icmpv6Header}
use Rattle.ep_transport.specs.Icmpv6.{icmpv6_row, icmpv6_kinds, icmpv6_kind_of, icmpv6_kind_at, icmpv6_kind, icmpv6_type_u8, icmpv6_code_u8, icmpv6_exceeded_u8, icmpv6_exceeded_of}
use Rattle.ep_transport.specs.Icmpv6.{FitsIcmpv6, FitsIcmpv6Fields, IsIcmpv6, icmpv6_bytes_with, icmpv6_header_of, icmpv6_parts, icmpv6_rest_with, icmpv6_rows, icmpv6_value_of}
use Rattle.ep_transport.proofs.IcmpLemmas.{IsInRow, kind_in-row, four_at, four_present, four_range, message_prefix, echo_same, echo_fits, echo_read}

-- ---- bytes are those of the header read from them

exceeded_same : (code : ℕ) → code ≤ 1 → code ≡ icmpv6_exceeded_u8 (icmpv6_exceeded_of code)
exceeded_same code low = grind (arith, nat_tests)

type_same : (found : Option Icmpv6Kind) (bytes : List ℕ)
    → IsInRow icmpv6_row found (slice_index bytes 0) (slice_index bytes 1)
    → slice_index bytes 0 ≡ icmpv6_type_u8 (icmpv6_value_of found bytes)
type_same None bytes in_row = refl
type_same (Some kind.DestinationUnreachable) bytes in_row = in_row.0
type_same (Some _) bytes in_row = in_row.0

code_same : (found : Option Icmpv6Kind) (bytes : List ℕ)
    → IsInRow icmpv6_row found (slice_index bytes 0) (slice_index bytes 1)
    → slice_index bytes 1 ≡ icmpv6_code_u8 (icmpv6_value_of found bytes)
code_same None bytes in_row = refl
code_same (Some kind.DestinationUnreachable) bytes in_row = refl
code_same (Some kind.TimeExceeded) bytes in_row = exceeded_same (slice_index bytes 1) in_row.1
code_same (Some kind.ParameterProblem) bytes in_row = refl
code_same (Some _) bytes in_row = omega (arith, in_row.1)

kind_same : (found : Option Icmpv6Kind) (bytes : List ℕ) → icmpv6_kind (icmpv6_value_of found bytes) ≡ found
kind_same None bytes = refl
kind_same (Some kind.DestinationUnreachable) bytes = refl
kind_same (Some _) bytes = refl

number_same : (bytes : List ℕ) → AreBytes bytes
    → four_at bytes ≡ icmpv6_rest_with [] (message.PacketTooBig (long_at bytes 4))
number_same bytes fits = long_cells bytes fits 4 refl

rest_same : (found : Option Icmpv6Kind) (bytes : List ℕ) → AreBytes bytes → 8 ≤ length bytes
    → four_at bytes ≡ icmpv6_rest_with (four_at bytes) (icmpv6_value_of found bytes)
rest_same None bytes fits long = sym (four_range bytes long)
rest_same (Some kind.DestinationUnreachable) bytes fits long = refl
rest_same (Some kind.PacketTooBig) bytes fits long = number_same bytes fits
rest_same (Some kind.TimeExceeded) bytes fits long = refl
rest_same (Some kind.ParameterProblem) bytes fits long = number_same bytes fits
rest_same (Some kind.EchoRequest) bytes fits long = echo_same bytes fits
rest_same (Some kind.EchoReply) bytes fits long = echo_same bytes fits

fields_fit : (found : Option Icmpv6Kind) (bytes : List ℕ) → AreBytes bytes → 8 ≤ length bytes
    → FitsIcmpv6Fields (icmpv6_value_of found bytes)
fields_fit None bytes fits long =
    (fits 0, fits 1, ap length (four_range bytes long), AreBytes-take 4 (drop 4 bytes) (AreBytes-drop 4 bytes fits))
fields_fit (Some kind.DestinationUnreachable) bytes fits long = tt
fields_fit (Some kind.PacketTooBig) bytes fits long = omega (arith, fits 4, fits 5, fits 6, fits 7)
fields_fit (Some kind.TimeExceeded) bytes fits long = tt
fields_fit (Some kind.ParameterProblem) bytes fits long = omega (arith, fits 4, fits 5, fits 6, fits 7)
fields_fit (Some kind.EchoRequest) bytes fits long = echo_fits bytes fits
fields_fit (Some kind.EchoReply) bytes fits long = echo_fits bytes fits

header_fits : (bytes : List ℕ) → AreBytes bytes → 8 ≤ length bytes → FitsIcmpv6 (icmpv6_header_of bytes)
header_fits bytes fits long =
    let found = icmpv6_kind_at bytes in
    let in_row = kind_in-row icmpv6_row icmpv6_kinds (slice_index bytes 0) (slice_index bytes 1) found refl in
    record {
      checksum = omega (arith, fits 2, fits 3);
      fields = fields_fit found bytes fits long;
      kind = sym (ap₂ icmpv6_kind_of (type_same found bytes in_row) (code_same found bytes in_row))
          ∙ sym (kind_same found bytes);
    }

header_prefix : (bytes : List ℕ) → AreBytes bytes → 8 ≤ length bytes
    → bytes ≡ icmpv6_bytes_with (four_at bytes) (icmpv6_header_of bytes) ++ drop 8 bytes
header_prefix bytes fits long =
    let found = icmpv6_kind_at bytes in
    let in_row = kind_in-row icmpv6_row icmpv6_kinds (slice_index bytes 0) (slice_index bytes 1) found refl in
    message_prefix bytes _ _ _ fits long (type_same found bytes in_row) (code_same found bytes in_row)
    (four_present bytes long ∙ ap (λ (s : List ℕ). s ++ drop 8 bytes) (rest_same found bytes fits long))

reads : (bytes : List ℕ) → AreBytes bytes → first_row (icmpv6_rows bytes) ≡ None → IsIcmpv6 bytes (icmpv6_parts bytes)
reads bytes fits none =
    let long : 8 ≤ length bytes = grind (arith, common_steps) in
    record {
      encoded = icmpv6_bytes_with (four_at bytes) (icmpv6_header_of bytes);
      encodes = record { fits = header_fits bytes fits long; unused = four_at bytes; four = refl; same = refl };
      parts = header_prefix bytes fits long;
      whole = refl;
    }

-- ---- the bytes of a header are read as this header

exceeded_read : (code : TimeExceededCode) → code ≡ icmpv6_exceeded_of (icmpv6_exceeded_u8 code)
exceeded_read exceeded.HopLimitExceeded = refl
exceeded_read exceeded.FragmentReassemblyTimeExceeded = refl

-- The bytes are a header of 8 bytes with this message, followed by the payload.
record Holds (value : Icmpv6Type) (bytes payload : List ℕ) : Type 0 where
  read : value ≡ icmpv6_value_of (icmpv6_kind value) bytes
  after : payload ≡ drop 8 bytes
  long : 8 ≤ length bytes

value_read : (a b c d : ℕ) (value : Icmpv6Type) (checksum : ℕ) (payload : List ℕ) → FitsIcmpv6Fields value
    → Holds value
    (icmpv6_bytes_with (a ∷ b ∷ c ∷ d ∷ []) (record { icmp_type = value; checksum = checksum }) ++ payload) payload
value_read a b c d (message.Unknown type code (p ∷ q ∷ r ∷ s ∷ [])) checksum payload fits =
    record { read = refl; after = refl; long = omega arith }
value_read a b c d (message.Unknown type code _) checksum payload fits = absurd (omega (arith, fits.2))
value_read a b c d (message.DestinationUnreachable code) checksum payload fits =
    record { read = refl; after = refl; long = omega arith }
value_read a b c d (message.PacketTooBig mtu) checksum payload fits =
    let bytes =
    icmpv6_bytes_with [] (record { icmp_type = message.PacketTooBig mtu; checksum = checksum }) ++ payload in
    let number : mtu ≡ long_at bytes 4 = omega (arith, fits) in
    record { read = ap message.PacketTooBig number; after = refl; long = omega arith }
value_read a b c d (message.TimeExceeded code) checksum payload fits =
    record { read = ap message.TimeExceeded (exceeded_read code); after = refl; long = omega arith }
value_read a b c d (message.ParameterProblem code pointer) checksum payload fits =
    let bytes =
    icmpv6_bytes_with [] (record { icmp_type = message.ParameterProblem code pointer; checksum = checksum })
    ++ payload in
    let number : pointer ≡ long_at bytes 4 = omega (arith, fits) in
    record { read = ap (message.ParameterProblem code) number; after = refl; long = omega arith }
value_read a b c d (message.EchoRequest echo) checksum payload fits = record {
  read = ap message.EchoRequest (echo_read 128 checksum echo payload fits);
  after = refl;
  long = omega arith;
}
value_read a b c d (message.EchoReply echo) checksum payload fits = record {
  read = ap message.EchoReply (echo_read 129 checksum echo payload fits);
  after = refl;
  long = omega arith;
}

-- The bytes are read as this header and payload.
record IsRead (bytes : List ℕ) (header : Icmpv6Header) (payload : List ℕ) : Type 0 where
  long : 8 ≤ length bytes
  same : header ≡ icmpv6_header_of bytes
  after : payload ≡ drop 8 bytes

encoded_read : (unused : List ℕ) (header : Icmpv6Header) (payload : List ℕ) → length unused ≡ 4 → FitsIcmpv6 header
    → IsRead (icmpv6_bytes_with unused header ++ payload) header payload
encoded_read (a ∷ b ∷ c ∷ d ∷ []) header payload four fits =
    let bytes = icmpv6_bytes_with (a ∷ b ∷ c ∷ d ∷ []) header ++ payload in
    let holds = value_read a b c d header.icmp_type header.checksum payload fits.fields in
    let value : header.icmp_type ≡ icmpv6_value_of (icmpv6_kind_at bytes) bytes =
    holds.read ∙ ap (λ (found : Option Icmpv6Kind). icmpv6_value_of found bytes) (sym fits.kind) in
    let checksum : header.checksum ≡ word_at bytes 2 = omega (arith, fits.checksum) in
    record {
      long = holds.long;
      same = λ i. record { icmp_type = value i; checksum = checksum i };
      after = holds.after;
    }
encoded_read _ header payload four fits = absurd (omega (arith, four))

none_refuses : (bytes : List ℕ) → 8 ≤ length bytes → first_row (icmpv6_rows bytes) ≡ None
none_refuses bytes long = grind (arith, common_steps)

is_read : (bytes : List ℕ) (read : Parts Icmpv6Header) → IsIcmpv6 bytes read
    → (first_row (icmpv6_rows bytes) ≡ None) × (read ≡ icmpv6_parts bytes)
is_read bytes read is =
    let present = encoded_read is.encodes.unused read.header read.payload is.encodes.four is.encodes.fits in
    let same : bytes ≡ icmpv6_bytes_with is.encodes.unused read.header ++ read.payload =
    is.parts ∙ ap (λ (s : List ℕ). s ++ read.payload) is.encodes.same in
    let P : List ℕ → Type 0 = λ s. IsRead s read.header read.payload in
    let complete : IsRead bytes read.header read.payload = subst P (sym same) present in
    (none_refuses bytes complete.long, λ i. record { header = complete.same i; payload = complete.after i; left = is.whole i })

pub icmpv6_is_read : IsReadBy IsIcmpv6 icmpv6_rows icmpv6_parts
icmpv6_is_read = record { reads = reads; is_read = is_read }
