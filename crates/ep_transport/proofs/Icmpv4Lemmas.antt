-- The bytes of an ICMP message, and the header read from them.
use Rattle.std.proofs.Common.{◌≡◌, ◌⊎◌, ◌==◌, ℕ, ◌+◌, ◌%◌, ◌<◌, ◌≤◌, ◌^◌, Bool, true, false, if◌then◌else◌, List, [], ◌∷◌, ◌++◌, Option, Some, None, length, take, drop, slice_index, refl, sym, ap, ap₂, subst, ◌∙◌, inl, inr, arith}
use Rattle.std.specs.Prelude.{nat_lt}
use Rattle.std.specs.Int.{w16, to_be_bytes}
use Rattle.std.proofs.lemmas.Grind.{common_steps}
use Rattle.std.proofs.lemmas.Bool.{cases_Bool, eqb-true, eq-eqb, true≢false, cond-true, cond-false, le-ltb}
use Rattle.std.proofs.lemmas.Bool.Decides.{nat_tests}
use Rattle.std.proofs.lemmas.List.{drop_all}
use Rattle.ep_base.specs.Bytes.{AreBytes, long_at, word_at}
use Rattle.ep_base.specs.Tables.{Parts, first_row}
use Rattle.ep_base.proofs.BytesLemmas.{elements, drop-elements, AreBytes-take, AreBytes-drop, long_cells, word_cells}
use Rattle.ep_base.proofs.TableLemmas.{IsReadBy}
use Rattle.ep_transport.specs.declared.icmpv4.kind.Icmpv4Kind.{Icmpv4Kind}
use Rattle.ep_transport.specs.declared.icmpv4.kind.Icmpv4Kind.TheVariants as kind
use Rattle.ep_transport.specs.declared.icmpv4.time_exceeded_code.TimeExceededCode.{TimeExceededCode}
use Rattle.ep_transport.specs.declared.icmpv4.time_exceeded_code.TimeExceededCode.TheVariants as exceeded
use Rattle.ep_transport.specs.declared.icmpv4.timestamp_message.TimestampMessage.{TimestampMessage}
use Rattle.ep_transport.specs.declared.icmpv4_type.Icmpv4Type.{Icmpv4Type}
use Rattle.ep_transport.specs.declared.icmpv4_type.Icmpv4Type.TheVariants as message
use Rattle.ep_transport.specs.declared.icmpv4_header.Icmpv4Header.{Icmpv4Header}
use Rattle.ep_transport.specs.Icmpv4.{icmpv4_row, icmpv4_kinds, icmpv4_kind_of, icmpv4_kind_at, icmpv4_kind, icmpv4_len, icmpv4_type_u8, icmpv4_code_u8, icmpv4_exceeded_u8, icmpv4_exceeded_of}
use Rattle.ep_transport.specs.Icmpv4.{FitsIcmpv4, FitsIcmpv4Fields, FitsTimestamp, EndsIcmpv4, IsIcmpv4, icmpv4_bytes_with, icmpv4_header_of, icmpv4_parts, icmpv4_rest_with, icmpv4_rows, icmpv4_timestamp_rows, icmpv4_value_of, timestamp_bytes, timestamp_of}
use Rattle.ep_transport.proofs.IcmpLemmas.{IsInRow, kind_in-row, four_at, four_present, four_range, message_prefix, echo_same, echo_fits, echo_read, message_bytes}

-- ---- lengths

-- `n` bytes hold a complete header of this kind; a timestamp message has exactly 20.
record IsValid (found : Option Icmpv4Kind) (n : ℕ) : Type 0 where
  long : 8 ≤ n
  whole : icmpv4_len found ≤ n
  exact : icmpv4_len found ≡ 20 → n ≡ 20

timestamp_holds : (found : Option Icmpv4Kind) (n : ℕ) → 8 ≤ n → first_row (icmpv4_timestamp_rows found n) ≡ None
    → IsValid found n
timestamp_holds None n long none = record { long = long; whole = long; exact = λ e. absurd (omega (arith, e)) }
timestamp_holds (Some kind.TimestampRequest) n long none =
    let same : n ≡ 20 = grind (arith, common_steps) in
    record { long = long; whole = omega (arith, same); exact = λ e. same }
timestamp_holds (Some kind.TimestampReply) n long none =
    let same : n ≡ 20 = grind (arith, common_steps) in
    record { long = long; whole = omega (arith, same); exact = λ e. same }
timestamp_holds (Some _) n long none = record { long = long; whole = long; exact = λ e. absurd (omega (arith, e)) }

is_valid : (bytes : List ℕ) → first_row (icmpv4_rows bytes) ≡ None → IsValid (icmpv4_kind_at bytes) (length bytes)
is_valid bytes none =
    let long : 8 ≤ length bytes = grind (arith, common_steps) in
    timestamp_holds (icmpv4_kind_at bytes) (length bytes) long (grind (arith, common_steps))

timestamp_none : (found : Option Icmpv4Kind) (n : ℕ) → (icmpv4_len found ≡ 20 → n ≡ 20)
    → first_row (icmpv4_timestamp_rows found n) ≡ None
timestamp_none None n exact = refl
timestamp_none (Some kind.TimestampRequest) n exact = rw (exact refl) refl
timestamp_none (Some kind.TimestampReply) n exact = rw (exact refl) refl
timestamp_none (Some _) n exact = refl

pub kind_refuses_none : (bytes : List ℕ) (found : Option Icmpv4Kind) → found ≡ icmpv4_kind_at bytes → 8 ≤ length bytes
    → first_row (icmpv4_timestamp_rows found (length bytes)) ≡ None → first_row (icmpv4_rows bytes) ≡ None
kind_refuses_none bytes found is long none =
    cond-false (nat_lt (length bytes) 8) _ (first_row (icmpv4_timestamp_rows (icmpv4_kind_at bytes) (length bytes)))
    (le-ltb (length bytes) 8 long)
    ∙ ap (λ (k : Option Icmpv4Kind). first_row (icmpv4_timestamp_rows k (length bytes))) (sym is)
    ∙ none

none_refuses : (bytes : List ℕ) → 8 ≤ length bytes
    → (icmpv4_len (icmpv4_kind_at bytes) ≡ 20 → length bytes ≡ 20) → first_row (icmpv4_rows bytes) ≡ None
none_refuses bytes long exact =
    kind_refuses_none bytes (icmpv4_kind_at bytes) refl long
    (timestamp_none (icmpv4_kind_at bytes) (length bytes) exact)

-- The length of a header is even.
pub len_even : (found : Option Icmpv4Kind) → icmpv4_len found % 2 ≡ 0
len_even None = refl
len_even (Some kind.TimestampRequest) = refl
len_even (Some kind.TimestampReply) = refl
len_even (Some _) = refl

-- ---- bytes are those of the header read from them

exceeded_same : (code : ℕ) → code ≤ 1 → code ≡ icmpv4_exceeded_u8 (icmpv4_exceeded_of code)
exceeded_same code low = grind (arith, nat_tests)

type_same : (found : Option Icmpv4Kind) (bytes : List ℕ)
    → IsInRow icmpv4_row found (slice_index bytes 0) (slice_index bytes 1)
    → slice_index bytes 0 ≡ icmpv4_type_u8 (icmpv4_value_of found bytes)
type_same None bytes in_row = refl
type_same (Some kind.EchoReply) bytes in_row = in_row.0
type_same (Some _) bytes in_row = in_row.0

code_same : (found : Option Icmpv4Kind) (bytes : List ℕ)
    → IsInRow icmpv4_row found (slice_index bytes 0) (slice_index bytes 1)
    → slice_index bytes 1 ≡ icmpv4_code_u8 (icmpv4_value_of found bytes)
code_same None bytes in_row = refl
code_same (Some kind.DestinationUnreachable) bytes in_row = refl
code_same (Some kind.Redirect) bytes in_row = refl
code_same (Some kind.TimeExceeded) bytes in_row = exceeded_same (slice_index bytes 1) in_row.1
code_same (Some kind.ParameterProblem) bytes in_row = refl
code_same (Some _) bytes in_row = omega (arith, in_row.1)

kind_same : (found : Option Icmpv4Kind) (bytes : List ℕ) → icmpv4_kind (icmpv4_value_of found bytes) ≡ found
kind_same None bytes = refl
kind_same (Some kind.EchoReply) bytes = refl
kind_same (Some _) bytes = refl

-- Bytes 4 to 7 are those written for the fields read from them: the MTU in the last two, or the pointer in the first.
mtu_same : (used : Bool) (bytes : List ℕ) → AreBytes bytes
    → four_at bytes ≡ (if used then take 2 (four_at bytes) ++ to_be_bytes w16 (if used then word_at bytes 6 else 0)
    else four_at bytes)
mtu_same true bytes fits = λ i. slice_index bytes 4 ∷ slice_index bytes 5 ∷ word_cells bytes fits 6 refl i
mtu_same false bytes fits = refl

pointer_same : (used : Bool) (bytes : List ℕ)
    → four_at bytes ≡ (if used then (if used then slice_index bytes 4 else 0) ∷ drop 1 (four_at bytes)
    else four_at bytes)
pointer_same true bytes = refl
pointer_same false bytes = refl

timestamp_same : (bytes : List ℕ) → AreBytes bytes → 20 ≤ length bytes
    → drop 4 bytes ≡ timestamp_bytes (timestamp_of bytes) ++ drop 20 bytes
unfolding elements
timestamp_same bytes fits long =
    drop-elements 16 4 bytes long
    ∙ (λ i. word_cells bytes fits 4 refl i ++ word_cells bytes fits 6 refl i ++ long_cells bytes fits 8 refl i
    ++ long_cells bytes fits 12 refl i ++ long_cells bytes fits 16 refl i ++ drop 20 bytes)

-- The bytes from 4 on are bytes 4 to 7 followed by the bytes from 8 on.
four_same : (bytes back : List ℕ) → 8 ≤ length bytes → four_at bytes ≡ back → drop 4 bytes ≡ back ++ drop 8 bytes
four_same bytes back long same = four_present bytes long ∙ ap (λ (s : List ℕ). s ++ drop 8 bytes) same

rest_same : (found : Option Icmpv4Kind) (bytes : List ℕ) → AreBytes bytes → IsValid found (length bytes)
    → drop 4 bytes ≡ icmpv4_rest_with (four_at bytes) (icmpv4_value_of found bytes) ++ drop (icmpv4_len found) bytes
rest_same None bytes fits a = four_same bytes _ a.long (sym (four_range bytes a.long))
rest_same (Some kind.EchoReply) bytes fits a = four_same bytes _ a.long (echo_same bytes fits)
rest_same (Some kind.DestinationUnreachable) bytes fits a =
    four_same bytes _ a.long (mtu_same (slice_index bytes 1 == 4) bytes fits)
rest_same (Some kind.Redirect) bytes fits a = four_same bytes _ a.long (sym (four_range bytes a.long))
rest_same (Some kind.EchoRequest) bytes fits a = four_same bytes _ a.long (echo_same bytes fits)
rest_same (Some kind.TimeExceeded) bytes fits a = four_present bytes a.long
rest_same (Some kind.ParameterProblem) bytes fits a =
    four_same bytes _ a.long (pointer_same (slice_index bytes 1 == 0) bytes)
rest_same (Some kind.TimestampRequest) bytes fits a = timestamp_same bytes fits a.whole
rest_same (Some kind.TimestampReply) bytes fits a = timestamp_same bytes fits a.whole

-- A number that is read for one code and is 0 for all others fits its width, and is 0 unless the code is that one.
used_or_zero : (code wanted n m : ℕ) → n < m → 0 < m
    → ((if code == wanted then n else 0) < m) × ((code ≡ wanted) ⊎ ((if code == wanted then n else 0) ≡ 0))
used_or_zero code wanted n m below some =
    elim (cases_Bool (code == wanted)) [
      | inl holds ↦ (rw (cond-true (code == wanted) n 0 holds) below, inl (eqb-true code wanted holds))
      | inr fails ↦ (rw (cond-false (code == wanted) n 0 fails) some, inr (cond-false (code == wanted) n 0 fails))
    ]

timestamp_fits : (bytes : List ℕ) → AreBytes bytes → FitsTimestamp (timestamp_of bytes)
timestamp_fits bytes fits = record {
  id = omega (arith, fits 4, fits 5);
  seq = omega (arith, fits 6, fits 7);
  originate_timestamp = omega (arith, fits 8, fits 9, fits 10, fits 11);
  receive_timestamp = omega (arith, fits 12, fits 13, fits 14, fits 15);
  transmit_timestamp = omega (arith, fits 16, fits 17, fits 18, fits 19);
}

fields_fit : (found : Option Icmpv4Kind) (bytes : List ℕ) → AreBytes bytes → 8 ≤ length bytes
    → FitsIcmpv4Fields (icmpv4_value_of found bytes)
fields_fit None bytes fits long =
    (fits 0, fits 1, ap length (four_range bytes long), AreBytes-take 4 (drop 4 bytes) (AreBytes-drop 4 bytes fits))
fields_fit (Some kind.EchoReply) bytes fits long = echo_fits bytes fits
fields_fit (Some kind.DestinationUnreachable) bytes fits long =
    used_or_zero (slice_index bytes 1) 4 (word_at bytes 6) (2 ^ 16) (omega (arith, fits 6, fits 7)) (omega arith)
fields_fit (Some kind.Redirect) bytes fits long =
    (ap length (four_range bytes long), AreBytes-take 4 (drop 4 bytes) (AreBytes-drop 4 bytes fits))
fields_fit (Some kind.EchoRequest) bytes fits long = echo_fits bytes fits
fields_fit (Some kind.TimeExceeded) bytes fits long = tt
fields_fit (Some kind.ParameterProblem) bytes fits long =
    used_or_zero (slice_index bytes 1) 0 (slice_index bytes 4) 256 (fits 4) (omega arith)
fields_fit (Some kind.TimestampRequest) bytes fits long = timestamp_fits bytes fits
fields_fit (Some kind.TimestampReply) bytes fits long = timestamp_fits bytes fits

header_fits : (bytes : List ℕ) → AreBytes bytes → 8 ≤ length bytes → FitsIcmpv4 (icmpv4_header_of bytes)
header_fits bytes fits long =
    let found = icmpv4_kind_at bytes in
    let in_row = kind_in-row icmpv4_row icmpv4_kinds (slice_index bytes 0) (slice_index bytes 1) found refl in
    record {
      checksum = omega (arith, fits 2, fits 3);
      fields = fields_fit found bytes fits long;
      kind = sym (ap₂ icmpv4_kind_of (type_same found bytes in_row) (code_same found bytes in_row))
          ∙ sym (kind_same found bytes);
    }

header_prefix : (bytes : List ℕ) → AreBytes bytes → IsValid (icmpv4_kind_at bytes) (length bytes)
    → bytes ≡ icmpv4_bytes_with (four_at bytes) (icmpv4_header_of bytes)
    ++ drop (icmpv4_len (icmpv4_kind_at bytes)) bytes
header_prefix bytes fits a =
    let found = icmpv4_kind_at bytes in
    let in_row = kind_in-row icmpv4_row icmpv4_kinds (slice_index bytes 0) (slice_index bytes 1) found refl in
    message_prefix bytes _ _ _ fits a.long (type_same found bytes in_row) (code_same found bytes in_row)
    (rest_same found bytes fits a)

reads : (bytes : List ℕ) → AreBytes bytes → first_row (icmpv4_rows bytes) ≡ None → IsIcmpv4 bytes (icmpv4_parts bytes)
reads bytes fits none =
    let a = is_valid bytes none in
    let found = icmpv4_kind_at bytes in
    let ends : icmpv4_len (icmpv4_kind (icmpv4_value_of found bytes)) ≡ 20 → drop (icmpv4_len found) bytes ≡ [] =
    λ e. let len : icmpv4_len found ≡ 20 = sym (ap icmpv4_len (kind_same found bytes)) ∙ e in
    rw len (drop_all 20 bytes (omega (arith, a.exact len))) in
    record {
      encoded = icmpv4_bytes_with (four_at bytes) (icmpv4_header_of bytes);
      encodes = record {
        fits = header_fits bytes fits a.long;
        unused = four_at bytes;
        four = refl;
        same = refl;
      };
      parts = header_prefix bytes fits a;
      ends = ends;
      whole = refl;
    }

-- ---- the bytes of a header are read as this header

exceeded_read : (code : TimeExceededCode) → code ≡ icmpv4_exceeded_of (icmpv4_exceeded_u8 code)
exceeded_read exceeded.TtlExceededInTransit = refl
exceeded_read exceeded.FragmentReassemblyTimeExceeded = refl

-- The bytes are a header with this message, followed by the payload.
record Holds (value : Icmpv4Type) (bytes payload : List ℕ) : Type 0 where
  read : value ≡ icmpv4_value_of (icmpv4_kind value) bytes
  after : payload ≡ drop (icmpv4_len (icmpv4_kind value)) bytes
  len : length bytes ≡ icmpv4_len (icmpv4_kind value) + length payload

-- A destination unreachable message is read back if its MTU is used or 0.
mtu_holds : (used : Bool) (code a b c d checksum mtu : ℕ) (payload : List ℕ) → (code == 4) ≡ used → mtu < 2 ^ 16
    → (used ≡ true) ⊎ (mtu ≡ 0)
    → Holds (message.DestinationUnreachable code mtu)
    (message_bytes 3 code checksum (if used then a ∷ b ∷ to_be_bytes w16 mtu else a ∷ b ∷ c ∷ d ∷ []) ++ payload)
    payload
mtu_holds true code a b c d checksum mtu payload same fits is =
    let bytes = message_bytes 3 code checksum (a ∷ b ∷ to_be_bytes w16 mtu) ++ payload in
    let number : mtu ≡ word_at bytes 6 = omega (arith, fits) in
    record {
      read = ap (message.DestinationUnreachable code) (number ∙ sym (cond-true (code == 4) (word_at bytes 6) 0 same));
      after = refl;
      len = omega arith;
    }
mtu_holds false code a b c d checksum mtu payload same fits (inl used) = absurd (true≢false (sym used))
mtu_holds false code a b c d checksum mtu payload same fits (inr zero) =
    let bytes = message_bytes 3 code checksum (a ∷ b ∷ c ∷ d ∷ []) ++ payload in
    record {
      read = ap (message.DestinationUnreachable code) (zero ∙ sym (cond-false (code == 4) (word_at bytes 6) 0 same));
      after = refl;
      len = omega arith;
    }

pointer_holds : (used : Bool) (code a b c d checksum pointer : ℕ) (payload : List ℕ) → (code == 0) ≡ used
    → (used ≡ true) ⊎ (pointer ≡ 0)
    → Holds (message.ParameterProblem code pointer)
    (message_bytes 12 code checksum (if used then pointer ∷ b ∷ c ∷ d ∷ [] else a ∷ b ∷ c ∷ d ∷ []) ++ payload) payload
pointer_holds true code a b c d checksum pointer payload same is =
    record {
      read = ap (message.ParameterProblem code) (sym (cond-true (code == 0) pointer 0 same));
      after = refl;
      len = omega arith;
    }
pointer_holds false code a b c d checksum pointer payload same (inl used) = absurd (true≢false (sym used))
pointer_holds false code a b c d checksum pointer payload same (inr zero) =
    record {
      read = ap (message.ParameterProblem code) (zero ∙ sym (cond-false (code == 0) a 0 same));
      after = refl;
      len = omega arith;
    }

-- A number that is used by this code or is 0, with the test of the code as a boolean.
used_by : (code wanted n : ℕ) → (code ≡ wanted) ⊎ (n ≡ 0) → ((code == wanted) ≡ true) ⊎ (n ≡ 0)
used_by code wanted n (inl same) = inl (eq-eqb code wanted same)
used_by code wanted n (inr zero) = inr zero

timestamp_read : (type checksum : ℕ) (times : TimestampMessage) (payload : List ℕ) → FitsTimestamp times
    → times ≡ timestamp_of (message_bytes type 0 checksum (timestamp_bytes times) ++ payload)
timestamp_read type checksum times payload fits =
    let bytes = message_bytes type 0 checksum (timestamp_bytes times) ++ payload in
    let id : times.id ≡ word_at bytes 4 = omega (arith, fits.id) in
    let seq : times.seq ≡ word_at bytes 6 = omega (arith, fits.seq) in
    let sent : times.originate_timestamp ≡ long_at bytes 8 = omega (arith, fits.originate_timestamp) in
    let got : times.receive_timestamp ≡ long_at bytes 12 = omega (arith, fits.receive_timestamp) in
    let answered : times.transmit_timestamp ≡ long_at bytes 16 = omega (arith, fits.transmit_timestamp) in
    λ i. record {
      id = id i;
      seq = seq i;
      originate_timestamp = sent i;
      receive_timestamp = got i;
      transmit_timestamp = answered i;
    }

value_read : (a b c d : ℕ) (value : Icmpv4Type) (checksum : ℕ) (payload : List ℕ) → FitsIcmpv4Fields value
    → Holds value
    (icmpv4_bytes_with (a ∷ b ∷ c ∷ d ∷ []) (record { icmp_type = value; checksum = checksum }) ++ payload) payload
value_read a b c d (message.Unknown type code (p ∷ q ∷ r ∷ s ∷ [])) checksum payload fits =
    record { read = refl; after = refl; len = omega arith }
value_read a b c d (message.Unknown type code _) checksum payload fits = absurd (omega (arith, fits.2))
value_read a b c d (message.EchoReply echo) checksum payload fits =
    record { read = ap message.EchoReply (echo_read 0 checksum echo payload fits); after = refl; len = omega arith }
value_read a b c d (message.DestinationUnreachable code mtu) checksum payload fits =
    mtu_holds (code == 4) code a b c d checksum mtu payload refl fits.0 (used_by code 4 mtu fits.1)
value_read a b c d (message.Redirect code (p ∷ q ∷ r ∷ s ∷ [])) checksum payload fits =
    record { read = refl; after = refl; len = omega arith }
value_read a b c d (message.Redirect code _) checksum payload fits = absurd (omega (arith, fits.0))
value_read a b c d (message.EchoRequest echo) checksum payload fits =
    record { read = ap message.EchoRequest (echo_read 8 checksum echo payload fits); after = refl; len = omega arith }
value_read a b c d (message.TimeExceeded code) checksum payload fits =
    record { read = ap message.TimeExceeded (exceeded_read code); after = refl; len = omega arith }
value_read a b c d (message.ParameterProblem code pointer) checksum payload fits =
    pointer_holds (code == 0) code a b c d checksum pointer payload refl (used_by code 0 pointer fits.1)
value_read a b c d (message.TimestampRequest times) checksum payload fits = record {
  read = ap message.TimestampRequest (timestamp_read 13 checksum times payload fits);
  after = refl;
  len = omega arith;
}
value_read a b c d (message.TimestampReply times) checksum payload fits = record {
  read = ap message.TimestampReply (timestamp_read 14 checksum times payload fits);
  after = refl;
  len = omega arith;
}

-- The bytes are read as this header and payload.
record IsRead (bytes : List ℕ) (header : Icmpv4Header) (payload : List ℕ) : Type 0 where
  same : header ≡ icmpv4_header_of bytes
  after : payload ≡ drop (icmpv4_len (icmpv4_kind_at bytes)) bytes
  len : length bytes ≡ icmpv4_len (icmpv4_kind_at bytes) + length payload
  ends : icmpv4_len (icmpv4_kind_at bytes) ≡ 20 → payload ≡ []

encoded_read : (unused : List ℕ) (header : Icmpv4Header) (payload : List ℕ) → length unused ≡ 4 → FitsIcmpv4 header
    → EndsIcmpv4 header.icmp_type payload → IsRead (icmpv4_bytes_with unused header ++ payload) header payload
encoded_read (a ∷ b ∷ c ∷ d ∷ []) header payload four fits ends =
    let bytes = icmpv4_bytes_with (a ∷ b ∷ c ∷ d ∷ []) header ++ payload in
    let holds = value_read a b c d header.icmp_type header.checksum payload fits.fields in
    let value : header.icmp_type ≡ icmpv4_value_of (icmpv4_kind_at bytes) bytes =
    holds.read ∙ ap (λ (found : Option Icmpv4Kind). icmpv4_value_of found bytes) (sym fits.kind) in
    let checksum : header.checksum ≡ word_at bytes 2 = omega (arith, fits.checksum) in
    let n : icmpv4_len (icmpv4_kind header.icmp_type) ≡ icmpv4_len (icmpv4_kind_at bytes) =
    ap icmpv4_len (sym fits.kind) in
    record {
      same = λ i. record { icmp_type = value i; checksum = checksum i };
      after = holds.after ∙ ap (λ (k : ℕ). drop k bytes) n;
      len = holds.len ∙ ap (λ (k : ℕ). k + length payload) n;
      ends = λ e. ends (n ∙ e);
    }
encoded_read _ header payload four fits ends = absurd (omega (arith, four))

len_cases : (found : Option Icmpv4Kind) → 8 ≤ icmpv4_len found
len_cases None = omega arith
len_cases (Some kind.TimestampRequest) = omega arith
len_cases (Some kind.TimestampReply) = omega arith
len_cases (Some _) = omega arith

is_read : (bytes : List ℕ) (read : Parts Icmpv4Header) → IsIcmpv4 bytes read
    → (first_row (icmpv4_rows bytes) ≡ None) × (read ≡ icmpv4_parts bytes)
is_read bytes read is =
    let present =
    encoded_read is.encodes.unused read.header read.payload is.encodes.four is.encodes.fits is.ends in
    let same : bytes ≡ icmpv4_bytes_with is.encodes.unused read.header ++ read.payload =
    is.parts ∙ ap (λ (s : List ℕ). s ++ read.payload) is.encodes.same in
    let P : List ℕ → Type 0 = λ s. IsRead s read.header read.payload in
    let complete : IsRead bytes read.header read.payload = subst P (sym same) present in
    let least = len_cases (icmpv4_kind_at bytes) in
    let exact : icmpv4_len (icmpv4_kind_at bytes) ≡ 20 → length bytes ≡ 20 =
    λ e. omega (arith, e, complete.len, ap length (complete.ends e)) in (
      none_refuses bytes (omega (arith, complete.len, least)) exact,
      λ i. record { header = complete.same i; payload = complete.after i; left = is.whole i },
    )

pub icmpv4_is_read : IsReadBy IsIcmpv4 icmpv4_rows icmpv4_parts
icmpv4_is_read = record { reads = reads; is_read = is_read }
