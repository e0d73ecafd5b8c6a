-- A payload of IP with more bytes after it has the transport header that it has without them, except for an ICMPv4
-- timestamp that then is too long.
use Rattle.std.proofs.Common.{◌≡◌, ◌⊎◌, not, nat_lt, if◌then◌else◌, ℕ, ◌≤◌, ◌<◌, Bool, false, List, [], ◌∷◌, ◌++◌, length, Option, Some, None, refl, sym, ap, subst, ◌∙◌, inl, inr, append_assoc, length-append, arith}
use Rattle.std.proofs.lemmas.Bool.{cases_eq, cases_lt, ne_eqb}
use Rattle.std.proofs.lemmas.Grind.{common_steps}
use Rattle.std.proofs.lemmas.List.{append-nil}
use Rattle.ep_base.specs.Bytes.{AreBytes}
use Rattle.ep_base.specs.IpNumbers.{icmpv4_number}
use Rattle.ep_base.specs.IpPayload.{IpPayload}
use Rattle.ep_base.specs.Missing.{HasExactLength}
use Rattle.ep_base.specs.Readings.{after_header, headers, len_error}
use Rattle.ep_base.specs.Tables.{first_row, parts_of}
use Rattle.ep_base.specs.declared.err.layer.Layer.{Layer}
use Rattle.ep_base.specs.declared.err.layer.Layer.TheVariants as layer
use Rattle.ep_base.specs.declared.err.len_error.LenError.{LenError}
use Rattle.ep_base.specs.declared.err.tcp.HeaderSliceError.TheVariants as transport_error
use Rattle.ep_base.specs.declared.len_source.LenSource.{LenSource}
use Rattle.ep_base.specs.declared.len_source.LenSource.TheVariants as source
use Rattle.ep_transport.specs.declared.icmpv4_header.Icmpv4Header.{Icmpv4Header}
use Rattle.ep_transport.specs.declared.icmpv4_type.Icmpv4Type.{Icmpv4Type}
use Rattle.ep_transport.specs.declared.icmpv4_type.Icmpv4Type.TheVariants as message
use Rattle.ep_transport.specs.declared.transport_header.TransportHeader.{TransportHeader}
use Rattle.ep_transport.specs.declared.transport_header.TransportHeader.TheVariants as header
use Rattle.ep_transport.specs.Icmpv4.{IsIcmpv4, icmpv4_kind, icmpv4_kind_at, icmpv4_len, icmpv4_rows, icmpv4_timestamp_rows}
use Rattle.ep_transport.specs.TransportParts.{transport_layer, IsTransportLayer}
use Rattle.ep_transport.specs.Udp.{udp_bytes}
use Rattle.ep_transport.proofs.TransportLemmas.{icmpv4_refused}
use Rattle.ep_base.proofs.BytesLemmas.{AreBytes-prefix}
use Rattle.ep_base.proofs.DecidedLemmas.{refused_as}
use Rattle.ep_transport.specs.TransportHeaders.{EncodesTransportHeader, transport_header_len}
use Rattle.ep_packet.specs.FrameRefusals.{RefusesTransportIn, transport_refusal}
use Rattle.ep_packet.proofs.LayerLawLemmas.{layer_laws}
use Rattle.ep_packet.specs.declared.err.slice_error.SliceError.{SliceError}
use Rattle.ep_packet.specs.declared.err.slice_error.SliceError.TheVariants.{Len}
use Rattle.ep_packet.proofs.OffsetLemmas.{transport_encoded}
use Rattle.ep_lax.specs.Lax.{IsHeaderLimitedLaxly, IsLaxTransport}
use Rattle.ep_lax.specs.LaxHeaders.{LayerHeader, of_transport, transport_headers, ShowsPrefix}
use Rattle.ep_lax.specs.LaxLayers.{LaxTransport, no_transport, error_with_layer}
use Rattle.ep_lax.proofs.FurtherHeaderLemmas.{EndAfter, ShowsComplete, complete_fewer, complete_first, complete_same, header_in_prefix}
use Rattle.ep_lax.proofs.LaxLawLemmas.{header_cut_is_one, transport_is_one}

-- ---- headers of a prefix

-- Headers before both lists.
pub shows_after : (before shown entire : List LayerHeader) (end stop : Option (SliceError × Layer))
    → ShowsPrefix shown end entire stop → ShowsPrefix (before ++ shown) end (before ++ entire) stop
shows_after before shown entire end stop (inl first) = inl (record {
  more = first.more;
  parts = ap (λ (l : List LayerHeader). before ++ l) first.parts ∙ sym (append_assoc before shown first.more);
  all = first.all;
})
shows_after before shown entire end stop (inr last) = inr (record {
  header = last.header;
  timestamp = last.timestamp;
  parts = ap (λ (l : List LayerHeader). before ++ l) last.parts
      ∙ sym (append_assoc before entire (of_transport (header.Icmpv4 last.header) ∷ []));
  refusal = last.refusal;
  stops = last.stops;
  exact = last.exact;
  long = last.long;
})

-- If slicing stopped, the headers of the prefix are the first of the headers, whatever comes after them.
pub shows_before : (shown more entire : List LayerHeader) (end : SliceError × Layer)
    (stop : Option (SliceError × Layer)) → entire ≡ shown ++ more → ShowsPrefix shown (Some end) entire stop
shows_before shown more entire end stop parts =
    inl (record { more = more; parts = parts; all = λ none. cc none })

-- Equal headers.
pub shows_same : (shown entire : List LayerHeader) (end stop : Option (SliceError × Layer)) → entire ≡ shown
    → ShowsPrefix shown end entire stop
shows_same shown entire end stop same =
    inl (record { more = []; parts = same ∙ sym (append-nil shown); all = λ none. refl })

-- ---- a header with more bytes after it

-- The bytes after a header can be extended.
pub parts_more : (bytes prefix following more : List ℕ) → bytes ≡ prefix ++ following → bytes ++ more ≡ prefix ++ (following ++ more)
parts_more bytes prefix following more parts =
    ap (λ (l : List ℕ). l ++ more) parts ∙ append_assoc prefix following more

-- Bytes that begin with the header of a timestamp and are longer than 20 bytes.
record IsLongTimestamp (number : ℕ) (bytes : List ℕ) (read : TransportHeader) : Type 0 where
  icmp : Icmpv4Header
  number_is : number ≡ icmpv4_number
  same : read ≡ header.Icmpv4 icmp
  timestamp : icmpv4_len (icmpv4_kind icmp.icmp_type) ≡ 20
  refusal : LenError
  refused : first_row (icmpv4_rows bytes) ≡ Some refusal
  exact : HasExactLength refusal.layer
  long : 20 < refusal.len

-- A timestamp with more than 20 bytes is rejected by its row.
timestamp_refused : (value : Icmpv4Type) (n : ℕ) → icmpv4_len (icmpv4_kind value) ≡ 20 → 20 < n
    → (error : LenError) × (first_row (icmpv4_timestamp_rows (icmpv4_kind value) n) ≡ Some error)
    × HasExactLength error.layer × (error.len ≡ n)
timestamp_refused (message.TimestampRequest times) n is long = (
  len_error 20 n source.Slice layer.Icmpv4Timestamp,
  (λ i. if not (ne_eqb n 20 (λ same. omega arith) i) then Some (len_error 20 n source.Slice layer.Icmpv4Timestamp)
      else None),
  inl refl,
  refl,
)
timestamp_refused (message.TimestampReply times) n is long = (
  len_error 20 n source.Slice layer.Icmpv4TimestampReply,
  (λ i. if not (ne_eqb n 20 (λ same. omega arith) i)
      then Some (len_error 20 n source.Slice layer.Icmpv4TimestampReply) else None),
  inr refl,
  refl,
)
timestamp_refused _ n is long = absurd (omega (arith, is))

-- A timestamp with more than 20 bytes is rejected by the rows of ICMP.
timestamp_row : (bytes : List ℕ) (value : Icmpv4Type) (error : LenError) → icmpv4_kind_at bytes ≡ icmpv4_kind value
    → 20 < length bytes → first_row (icmpv4_timestamp_rows (icmpv4_kind value) (length bytes)) ≡ Some error
    → first_row (icmpv4_rows bytes) ≡ Some error
timestamp_row bytes value error is long row =
    let enough : nat_lt (length bytes) 8 ≡ false = grind (arith, common_steps) in
    (λ i. if enough i then Some (len_error 8 (length bytes) source.Slice layer.Icmpv4)
    else first_row (icmpv4_timestamp_rows (is i) (length bytes))) ∙ row

icmpv4_longer : (number : ℕ) (bytes more : List ℕ) (icmp : Icmpv4Header) (payload : List ℕ) → number ≡ icmpv4_number
    → IsIcmpv4 bytes (parts_of icmp payload []) → 0 < length more → icmpv4_len (icmpv4_kind icmp.icmp_type) ≡ 20
    → IsLongTimestamp number (bytes ++ more) (header.Icmpv4 icmp)
icmpv4_longer number bytes more icmp payload number_is is some twenty =
    let longer = bytes ++ more in
    let parts = parts_more bytes is.encoded payload more is.parts in
    let found : icmpv4_kind_at longer ≡ icmpv4_kind icmp.icmp_type =
    ap icmpv4_kind_at (parts ∙ ap (λ (l : List ℕ). l ++ (payload ++ more)) is.encodes.same) ∙ is.encodes.fits.kind in
    let len : length is.encoded ≡ 20 =
    transport_encoded (Some (transport_layer (header.Icmpv4 icmp) payload)) is.encoded is.encodes ∙ twenty in
    let long : 20 < length longer =
    omega (arith, ap length parts, length-append is.encoded (payload ++ more), length-append payload more, len, some) in
    let row = timestamp_refused icmp.icmp_type (length longer) twenty long in
    record {
      icmp = icmp;
      number_is = number_is;
      same = refl;
      timestamp = twenty;
      refusal = row.0;
      refused = timestamp_row longer icmp.icmp_type row.0 found long row.1;
      exact = row.2;
      long = omega (arith, row.3, long);
    }

-- An ICMP message other than a timestamp can be extended, and a timestamp without bytes after it stays the same.
icmpv4_more : (number : ℕ) (bytes more : List ℕ) (icmp : Icmpv4Header) (payload : List ℕ) → number ≡ icmpv4_number
    → IsIcmpv4 bytes (parts_of icmp payload [])
    → IsTransportLayer headers number (bytes ++ more) (header.Icmpv4 icmp) (payload ++ more)
    ⊎ IsLongTimestamp number (bytes ++ more) (header.Icmpv4 icmp)
icmpv4_more number bytes more icmp payload number_is is =
    let goes_on : (icmpv4_len (icmpv4_kind icmp.icmp_type) ≡ 20 → payload ++ more ≡ [])
    → IsIcmpv4 (bytes ++ more) (parts_of icmp (payload ++ more) []) =
    λ ends. record {
      encoded = is.encoded;
      encodes = is.encodes;
      parts = parts_more bytes is.encoded payload more is.parts;
      ends = ends;
      whole = refl;
    } in
    elim (cases_eq (icmpv4_len (icmpv4_kind icmp.icmp_type)) 20) [
      | inl twenty ↦ elim (cases_lt 0 (length more)) [
        | inl some ↦ inr (icmpv4_longer number bytes more icmp payload number_is is some twenty)
        | inr none ↦
            let nothing : more ≡ [] = empty more (omega arith) in
            inl (number_is, goes_on (λ same. (λ i. is.ends twenty i ++ nothing i)))
      ]
      | inr other ↦ inl (number_is, goes_on (λ twenty. absurd (other twenty)))
    ]
  where
    empty : (list : List ℕ) → length list ≡ 0 → list ≡ []
    empty [] none = refl
    empty (byte ∷ others) none = absurd (omega (arith, none))

-- A transport layer, before the length field of UDP applies, with more bytes after it.
layer_more : (number : ℕ) (bytes more : List ℕ) (h : TransportHeader) (payload : List ℕ)
    → IsTransportLayer headers number bytes h payload
    → IsTransportLayer headers number (bytes ++ more) h (payload ++ more) ⊎ IsLongTimestamp number (bytes ++ more) h
layer_more number bytes more (header.Udp udp) payload is =
    inl (is.0, record { fits = is.1.fits; parts = parts_more bytes (udp_bytes udp) payload more is.1.parts })
layer_more number bytes more (header.Tcp tcp) payload is =
    inl (
      is.0,
      record {
        encoded = is.1.encoded;
        encodes = is.1.encodes;
        parts = parts_more bytes is.1.encoded payload more is.1.parts;
        whole = refl;
      },
    )
layer_more number bytes more (header.Icmpv4 icmp) payload is =
    icmpv4_more number bytes more icmp payload is.0 is.1
layer_more number bytes more (header.Icmpv6 icmp) payload is =
    inl (
      is.0,
      record {
        encoded = is.1.encoded;
        encodes = is.1.encodes;
        parts = parts_more bytes is.1.encoded payload more is.1.parts;
        whole = refl;
      },
    )

-- ---- a header that ends in a prefix of its bytes

-- If bytes are followed by none, they are none.
no_prefix : (prefix following : List ℕ) → prefix ++ following ≡ [] → prefix ≡ []
no_prefix [] following none = refl
no_prefix (byte ∷ others) following none = absurd (omega (arith, ap length none))

-- The wire format of a transport header has the length that the header states.
encoded_len : (h : TransportHeader) (encoded : List ℕ) → EncodesTransportHeader h encoded
    → length encoded ≡ transport_header_len h
encoded_len h encoded encodes = transport_encoded (Some (transport_layer h [])) encoded encodes

-- A transport layer whose header ends in a prefix of its bytes is the transport layer of the prefix, too.
layer_less : (number : ℕ) (bytes more : List ℕ) (h : TransportHeader) (payload : List ℕ)
    → IsTransportLayer headers number (bytes ++ more) h payload → transport_header_len h ≤ length bytes
    → (after : List ℕ) × IsTransportLayer headers number bytes h after
layer_less number bytes more (header.Udp udp) payload is within =
    let len = encoded_len (header.Udp udp) (udp_bytes udp) (is.1.fits, refl) in
    let after = header_in_prefix (udp_bytes udp) payload bytes more is.1.parts (omega (arith, within, len)) in
    (after.0, (is.0, record { fits = is.1.fits; parts = after.1 }))
layer_less number bytes more (header.Tcp tcp) payload is within =
    let len = encoded_len (header.Tcp tcp) is.1.encoded is.1.encodes in
    let after = header_in_prefix is.1.encoded payload bytes more is.1.parts (omega (arith, within, len)) in
    (after.0, (is.0, record { encoded = is.1.encoded; encodes = is.1.encodes; parts = after.1; whole = refl }))
layer_less number bytes more (header.Icmpv4 icmp) payload is within =
    let len = encoded_len (header.Icmpv4 icmp) is.1.encoded is.1.encodes in
    let after = header_in_prefix is.1.encoded payload bytes more is.1.parts (omega (arith, within, len)) in (
      after.0,
      (
        is.0,
        record {
          encoded = is.1.encoded;
          encodes = is.1.encodes;
          parts = after.1;
          ends = λ twenty. no_prefix after.0 more (sym after.2 ∙ is.1.ends twenty);
          whole = refl;
        },
      ),
    )
layer_less number bytes more (header.Icmpv6 icmp) payload is within =
    let len = encoded_len (header.Icmpv6 icmp) is.1.encoded is.1.encodes in
    let after = header_in_prefix is.1.encoded payload bytes more is.1.parts (omega (arith, within, len)) in
    (after.0, (is.0, record { encoded = is.1.encoded; encodes = is.1.encodes; parts = after.1; whole = refl }))

-- ---- transport layer

-- The header of a layer is read, whatever its length field limits.
pub cut_shows : (outer : Bool) (h : TransportHeader) (payload : List ℕ) (lax : LaxTransport)
    → IsHeaderLimitedLaxly outer h payload lax → transport_headers lax.layer ≡ of_transport h ∷ []
cut_shows outer (header.Udp udp) payload lax is = ap (λ (l : LaxTransport). transport_headers l.layer) is.2
cut_shows outer (header.Tcp tcp) payload lax is = ap (λ (l : LaxTransport). transport_headers l.layer) is
cut_shows outer (header.Icmpv4 icmp) payload lax is = ap (λ (l : LaxTransport). transport_headers l.layer) is
cut_shows outer (header.Icmpv6 icmp) payload lax is = ap (λ (l : LaxTransport). transport_headers l.layer) is

-- The transport header of a payload of `len` bytes, and of a payload with more bytes after it.
pub record MoreTransport (len offset : ℕ) (outer : Bool) (payload : IpPayload) (lax : LaxTransport) : Type 0 where
  pub read : LaxTransport
  pub is : IsLaxTransport offset outer payload read
  pub shows : ShowsPrefix (transport_headers lax.layer) lax.stop (transport_headers read.layer) read.stop
  pub complete : ShowsComplete len (transport_headers lax.layer) (transport_headers read.layer)

-- A payload with more bytes after it.
abbrev pub payload_with : IpPayload → LenSource → List ℕ → IpPayload
payload_with payload end more =
    record { number = payload.number; fragmented = payload.fragmented; source = end; bytes = payload.bytes ++ more }

-- The transport header of a payload, if its prefix has none because slicing stops, does not end in the prefix.
stops_before : (offset place : ℕ) (inner : Bool) (payload : IpPayload) (end : LenSource) (more : List ℕ)
    (error : SliceError) → AreBytes payload.bytes → RefusesTransportIn headers offset payload error
    → (read : LaxTransport) → IsLaxTransport place inner (payload_with payload end more) read
    → EndAfter (length payload.bytes) [] (transport_headers read.layer)
stops_before offset place inner payload end more error fits refused read (inl again) =
    subst (λ (l : LaxTransport). EndAfter (length payload.bytes) [] (transport_headers l.layer)) (sym again.2) tt
stops_before offset place inner payload end more error fits refused read (inr (None, part, same)) =
    subst (λ (l : LaxTransport). EndAfter (length payload.bytes) [] (transport_headers l.layer)) (sym same) tt
stops_before offset place inner payload end more error fits refused read (inr (Some layer, part, cut)) =
    let law = refused_as (transport_refusal offset payload.source)
    (layer_laws.transport headers payload.number payload.fragmented payload.bytes fits) in
    subst (EndAfter (length payload.bytes) []) (sym (cut_shows inner layer.header layer.payload read cut))
    (elim (cases_lt (length payload.bytes) (transport_header_len layer.header)) [
      | inl short ↦ omega (arith, short)
      | inr within ↦
          let here = layer_less payload.number payload.bytes more layer.header layer.payload part.1 within in
          absurd (law.not_both (Some (transport_layer layer.header here.0)) error (part.0, here.1) refused)
    ])

pub transport_more : (offset place : ℕ) (outer inner : Bool) (payload : IpPayload) (end : LenSource) (more : List ℕ)
    → AreBytes (payload.bytes ++ more) → (lax : LaxTransport) → IsLaxTransport offset outer payload lax
    → MoreTransport (length payload.bytes) place inner (payload_with payload end more) lax
transport_more offset place outer inner payload end more fits lax (inl refused) =
    let one = transport_is_one place inner (payload_with payload end more) fits in
    record {
      read = one.value;
      is = one.is;
      shows = subst (λ (l : LaxTransport). ShowsPrefix (transport_headers l.layer) l.stop
          (transport_headers one.value.layer) one.value.stop) (sym refused.2)
          (shows_before [] (transport_headers one.value.layer) (transport_headers one.value.layer) (error_with_layer refused.0)
          one.value.stop refl);
      complete = subst (λ (l : LaxTransport). ShowsComplete (length payload.bytes) (transport_headers l.layer)
          (transport_headers one.value.layer)) (sym refused.2)
          (complete_first (length payload.bytes) (transport_headers one.value.layer)
          (stops_before offset place inner payload end more refused.0 (AreBytes-prefix payload.bytes more fits) refused.1
          one.value one.is));
    }
transport_more offset place outer inner payload end more fits lax (inr (None, part, same)) = record {
  read = no_transport inner None;
  is = inr (None, part, refl);
  shows = shows_same (transport_headers lax.layer) [] lax.stop None
      (λ i. transport_headers (sym same i).layer);
  complete = complete_same (length payload.bytes) (transport_headers lax.layer) []
      (λ i. transport_headers (sym same i).layer);
}
transport_more offset place outer inner payload end more fits lax (inr (Some layer, part, cut)) =
    let shown = cut_shows outer layer.header layer.payload lax cut in
    elim (layer_more payload.number payload.bytes more layer.header layer.payload part.1) [
      | inl holds ↦
          let one = header_cut_is_one inner layer.header (layer.payload ++ more) in
          let same = cut_shows inner layer.header (layer.payload ++ more) one.value one.is ∙ sym shown in
          record {
            read = one.value;
            is = inr (Some (transport_layer layer.header (layer.payload ++ more)), (part.0, holds), one.is);
            shows = shows_same (transport_headers lax.layer) (transport_headers one.value.layer) lax.stop
                one.value.stop same;
            complete = complete_same (length payload.bytes) (transport_headers lax.layer)
                (transport_headers one.value.layer) same;
          }
      | inr long ↦
          let error = after_header place end long.refusal in
          let refused = icmpv4_refused headers payload.number payload.fragmented (payload.bytes ++ more) long.refusal
          part.0 long.number_is long.refused in
          record {
            read = no_transport inner (Some (error_with_layer (Len error)));
            is = inl (Len error, (transport_error.Len long.refusal, refused, refl), refl);
            shows = inr (record {
              header = long.icmp;
              timestamp = long.timestamp;
              parts = shown ∙ ap (λ (h : TransportHeader). of_transport h ∷ []) long.same;
              refusal = error;
              stops = refl;
              exact = long.exact;
              long = long.long;
            });
            complete = complete_fewer (length payload.bytes) (transport_headers lax.layer) [] (of_transport layer.header) []
                shown;
          }
    ]
