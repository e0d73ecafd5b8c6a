-- Contracts of the call that reads the transport layer of a payload of IP laxly.
use Rattle.std.proofs.Common.{◌≡◌, ◌≢◌, ◌⊎◌, ◌&&◌, ◌||◌, not, nat_lt, if◌then◌else◌, ℕ, ◌+◌, Bool, true, false, List, length, Option, Some, None, refl, sym, ap, ◌∙◌, inl, inr, arith}
use Rattle.std.specs.Option.{option_map}
use Rattle.std.proofs.lemmas.Bool.{cases_lt}
use Rattle.ep_base.specs.IpNumbers.{udp_number}
use Rattle.ep_base.specs.LaxCut.{LaxCut, IsLaxCut, cuts, is_missing}
use Rattle.ep_base.specs.Readings.{headers, slices}
use Rattle.ep_base.specs.declared.len_source.LenSource.TheVariants as source
use Rattle.ep_base.proofs.LaxCutLemmas.{cuts_not, cuts_present}
use Rattle.ep_transport.specs.declared.transport_header.TransportHeader.TheVariants as header
use Rattle.ep_transport.specs.declared.transport_slice.TransportSlice.{TransportSlice}
use Rattle.ep_transport.specs.declared.transport_slice.TransportSlice.TheVariants as slice
use Rattle.ep_transport.specs.declared.udp_slice.UdpSlice.{UdpSlice}
use Rattle.ep_transport.specs.TransportParts.{TransportLayer, transport_layer, IsTransportPart, transport_layer_of}
use Rattle.ep_transport.specs.Udp.{IsLaxUdp}
use Rattle.ep_transport.specs.UdpSlices.{udp_slice_header, udp_slice_payload}
use Rattle.ep_lax.specs.Lax.{IsLimitedLaxly}
use Rattle.ep_lax.specs.LaxLayers.{layer_cut}
use Rattle.ep_lax.specs.LaxPackets.{inside_of}

-- The length field of UDP does not matter: the payload is a fragment or has another IP number.
abbrev pub NotUdp : ℕ → Bool → Type 0
NotUdp number fragmented = (fragmented ≡ true) ⊎ (number ≢ udp_number)

-- The payload is read laxly like this, as a call reports it.
abbrev pub IsReadLaxly : ℕ → Bool → List ℕ → Bool → Option TransportSlice → Type 0
IsReadLaxly number fragmented bytes outer part =
    (read : Option TransportLayer) × IsTransportPart headers number fragmented bytes read
    × IsLimitedLaxly outer read (inside_of outer part None)

-- A payload not of UDP is read as slices and as headers in the same way.
pub others_read : (number : ℕ) (fragmented : Bool) (bytes : List ℕ) (outer : Bool) → NotUdp number fragmented
    → (part : Option TransportSlice)
    → IsTransportPart slices number fragmented bytes (option_map transport_layer_of part)
    → IsReadLaxly number fragmented bytes outer part
others_read number fragmented bytes outer why None is = (None, is, refl)
others_read number fragmented bytes outer (inl fragment) (Some (slice.Udp datagram)) is =
    absurd (let no : false ≡ true = sym is.0 ∙ fragment in cc)
others_read number fragmented bytes outer (inr other) (Some (slice.Udp datagram)) is = absurd (other is.1.0)
others_read number fragmented bytes outer why (Some (slice.Tcp segment)) is =
    (Some (transport_layer_of (slice.Tcp segment)), is, refl)
others_read number fragmented bytes outer why (Some (slice.Icmpv4 message)) is =
    (Some (transport_layer_of (slice.Icmpv4 message)), is, refl)
others_read number fragmented bytes outer why (Some (slice.Icmpv6 message)) is =
    (Some (transport_layer_of (slice.Icmpv6 message)), is, refl)

-- ---- UDP

-- Whether a payload is incomplete is the same for its limited length and for the available bytes.
missing_shown : (least stated : ℕ) (outer : Bool) (present shown : ℕ)
    → shown ≡ (if cuts least stated present then stated else present)
    → is_missing least stated outer shown ≡ is_missing least stated outer present
missing_shown least stated outer present shown is =
    elim (cases_lt stated least) [
      | inl short ↦
          let no = cuts_not least stated present (inl short) in
          let complete : shown ≡ present = is ∙ (λ i. if no i then stated else present) in
          ap (is_missing least stated outer) complete
      | inr enough ↦ elim (cases_lt present stated) [
        | inl more ↦
            let no = cuts_not least stated present (inr more) in
            let complete : shown ≡ present = is ∙ (λ i. if no i then stated else present) in
            ap (is_missing least stated outer) complete
        | inr within ↦
            let yes = cuts_present least stated present enough within in
            let cut : shown ≡ stated = is ∙ (λ i. if yes i then stated else present) in
            let itself = cuts_present least stated stated enough (omega arith) in
            ap (is_missing least stated outer) cut
            ∙ (λ i. not (itself i) && (outer || nat_lt stated stated))
            ∙ (λ i. not (sym yes i) && (outer || nat_lt present stated))
      ]
    ]

-- A UDP datagram whose length field limits its payload, if the field applies, in a payload of IP that is incomplete or
-- not.
pub udp_read_laxly : (number : ℕ) (fragmented : Bool) (bytes : List ℕ) (outer : Bool) (datagram : UdpSlice)
    (cut : LaxCut) → fragmented ≡ false → number ≡ udp_number
    → IsLaxUdp false bytes (udp_slice_header datagram, cut) → udp_slice_payload datagram ≡ cut.payload
    → IsReadLaxly number fragmented bytes outer (Some (slice.Udp datagram))
udp_read_laxly number fragmented bytes outer datagram cut complete is_udp is payload_is =
    let udp = udp_slice_header datagram in
    let present = 8 + length is.rest in
    let missing = is_missing 8 udp.length outer present in
    let in_outer : LaxCut = record cut { incomplete = missing } in
    let cuts_so : IsLaxCut 8 udp.length source.UdpHeaderLen outer 8 is.rest in_outer =
    record { parts = is.cut.parts; ends = is.cut.ends; source = is.cut.source; incomplete = refl } in
    let same : is_missing 8 udp.length outer (8 + length (udp_slice_payload datagram)) ≡ missing =
    ap (λ (p : List ℕ). is_missing 8 udp.length outer (8 + length p)) payload_is
    ∙ missing_shown 8 udp.length outer present (8 + length cut.payload) is.cut.ends in (
      Some (transport_layer (header.Udp udp) is.rest),
      (complete, (is_udp, is.header)),
      (in_outer, cuts_so, λ i. layer_cut (header.Udp udp) (payload_is i) (same i)),
    )
