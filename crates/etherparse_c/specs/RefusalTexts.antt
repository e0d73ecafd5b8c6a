-- Texts of errors.
use Rattle.std.specs.Prelude.{◌≡◌, ◌==◌, if◌then◌else◌, ℕ, List, [], ◌∷◌, ◌++◌, ◌⊎◌, Option, Some, None}
use Rattle.std.specs.Option.{option_map}
use Rattle.etherparse.specs.Types.Layer.{Layer}
use Rattle.etherparse.specs.Types.Layer.TheVariants as layer
use Rattle.etherparse.specs.Types.LenSource.{LenSource}
use Rattle.etherparse.specs.Types.LenSource.TheVariants as source
use Rattle.etherparse.specs.Types.IpHeaderError.TheVariants as ip_error
use Rattle.etherparse.specs.Types.IpAuthHeaderError.TheVariants as auth_error
use Rattle.etherparse.specs.Types.Ipv4HeaderError.TheVariants as ipv4_error
use Rattle.etherparse.specs.Types.Ipv6HeaderError.TheVariants as ipv6_error
use Rattle.etherparse.specs.Types.Ipv6ExtsHeaderError.TheVariants as exts_error
use Rattle.etherparse.specs.Types.LinuxSllHeaderError.TheVariants as linux_sll_error
use Rattle.etherparse.specs.Types.MacsecHeaderError.TheVariants as macsec_error
use Rattle.etherparse.specs.Types.TcpHeaderError.TheVariants as tcp_error
use Rattle.etherparse.specs.Types.SliceError.{SliceError}
use Rattle.etherparse.specs.Types.SliceError.TheVariants.{Len, LinuxSll, Macsec, Ip, Ipv4, Ipv6, Ipv4Exts, Ipv6Exts, Tcp}
use Rattle.refusal_texts.specs.ReasonTexts.{reason_text, reason_text_with}
use Rattle.etherparse_c.specs.declared.packet.Refusal.{Refusal}
use Rattle.etherparse_c.specs.Placing.{IsPlaced}
use Rattle.etherparse_c.specs.RefusalNumbers.{refusal_part}

-- the layer of a number
abbrev pub layer_of_number : ℕ → Option Layer
layer_of_number number =
    if number == 1 then Some layer.Ethernet2Header
    else if number == 2 then Some layer.LinuxSllHeader
    else if number == 3 then Some layer.VlanHeader
    else if number == 4 then Some layer.MacsecHeader
    else if number == 5 then Some layer.MacsecPacket
    else if number == 6 then Some layer.Arp
    else if number == 7 then Some layer.IpHeader
    else if number == 8 then Some layer.Ipv4Header
    else if number == 9 then Some layer.Ipv4Packet
    else if number == 10 then Some layer.IpAuthHeader
    else if number == 11 then Some layer.Ipv6Header
    else if number == 12 then Some layer.Ipv6Packet
    else if number == 13 then Some layer.Ipv6ExtHeader
    else if number == 14 then Some layer.Ipv6FragHeader
    else if number == 15 then Some layer.UdpHeader
    else if number == 16 then Some layer.UdpPayload
    else if number == 17 then Some layer.TcpHeader
    else if number == 18 then Some layer.Icmpv4
    else if number == 19 then Some layer.Icmpv4Timestamp
    else if number == 20 then Some layer.Icmpv4TimestampReply
    else if number == 21 then Some layer.Icmpv6
    else None

-- the length source of a number
abbrev pub source_of_number : ℕ → Option LenSource
source_of_number number =
    if number == 0 then Some source.Slice
    else if number == 1 then Some source.MacsecShortLength
    else if number == 2 then Some source.Ipv4HeaderTotalLen
    else if number == 3 then Some source.Ipv6HeaderPayloadLen
    else if number == 4 then Some source.UdpHeaderLen
    else if number == 5 then Some source.ArpAddrLengths
    else None

-- the length error of these numbers, if its layer and length source are known
abbrev pub len_error_of : Refusal → Option Layer → Option LenSource → Option SliceError
len_error_of refusal None end = None
len_error_of refusal (Some layer) None = None
len_error_of refusal (Some layer) (Some end) = Some (Len (record {
  required_len = refusal.required_len;
  len = refusal.len;
  len_source = end;
  layer = layer;
  layer_start_offset = refusal.layer_start_offset;
}))

-- the error of another kind, with the field value 0
abbrev pub content_error_of : ℕ → Option SliceError
content_error_of kind =
    if kind == 2 then Some (LinuxSll (linux_sll_error.UnsupportedPacketTypeField 0))
    else if kind == 3 then Some (LinuxSll (linux_sll_error.UnsupportedArpHardwareId 0))
    else if kind == 4 then Some (Macsec macsec_error.UnexpectedVersion)
    else if kind == 5 then Some (Macsec macsec_error.InvalidUnmodifiedShortLen)
    else if kind == 6 then Some (Ip (ip_error.UnsupportedIpVersion 0))
    else if kind == 7 then Some (Ip (ip_error.Ipv4HeaderLengthSmallerThanHeader 0))
    else if kind == 8 then Some (Ipv4 (ipv4_error.UnexpectedVersion 0))
    else if kind == 9 then Some (Ipv4 (ipv4_error.HeaderLengthSmallerThanHeader 0))
    else if kind == 10 then Some (Ipv6 (ipv6_error.UnexpectedVersion 0))
    else if kind == 11 then Some (Ipv4Exts auth_error.ZeroPayloadLen)
    else if kind == 12 then Some (Ipv6Exts exts_error.HopByHopNotAtStart)
    else if kind == 13 then Some (Ipv6Exts (exts_error.IpAuth auth_error.ZeroPayloadLen))
    else if kind == 14 then Some (Tcp (tcp_error.DataOffsetTooSmall 0))
    else None

-- the error of these numbers, if they are those of an error
abbrev pub error_of_numbers : Refusal → Option SliceError
error_of_numbers refusal =
    if refusal.kind == 1 then len_error_of refusal (layer_of_number refusal.layer) (source_of_number refusal.len_source)
    else content_error_of refusal.kind

-- The text of an error's numbers, if they are those of an error: the error's text, with C's number as the field value.
abbrev pub text_of_number : Refusal → Option (List ℕ)
text_of_number refusal = option_map (λ error. reason_text_with error refusal.number) (error_of_numbers refusal)

-- Answer of a call that writes a text and a zero byte: the status is 0 or 3, as the bytes fit into the buffer or not
-- (`IsPlaced`), or 5, and an allocation failed. If there is no text, the status is 2. At 2 and 5 the buffer is
-- unchanged.
abbrev pub IsTextAnswer : Option (List ℕ) → List ℕ → List ℕ → ℕ → ℕ → Type 0
IsTextAnswer None old new written status = (status ≡ 2) × (new ≡ old) × (written ≡ 0)
IsTextAnswer (Some text) old new written status =
    IsPlaced (text ++ 0 ∷ []) old new written status ⊎ ((status ≡ 5) × (new ≡ old) × (written ≡ 0))

-- The numbers of each error have the text of that error.
abbrev pub AreTextsOfRefusals : Type 0
AreTextsOfRefusals = (error : SliceError) → text_of_number (refusal_part error) ≡ Some (reason_text error)
