-- MACsec (IEEE 802.1AE, 9).
use Rattle.std.specs.Prelude.{◌≡◌, ℕ, zero, suc, ◌+◌, ◌-◌, ◌*◌, ◌/◌, ◌%◌, ◌^◌, ◌<◌, ◌⊎◌, ◌==◌}
use Rattle.std.specs.Prelude.{◌&&◌, nat_lt, nat_le, if◌then◌else◌, Bool, ⊤, List, [], ◌∷◌}
use Rattle.std.specs.Prelude.{◌++◌, length, Option, Some, None, slice_index, slice_range}
use Rattle.std.specs.Int.{w16, w32, w64, to_be_bytes, from_be_bytes}
use Rattle.ep_base.specs.Bytes.{word_at, bit}
use Rattle.ep_base.specs.Readings.{len_error}
use Rattle.ep_base.specs.Tables.{Parts, Refuses}
use Rattle.ep_base.specs.declared.ether_type.EtherType.{EtherType}
use Rattle.ep_base.specs.declared.len_source.LenSource.{LenSource}
use Rattle.ep_base.specs.declared.len_source.LenSource.TheVariants as source
use Rattle.ep_base.specs.declared.err.layer.Layer.TheVariants as layer
use Rattle.ep_base.specs.declared.err.macsec.HeaderError.TheVariants as content
use Rattle.ep_base.specs.declared.err.macsec.HeaderSliceError.{HeaderSliceError}
use Rattle.ep_base.specs.declared.err.macsec.HeaderSliceError.TheVariants as header_error
use Rattle.ep_link.specs.declared.link_ext.macsec_ptype.MacsecPType.{MacsecPType}
use Rattle.ep_link.specs.declared.link_ext.macsec_ptype.MacsecPType.TheVariants as ptype
use Rattle.ep_link.specs.declared.link_ext.macsec_header.MacsecHeader.{MacsecHeader}

-- ---- wire bytes of a tag

-- The flag E: the payload is encrypted.
abbrev pub encryption_bit : MacsecPType → ℕ
encryption_bit (ptype.Unmodified type) = 0
encryption_bit ptype.Modified = 0
encryption_bit ptype.Encrypted = 1
encryption_bit ptype.EncryptedUnmodified = 1

-- The flag C: the text of the payload is changed.
abbrev pub changed_text_bit : MacsecPType → ℕ
changed_text_bit (ptype.Unmodified type) = 0
changed_text_bit ptype.Modified = 1
changed_text_bit ptype.Encrypted = 1
changed_text_bit ptype.EncryptedUnmodified = 0

-- The bytes of the payload's ether type, present if both flags are 0.
abbrev pub ptype_bytes : MacsecPType → List ℕ
ptype_bytes (ptype.Unmodified type) = to_be_bytes w16 type.0
ptype_bytes ptype.Modified = []
ptype_bytes ptype.Encrypted = []
ptype_bytes ptype.EncryptedUnmodified = []

-- The flag SC: the secure channel identifier is present.
abbrev pub sci_bit : Option ℕ → ℕ
sci_bit None = 0
sci_bit (Some sci) = 1

-- The bytes of the secure channel identifier, if present.
abbrev pub sci_bytes : Option ℕ → List ℕ
sci_bytes None = []
sci_bytes (Some sci) = to_be_bytes w64 sci

-- The wire bytes of a tag, with these two reserved bits above the short length. The first byte consists of the flags
-- (version, end station, SC, single copy broadcast, E, C) and the association number.
abbrev pub macsec_bytes_with : ℕ → MacsecHeader → List ℕ
macsec_bytes_with reserved header =
    (2 ^ 6 * bit header.endstation_id + 2 ^ 5 * sci_bit header.sci + 2 ^ 4 * bit header.scb
    + 2 ^ 3 * encryption_bit header.ptype + 2 ^ 2 * changed_text_bit header.ptype + header.an)
    ∷ (2 ^ 6 * reserved + header.short_len) ∷ []
    ++ to_be_bytes w32 header.packet_nr ++ sci_bytes header.sci ++ ptype_bytes header.ptype

-- The wire bytes of a tag as it is written, with reserved bits 0.
abbrev pub macsec_bytes : MacsecHeader → List ℕ
macsec_bytes header = macsec_bytes_with 0 header

-- The length of the ether type at the end of the tag in bytes.
abbrev pub ptype_len : MacsecPType → ℕ
ptype_len (ptype.Unmodified type) = 2
ptype_len ptype.Modified = 0
ptype_len ptype.Encrypted = 0
ptype_len ptype.EncryptedUnmodified = 0

-- The length of the secure channel identifier in bytes.
abbrev pub sci_len : Option ℕ → ℕ
sci_len None = 0
sci_len (Some sci) = 8

-- The length of a tag in bytes, including the ether type.
abbrev pub macsec_header_len : MacsecHeader → ℕ
macsec_header_len header = 6 + sci_len header.sci + ptype_len header.ptype

-- ---- definition of tags and packets

-- The ether type has 16 bits, and a short length other than 0 includes it.
abbrev pub FitsPType : MacsecPType → ℕ → Type 0
FitsPType (ptype.Unmodified type) short_len = (type.0 < 2 ^ 16) × (¬ (short_len ≡ 1))
FitsPType ptype.Modified short_len = ⊤
FitsPType ptype.Encrypted short_len = ⊤
FitsPType ptype.EncryptedUnmodified short_len = ⊤

-- The secure channel identifier has 64 bits.
abbrev pub FitsSci : Option ℕ → Type 0
FitsSci None = ⊤
FitsSci (Some sci) = sci < 2 ^ 64

-- Each field fits its width, and the short length of a tag with an unmodified payload is not 1.
pub record FitsMacsec (header : MacsecHeader) : Type 0 where
  pub ptype : FitsPType header.ptype header.short_len
  pub an : header.an < 2 ^ 2
  pub short_len : header.short_len < 2 ^ 6
  pub packet_nr : header.packet_nr < 2 ^ 32
  pub sci : FitsSci header.sci

-- The bytes are the wire bytes of the tag, with any reserved bits.
pub record EncodesMacsec (bytes : List ℕ) (header : MacsecHeader) : Type 0 where
  pub fits : FitsMacsec header
  pub reserved : ℕ
  pub bits : reserved < 4
  pub same : bytes ≡ macsec_bytes_with reserved header

-- The bytes are a tag and the rest after it.
pub record IsMacsecHeader (bytes : List ℕ) (read : MacsecHeader × List ℕ) : Type 0 where
  pub encoded : List ℕ
  pub encodes : EncodesMacsec encoded read.0
  pub parts : bytes ≡ encoded ++ read.1

-- The payload is limited by the short length of its tag, which counts the ether type of an unmodified payload and the
-- payload. If the short length is 0, there are no trailing bytes.
abbrev pub IsMacsecCut : Parts MacsecHeader → Type 0
IsMacsecCut packet =
    let short_len = packet.header.short_len in
    ((0 < short_len) × (short_len ≡ ptype_len packet.header.ptype + length packet.payload))
    ⊎ ((short_len ≡ 0) × (packet.left ≡ []))

-- The bytes are a tag, its payload, and the trailing bytes after the payload.
pub record IsMacsec (bytes : List ℕ) (packet : Parts MacsecHeader) : Type 0 where
  pub encoded : List ℕ
  pub encodes : EncodesMacsec encoded packet.header
  pub parts : bytes ≡ (encoded ++ packet.payload) ++ packet.left
  pub cut : IsMacsecCut packet

-- ---- fields parsed from bytes

-- The short length, the lower 6 bits of byte 1.
abbrev pub short_len_of : List ℕ → ℕ
short_len_of bytes = slice_index bytes 1 % 64

-- The flags E and C as a 2 bit number: 0 if the payload is unmodified.
abbrev pub modification_of : List ℕ → ℕ
modification_of bytes = slice_index bytes 0 / 4 % 4

-- The flag SC.
abbrev pub sci_bit_of : List ℕ → ℕ
sci_bit_of bytes = slice_index bytes 0 / 32 % 2

-- The length in bytes of the ether type, given by the flags E and C.
abbrev pub type_len_by : ℕ → ℕ
type_len_by zero = 2
type_len_by (suc modification) = 0

-- The length of the tag in bytes according to its flags, including the ether type.
abbrev pub tag_len_of : List ℕ → ℕ
tag_len_of bytes = 6 + 8 * sci_bit_of bytes + type_len_by (modification_of bytes)

-- The length of the payload in bytes according to a short length other than 0.
abbrev pub payload_len_of : List ℕ → ℕ
payload_len_of bytes = short_len_of bytes - type_len_by (modification_of bytes)

-- The payload is unmodified, but the short length is too small for its ether type.
abbrev pub IsTooShortForType : List ℕ → Type 0
IsTooShortForType bytes = (modification_of bytes ≡ 0) × (short_len_of bytes ≡ 1)

-- The length of the packet in bytes; if the short length is 0, the packet takes all bytes.
abbrev pub macsec_len_of : List ℕ → ℕ
macsec_len_of bytes = if short_len_of bytes == 0 then length bytes else tag_len_of bytes + payload_len_of bytes

-- The refusal table of MACsec tags.
abbrev pub macsec_header_rows : List ℕ → List (Bool × HeaderSliceError)
macsec_header_rows bytes =
    let len = length bytes in
    let tag_len = tag_len_of bytes in
    (nat_lt len 6, header_error.Len (len_error 6 len source.Slice layer.MacsecHeader))
    ∷ (nat_le 128 (slice_index bytes 0), header_error.Content content.UnexpectedVersion)
    ∷ (modification_of bytes == 0 && short_len_of bytes == 1, header_error.Content content.InvalidUnmodifiedShortLen)
    ∷ (nat_lt len tag_len, header_error.Len (len_error tag_len len source.Slice layer.MacsecHeader))
    ∷ []

-- The bytes are rejected as a MACsec tag.
abbrev pub RefusesMacsecHeader : List ℕ → HeaderSliceError → Type 0
RefusesMacsecHeader bytes = Refuses (macsec_header_rows bytes)

-- The refusal table of MACsec packets: the rows of the tag, and a row for a payload that is shorter than the short
-- length requires.
abbrev pub macsec_rows : List ℕ → List (Bool × HeaderSliceError)
macsec_rows bytes =
    let len = length bytes in
    let packet_len = macsec_len_of bytes in
    macsec_header_rows bytes
    ++ (nat_lt len packet_len, header_error.Len (len_error packet_len len source.Slice layer.MacsecPacket)) ∷ []

-- The bytes are rejected as a MACsec packet.
abbrev pub RefusesMacsec : List ℕ → HeaderSliceError → Type 0
RefusesMacsec bytes = Refuses (macsec_rows bytes)

-- The modification of the payload by the flags E and C, with the ether type of an unmodified payload.
abbrev pub ptype_by : ℕ → ℕ → MacsecPType
ptype_by zero type = ptype.Unmodified (record { 0 = type })
ptype_by (suc zero) type = ptype.Modified
ptype_by (suc (suc zero)) type = ptype.EncryptedUnmodified
ptype_by (suc (suc (suc n))) type = ptype.Encrypted

-- The secure channel identifier, if the flag is set.
abbrev pub sci_by : ℕ → ℕ → Option ℕ
sci_by zero sci = None
sci_by (suc n) sci = Some sci

-- The tag at the start of the bytes.
abbrev pub macsec_header_of : List ℕ → MacsecHeader
macsec_header_of bytes = record {
  ptype = ptype_by (modification_of bytes) (word_at bytes (6 + 8 * sci_bit_of bytes));
  endstation_id = slice_index bytes 0 / 64 % 2 == 1;
  scb = slice_index bytes 0 / 16 % 2 == 1;
  an = slice_index bytes 0 % 4;
  short_len = short_len_of bytes;
  packet_nr = from_be_bytes w32 (slice_range bytes 2 6);
  sci = sci_by (sci_bit_of bytes) (from_be_bytes w64 (slice_range bytes 6 14));
}

-- ---- payload

-- The payload of a tag as plain data: unmodified, with its ether type and the source of its length, or modified, so
-- that its ether type is unknown.
pub data MacsecPayload : Type 0 where
  unmodified : EtherType → LenSource → List ℕ → MacsecPayload
  modified : List ℕ → MacsecPayload

-- The bytes of the payload.
abbrev pub macsec_payload_bytes : MacsecPayload → List ℕ
macsec_payload_bytes (unmodified type source bytes) = bytes
macsec_payload_bytes (modified bytes) = bytes

-- The source of the payload's length: a short length other than 0, or the end of the slice.
abbrev pub macsec_len_source : ℕ → LenSource
macsec_len_source zero = source.Slice
macsec_len_source (suc n) = source.MacsecShortLength

-- The payload with this modification, length source and bytes.
abbrev pub payload_by : MacsecPType → LenSource → List ℕ → MacsecPayload
payload_by (ptype.Unmodified type) source bytes = unmodified type source bytes
payload_by ptype.Modified source bytes = modified bytes
payload_by ptype.Encrypted source bytes = modified bytes
payload_by ptype.EncryptedUnmodified source bytes = modified bytes

-- The payload of a tag, which consists of these bytes.
abbrev pub macsec_payload : MacsecHeader → List ℕ → MacsecPayload
macsec_payload header bytes = payload_by header.ptype (macsec_len_source header.short_len) bytes

-- The ether type of the payload, or None if the payload is modified or encrypted.
abbrev pub ptype_type : MacsecPType → Option EtherType
ptype_type (ptype.Unmodified type) = Some type
ptype_type ptype.Modified = None
ptype_type ptype.Encrypted = None
ptype_type ptype.EncryptedUnmodified = None

-- The ether type of the payload, or None if the payload is modified or encrypted.
abbrev pub macsec_payload_type : MacsecPayload → Option EtherType
macsec_payload_type (unmodified type source bytes) = Some type
macsec_payload_type (modified bytes) = None
