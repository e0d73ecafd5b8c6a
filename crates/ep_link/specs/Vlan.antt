-- VLAN tags (IEEE 802.1Q, 9.6).
use Rattle.std.specs.Prelude.{◌≡◌, ℕ, ◌+◌, ◌-◌, ◌*◌, ◌/◌, ◌%◌, ◌^◌, ◌<◌, ◌==◌, nat_lt}
use Rattle.std.specs.Prelude.{Bool, List, [], ◌∷◌, ◌++◌, length, drop, slice_index}
use Rattle.std.specs.Int.{w16, to_be_bytes}
use Rattle.ep_base.specs.Bytes.{word_at, bit}
use Rattle.ep_base.specs.Readings.{len_error}
use Rattle.ep_base.specs.Tables.{Parts, Refuses, parts_of}
use Rattle.ep_base.specs.declared.err.len_error.LenError.{LenError}
use Rattle.ep_base.specs.declared.err.layer.Layer.TheVariants as layer
use Rattle.ep_base.specs.declared.len_source.LenSource.TheVariants as source
use Rattle.ep_link.specs.declared.link_ext.single_vlan_header.SingleVlanHeader.{SingleVlanHeader}
use Rattle.ep_link.specs.declared.link_ext.double_vlan_header.DoubleVlanHeader.{DoubleVlanHeader}
use Rattle.ep_link.specs.declared.link_ext.vlan_header.VlanHeader.{VlanHeader}
use Rattle.ep_link.specs.declared.link_ext.vlan_header.VlanHeader.TheVariants as tags

-- Each field fits its width.
pub record FitsVlan (header : SingleVlanHeader) : Type 0 where
  pub pcp : header.pcp < 2 ^ 3
  pub vlan_id : header.vlan_id < 2 ^ 12
  pub ether_type : header.ether_type.0 < 2 ^ 16

-- The length of a tag in bytes.
abbrev pub vlan_header_len : ℕ
vlan_header_len = 4

-- The wire bytes of a tag after its own ether type: priority code point, drop eligible indicator and VLAN identifier in
-- 3, 1 and 12 bits, then the ether type of the payload.
abbrev pub vlan_bytes : SingleVlanHeader → List ℕ
vlan_bytes header =
    to_be_bytes w16 (2 ^ 13 * header.pcp + 2 ^ 12 * bit header.drop_eligible_indicator + header.vlan_id)
    ++ to_be_bytes w16 header.ether_type.0

-- The bytes are a tag and its payload, without trailing bytes.
pub record IsVlan (bytes : List ℕ) (tagged : Parts SingleVlanHeader) : Type 0 where
  pub fits : FitsVlan tagged.header
  pub parts : bytes ≡ (vlan_bytes tagged.header ++ tagged.payload) ++ tagged.left
  pub cut : tagged.left ≡ []

-- The refusal table of VLAN tags.
abbrev pub vlan_rows : List ℕ → List (Bool × LenError)
vlan_rows bytes = (nat_lt (length bytes) 4, len_error 4 (length bytes) source.Slice layer.VlanHeader) ∷ []

-- The bytes are rejected as a VLAN tag.
abbrev pub RefusesVlan : List ℕ → LenError → Type 0
RefusesVlan bytes = Refuses (vlan_rows bytes)

-- The tag at the start of at least 4 bytes.
abbrev pub vlan_header_of : List ℕ → SingleVlanHeader
vlan_header_of bytes = record {
  pcp = slice_index bytes 0 / 32;
  drop_eligible_indicator = slice_index bytes 0 / 16 % 2 == 1;
  vlan_id = word_at bytes 0 % 4096;
  ether_type = record { 0 = word_at bytes 2 };
}

-- The tag and the payload that the bytes are, and the trailing bytes.
abbrev pub vlan_parts : List ℕ → List ℕ → Parts SingleVlanHeader
vlan_parts bytes left = parts_of (vlan_header_of bytes) (drop 4 bytes) left

-- The wire bytes of two tags, the outer one first.
abbrev pub double_vlan_bytes : DoubleVlanHeader → List ℕ
double_vlan_bytes header = vlan_bytes header.outer ++ vlan_bytes header.inner

-- The bytes are two tags and the payload of the inner tag, without trailing bytes.
pub record IsDoubleVlan (bytes : List ℕ) (tagged : Parts DoubleVlanHeader) : Type 0 where
  pub outer : FitsVlan tagged.header.outer
  pub inner : FitsVlan tagged.header.inner
  pub parts : bytes ≡ (double_vlan_bytes tagged.header ++ tagged.payload) ++ tagged.left
  pub cut : tagged.left ≡ []

-- The length error of the inner tag, which starts at byte 4.
abbrev pub inner_vlan_error : List ℕ → LenError
inner_vlan_error bytes =
    record (len_error 4 (length bytes - 4) source.Slice layer.VlanHeader) { layer_start_offset = 4 }

-- The refusal table of two tags: the row of the outer tag, and a row for the inner tag.
abbrev pub double_vlan_rows : List ℕ → List (Bool × LenError)
double_vlan_rows bytes = vlan_rows bytes ++ (nat_lt (length bytes) 8, inner_vlan_error bytes) ∷ []

-- The bytes are rejected as two VLAN tags.
abbrev pub RefusesDoubleVlan : List ℕ → LenError → Type 0
RefusesDoubleVlan bytes = Refuses (double_vlan_rows bytes)

-- The wire bytes of one tag or of two tags.
abbrev pub vlan_tags_bytes : VlanHeader → List ℕ
vlan_tags_bytes (tags.Single header) = vlan_bytes header
vlan_tags_bytes (tags.Double header) = double_vlan_bytes header
