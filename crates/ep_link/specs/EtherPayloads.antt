-- Payloads with an ether type.
use Rattle.std.specs.Prelude.{ℕ, List, Option, Some, None}
use Rattle.ep_base.specs.declared.ether_type.EtherType.{EtherType}
use Rattle.ep_base.specs.declared.len_source.LenSource.{LenSource}
use Rattle.ep_base.specs.declared.ether_payload_slice.EtherPayloadSlice.{EtherPayloadSlice}
use Rattle.ep_link.specs.Macsec.{MacsecPayload, unmodified, modified}

-- a payload as plain data: its ether type, the source of its length, and its bytes
pub record EtherPayload : Type 0 where
  pub ether_type : EtherType
  pub len_source : LenSource
  pub bytes : List ℕ

-- the plain data of a payload slice
abbrev pub ether_payload_of : EtherPayloadSlice → EtherPayload
ether_payload_of slice = record {
  ether_type = slice.ether_type;
  len_source = slice.len_source;
  bytes = slice.payload.now;
}

-- the payload of a MACsec tag with its ether type, or None if the payload is modified or encrypted
abbrev pub macsec_ether_payload : MacsecPayload → Option EtherPayload
macsec_ether_payload (unmodified type source bytes) =
    Some (record { ether_type = type; len_source = source; bytes = bytes })
macsec_ether_payload (modified bytes) = None
