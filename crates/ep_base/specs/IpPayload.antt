-- The payload of an IP packet as plain data.
use Rattle.std.specs.Prelude.{ℕ, Bool, List}
use Rattle.ep_base.specs.declared.len_source.LenSource.{LenSource}
use Rattle.ep_base.specs.declared.ip_payload_slice.IpPayloadSlice.{IpPayloadSlice}
use Rattle.ep_base.specs.declared.lax_ip_payload_slice.LaxIpPayloadSlice.{LaxIpPayloadSlice}

-- an IP payload: its protocol number, whether it is a fragment of a longer payload, the source of its length, and its
-- bytes
pub record IpPayload : Type 0 where
  pub number : ℕ
  pub fragmented : Bool
  pub source : LenSource
  pub bytes : List ℕ

-- the plain data of a payload slice
abbrev pub ip_payload_of : IpPayloadSlice → IpPayload
ip_payload_of payload = record {
  number = payload.ip_number.0;
  fragmented = payload.fragmented;
  source = payload.len_source;
  bytes = payload.payload.now;
}

-- the plain data of a payload slice that may be incomplete
abbrev pub lax_ip_payload_of : LaxIpPayloadSlice → IpPayload
lax_ip_payload_of payload = record {
  number = payload.ip_number.0;
  fragmented = payload.fragmented;
  source = payload.len_source;
  bytes = payload.payload.now;
}
