-- Comparison and cloning of the public types. Values are ordered by variants and fields as declared; the first field
-- that differs decides.
use Rattle.std.specs.Prelude.{◌≡◌, ◌↔◌, ℕ, Bool, IsTrue}
use Rattle.std.specs.declared.cmp.Ordering.{Ordering}
use Rattle.std.specs.Ordering.{nat_cmp, bool_cmp, ordering_then}
use Rattle.std.specs.Cmp.Lexicographic.{slice_cmp}
use Rattle.ep_base.specs.declared.len_source.LenSource.{LenSource}
use Rattle.ep_base.specs.declared.len_source.LenSource.TheVariants as source
use Rattle.ep_base.specs.declared.ether_payload_slice.EtherPayloadSlice.{EtherPayloadSlice}
use Rattle.ep_base.specs.declared.ip_payload_slice.IpPayloadSlice.{IpPayloadSlice}

-- the position of a length source in the order of declaration
abbrev pub len_source_place : LenSource → ℕ
len_source_place source.Slice = 0
len_source_place source.MacsecShortLength = 1
len_source_place source.Ipv4HeaderTotalLen = 2
len_source_place source.Ipv6HeaderPayloadLen = 3
len_source_place source.UdpHeaderLen = 4
len_source_place source.ArpAddrLengths = 5

-- the order of length sources
abbrev pub len_source_cmp : LenSource → LenSource → Ordering
len_source_cmp a b = nat_cmp (len_source_place a) (len_source_place b)

-- the order of link layer payloads: by ether type, length source and bytes
abbrev pub ether_payload_cmp : EtherPayloadSlice → EtherPayloadSlice → Ordering
ether_payload_cmp a b =
    ordering_then (nat_cmp a.ether_type.0 b.ether_type.0)
    (ordering_then (len_source_cmp a.len_source b.len_source)
    (slice_cmp nat_cmp a.payload.now b.payload.now))

-- the order of IP payloads: by protocol number, unfragmented before fragmented, length source and bytes
abbrev pub ip_payload_cmp : IpPayloadSlice → IpPayloadSlice → Ordering
ip_payload_cmp a b =
    ordering_then (nat_cmp a.ip_number.0 b.ip_number.0)
    (ordering_then (bool_cmp a.fragmented b.fragmented)
    (ordering_then (len_source_cmp a.len_source b.len_source)
    (slice_cmp nat_cmp a.payload.now b.payload.now)))

-- The comparison returns true exactly if two values are equal.
abbrev pub DecidesEquality : {T : Type 0} → (T → T → Bool) → Type 0
DecidesEquality {T = T} eq = (a b : T) → IsTrue (eq a b) ↔ (a ≡ b)

-- Cloning never fails, and a clone is equal to its source.
abbrev pub ClonesExactly : {T : Type 0} → (T → Type 0) → (T → T → Type 0) → Type 0
ClonesExactly {T = T} is_infallible is_clone =
    ((value : T) → is_infallible value) × ((source copy : T) → is_clone source copy → copy ≡ source)
