-- The map of counts after a segment.
use Rattle.std.proofs.Common.{◌≡◌, ℕ, Option, Some, None, Ok, Err, sym}
use Rattle.std.specs.Prelude.{IsErr, Result, unwrap_or}
use Rattle.std.proofs.lemmas.Bool.{false≢true}
use Rattle.std.specs.BTreeMap.{BTreeMap, get, Updates, IsUnchanged}
use Rattle.std.specs.Option.{UnwrapsOrElse}
use Rattle.std.specs.declared.cmp.Ordering.{Ordering}
use Rattle.std.specs.declared.net.socket_addr.SocketAddr.{SocketAddr}
use Rattle.example_flows.specs.declared.Count.{Count}
use Rattle.example_flows.specs.Flows.{Segment, CountsSegment, IsFlow, nothing, with_segment}

-- The previous count of a flow is the one in the map, or the empty count.
pub seen_before : (IsDefault : Count → Type 0) (seen : Option Count) (before : Count)
    → ((count : Count) → IsDefault count → count ≡ nothing) → UnwrapsOrElse seen IsDefault before
    → before ≡ unwrap_or seen nothing
seen_before IsDefault (Some count) before none is = is
seen_before IsDefault None before none is = none before is

-- If the count of the flow is set, the map counts the segment.
pub counted : (E : Type 0) (cmp : SocketAddr × SocketAddr → SocketAddr × SocketAddr → Ordering)
    (found : Option Segment) (old new : BTreeMap (SocketAddr × SocketAddr) Count) (segment : Segment)
    (source destination : SocketAddr) (flow : SocketAddr × SocketAddr) (source_port destination_port : ℕ) (seen : Count)
    → IsFlow segment.addresses source_port destination_port (source, destination) → flow ≡ (source, destination)
    → source_port ≡ segment.tcp.source_port → destination_port ≡ segment.tcp.destination_port → found ≡ Some segment
    → seen ≡ with_segment (unwrap_or (get cmp old flow) nothing) segment.tcp segment.len
    → Updates cmp old new flow (Some seen) → CountsSegment {E = E} cmp found old new (Ok tt)
counted E cmp found old new segment source destination flow source_port destination_port seen its flow_is source_port_is
    destination_port_is found_is seen_is updates = rw
    found_is
    (flow, rw (flow_is, sym source_port_is, sym destination_port_is) its, rw (sym seen_is) updates)

-- If the allocation for a new flow fails, the map is unchanged.
pub not_counted : (E : Type 0) (result : Result (Unit {0}) E)
    (cmp : SocketAddr × SocketAddr → SocketAddr × SocketAddr → Ordering) (found : Option Segment)
    (old new : BTreeMap (SocketAddr × SocketAddr) Count) (segment : Segment) (source destination : SocketAddr)
    (flow : SocketAddr × SocketAddr) (source_port destination_port : ℕ) → IsErr result
    → IsFlow segment.addresses source_port destination_port (source, destination) → flow ≡ (source, destination)
    → source_port ≡ segment.tcp.source_port → destination_port ≡ segment.tcp.destination_port → found ≡ Some segment
    → get cmp old flow ≡ None → IsUnchanged old new → CountsSegment cmp found old new result
not_counted E (Ok done) cmp found old new segment source destination flow source_port destination_port fails its
    flow_is source_port_is destination_port_is found_is absent unchanged = absurd (false≢true fails)
not_counted E (Err error) cmp found old new segment source destination flow source_port destination_port fails its
    flow_is source_port_is destination_port_is found_is absent unchanged = rw
    found_is
    (flow, rw (flow_is, sym source_port_is, sym destination_port_is) its, absent, unchanged)
